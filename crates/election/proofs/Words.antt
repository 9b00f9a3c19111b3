-- The words of a run, as the rules of elections have them. Assumes nothing.
use Rattle.std.proofs.Common.{◌≡◌, ℕ, Bool, true, false, cond, ◌++◌, map, eqb, ltb, Some, None, Option, refl, ◌∙◌, ap₂}
use Rattle.std.specs.Prelude.{option_map}
use Rattle.std.proofs.lemmas.List.{map-append}
use Rattle.std.proofs.lemmas.Simd.{map-map}
use Rattle.base.specs.NodeSets.{members}
use Rattle.wave.specs.declared.step.Step.{Step}
use Rattle.extinction.specs.Elections as elections
use Rattle.extinction.specs.Elections.{Letter, goes_out, joins, letter, letters, stays}
use Rattle.tables.specs.Fates.{fate}
use Rattle.tables.specs.Messages.{message_to, messages}
use Rattle.tables.specs.declared.message.Message.{Message}
use Rattle.tables.specs.declared.standing.Fate.{Fate}
use Rattle.tables.specs.declared.standing.Fate.TheVariants.{Joins, Stays, GoesOut}
use Rattle.tables.specs.declared.standing.Joined.{Joined}
use Rattle.tables.specs.declared.verdict.Verdict.{Verdict}

abbrev pub joined_there : Joined → elections.Joined
joined_there j = record { wave = j.wave; kept = j.kept }

abbrev pub fate_there : Fate → elections.Fate
fate_there Joins = joins
fate_there (Stays kept) = stays kept
fate_there GoesOut = goes_out

module _ {T : Type 0} where
  abbrev pub letter_of : Message T → Letter T
  letter_of m = record { starter = m.starter; sender = m.sender; receiver = m.receiver; kind = m.kind; holding = m.holding }

  abbrev pub verdict_there : Verdict T → elections.Verdict T
  verdict_there v = record { node = v.node; named = v.named; holding = v.holding }

  -- what a step sends
  pub letters_of : (s node : ℕ) (step : Step) (holding : T) → map letter_of (messages s node step holding) ≡ letters s node step holding
  letters_of s node step holding =
      map-append letter_of (map (message_to s node 1 holding) (members step.first_kind)) (map (message_to s node 2 holding) (members step.second_kind)) ∙ ap₂ ◌++◌ (map-map letter_of (message_to s node 1 holding) (members step.first_kind)) (map-map letter_of (message_to s node 2 holding) (members step.second_kind))

-- what becomes of a message
pub fate_same : (rank : ℕ → ℕ) (o : Option Joined) (s : ℕ) → fate_there (fate rank o s) ≡ elections.fate rank (option_map joined_there o) s
fate_same rank None s = refl
fate_same rank (Some j) s = by (ltb (rank s) (rank j.wave)) (eqb s j.wave)
  where
    by : (better same : Bool) → fate_there (cond better Joins (cond same (Stays j.kept) GoesOut)) ≡ cond better joins (cond same (stays j.kept) goes_out)
    by true same = refl
    by false true = refl
    by false false = refl
