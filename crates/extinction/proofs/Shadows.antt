-- Every wave of an election, seen alone: a lone run in which the messages that were put out stay under way. Assumes nothing.
use Rattle.std.proofs.Common.{◌≡◌, ℕ, ◌+◌, ◌<◌, ◌≤◌, Bool, true, false, not, eqb, ◌⊎◌, List, [], ◌++◌, map, length, Some, None, sym, refl, ◌∙◌, ap₂, inl, inr, length-append}
use lib.ListN.{length-map}
use Rattle.std.specs.List.{AllByRecursion}
use Rattle.std.proofs.ByRecursion.{All-append, All-map, All-weaker}
use Rattle.std.proofs.lemmas.Bool.{eq-eqb, ne_eqb}
use Rattle.base.specs.NodeSets.{has, members}
use Rattle.base.proofs.Members.{members_all}
use Rattle.network.specs.Paths.{adjacent}
use Rattle.network.specs.declared.network.Network.{Network}
use Rattle.values.specs.Folds.{fold_of, fold_over}
use Rattle.wave.specs.Lone.{Arrival, Cover, Lone, Message, Opening, Run, messages}
use Rattle.wave.specs.declared.step.Step.{Step}
use Rattle.rules.specs.Sums.{total}
use Rattle.rules.proofs.Nodes.{messages_length}
use Rattle.extinction.specs.Elections.{Election, Joined, Letter, letters}
use Rattle.extinction.proofs.Picked.{picked, picked_append, picked_map, unpicked_map}
use Rattle.extinction.proofs.Same.{Same}

-- ---- messages with their covers

-- a message of the election, its cover in the lone run, and whether it was put out
pub record Trace (T : Type 0) : Type 0 where
  pub letter : Letter T
  pub cover : Cover
  pub lost : Bool

module _ {T : Type 0} where
  abbrev pub living : Trace T → Bool
  living g = not g.lost

  abbrev pub written : Trace T → Letter T
  written g = g.letter

  abbrev pub of : ℕ → Trace T → Bool
  of s g = eqb g.letter.starter s

  abbrev pub alone : Trace T → Message
  alone g = record { sender = g.letter.sender; receiver = g.letter.receiver; kind = g.letter.kind; cover = g.cover }

  abbrev pub trace : ℕ → ℕ → ℕ → T → Cover → ℕ → Trace T
  trace s node kind holding cover receiver = record { letter = record { starter = s; sender = node; receiver = receiver; kind = kind; holding = holding }; cover = cover; lost = false }

  abbrev pub traces : ℕ → ℕ → Step → T → Cover → List (Trace T)
  traces s node step holding cover = map (trace s node 1 holding cover) (members step.first_kind) ++ map (trace s node 2 holding cover) (members step.second_kind)

  module _ (s node : ℕ) (step : Step) (holding : T) (cover : Cover) where
    pub traces_written : picked living written (traces s node step holding cover) ≡ letters s node step holding
    traces_written = picked_append living written (map (trace s node 1 holding cover) (members step.first_kind)) (map (trace s node 2 holding cover) (members step.second_kind)) ∙ ap₂ ◌++◌ (picked_map living written (trace s node 1 holding cover) (members step.first_kind) (λ _. refl)) (picked_map living written (trace s node 2 holding cover) (members step.second_kind) (λ _. refl))

    pub traces_alone : picked (of s) alone (traces s node step holding cover) ≡ messages node step cover
    traces_alone = picked_append (of s) alone (map (trace s node 1 holding cover) (members step.first_kind)) (map (trace s node 2 holding cover) (members step.second_kind)) ∙ ap₂ ◌++◌ (picked_map (of s) alone (trace s node 1 holding cover) (members step.first_kind) (λ _. eq-eqb s s refl)) (picked_map (of s) alone (trace s node 2 holding cover) (members step.second_kind) (λ _. eq-eqb s s refl))

    pub traces_other : (t : ℕ) → (s ≡ t → ⊥) → picked (of t) alone (traces s node step holding cover) ≡ []
    traces_other t other = picked_append (of t) alone (map (trace s node 1 holding cover) (members step.first_kind)) (map (trace s node 2 holding cover) (members step.second_kind)) ∙ ap₂ ◌++◌ (unpicked_map (of t) alone (trace s node 1 holding cover) (members step.first_kind) (λ _. ne_eqb s t other)) (unpicked_map (of t) alone (trace s node 2 holding cover) (members step.second_kind) (λ _. ne_eqb s t other))

    pub traces_each : (P : Trace T → Type 0) → ((kind i : ℕ) → (has step.first_kind i ≡ true) ⊎ (has step.second_kind i ≡ true) → P (trace s node kind holding cover i)) → AllByRecursion P (traces s node step holding cover)
    traces_each P each = All-append P (map (trace s node 1 holding cover) (members step.first_kind)) (map (trace s node 2 holding cover) (members step.second_kind)) (All-map P (trace s node 1 holding cover) (members step.first_kind) (All-weaker (λ i. has step.first_kind i ≡ true) (λ i. P (trace s node 1 holding cover i)) (λ i e. each 1 i (inl e)) (members step.first_kind) (members_all step.first_kind))) (All-map P (trace s node 2 holding cover) (members step.second_kind) (All-weaker (λ i. has step.second_kind i ≡ true) (λ i. P (trace s node 2 holding cover i)) (λ i e. each 2 i (inr e)) (members step.second_kind) (members_all step.second_kind)))

    pub letters_length : length (letters s node step holding) ≡ length (messages node step cover)
    letters_length =
        length-append (map (λ r. (trace s node 1 holding cover r).letter) (members step.first_kind)) (map (λ r. (trace s node 2 holding cover r).letter) (members step.second_kind)) ∙ ap₂ ◌+◌ (length-map (members step.first_kind) (λ r. (trace s node 1 holding cover r).letter)) (length-map (members step.second_kind) (λ r. (trace s node 2 holding cover r).letter)) ∙ sym (messages_length node step cover)

-- ---- the invariant

module _ {T : Type 0} (meet : T → T → T) (n : Network) (rank : ℕ → ℕ) (own : List T) where
  pub record Sound (e : Election T) (g : Trace T) : Type 0 where
    pub accepted : e.started g.letter.starter ≡ true
    pub near : adjacent n.neighbours g.letter.sender g.letter.receiver ≡ true
    pub holds : fold_over meet g.cover own ≡ Some g.letter.holding
    -- what was put out, was put out by a better wave
    pub better : g.lost ≡ true → (t : ℕ) × (e.started t ≡ true) × (rank t < rank g.letter.starter)

  -- what the lone run of s has to do with the election, but for the messages under way
  pub record Follows (e : Election T) (s : ℕ) (l : Lone) : Type 0 where
    -- a node that stands in the wave has its record, and holds the fold over its cover
    pub same : (v : ℕ) (j : Joined) → e.rows v ≡ Some j → j.wave ≡ s → (l.records v ≡ Some j.kept) × (fold_over meet (l.covers v) own ≡ Some (e.running v))
    -- a node asleep, or in a worse wave, has none
    pub asleep : (v : ℕ) → e.rows v ≡ None → l.records v ≡ None
    pub worse : (v : ℕ) (j : Joined) → e.rows v ≡ Some j → rank s < rank j.wave → l.records v ≡ None
    -- nor has a better starter
    pub better : (t : ℕ) → e.started t ≡ true → rank t < rank s → l.records t ≡ None
    pub sent : e.sent s ≡ l.sent
    pub heard : 0 < length l.decisions → 0 < length e.verdicts
    pub spoke : AllByRecursion (λ d. d.named ≡ s → 0 < length l.decisions) e.verdicts

  module _ (opening : Opening) (arrival : Arrival) where
    pub record Shadow (e : Election T) (gs : List (Trace T)) (s : ℕ) : Type 0 where
      pub lone : Lone
      pub run : Run opening arrival n s lone
      pub follows : Follows e s lone
      pub flights : lone.transit ≡ picked (of s) alone gs

    pub record Shadowed (e : Election T) : Type 0 where
      -- the messages that were sent and not handled, in the order of their sending
      pub gs : List (Trace T)
      pub transit : Same (picked living written gs) e.transit
      pub sound : AllByRecursion (Sound e) gs
      pub shadow : (s : ℕ) → e.started s ≡ true → Shadow e gs s
      -- a starter stands in its own wave or a better one
      pub awake : (s : ℕ) → e.started s ≡ true → (j : Joined) × (e.rows s ≡ Some j) × (rank j.wave ≤ rank s)
      pub waves : (v : ℕ) (j : Joined) → e.rows v ≡ Some j → e.started j.wave ≡ true
      pub nodes : (s : ℕ) → e.started s ≡ true → s < n.nodes
      pub unsent : (s : ℕ) → e.started s ≡ false → e.sent s ≡ 0
      pub counts : total e.sent 32 ≡ total e.handled 32 + total e.put_out 32 + length e.transit
      pub shown : AllByRecursion (λ d. (e.started d.named ≡ true) × (Some d.holding ≡ fold_of meet own)) e.verdicts
