-- What the calls of a run have said since its making, in any order and number. Assumes nothing.
use Rattle.std.specs.Prelude.{ℕ, ◌+◌, Bool, List, [], ◌∷◌, Some, None, Ok, Err, Option, Result}
use Rattle.base.specs.declared.refusal.Refusal.{Refusal}
use Rattle.network.specs.declared.network.Network.{Network}
use Rattle.wave.specs.Lone.{Arrival, Opening}
use Rattle.tables.specs.declared.verdict.Verdict.{Verdict}
use Rattle.tables.specs.Calls.{Delivers, Starts, State}
use Rattle.election.specs.Making.{Made}
use Rattle.tables.specs.declared.answer.Delivered.{Delivered}
use Rattle.tables.specs.declared.answer.Outcome.{Outcome}
use Rattle.tables.specs.declared.answer.Outcome.TheVariants.{Handled, PutOut}
use Rattle.tables.specs.declared.answer.Started.{Started}

-- what was answered so far
pub record Log (T : Type 0) : Type 0 where
  -- the nodes whose start was accepted, the newest first
  pub starters : List ℕ
  -- the total of the numbers sent that starts and deliveries answered
  pub sent : ℕ
  -- how many deliveries answered handled, and put out
  pub handled : ℕ
  pub put_out : ℕ
  -- the decisions that starts and deliveries answered, the newest first
  pub verdicts : List (Verdict T)

abbrev pub handled_now : Outcome → ℕ
handled_now Handled = 1
handled_now PutOut = 0

abbrev pub put_out_now : Outcome → ℕ
put_out_now Handled = 0
put_out_now PutOut = 1

module _ {T : Type 0} where
  abbrev pub nothing_said : Log T
  nothing_said = record { starters = []; sent = 0; handled = 0; put_out = 0; verdicts = [] }

  abbrev pub heard : Option (Verdict T) → List (Verdict T) → List (Verdict T)
  heard None before = before
  heard (Some v) before = v ∷ before

  -- the log once a start of the node was answered; a refusal counts for nothing
  abbrev pub said_at_start : Log T → ℕ → Result (Started T) Refusal → Log T
  said_at_start log node (Ok a) = record { starters = node ∷ log.starters; sent = log.sent + a.sent; handled = log.handled; put_out = log.put_out; verdicts = heard a.verdict log.verdicts }
  said_at_start log node (Err why) = log

  -- the log once a delivery was answered
  abbrev pub said_at_delivery : Log T → Result (Delivered T) Refusal → Log T
  said_at_delivery log (Ok a) = record { starters = log.starters; sent = log.sent + a.sent; handled = log.handled + handled_now a.outcome; put_out = log.put_out + put_out_now a.outcome; verdicts = heard a.verdict log.verdicts }
  said_at_delivery log (Err why) = log

-- what was said, and what stands
pub record Past (T : Type 0) : Type 0 where
  pub log : Log T
  pub state : State T

module _ {T : Type 0} where
  abbrev pub past : Log T → State T → Past T
  past log s = record { log = log; state = s }

  module _ (opening : Opening) (arrival : Arrival) (meet : T → T → T) where
    -- Calls that lead on from a past, accepted or refused, each meeting what the one before it left. A start and a
    -- delivery do what their contracts say; a question is handed nothing that it could change.
    pub data Calls (from : Past T) : Past T → Type 0 where
      none : Calls from from
      starts : {p : Past T} → Calls from p → (node : ℕ) (r : Result (Started T) Refusal) (after : State T) → Starts opening p.state node r after → Calls from (past (said_at_start p.log node r) after)
      delivers : {p : Past T} → Calls from p → (place : ℕ) (r : Result (Delivered T) Refusal) (after : State T) → Delivers arrival meet p.state place r after → Calls from (past (said_at_delivery p.log r) after)
      asks : {p : Past T} → Calls from p → Calls from p

    -- a history: a making, and calls since then
    pub record History {K : Type 0} (admitted : Network → Bool) (precedes : K → K → Bool) (n : Network) (keys : List K) (own : List T) (p : Past T) : Type 0 where
      pub begins : State T
      pub made : Made admitted precedes n keys own begins
      pub calls : Calls (past nothing_said begins) p
