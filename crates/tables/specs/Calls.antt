-- What a start and a delivery answer, and what they leave. Assumes nothing.
use Rattle.std.specs.Prelude.{◌≡◌, ℕ, ◌+◌, ◌-◌, List, ◌++◌, length, Some, None, Ok, Err, Option, Result, slice_index_or, slice_set}
use Rattle.std.specs.List.{slice_get}
use Rattle.base.specs.Bags.{Left, held, room, taken}
use Rattle.base.specs.declared.bag.Bag.{Bag}
use Rattle.base.specs.declared.refusal.Refusal.{Refusal}
use Rattle.base.specs.declared.refusal.Refusal.TheVariants.{NoSuchPlace}
use Rattle.wave.specs.Lone.{Arrival, Opening}
use Rattle.tables.specs.Messages.{messages}
use Rattle.tables.specs.declared.message.Message.{Message}
use Rattle.tables.specs.Checks.{Checked, asleep_else, enough_else, node_else, one_each_else, ours_else}
use Rattle.tables.specs.Events.{event_of, sends_if, start_event, verdict_of}
use Rattle.tables.specs.Ledgers.{accepts, handles}
use Rattle.tables.specs.Tables.{moved, put_out_in, sends, standing_of}
use Rattle.tables.specs.declared.answer.Delivered.{Delivered}
use Rattle.tables.specs.declared.answer.Outcome.TheVariants.{Handled, PutOut}
use Rattle.tables.specs.declared.answer.Started.{Started}
use Rattle.tables.specs.declared.event.Event.{Event}
use Rattle.tables.specs.declared.ledger.Account.{Account}
use Rattle.tables.specs.declared.stores.Stores.{Stores}
use Rattle.tables.specs.declared.tables.Tables.{Tables}
use Rattle.tables.specs.declared.tables.planning.Plan.{Plan}

-- all that a call meets and leaves
pub record State (T : Type 0) : Type 0 where
  pub tables : Tables
  pub transit : Bag (Message T)
  pub own : List T
  pub running : List T

-- what comes after a check that is passed
abbrev pub passing : {A : Type 0} → Checked → Result A Refusal → Result A Refusal
passing (Ok _) later = later
passing (Err why) later = Err why

module _ {T : Type 0} where
  -- ---- answers

  abbrev pub started : Event T → Started T
  started e = record { sent = sends e.step; verdict = verdict_of e }

  abbrev pub handled : Event T → Delivered T
  handled e = record { outcome = Handled; sent = sends e.step; verdict = verdict_of e }

  abbrev pub put_out : Delivered T
  put_out = record { outcome = PutOut; sent = 0; verdict = None }

  -- ---- states

  abbrev pub state : Tables → Bag (Message T) → List T → List T → State T
  state tables transit own running = record { tables = tables; transit = transit; own = own; running = running }

  -- what a call meets and leaves, of the tables and of the stores that it is handed
  abbrev pub stand : Tables → Stores T → State T
  stand tables stores = state tables stores.transit stores.own.now stores.running.now

  abbrev pub each_else : State T → Checked
  each_else s = one_each_else s.tables.network.nodes (length s.own) (length s.running)

  abbrev pub free : State T → ℕ
  free s = room s.transit - s.transit.count

  -- the messages e sends go behind the others; its row, its account and its running holding change, and nothing else
  pub record Played (s : State T) (counted : Account → ℕ → Account) (e : Event T) (others : List (Message T)) (after : State T) : Type 0 where
    pub tables : after.tables ≡ moved s.tables counted e
    pub transit : Left s.transit after.transit (others ++ messages e.starter e.node e.step e.holding)
    pub own : after.own ≡ s.own
    pub running : after.running ≡ slice_set s.running e.node e.holding

  -- a message of the starter is gone, and is counted as put out
  pub record Gone (s : State T) (starter : ℕ) (others : List (Message T)) (after : State T) : Type 0 where
    pub tables : after.tables ≡ put_out_in s.tables starter
    pub transit : Left s.transit after.transit others
    pub own : after.own ≡ s.own
    pub running : after.running ≡ s.running

  -- ---- a start

  -- the first refusal that applies, if one does
  abbrev pub start_check : Opening → State T → ℕ → Checked
  start_check opening s node =
      passing (each_else s) (passing (node_else s.tables.network.nodes node) (passing (asleep_else (standing_of s.tables node)) (enough_else (free s) (sends (opening s.tables.network node)))))

  -- the node joins its own wave by the opening
  pub record Begun (opening : Opening) (s : State T) (node : ℕ) (answer : Started T) (after : State T) : Type 0 where
    pub own_holding : T
    pub is_own : own_holding ≡ slice_index_or s.own node own_holding
    pub accepted : start_check opening s node ≡ Ok tt
    pub answers : answer ≡ started (start_event opening s.tables node own_holding)
    pub played : Played s accepts (start_event opening s.tables node own_holding) (held s.transit) after

  -- what a start answers, and what it leaves
  abbrev pub Starts : Opening → State T → ℕ → Result (Started T) Refusal → State T → Type 0
  Starts opening s node (Ok answer) after = Begun opening s node answer after
  Starts opening s node (Err why) after = (start_check opening s node ≡ Err why) × (after ≡ s)

  -- ---- a delivery

  -- a message of the starter reaches its receiver, where it makes an event or goes out
  abbrev pub Reached : State T → ℕ → List (Message T) → Option (Event T) → Delivered T → State T → Type 0
  Reached s starter others (Some e) answer after = (answer ≡ handled e) × Played s handles e others after
  Reached s starter others None answer after = (answer ≡ put_out) × Gone s starter others after

  module _ (arrival : Arrival) (meet : T → T → T) where
    -- what the message m of this state makes of its receiver
    abbrev pub event_in : State T → Message T → Option (Event T)
    event_in s m = event_of arrival meet s.tables s.own s.running m

    abbrev pub plan_for : State T → Message T → Plan T
    plan_for s m = record { message = m; event = event_in s m }

    -- what a delivery of the message does, if there is one; or the first refusal that applies
    abbrev pub planned_for : State T → Option (Message T) → Result (Plan T) Refusal
    planned_for s None = Err NoSuchPlace
    planned_for s (Some m) = passing (ours_else s.tables m) (passing (enough_else (free s + 1) (sends_if (event_in s m))) (Ok (plan_for s m)))

    abbrev pub planned : State T → ℕ → Result (Plan T) Refusal
    planned s place = passing (each_else s) (planned_for s (slice_get (held s.transit) place))

    -- the message of the plan is taken out, and reaches its receiver
    pub record TakenOut (s : State T) (place : ℕ) (answer : Delivered T) (after : State T) : Type 0 where
      pub plan : Plan T
      pub accepted : planned s place ≡ Ok plan
      pub reached : Reached s plan.message.starter (taken (held s.transit) place) plan.event answer after

    -- what a delivery answers, and what it leaves
    abbrev pub Delivers : State T → ℕ → Result (Delivered T) Refusal → State T → Type 0
    Delivers s place (Ok answer) after = TakenOut s place answer after
    Delivers s place (Err why) after = (planned s place ≡ Err why) × (after ≡ s)
