-- An election: every node that no wave has reached may start one, and a better wave puts out a worse. Assumes nothing.
use Rattle.std.specs.Prelude.{◌≡◌, ℕ, ◌+◌, ◌<◌, Bool, true, false, cond, List, [], ◌∷◌, ◌++◌, map, length, Some, None, Option, ◌==◌, nat_lt}
use Rattle.std.specs.List.Sorted.{IsPermutation}
use Rattle.base.specs.NodeSets.{members}
use Rattle.network.specs.declared.network.Network.{Network}
use Rattle.wave.specs.Lone.{Arrival, Opening, at_node, blank}
use Rattle.wave.specs.declared.step.Record.{Record}
use Rattle.wave.specs.declared.step.Step.{Step}

-- the wave that a node stands in, by its starter, and the node's record there
pub record Joined : Type 0 where
  pub wave : ℕ
  pub kept : Record

-- a message of a wave, with a holding
pub record Letter (T : Type 0) : Type 0 where
  pub starter : ℕ
  pub sender : ℕ
  pub receiver : ℕ
  pub kind : ℕ
  pub holding : T

-- a decision: who made it, whom it names and what it shows
pub record Verdict (T : Type 0) : Type 0 where
  pub node : ℕ
  pub named : ℕ
  pub holding : T

pub record Election (T : Type 0) : Type 0 where
  -- where each node stands; none while it is asleep
  pub rows : ℕ → Option Joined
  pub running : ℕ → T
  pub transit : List (Letter T)
  pub started : ℕ → Bool
  -- the messages sent, handled and put out, for each starter
  pub sent : ℕ → ℕ
  pub handled : ℕ → ℕ
  pub put_out : ℕ → ℕ
  -- the decisions, the newest first
  pub verdicts : List (Verdict T)

-- ---- what becomes of a message at its receiver

pub data Fate : Type 0 where
  -- the receiver joins the wave, with no record
  joins : Fate
  -- the receiver stands in the wave, with this record
  stays : Record → Fate
  -- the receiver stands in a better wave
  goes_out : Fate

abbrev pub fate : (ℕ → ℕ) → Option Joined → ℕ → Fate
fate rank None s = joins
fate rank (Some j) s = cond (nat_lt (rank s) (rank j.wave)) joins (cond (s == j.wave) (stays j.kept) goes_out)

module _ {T : Type 0} where
  -- ---- what a step sends

  abbrev pub letter : ℕ → ℕ → ℕ → T → ℕ → Letter T
  letter starter sender kind holding receiver = record { starter = starter; sender = sender; receiver = receiver; kind = kind; holding = holding }

  -- kind 1 by ascending neighbour, then kind 2, each with the node's running holding
  abbrev pub letters : ℕ → ℕ → Step → T → List (Letter T)
  letters s node step holding = map (letter s node 1 holding) (members step.first_kind) ++ map (letter s node 2 holding) (members step.second_kind)

  -- ---- events

  -- at the making: running equals own
  abbrev pub made : (ℕ → T) → Election T
  made own = record { rows = λ _. None; running = own; transit = []; started = λ _. false; sent = λ _. 0; handled = λ _. 0; put_out = λ _. 0; verdicts = [] }

  -- a node takes a step in the wave of s with its new holding, where `left` is still in transit
  abbrev pub acted : Election T → List (Letter T) → ℕ → ℕ → T → Step → Election T
  acted e left s node holding step = record {
    rows = at_node e.rows node (Some (record { wave = s; kept = step.kept }));
    running = at_node e.running node holding;
    transit = left ++ letters s node step holding;
    started = e.started;
    sent = at_node e.sent s (e.sent s + length (letters s node step holding));
    handled = e.handled;
    put_out = e.put_out;
    verdicts = cond step.decides (record { node = node; named = s; holding = holding } ∷ e.verdicts) e.verdicts;
  }

  -- one more message of s is handled, or put out
  abbrev pub one_handled : Election T → ℕ → Election T
  one_handled e s = record { rows = e.rows; running = e.running; transit = e.transit; started = e.started; sent = e.sent; handled = at_node e.handled s (e.handled s + 1); put_out = e.put_out; verdicts = e.verdicts }

  abbrev pub one_put_out : Election T → List (Letter T) → ℕ → Election T
  one_put_out e left s = record { rows = e.rows; running = e.running; transit = left; started = e.started; sent = e.sent; handled = e.handled; put_out = at_node e.put_out s (e.put_out s + 1); verdicts = e.verdicts }

  abbrev pub one_started : Election T → ℕ → Election T
  one_started e s = record { rows = e.rows; running = e.running; transit = e.transit; started = at_node e.started s true; sent = e.sent; handled = e.handled; put_out = e.put_out; verdicts = e.verdicts }

  module _ (opening : Opening) (arrival : Arrival) (n : Network) (rank : ℕ → ℕ) (meet : T → T → T) (own : ℕ → T) where
    -- a node starts: it joins its own wave by the opening
    abbrev pub begun : Election T → ℕ → Election T
    begun e s = acted (one_started e s) e.transit s s (own s) (opening n s)

    -- m reaches its receiver, and the others are left
    abbrev pub met_by : Election T → List (Letter T) → Letter T → Fate → Election T
    met_by e left m joins = acted (one_handled e m.starter) left m.starter m.receiver (meet (own m.receiver) m.holding) (arrival n m.receiver false blank m.sender m.kind)
    met_by e left m (stays kept) = acted (one_handled e m.starter) left m.starter m.receiver (meet (e.running m.receiver) m.holding) (arrival n m.receiver true kept m.sender m.kind)
    met_by e left m goes_out = one_put_out e left m.starter

    abbrev pub reached : Election T → List (Letter T) → Letter T → Election T
    reached e left m = met_by e left m (fate rank (e.rows m.receiver) m.starter)

    -- the states of an election: any starts of nodes asleep and any deliveries, in any order; a delivery takes out any
    -- one message, and leaves the others in any order
    pub data Elects : Election T → Type 0 where
      makes : Elects (made own)
      starts : {e : Election T} → Elects e → (s : ℕ) → s < n.nodes → e.rows s ≡ None → Elects (begun e s)
      delivers : {e : Election T} → Elects e → (left : List (Letter T)) (m : Letter T) → IsPermutation e.transit (m ∷ left) → Elects (reached e left m)
