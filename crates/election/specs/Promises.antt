-- What is promised of every run, whatever calls come in whatever order. Assumes nothing.
use Rattle.std.specs.Prelude.{◌≡◌, ℕ, ◌+◌, ◌*◌, ◌<◌, ◌≤◌, Bool, false, List, length, Some, Err, sum_by, Result, ◌≢◌, slice_index_or}
use Rattle.std.specs.List.{ContainsAt, AllByRecursion}
use Rattle.base.specs.declared.refusal.Refusal.{Refusal}
use Rattle.base.specs.declared.refusal.Refusal.TheVariants.{NoFreePlace}
use Rattle.network.specs.declared.network.Network.{Network}
use Rattle.values.specs.Folds.{fold_of}
use Rattle.wave.specs.Lone.{Arrival, Opening}
use Rattle.tables.specs.declared.verdict.Verdict.{Verdict}
use Rattle.tables.specs.Calls.{Delivers, Starts, State}
use Rattle.election.specs.Histories.{Calls, History, Log, Past, past}
use Rattle.tables.specs.declared.answer.Delivered.{Delivered}
use Rattle.tables.specs.declared.answer.Started.{Started}
use Rattle.tables.specs.declared.ledger.Account.{Account}
use Rattle.tables.specs.declared.tables.Tables.{Tables}

-- the sums of the ledger are the counts of the log
pub record Sums {T : Type 0} (ledger : List Account) (log : Log T) : Type 0 where
  pub sent : sum_by (λ a. a.sent) ledger ≡ log.sent
  pub handled : sum_by (λ a. a.handled) ledger ≡ log.handled
  pub put_out : sum_by (λ a. a.put_out) ledger ≡ log.put_out

-- a decision names an accepted starter, no accepted starter has a key before its, and it shows the plain fold of
-- all holdings
pub record Right {K T : Type 0} (precedes : K → K → Bool) (meet : T → T → T) (keys : List K) (own : List T) (starters : List ℕ) (v : Verdict T) : Type 0 where
  pub accepted : ContainsAt starters v.named
  pub least : (t : ℕ) (d : K) → ContainsAt starters t → precedes (slice_index_or keys t d) (slice_index_or keys v.named d) ≡ false
  pub shows : Some v.holding ≡ fold_of meet own

module _ {K T : Type 0} (admitted : Network → Bool) (most : Network → ℕ) (opening : Opening) (arrival : Arrival) (precedes : K → K → Bool) (meet : T → T → T) where
  -- no call that meets this state is refused for want of a place
  pub record PlacesSuffice (s : State T) : Type 0 where
    pub at_start : (node : ℕ) (r : Result (Started T) Refusal) (after : State T) → Starts opening s node r after → r ≢ Err NoFreePlace
    pub at_delivery : (place : ℕ) (r : Result (Delivered T) Refusal) (after : State T) → Delivers arrival meet s place r after → r ≢ Err NoFreePlace

  -- the promise, of a run of the network n with these keys and own holdings
  pub record Kept (n : Network) (keys : List K) (own : List T) (p : Past T) : Type 0 where
    -- every message sent was handled, was put out or is in transit
    pub counts : p.log.sent ≡ p.log.handled + p.log.put_out + p.state.transit.count
    -- the messages sent are at most the accepted starts times the bound of one wave
    pub bounded : p.log.sent ≤ length p.log.starters * most n
    pub ledger : Sums p.state.tables.ledger p.log
    pub verdicts : AllByRecursion (Right precedes meet keys own p.log.starters) p.log.verdicts
    -- at rest after a start a decision has been made
    pub rest : 0 < length p.log.starters → p.state.transit.count ≡ 0 → 0 < length p.log.verdicts
    -- places for nodes times bound are enough
    pub room : n.nodes * most n ≤ length p.state.transit.places.now → PlacesSuffice p.state

  -- a history, and the promise now and after all calls that may follow: a decision made by now still names the
  -- least of all starters accepted then
  pub record Lasting (n : Network) (keys : List K) (own : List T) (p : Past T) : Type 0 where
    pub history : History opening arrival meet admitted precedes n keys own p
    pub always : (q : Past T) → Calls opening arrival meet p q → Kept n keys own q

  -- a call keeps the promise: every history that ends in what the call met goes on to what it left, and the promise
  -- lasts from there
  abbrev pub Keeps : State T → (Log T → Log T) → State T → Type 0
  Keeps before says after = (n : Network) (keys : List K) (own : List T) (log : Log T) → History opening arrival meet admitted precedes n keys own (past log before) → Lasting n keys own (past (says log) after)

  -- a question leaves the run, and whatever stands with it, as it was
  abbrev pub Stands : Tables → Type 0
  Stands tables = (s : State T) → s.tables ≡ tables → Keeps s (λ log. log) s

-- the promise of every run
abbrev pub Promise : {K T : Type 0} → (Network → Bool) → (Network → ℕ) → Opening → Arrival → (K → K → Bool) → (T → T → T) → Type 0
Promise {K} {T} admitted most opening arrival precedes meet =
    (n : Network) (keys : List K) (own : List T) (p : Past T) → History opening arrival meet admitted precedes n keys own p → Lasting admitted most opening arrival precedes meet n keys own p
