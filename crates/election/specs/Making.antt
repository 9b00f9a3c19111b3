-- What the making of a run answers, and what it leaves. Assumes nothing.
use Rattle.std.specs.Prelude.{◌≡◌, ℕ, Bool, true, false, ◌&&◌, List, [], length, replicate, Ok, Err, Result, ◌==◌}
use Rattle.base.specs.Bags.{Left}
use Rattle.base.specs.declared.bag.Bag.{Bag}
use Rattle.base.specs.declared.refusal.Refusal.{Refusal}
use Rattle.base.specs.declared.refusal.Refusal.TheVariants.{EqualKeys, NotAdmitted, NotOneEach}
use Rattle.network.specs.declared.network.Network.{Network}
use Rattle.values.specs.Ranks.{Distinct, Twice, rank_table}
use Rattle.tables.specs.Calls.{State, stand, state}
use Rattle.tables.specs.Ledgers.{nothing_sent}
use Rattle.tables.specs.Tables.{asleep}
use Rattle.tables.specs.declared.message.Message.{Message}
use Rattle.tables.specs.declared.stores.Stores.{Stores}
use Rattle.tables.specs.declared.tables.Tables.{Tables}
use Rattle.election.specs.declared.run.Run.{Run}

-- tables in which nothing has happened: every node is asleep, and nothing was sent
pub record Fresh {K : Type 0} (precedes : K → K → Bool) (n : Network) (keys : List K) (tables : Tables) : Type 0 where
  pub network : tables.network ≡ n
  pub ranks : tables.ranks ≡ rank_table precedes keys
  pub rows : tables.rows ≡ replicate 32 asleep
  pub ledger : tables.ledger ≡ replicate 32 nothing_sent

-- keys and holdings are one a node
abbrev pub one_key_each : Network → ℕ → ℕ → ℕ → Bool
one_key_each n keys own running = keys == n.nodes && (own == n.nodes && running == n.nodes)

-- why a making is refused: the first of these that applies
pub data Unmade {K : Type 0} (admitted : Network → Bool) (n : Network) (keys : List K) (own running : ℕ) : Refusal → Type 0 where
  not_one_each : one_key_each n (length keys) own running ≡ false → Unmade admitted n keys own running NotOneEach
  not_admitted : one_key_each n (length keys) own running ≡ true → admitted n ≡ false → Unmade admitted n keys own running NotAdmitted
  equal_keys : one_key_each n (length keys) own running ≡ true → admitted n ≡ true → Twice keys → Unmade admitted n keys own running EqualKeys

-- what holds of the network, keys and holdings of an accepted making
pub record MayMake {K : Type 0} (admitted : Network → Bool) (n : Network) (keys : List K) (own : ℕ) : Type 0 where
  pub keyed : length keys ≡ n.nodes
  pub each : own ≡ n.nodes
  pub admits : admitted n ≡ true
  pub distinct : Distinct keys

module _ {K T : Type 0} (admitted : Network → Bool) (precedes : K → K → Bool) (n : Network) (keys : List K) (own : List T) where
  -- the state that a making leaves
  pub record Made (s : State T) : Type 0 where
    pub may : MayMake admitted n keys (length own)
    pub tables : Fresh precedes n keys s.tables
    pub transit : s.transit.count ≡ 0
    pub own_is : s.own ≡ own
    pub running : s.running ≡ own

module _ {K T : Type 0} (admitted : Network → Bool) (precedes : K → K → Bool) (n : Network) (keys : List K) where
  -- what a making answers, and what it leaves of the stores that it is handed
  abbrev pub Makes : {W : Type 0} → Stores T → Result (Run W K T) Refusal → Stores T → Type 0
  Makes before (Ok run) after = Made admitted precedes n keys before.own.now (stand run.tables after) × Left before.transit after.transit []
  Makes before (Err why) after = Unmade admitted n keys (length before.own.now) (length before.running.now) why × (after ≡ before)

  -- the same of holdings and a transit that it is handed apart
  abbrev pub MakesApart : {W : Type 0} → List T → List T → Bag (Message T) → Result (Run W K T) Refusal → List T → Bag (Message T) → Type 0
  MakesApart own running transit (Ok run) running_after transit_after = Made admitted precedes n keys own (state run.tables transit_after own running_after) × Left transit transit_after []
  MakesApart own running transit (Err why) running_after transit_after = Unmade admitted n keys (length own) (length running) why × (running_after ≡ running) × (transit_after ≡ transit)
