-- What is promised of every election. Assumes nothing.
use Rattle.std.specs.Prelude.{◌≡◌, ℕ, ◌+◌, ◌*◌, ◌<◌, ◌≤◌, Bool, true, false, List, [], length, get_or, Some, Option, slice_index, slice_index_or}
use Rattle.std.specs.List.{AllByRecursion}
use Rattle.network.specs.declared.network.Network.{Network}
use Rattle.values.specs.Folds.{fold_of}
use Rattle.values.specs.Ranks.{Distinct, rank_table}
use Rattle.wave.specs.Lone.{Arrival, Opening}
use Rattle.rules.specs.Sums.{one, total}
use Rattle.extinction.specs.Elections.{Election, Elects, Verdict}

-- how many nodes were accepted as starters
abbrev pub starters : {T : Type 0} → Election T → ℕ
starters e = total (λ s. one (e.started s)) 32

module _ {K T : Type 0} (precedes : K → K → Bool) (keys : List K) where
  -- a verdict names an accepted starter, no accepted starter has a key before it, and it shows the fold of all holdings
  pub record Right (all : Option T) (e : Election T) (w : Verdict T) : Type 0 where
    pub accepted : e.started w.named ≡ true
    pub least : (t : ℕ) (d : K) → e.started t ≡ true → precedes (slice_index_or keys t d) (slice_index_or keys w.named d) ≡ false
    pub shows : Some w.holding ≡ all

  pub record Kept (n : Network) (bound : ℕ) (all : Option T) (e : Election T) : Type 0 where
    -- every message sent was handled, was put out or is in transit
    pub counts : total e.sent 32 ≡ total e.handled 32 + total e.put_out 32 + length e.transit
    pub bounded : total e.sent 32 ≤ starters e * bound
    -- places for nodes times bound are enough
    pub room : length e.transit ≤ n.nodes * bound
    pub verdicts : AllByRecursion (Right all e) e.verdicts
    -- at rest after a start a decision has been made
    pub rest : (s : ℕ) → e.started s ≡ true → e.transit ≡ [] → 0 < length e.verdicts

-- in every state of every election among nodes with different keys, on a network that the wave admits
abbrev pub Promise : {K T : Type 0} → (Network → Bool) → (Network → ℕ) → Opening → Arrival → (K → K → Bool) → (T → T → T) → Type 0
Promise {K} {T} admitted most opening arrival precedes meet =
    (n : Network) (keys : List K) (own : List T) (d : T) → admitted n ≡ true → length keys ≡ n.nodes → Distinct keys → length own ≡ n.nodes → (e : Election T) → Elects opening arrival n (λ v. slice_index (rank_table precedes keys) v) meet (λ v. get_or own v d) e → Kept precedes keys n (most n) (fold_of meet own) e

-- no election with at most so many starters sends more than r messages
abbrev pub Enough : {K T : Type 0} → (Network → Bool) → Opening → Arrival → (K → K → Bool) → (T → T → T) → Network → ℕ → ℕ → Type 0
Enough {K} {T} admitted opening arrival precedes meet n most_starters r =
    (keys : List K) (own : List T) (d : T) → admitted n ≡ true → length keys ≡ n.nodes → Distinct keys → length own ≡ n.nodes → (e : Election T) → Elects opening arrival n (λ v. slice_index (rank_table precedes keys) v) meet (λ v. get_or own v d) e → starters e ≤ most_starters → total e.sent 32 ≤ r
