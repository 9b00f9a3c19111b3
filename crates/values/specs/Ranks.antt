-- The ranks of the nodes, by their keys. Assumes nothing.
use Rattle.std.specs.Prelude.{◌≡◌, ℕ, ◌-◌, ◌<◌, Bool, if◌then◌else◌, ◌&&◌, List, ◌++◌, map, length, replicate, Ok, Err, count_by, Result, ◌≢◌, nat_lt, slice_index, slice_index_or}
use Rattle.base.specs.declared.refusal.Refusal.{Refusal}
use Rattle.base.specs.declared.refusal.Refusal.TheVariants.{NotOneEach}

-- there are nodes for that many keys: 1 to 32
abbrev pub one_each : ℕ → Result (Unit {0}) Refusal
one_each count = if nat_lt 0 count && nat_lt count 33 then Ok tt else Err NotOneEach

module _ {K : Type 0} where
  -- how many of the keys are before this one
  unfoldable pub rank_of : (K → K → Bool) → List K → K → ℕ
  rank_of precedes keys key = count_by (λ other. precedes other key) keys

  -- the rank of each node in turn, and 0 past the nodes
  unfoldable pub rank_table : (K → K → Bool) → List K → List ℕ
  rank_table precedes keys = map (rank_of precedes keys) keys ++ replicate (32 - length keys) 0

  -- no two of the first n nodes have equal keys
  abbrev pub Apart : List K → ℕ → Type 0
  Apart keys n = (i j : ℕ) (d : K) → i < j → j < n → slice_index_or keys i d ≢ slice_index_or keys j d

  -- no two nodes have equal keys
  abbrev pub Distinct : List K → Type 0
  Distinct keys = Apart keys (length keys)

  -- some two nodes have equal keys
  abbrev pub Twice : List K → Type 0
  Twice keys = (i : ℕ) × (j : ℕ) × (i < j) × (j < length keys) × ((d : K) → slice_index_or keys i d ≡ slice_index_or keys j d)

  -- what a table of ranks tells of the keys
  pub record Ranking (precedes : K → K → Bool) (keys : List K) (ranks : List ℕ) : Type 0 where
    pub below : (i : ℕ) → i < length keys → slice_index ranks i < length keys
    pub ordered : (i j : ℕ) (d : K) → i < length keys → j < length keys → nat_lt (slice_index ranks i) (slice_index ranks j) ≡ precedes (slice_index_or keys i d) (slice_index_or keys j d)
    pub different : Distinct keys → (i j : ℕ) → i < j → j < length keys → slice_index ranks i ≢ slice_index ranks j
