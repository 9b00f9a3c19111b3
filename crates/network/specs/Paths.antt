-- Nodes that links join, and paths along links. `joined a b` says that a link joins a and b. Assumes nothing.
use Rattle.std.specs.Prelude.{◌≡◌, ℕ, ◌<◌, ◌≤◌, Bool, true, false, List, sum_by, slice_index_or}
use Rattle.base.specs.NodeSets.{has, no_nodes, size}
use Rattle.base.specs.declared.node_set.NodeSet.{NodeSet}

-- a path from a node along links
pub data Path (joined : ℕ → ℕ → Bool) (from : ℕ) : ℕ → Type 0 where
  here : Path joined from from
  onward : {a b : ℕ} → Path joined from a → joined a b ≡ true → Path joined from b

-- Any two nodes have a path between them. That there is one is said, and not which,
-- so that this can stand in a network's type.
abbrev pub Connected : ℕ → (ℕ → ℕ → Bool) → Type 0
Connected nodes joined = (a b : ℕ) → a < nodes → b < nodes → ∥ Path joined a b ∥₁

-- a link joins both ways
abbrev pub Symmetric : (ℕ → ℕ → Bool) → Type 0
Symmetric joined = (a b : ℕ) → joined a b ≡ joined b a

-- no link joins a node to itself
abbrev pub Loopless : (ℕ → ℕ → Bool) → Type 0
Loopless joined = (a : ℕ) → joined a a ≡ false

-- links join nodes only
abbrev pub Inside : ℕ → (ℕ → ℕ → Bool) → Type 0
Inside nodes joined = (a b : ℕ) → nodes ≤ b → joined a b ≡ false

-- ---- the same of a table that has the neighbours of each node

abbrev pub adjacent : List NodeSet → ℕ → ℕ → Bool
adjacent neighbours a b = has (slice_index_or neighbours a no_nodes) b

-- the sum of all degrees
abbrev pub degrees : List NodeSet → ℕ
degrees neighbours = sum_by size neighbours
