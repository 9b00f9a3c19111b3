-- The neighbours of a network's nodes. Assumes nothing.
use Rattle.std.proofs.Common.{◌≡◌, ℕ, ◌<◌, Bool, true, sym, ap, ◌∙◌, ⊎_elim}
use mathlib.Core.Bool.{Bool-set}
use mathlib.Core.Logic.{∥∥₁_elim}
use Rattle.std.proofs.lemmas.Bool.{and_parts, both_ways, cases_lt}
use Rattle.base.specs.NodeSets.{has, no_nodes}
use Rattle.base.specs.declared.node_set.NodeSet.{NodeSet}
use Rattle.network.specs.Paths.{adjacent}
use Rattle.network.specs.declared.network.Network.{Network}
use Rattle.network.proofs.Graphs.{along}
use Rattle.wave.specs.Laws.{Neighbours}
use Rattle.rules.specs.Sets.{◌∖◌, neighbours_of}
use Rattle.rules.proofs.SetLaws.{has_minus, has_none}

module _ (n : Network) where
  pub joined_below : (a b : ℕ) → adjacent n.neighbours a b ≡ true → b < n.nodes
  joined_below a b link = ⊎_elim (λ below. below) (λ past. absurd (both_ways (adjacent n.neighbours a b) (n.inside a b past) link)) (cases_lt b n.nodes)

  pub joined_other : (a b : ℕ) → adjacent n.neighbours a b ≡ true → a ≡ b → ⊥
  joined_other a b link same = both_ways (adjacent n.neighbours a a) (n.loopless a) (ap (adjacent n.neighbours a) same ∙ link)

  pub joined_back : (a b : ℕ) → adjacent n.neighbours a b ≡ true → adjacent n.neighbours b a ≡ true
  joined_back a b link = n.symmetric b a ∙ link

  -- with each node of the set its neighbours are in it
  abbrev pub Closed : (ℕ → Bool) → Type 0
  Closed p = (a b : ℕ) → p a ≡ true → adjacent n.neighbours a b ≡ true → p b ≡ true

  -- a closed set with one node has all
  pub closed_all : (p : ℕ → Bool) → Closed p → (a : ℕ) → a < n.nodes → p a ≡ true → (i : ℕ) → i < n.nodes → p i ≡ true
  closed_all p closed a a_node a_in i i_node = ∥∥₁_elim (n.connected a i a_node i_node) (Bool-set (p i) true) (λ path. along (λ v. p v ≡ true) (λ v w link v_in. closed v w v_in link) a_in path)

-- ---- sets of neighbours

pub names_none : (n : Network) (node : ℕ) → Neighbours n node no_nodes
names_none n node i e = absurd (both_ways (has no_nodes i) (has_none i) e)

pub names_part : (n : Network) (node : ℕ) (rest : NodeSet) → Neighbours n node (neighbours_of n node ∖ rest)
names_part n node rest i e = (and_parts _ _ (sym (has_minus (neighbours_of n node) rest i) ∙ e)).0
