-- Paths along links. Assumes nothing.
use Rattle.std.proofs.Common.{◌≡◌, ℕ, ◌<◌, ◌≤◌, min, Bool, true, ltb, sym, ◌∙◌, ⊎_elim, arith}
use mathlib.Core.Bool.{Bool-set}
use mathlib.Core.Logic.{∥∥₁_elim, ∥∥₁_map}
use Rattle.std.proofs.lemmas.Bool.{both_ways, cases_Bool, cases_lt, le-ltb, lt-ltb}
use Rattle.base.specs.NodeSets.{has}
use Rattle.base.specs.declared.node_set.NodeSet.{NodeSet}
use Rattle.network.specs.Paths.{Connected, Inside, Path, Symmetric, here, onward}

module _ {joined : ℕ → ℕ → Bool} where
  -- what holds where a path begins, and of the neighbours of each node of which it holds, holds where it ends
  pub along : (P : ℕ → Type 0) → ((a b : ℕ) → joined a b ≡ true → P a → P b) → {from to : ℕ} → P from → Path joined from to → P to
  along P step start here = start
  along P step start (onward {a} {b} path link) = step a b link (along P step start path)

  pub path_append : {a b c : ℕ} → Path joined a b → Path joined b c → Path joined a c
  path_append first here = first
  path_append first (onward second link) = onward (path_append first second) link

  pub path_back : Symmetric joined → {a b : ℕ} → Path joined a b → Path joined b a
  path_back both here = here
  path_back both (onward {a} {b} path link) = path_append (onward here (both b a ∙ link)) (path_back both path)

  -- paths from one node to all join any two
  pub connected_from : (nodes from : ℕ) → Symmetric joined → ((b : ℕ) → b < nodes → Path joined from b) → Connected nodes joined
  connected_from nodes from both reach a b a_node b_node = ∣ path_append (path_back both (reach a a_node)) (reach b b_node) ∣₁

-- a path keeps along links that are all there too
pub path_along : {joined other : ℕ → ℕ → Bool} → ((a b : ℕ) → joined a b ≡ other a b) → {a b : ℕ} → Path joined a b → Path other a b
path_along same here = here
path_along same (onward {a} {b} path link) = onward (path_along same path) (sym (same a b) ∙ link)

pub connected_along : {joined other : ℕ → ℕ → Bool} → ((a b : ℕ) → joined a b ≡ other a b) → (nodes : ℕ) → Connected nodes joined → Connected nodes other
connected_along same nodes connected a b a_node b_node = ∥∥₁_map (connected a b a_node b_node) (path_along same)

-- ---- a set of exactly the nodes with a path from one of them

module _ {nodes from : ℕ} {joined : ℕ → ℕ → Bool} (found : NodeSet) (node : from < nodes) (few : nodes ≤ 32) (inside : Inside nodes joined)
    (sound : (b : ℕ) → has found b ≡ true → Path joined from b) (whole : (b : ℕ) → Path joined from b → has found b ≡ true) where
  ends_inside : {b : ℕ} → Path joined from b → b < nodes
  ends_inside path = along (λ b. b < nodes) (λ a b link a_node. ⊎_elim (λ b_node. b_node) (λ past. absurd (both_ways (joined a b) (inside a b past) link)) (cases_lt b nodes)) node path

  -- where any two nodes have a path, it is all nodes
  pub all_found : Connected nodes joined → (b : ℕ) → has found b ≡ ltb b (min nodes 32)
  all_found connected b = ⊎_elim is_node is_none (cases_lt b nodes)
    where
      is_node : b < nodes → has found b ≡ ltb b (min nodes 32)
      is_node b_node = ∥∥₁_elim (connected from b node b_node) (Bool-set (has found b) (ltb b (min nodes 32))) (λ path. whole b path ∙ sym (lt-ltb b (min nodes 32) (omega arith)))

      is_none : nodes ≤ b → has found b ≡ ltb b (min nodes 32)
      is_none past = ⊎_elim (λ yes'. absurd (omega (arith, ends_inside (sound b yes')))) (λ no'. no' ∙ sym (le-ltb b (min nodes 32) (omega arith))) (cases_Bool (has found b))

  -- and where it is all nodes, any two have a path
  pub connected_by : Symmetric joined → ((b : ℕ) → has found b ≡ ltb b (min nodes 32)) → Connected nodes joined
  connected_by both all = connected_from nodes from both (λ b b_node. sound b (all b ∙ lt-ltb b (min nodes 32) (omega arith)))
