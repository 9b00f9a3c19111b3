-- Sets of one node, and of none. Assumes nothing.
use Rattle.std.proofs.Common.{◌≡◌, ℕ, ◌<◌, true, false, not, ◌&&◌, eqb, ltb, List, [], ◌∷◌, Some, sym, refl, ap, ◌∙◌, ⊎_elim, arith}
use Rattle.std.specs.List.{slice_get, ContainsAt, AllByRecursion}
use Rattle.std.proofs.lemmas.Bool.{and_from, and_parts, both_ways, cases_Bool, eq-eqb, eqb-true, lt-ltb}
use Rattle.std.proofs.lemmas.Bool.Decides.{nat_tests}
use Rattle.base.specs.NodeSets.{has, members, no_nodes}
use Rattle.base.specs.declared.node_set.NodeSet.{NodeSet}
use Rattle.base.proofs.Members.{lowest_out, members_all, members_have, no_bits, none_is}
use Rattle.base.proofs.Words.{bit_zero}
use Rattle.rules.specs.Sets.{first_of, is_empty, lowest_of, only}
use Rattle.rules.proofs.SetLaws.{has_none, has_only, none_empty}

pub members_none : members no_nodes ≡ []
members_none = no_bits 0 bit_zero

pub members_empty : (s : NodeSet) → is_empty s ≡ true → members s ≡ []
members_empty s none = ap members (none_is s (eqb-true s.bits 0 none)) ∙ members_none

pub only_itself : (node : ℕ) → node < 32 → has (only node) node ≡ true
only_itself node small = has_only node node ∙ and_from (eqb node node) (ltb node 32) (eq-eqb node node refl) (lt-ltb node 32 small)

pub only_same : (node i : ℕ) → has (only node) i ≡ true → i ≡ node
only_same node i is = eqb-true i node (and_parts (eqb i node) (ltb node 32) (sym (has_only node i) ∙ is)).0

pub members_only : (node : ℕ) → node < 32 → members (only node) ≡ node ∷ []
members_only node small = lowest_out (only node) no_nodes node none (go (members (only node)) refl (members_all (only node))) ∙ ap (λ ns. node ∷ ns) members_none
  where
    none : (i : ℕ) → has no_nodes i ≡ (has (only node) i && not (eqb i node))
    none i = has_none i ∙ sym (rw (has_only node i) (grind (arith, nat_tests)))

    go : (ns : List ℕ) → members (only node) ≡ ns → AllByRecursion (λ i. has (only node) i ≡ true) ns → slice_get (members (only node)) 0 ≡ Some node
    go [] e all = let found = members_have (only node) node (only_itself node small) in absurd (nowhere (rw e at found))
      where
        nowhere : ContainsAt [] node → ⊥
        nowhere h = omega (arith, h.1)
    go (i ∷ ns) e all = rw e (ap Some (only_same node i all.0))

-- ---- the lowest member

-- it is a member
pub lowest_within : (s : NodeSet) (i : ℕ) → has (lowest_of s) i ≡ true → has s i ≡ true
lowest_within s i is = go (members s) (members_all s) is
  where
    go : (ns : List ℕ) → AllByRecursion (λ k. has s k ≡ true) ns → has (first_of ns) i ≡ true → has s i ≡ true
    go [] all is = absurd (both_ways (has no_nodes i) (has_none i) is)
    go (k ∷ ns) all is = ap (has s) (only_same k i is) ∙ all.0

pub lowest_some : (s : NodeSet) → is_empty s ≡ false → (low : ℕ) × (lowest_of s ≡ only low) × (has s low ≡ true)
lowest_some s some = go (members s) refl (members_all s)
  where
    go : (ns : List ℕ) → members s ≡ ns → AllByRecursion (λ k. has s k ≡ true) ns → (low : ℕ) × (lowest_of s ≡ only low) × (has s low ≡ true)
    go [] e all = absurd (both_ways (is_empty s) some (none_empty s (λ i. ⊎_elim (λ is. absurd (nowhere i (rw e at (members_have s i is)))) (λ not'. not') (cases_Bool (has s i)))))
      where
        nowhere : (i : ℕ) → ContainsAt [] i → ⊥
        nowhere i h = omega (arith, h.1)
    go (k ∷ ns) e all = (k, ap first_of e, all.0)

pub lowest_none : (s : NodeSet) → is_empty s ≡ true → lowest_of s ≡ no_nodes
lowest_none s none = ap first_of (members_empty s none)
