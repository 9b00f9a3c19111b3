-- The sizes of sets. Assumes nothing.
use Rattle.std.proofs.Common.{◌≡◌, ℕ, ◌+◌, ◌<◌, ◌≤◌, Bool, true, false, not, ◌&&◌, ◌||◌, eqb, sym, refl, ap, ◌∙◌, subst, ap₂, subst₂, ⊎_elim, arith}
use Rattle.std.proofs.lemmas.Bool.{both_ways, cases_Bool, cases_eq, eq-eqb, ne_eqb}
use Rattle.std.proofs.lemmas.Bool.Decides.{nat_tests}
use Rattle.base.specs.NodeSets.{has, no_nodes, size}
use Rattle.base.specs.declared.node_set.NodeSet.{NodeSet}
use Rattle.base.proofs.Members.{member_below, same_members, size_more}
use Rattle.base.proofs.Small.{and_false}
use Rattle.rules.specs.Sets.{◌∖◌, is_empty, only}
use Rattle.rules.specs.Sums.{one}
use Rattle.rules.proofs.SetLaws.{empty_none, has_minus, has_node, has_none, size_none, some_member}
use Rattle.rules.proofs.Totals.{size_total, total_le}

-- a set with this member, and without it
pub size_less : (s : NodeSet) (x : ℕ) → has s x ≡ true → size (s ∖ only x) + 1 ≡ size s
size_less s x in_it =
    let node = member_below s x in_it in
    let out : (i : ℕ) → has (s ∖ only x) i ≡ (has s i && not (eqb i x)) = λ i. has_minus s (only x) i ∙ ap (λ b. has s i && not b) (has_node x i node) in
    sym (size_more (s ∖ only x) s x node (out x ∙ ap (λ b. has s x && not b) (eq-eqb x x refl) ∙ and_false (has s x)) (λ i. put_back i ∙ ap (λ b. b || eqb i x) (sym (out i))))
  where
    put_back : (i : ℕ) → has s i ≡ ((has s i && not (eqb i x)) || eqb i x)
    put_back i = ⊎_elim (λ e. let here : has s i ≡ true = ap (has s) e ∙ in_it in grind (arith, nat_tests)) (λ other. let differ = ne_eqb i x other in grind (arith, nat_tests)) (cases_eq i x)

-- a set that is empty has no member, and one with no member is empty
pub size_empty : (s : NodeSet) → is_empty s ≡ true → size s ≡ 0
size_empty s e = ap size (same_members s no_nodes (λ i. empty_none s e i ∙ sym (has_none i))) ∙ size_none

pub empty_size : (s : NodeSet) → is_empty s ≡ false → 1 ≤ size s
empty_size s e = let found = some_member s e in omega (arith, size_less s found.0 found.1)

-- a set of one member has no other
pub one_member : (s : NodeSet) (t i : ℕ) → size s ≡ 1 → has s t ≡ true → has s i ≡ true → i ≡ t
one_member s t i single in_t in_i = ⊎_elim (λ e. e) (λ other. absurd (both_ways (has (s ∖ only t) i) (empty_none (s ∖ only t) (empty_less) i) (has_minus s (only t) i ∙ ap₂ (λ a b. a && not b) in_i (has_node t i (member_below s t in_t) ∙ ne_eqb i t other)))) (cases_eq i t)
  where
    empty_less : is_empty (s ∖ only t) ≡ true
    empty_less = ⊎_elim (λ e. e) (λ some. absurd (omega (arith, size_less s t in_t, empty_size (s ∖ only t) some))) (cases_Bool (is_empty (s ∖ only t)))

pub size_le : (a b : NodeSet) → ((i : ℕ) → has a i ≡ true → has b i ≡ true) → size a ≤ size b
size_le a b part = subst₂ (λ k m. k ≤ m) (sym (size_total a)) (sym (size_total b)) (total_le (λ i. one (has a i)) (λ i. one (has b i)) 32 (λ i within. each (has a i) (has b i) (part i)))
  where
    each : (v w : Bool) → (v ≡ true → w ≡ true) → one v ≤ one w
    each true w so = subst (λ u. 1 ≤ one u) (sym (so refl)) (omega arith)
    each false w so = omega arith

pub size_one : (s : NodeSet) (x : ℕ) → x < 32 → ((i : ℕ) → has s i ≡ eqb i x) → size s ≡ 1
size_one s x node is = size_more no_nodes s x node (has_none x) (λ i. is i ∙ sym (ap (λ b. b || eqb i x) (has_none i))) ∙ omega (arith, size_none)
