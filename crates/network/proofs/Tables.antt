-- Tables of neighbours. Assumes nothing.
use Rattle.std.proofs.Common.{◌≡◌, ℕ, zero, suc, ◌+◌, ◌<◌, false, ◌&&◌, ◌||◌, eqb, ltb, List, length, get_or, set, replicate, sym, refl, ap, ◌∙◌, ⊎_elim, arith}
use Rattle.std.proofs.lemmas.List.{get_or_default, get_or_past, get_or-replicate, get_or-set_other, get_or-set_same, length-replicate, length-set}
use Rattle.std.proofs.lemmas.List.Sums.{sum_by-cons, sum_by-set}
use Rattle.std.proofs.lemmas.Bool.{cases_eq, cases_lt, eq-eqb, lt-ltb, ne_eqb}
use Rattle.std.proofs.lemmas.Bool.Decides.{nat_tests}
use Rattle.base.specs.NodeSets.{has, no_nodes, size}
use Rattle.base.specs.declared.node_set.NodeSet.{NodeSet}
use Rattle.base.proofs.Members.{no_bits, size_more}
use Rattle.base.proofs.Small.{and_swap, and_true, or_false, or_regroup}
use Rattle.base.proofs.Words.{bit_zero}
use Rattle.network.specs.Paths.{Symmetric, adjacent, degrees}

-- a table in which nobody has a neighbour
pub bare : (n a b : ℕ) (s : NodeSet) → s ≡ no_nodes → adjacent (replicate n s) a b ≡ false
bare n a b s none = ⊎_elim (λ within. ap (λ t. has t b) (get_or-replicate n a s no_nodes within ∙ none) ∙ bit_zero b) (λ past. ap (λ t. has t b) (get_or_past (replicate n s) a no_nodes (rw length-replicate past)) ∙ bit_zero b) (cases_lt a n)

-- one neighbour more in the row of a
pub adjacent_set : (table : List NodeSet) (a b : ℕ) (s : NodeSet) → a < length table → ((i : ℕ) → has s i ≡ (adjacent table a i || eqb i b)) → (x y : ℕ) → adjacent (set table a s) x y ≡ (adjacent table x y || (eqb x a && eqb y b))
adjacent_set table a b s within more x y = ⊎_elim here elsewhere (cases_eq x a)
  where
    here : x ≡ a → adjacent (set table a s) x y ≡ (adjacent table x y || (eqb x a && eqb y b))
    here e =
        let row : get_or (set table a s) x no_nodes ≡ s = ap (λ k. get_or (set table a s) k no_nodes) e ∙ get_or-set_same table a s no_nodes within in
        let same : adjacent table x y ≡ adjacent table a y = ap (λ k. adjacent table k y) e in
        ap (λ t. has t y) row ∙ more y ∙ ap (λ v. v || eqb y b) (sym same) ∙ ap (λ v. adjacent table x y || (v && eqb y b)) (sym (eq-eqb x a e))

    elsewhere : (x ≡ a → ⊥) → adjacent (set table a s) x y ≡ (adjacent table x y || (eqb x a && eqb y b))
    elsewhere other = ap (λ t. has t y) (get_or-set_other table a x s no_nodes other) ∙ sym (ap (λ v. adjacent table x y || (v && eqb y b)) (ne_eqb x a other) ∙ or_false (adjacent table x y))

pub degrees_set : (table : List NodeSet) (a b : ℕ) (s : NodeSet) → a < length table → b < 32 → adjacent table a b ≡ false → ((i : ℕ) → has s i ≡ (adjacent table a i || eqb i b)) → degrees (set table a s) ≡ degrees table + 1
degrees_set table a b s within node absent more =
    let one = size_more (get_or table a no_nodes) s b node absent more in
    let changed = sum_by-set size table a s no_nodes within in
    omega arith

pub bare_degrees : (n : ℕ) (s : NodeSet) → s ≡ no_nodes → degrees (replicate n s) ≡ 0
bare_degrees zero s none = refl
bare_degrees (suc n) s none =
    let alone : size s ≡ 0 = ap length (no_bits s.bits (λ i. ap (λ t. has t i) none ∙ bit_zero i)) in
    sum_by-cons size s (replicate n s) ∙ omega (arith, bare_degrees n s none)

-- a row read at any default, with one node more
pub row_with : (table : List NodeSet) (a b : ℕ) (d s : NodeSet) → a < length table → b < 32 → ((i : ℕ) → has s i ≡ (has (get_or table a d) i || (eqb i b && ltb b 32))) → (i : ℕ) → has s i ≡ (adjacent table a i || eqb i b)
row_with table a b d s within node more i =
    more i ∙ ap (λ t. has t i || (eqb i b && ltb b 32)) (get_or_default table a d no_nodes within) ∙ ap (λ v. adjacent table a i || (eqb i b && v)) (lt-ltb b 32 node) ∙ ap (λ v. adjacent table a i || v) (and_true (eqb i b))

swap_eqb : (x y : ℕ) → eqb x y ≡ eqb y x
swap_eqb x y = grind (arith, nat_tests)

-- a link between a and b on the table, in the row of each
module _ (table : List NodeSet) (a b : ℕ) (s t : NodeSet) (rows : length table ≡ 32) (lower : a < b) (node : b < 32)
    (first_row : (i : ℕ) → has s i ≡ (adjacent table a i || eqb i b))
    (second_row : (i : ℕ) → has t i ≡ (adjacent (set table a s) b i || eqb i a)) where
  pub link_joined : (x y : ℕ) → adjacent (set (set table a s) b t) x y ≡ (adjacent table x y || ((eqb a x && eqb b y) || (eqb a y && eqb b x)))
  link_joined x y =
      adjacent_set (set table a s) b a t (rw length-set (omega arith)) second_row x y ∙ ap (λ v. v || (eqb x b && eqb y a)) (adjacent_set table a b s (omega arith) first_row x y) ∙ sym (or_regroup (adjacent table x y) (eqb x a && eqb y b) (eqb x b && eqb y a)) ∙ ap (λ v. adjacent table x y || v) ends
    where
      ends : ((eqb x a && eqb y b) || (eqb x b && eqb y a)) ≡ ((eqb a x && eqb b y) || (eqb a y && eqb b x))
      ends = rw (swap_eqb x a, swap_eqb y b, swap_eqb x b, swap_eqb y a, and_swap (eqb b x) (eqb a y)) refl

  pub link_degrees : Symmetric (adjacent table) → adjacent table a b ≡ false → degrees (set (set table a s) b t) ≡ degrees table + 2
  link_degrees both fresh =
      let once = degrees_set table a b s (omega arith) node fresh first_row in
      let absent : adjacent (set table a s) b a ≡ false =
      adjacent_set table a b s (omega arith) first_row b a ∙ ap (λ v. v || (eqb b a && eqb a b)) (both b a ∙ fresh) ∙ ap (λ v. v && eqb a b) (ne_eqb b a (omega arith)) in
      let twice = degrees_set (set table a s) b a t (rw length-set (omega arith)) (omega arith) absent second_row in
      omega arith
