-- Sums over the nodes below a number. Assumes nothing.
use Rattle.std.proofs.Common.{◌≡◌, ℕ, zero, suc, ◌+◌, ◌*◌, ◌<◌, ◌≤◌, Bool, true, false, ◌⊎◌, List, length, get_or, take, sum_by, filter, sym, refl, ap, ◌∙◌, inl, inr, ⊎_elim, mul-zero, mul-suc, add-one, arith}
use Rattle.std.proofs.lemmas.List.{take_all}
use Rattle.std.proofs.lemmas.List.Sums.{sum_by_more}
use Rattle.std.proofs.lemmas.Bool.{cases_Bool, cases_eq}
use Rattle.std.specs.List.{range_with_len}
use Rattle.base.specs.NodeSets.{has, no_nodes, set_bits, size}
use Rattle.base.specs.declared.node_set.NodeSet.{NodeSet}
use Rattle.network.specs.declared.network.Network.{Network}
use Rattle.rules.specs.Sets.{neighbours_of}
use Rattle.rules.specs.Sums.{one, total}

pub one_true : (b : Bool) → 1 ≤ one b → b ≡ true
one_true true le = refl
one_true false le = absurd (omega arith)

pub one_false : (b : Bool) → one b ≡ 0 → b ≡ false
one_false true e = absurd (omega arith)
one_false false e = refl

pub one_most : (b : Bool) → one b ≤ 1
one_most true = omega arith
one_most false = omega arith

pub total_same : (f g : ℕ → ℕ) (k : ℕ) → ((i : ℕ) → i < k → f i ≡ g i) → total f k ≡ total g k
unfolding total
total_same f g zero same = refl
total_same f g (suc k) same = omega (arith, total_same f g k (λ i within. same i (omega arith)), same k (omega arith))

pub total_le : (f g : ℕ → ℕ) (k : ℕ) → ((i : ℕ) → i < k → f i ≤ g i) → total f k ≤ total g k
unfolding total
total_le f g zero less = omega arith
total_le f g (suc k) less = omega (arith, total_le f g k (λ i within. less i (omega arith)), less k (omega arith))

pub total_sum : (f g : ℕ → ℕ) (k : ℕ) → total (λ i. f i + g i) k ≡ total f k + total g k
unfolding total
total_sum f g zero = refl
total_sum f g (suc k) = omega (arith, total_sum f g k)

-- the first one apart
pub total_first : (f : ℕ → ℕ) (k : ℕ) → total f (suc k) ≡ f 0 + total (λ i. f (suc i)) k
unfolding total
total_first f zero = omega arith
total_first f (suc k) = omega (arith, total_first f k)

pub total_none : (k : ℕ) → total (λ i. 0) k ≡ 0
unfolding total
total_none zero = refl
total_none (suc k) = omega (arith, total_none k)

-- two sums that differ at one node
pub total_at : (f g : ℕ → ℕ) (node k : ℕ) → node < k → ((i : ℕ) → (i ≡ node → ⊥) → g i ≡ f i) → total g k + f node ≡ total f k + g node
unfolding total
total_at f g node zero within same = absurd (omega arith)
total_at f g node (suc k) within same = ⊎_elim here (λ other. below other (total_at f g node k (omega arith) same)) (cases_eq k node)
  where
    here : k ≡ node → total g k + g k + f node ≡ total f k + f k + g node
    here e = omega (arith, total_same g f k (λ i before. same i (omega arith)), ap f e, ap g e)

    below : (k ≡ node → ⊥) → total g k + f node ≡ total f k + g node → total g k + g k + f node ≡ total f k + f k + g node
    below other rest = omega (arith, same k other)

-- one of the summands
pub total_part : (f : ℕ → ℕ) (node k : ℕ) → node < k → f node ≤ total f k
unfolding total
total_part f node zero within = absurd (omega arith)
total_part f node (suc k) within = ⊎_elim (λ e. omega (arith, ap f e)) (λ other. omega (arith, total_part f node k (omega arith))) (cases_eq k node)

-- the order of two sums does not matter
pub total_swap : (f : ℕ → ℕ → ℕ) (j k : ℕ) → total (λ u. total (λ v. f u v) k) j ≡ total (λ v. total (λ u. f u v) j) k
unfolding total
total_swap f zero k = sym (total_none k)
total_swap f (suc j) k = ap (λ m. m + total (λ v. f j v) k) (total_swap f j k) ∙ sym (total_sum (λ v. total (λ u. f u v) j) (λ v. f j v) k)

-- at least c for each of the first ones
pub total_least : (f : ℕ → ℕ) (c j k : ℕ) → j ≤ k → ((i : ℕ) → i < j → c ≤ f i) → c * j ≤ total f k
unfolding total
total_least f c zero k le each = omega (arith, mul-zero c)
total_least f c (suc j) zero le each = absurd (omega arith)
total_least f c (suc j) (suc k) le each = ⊎_elim (λ e. go (total_least f c j k (omega arith) (λ i within. each i (omega arith))) (each k (omega arith))) (λ other. omega (arith, total_least f c (suc j) k (omega arith) each)) (cases_eq j k)
  where
    go : c * j ≤ total f k → c ≤ f k → c * suc j ≤ total f k + f k
    go rest here = rw (mul-suc c j) (omega arith)

-- a sum over a list is the sum over its places
pub total_list : {X : Type 0} (f : X → ℕ) (xs : List X) (d : X) (k : ℕ) → k ≤ length xs → sum_by f (take k xs) ≡ total (λ i. f (get_or xs i d)) k
unfolding total
total_list f xs d zero within = refl
total_list f xs d (suc k) within =
    ap (λ m. sum_by f (take m xs)) (sym (add-one k)) ∙ sum_by_more f xs k d (omega arith) ∙ ap (λ m. m + f (get_or xs k d)) (total_list f xs d k (omega arith))

-- the degrees of a network
pub degrees_total : (n : Network) → total (λ node. size (neighbours_of n node)) 32 ≡ 2 * n.links
degrees_total n = sym (total_list size n.neighbours no_nodes 32 (omega (arith, n.table))) ∙ ap (sum_by size) (take_all 32 n.neighbours (omega (arith, n.table))) ∙ n.counted

-- ---- the size of a set

kept_total : (p : ℕ → Bool) (k a : ℕ) → length (filter p (range_with_len a k)) ≡ total (λ i. one (p (a + i))) k
unfolding total
kept_total p zero a = refl
kept_total p (suc k) a =
    let shift = total_same (λ i. one (p (a + 1 + i))) (λ i. one (p (a + suc i))) k (λ i within. ap (λ j. one (p j)) (omega arith)) in
    let here : one (p (a + 0)) ≡ one (p a) = ap (λ j. one (p j)) (omega arith) in
    go (kept_total p k (a + 1)) shift here (total_first (λ i. one (p (a + i))) k) (cases_Bool (p a))
  where
    go : length (filter p (range_with_len (a + 1) k)) ≡ total (λ i. one (p (a + 1 + i))) k → total (λ i. one (p (a + 1 + i))) k ≡ total (λ i. one (p (a + suc i))) k → one (p (a + 0)) ≡ one (p a) → total (λ i. one (p (a + i))) (suc k) ≡ one (p (a + 0)) + total (λ i. one (p (a + suc i))) k → (p a ≡ true) ⊎ (p a ≡ false) → length (filter p (range_with_len a (suc k))) ≡ total (λ i. one (p (a + i))) (suc k)
    go rest shift here first (inl e) = let is : one (p a) ≡ 1 = ap one e in rw e (omega arith)
    go rest shift here first (inr e) = let is : one (p a) ≡ 0 = ap one e in rw e (omega arith)

pub size_total : (s : NodeSet) → size s ≡ total (λ i. one (has s i)) 32
unfolding set_bits
size_total s = kept_total (has s) 32 0 ∙ total_same (λ i. one (has s (0 + i))) (λ i. one (has s i)) 32 (λ i within. ap (λ j. one (has s j)) (omega arith))
