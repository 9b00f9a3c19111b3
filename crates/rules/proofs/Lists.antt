-- Lists of nodes: what stands in them, and lists without repeats. Assumes nothing.
use Rattle.std.proofs.Common.{◌≡◌, ℕ, zero, suc, ◌+◌, ◌<◌, ◌≤◌, Bool, true, false, ◌||◌, eqb, ◌⊎◌, List, [], ◌∷◌, ◌++◌, length, sym, refl, ap, ◌∙◌, inl, inr, ⊎_elim, arith}
use Rattle.std.specs.List.{AllByRecursion}
use Rattle.std.proofs.lemmas.Bool.{both_ways, cond_both, eq-eqb, eqb-true, ne_eqb, or_cases, or_left, or_right}
use Rattle.rules.specs.Sums.{one, total}
use Rattle.rules.proofs.Totals.{total_at, total_none}

-- the number stands in the list
abbrev pub among : List ℕ → ℕ → Bool
among [] i = false
among (x ∷ xs) i = eqb i x || among xs i

pub among_here : (x : ℕ) (xs : List ℕ) (i : ℕ) → i ≡ x → among (x ∷ xs) i ≡ true
among_here x xs i same = or_left (eqb i x) (among xs i) (eq-eqb i x same)

pub among_later : (x : ℕ) (xs : List ℕ) (i : ℕ) → among xs i ≡ true → among (x ∷ xs) i ≡ true
among_later x xs i later = or_right (eqb i x) (among xs i) later

pub among_cases : (x : ℕ) (xs : List ℕ) (i : ℕ) → among (x ∷ xs) i ≡ true → (i ≡ x) ⊎ (among xs i ≡ true)
among_cases x xs i is = ⊎_elim (λ same. inl (eqb-true i x same)) inr (or_cases (eqb i x) (among xs i) is)

pub among_apart : (xs : List ℕ) (i j : ℕ) → among xs i ≡ true → among xs j ≡ false → i ≡ j → ⊥
among_apart xs i j is not' same = both_ways (among xs j) not' (ap (among xs) (sym same) ∙ is)

-- ---- lists without repeats

abbrev pub Distinct : List ℕ → Type 0
Distinct [] = Unit {0}
Distinct (x ∷ xs) = (among xs x ≡ false) × Distinct xs

-- at most all numbers below n pass a test
pub total_tests : (p : ℕ → Bool) (n : ℕ) → total (λ i. one (p i)) n ≤ n
unfolding total
total_tests p zero = omega arith
total_tests p (suc n) = let rest = total_tests p n in cond_both (p n) 1 0 (λ k. total (λ i. one (p i)) n + k ≤ suc n) (λ _. omega arith) (λ _. omega arith)

distinct_total : (n : ℕ) (xs : List ℕ) → Distinct xs → AllByRecursion (λ x. x < n) xs → total (λ i. one (among xs i)) n ≡ length xs
distinct_total n [] distinct below = total_none n
distinct_total n (x ∷ xs) distinct below = omega (arith, total_at (λ i. one (among xs i)) (λ i. one (among (x ∷ xs) i)) x n below.0 (λ i other. ap (λ b. one (b || among xs i)) (ne_eqb i x other)), distinct_total n xs distinct.1 below.1, ap one distinct.0, ap one (among_here x xs x refl))

-- one whose elements are below n is no longer than n
pub distinct_most : (n : ℕ) (xs : List ℕ) → Distinct xs → AllByRecursion (λ x. x < n) xs → length xs ≤ n
distinct_most n xs distinct below = omega (arith, distinct_total n xs distinct below, total_tests (among xs) n)

-- ---- a list with one element

pub single_split : {X : Type 0} (x y : X) (before later : List X) → x ∷ [] ≡ before ++ (y ∷ later) → (y ≡ x) × (before ++ later ≡ [])
single_split x y [] later e = ((cc), (cc))
single_split x y (b ∷ []) later e = let z : ◌≡◌ {A = ℕ} 0 1 = cc in absurd (omega arith)
single_split x y (b ∷ (c ∷ before)) later e = let z : ◌≡◌ {A = ℕ} 0 1 = cc in absurd (omega arith)

pub never_split : {X : Type 0} (y : X) (before later : List X) → [] ≡ before ++ (y ∷ later) → ⊥
never_split y [] later e = let z : ◌≡◌ {A = ℕ} 0 1 = cc in omega arith
never_split y (b ∷ before) later e = let z : ◌≡◌ {A = ℕ} 0 1 = cc in omega arith
