-- The bits of a word. Assumes nothing.
use Rattle.std.proofs.Common.{◌≡◌, ℕ, zero, suc, ◌-◌, ◌*◌, ◌/◌, ◌%◌, ◌^◌, ◌<◌, ◌≤◌, false, not, ◌&&◌, ◌||◌, eqb, ltb, sym, refl, ap, ◌∙◌, ⊎_elim, pow-suc, arith, pow_pos}
use native.Mathlib.Nat.{pow-succ', div-div-eq-div-mul}
use lib.Bits.{bit_and, bit_or, and_step, or_step, and_shr, or_shr}
use lib.Dec.{eqb-zero-suc, eqb-suc-zero, eqb-suc-suc}
use Rattle.std.proofs.lemmas.Bool.{cases_eq, cases_lt, le-ltb, lt-ltb, ne_eqb}
use Rattle.std.proofs.lemmas.Bool.Decides.{nat_tests}
use Rattle.base.specs.NodeSets.{bit}

-- ---- one bit after another

pub bit_low : (n : ℕ) → bit n 0 ≡ eqb (n % 2) 1
unfolding bit
bit_low n = let e : n / 1 ≡ n = omega arith in ap (λ x. eqb (x % 2) 1) e

pub bit_next : (n i : ℕ) → bit n (suc i) ≡ bit (n / 2) i
unfolding bit
bit_next n i = ap (λ x. eqb (x % 2) 1) (ap (λ x. n / x) (pow-succ' 2 i) ∙ sym (div-div-eq-div-mul n 2 (2 ^ i)))

-- ---- the bits of a union, an intersection, a complement

low_or : (a b : ℕ) → eqb (bit_or a b % 2) 1 ≡ (eqb (a % 2) 1 || eqb (b % 2) 1)
low_or a b = let e = or_step a b in grind (arith, nat_tests)

pub bit_of_or : (i a b : ℕ) → bit (bit_or a b) i ≡ (bit a i || bit b i)
bit_of_or zero a b = simp bit_low (low_or a b)
bit_of_or (suc i) a b = simp bit_next (ap (λ x. bit x i) (or_shr a b 1) ∙ bit_of_or i (a / 2) (b / 2))

low_and : (a b : ℕ) → eqb (bit_and a b % 2) 1 ≡ (eqb (a % 2) 1 && eqb (b % 2) 1)
low_and a b = let e = and_step a b in grind (arith, nat_tests)

pub bit_of_and : (i a b : ℕ) → bit (bit_and a b) i ≡ (bit a i && bit b i)
bit_of_and zero a b = simp bit_low (low_and a b)
bit_of_and (suc i) a b = simp bit_next (ap (λ x. bit x i) (and_shr a b 1) ∙ bit_of_and i (a / 2) (b / 2))

pub bit_zero : (i : ℕ) → bit 0 i ≡ false
bit_zero zero = bit_low 0
bit_zero (suc i) = bit_next 0 i ∙ bit_zero i

-- a number of k bits has none from k on
pub bit_past : (k i n : ℕ) → n < 2 ^ k → k ≤ i → bit n i ≡ false
bit_past zero i n small past = let none : n ≡ 0 = omega arith in ap (λ x. bit x i) none ∙ bit_zero i
bit_past (suc k) zero n small past = absurd (omega arith)
bit_past (suc k) (suc i) n small past =
    let twice = pow-suc 2 k in
    bit_next n i ∙ bit_past k i (n / 2) (omega arith) (omega arith)

pub bit_not : (k i n : ℕ) → n < 2 ^ k → i < k → bit (2 ^ k - 1 - n) i ≡ not (bit n i)
bit_not zero i n small within = absurd (omega arith)
bit_not (suc k) zero n small within =
    let twice = pow-suc 2 k in
    let pos = pow_pos k in
    simp bit_low (grind (arith, nat_tests))
bit_not (suc k) (suc i) n small within =
    let twice = pow-suc 2 k in
    let pos = pow_pos k in
    let half : (2 ^ suc k - 1 - n) / 2 ≡ 2 ^ k - 1 - n / 2 = omega arith in
    simp bit_next (ap (λ x. bit x i) half ∙ bit_not k i (n / 2) (omega arith) (omega arith))

-- a, less the bits of b
pub bit_minus : (k i a b : ℕ) → a < 2 ^ k → b < 2 ^ k → bit (bit_and a (2 ^ k - 1 - b)) i ≡ (bit a i && not (bit b i))
bit_minus k i a b small_a small_b = bit_of_and i a (2 ^ k - 1 - b) ∙ ⊎_elim inside past (cases_lt i k)
  where
    inside : i < k → (bit a i && bit (2 ^ k - 1 - b) i) ≡ (bit a i && not (bit b i))
    inside within = ap (λ x. bit a i && x) (bit_not k i b small_b within)

    past : k ≤ i → (bit a i && bit (2 ^ k - 1 - b) i) ≡ (bit a i && not (bit b i))
    past le = let none = bit_past k i a small_a le in rw none refl

pub bit_power : (k i : ℕ) → bit (2 ^ k) i ≡ eqb i k
bit_power zero zero = bit_low 1
bit_power zero (suc i) = bit_next 1 i ∙ bit_zero i ∙ sym (eqb-suc-zero i)
bit_power (suc k) zero = let twice = pow-suc 2 k in bit_low (2 ^ suc k) ∙ even twice ∙ sym (eqb-zero-suc k)
  where
    even : 2 ^ suc k ≡ 2 ^ k * 2 → eqb (2 ^ suc k % 2) 1 ≡ false
    even twice = grind (arith, nat_tests)
bit_power (suc k) (suc i) =
    let half : 2 ^ suc k / 2 ≡ 2 ^ k = (let twice = pow-suc 2 k in omega arith) in
    bit_next (2 ^ suc k) i ∙ ap (λ x. bit x i) half ∙ bit_power k i ∙ sym (eqb-suc-suc i k)

-- all bits below k
pub bit_below : (k i : ℕ) → bit (2 ^ k - 1) i ≡ ltb i k
bit_below k i = ⊎_elim inside past (cases_lt i k)
  where
    pos : 0 < 2 ^ k
    pos = pow_pos k

    less_none : 2 ^ k - 1 ≡ 2 ^ k - 1 - 0
    less_none = omega arith

    inside : i < k → bit (2 ^ k - 1) i ≡ ltb i k
    inside within = ap (λ x. bit x i) less_none ∙ bit_not k i 0 pos within ∙ ap not (bit_zero i) ∙ sym (lt-ltb i k within)

    past : k ≤ i → bit (2 ^ k - 1) i ≡ ltb i k
    past le = bit_past k i (2 ^ k - 1) (omega (arith, pos)) le ∙ sym (le-ltb i k le)

-- to take away what is not there changes nothing
pub bit_absent : (n x i : ℕ) → bit n x ≡ false → bit n i ≡ (bit n i && not (eqb i x))
bit_absent n x i absent = ⊎_elim here elsewhere (cases_eq i x)
  where
    here : i ≡ x → bit n i ≡ (bit n i && not (eqb i x))
    here e = let none : bit n i ≡ false = ap (bit n) e ∙ absent in grind (arith, nat_tests)

    elsewhere : (i ≡ x → ⊥) → bit n i ≡ (bit n i && not (eqb i x))
    elsewhere other = let differ = ne_eqb i x other in grind (arith, nat_tests)

-- two words with the same bits are the same
pub same_bits : (k a b : ℕ) → a < 2 ^ k → b < 2 ^ k → ((i : ℕ) → bit a i ≡ bit b i) → a ≡ b
same_bits zero a b small_a small_b same = omega arith
same_bits (suc k) a b small_a small_b same =
    let twice = pow-suc 2 k in
    let halves : a / 2 ≡ b / 2 = same_bits k (a / 2) (b / 2) (omega arith) (omega arith) (λ i. sym (bit_next a i) ∙ same (suc i) ∙ bit_next b i) in
    let low : eqb (a % 2) 1 ≡ eqb (b % 2) 1 = sym (bit_low a) ∙ same 0 ∙ bit_low b in
    grind (arith, nat_tests)
