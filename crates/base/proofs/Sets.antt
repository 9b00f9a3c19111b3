-- What the calls of a set of nodes leave of its bits, in the words of the code. Assumes nothing.
use Rattle.std.proofs.Common.{◌≡◌, ℕ, ◌-◌, ◌*◌, ◌/◌, ◌%◌, ◌^◌, ◌<◌, ◌≤◌, true, false, cond, not, ◌&&◌, eqb, ltb, length, None, sym, refl, ap, ◌∙◌, lit<}
use lib.Bits.{bit_and, bit_or}
use lib.Count.{count_trailing_zeros, ones}
use Rattle.std.specs.List.{slice_get}
use Rattle.std.proofs.lemmas.Nat.{and_mask, one_shl}
use Rattle.std.proofs.lemmas.Bool.{eq-eqb}
use Rattle.base.specs.NodeSets.{◌∖◌, ◌∪◌, bit, only, set_bits}
use Rattle.base.specs.declared.node_set.NodeSet.{NodeSet}
use Rattle.base.proofs.Members.{count_is, lowest_is, lowest_told, no_bits, same_members}
use Rattle.base.proofs.Words.{bit_absent, bit_below, bit_minus, bit_of_or, bit_past, bit_power, bit_zero, same_bits}

pub bit_all : (i : ℕ) → bit 4294967295 i ≡ ltb i 32
bit_all i = bit_below 32 i

pub bit_lower : (k i : ℕ) → k < 32 → bit (1 * 2 ^ k % 4294967296 - 1) i ≡ ltb i k
bit_lower k i within = ap (λ n. bit (n - 1) i) (one_shl k 32 within) ∙ bit_below k i

pub bit_one : (k i : ℕ) → k < 32 → bit (1 * 2 ^ k % 4294967296) i ≡ eqb i k
bit_one k i within = ap (λ n. bit n i) (one_shl k 32 within) ∙ bit_power k i

pub bit_less : (a b i : ℕ) → a < 2 ^ 32 → b < 2 ^ 32 → bit (bit_and a (4294967295 - b)) i ≡ (bit a i && not (bit b i))
bit_less a b i small_a small_b = bit_minus 32 i a b small_a small_b

-- a number that is no node is no member
pub bit_absent_past : (n i : ℕ) → n < 2 ^ 32 → 32 ≤ i → bit n i ≡ false
bit_absent_past n i small past = bit_past 32 i n small past

pub bit_kept : (n x i : ℕ) → n < 2 ^ 32 → 32 ≤ x → bit n i ≡ (bit n i && not (eqb i x))
bit_kept n x i small past = bit_absent n x i (bit_past 32 x n small past)

pub bit_tested : (n i : ℕ) → eqb (bit_and (n / 2 ^ i) 1) 1 ≡ bit n i
unfolding bit
bit_tested n i = ap (λ x. eqb x 1) (and_mask (n / 2 ^ i) 1)

pub ones_size : (n : ℕ) → n < 2 ^ 32 → ones n ≡ length (set_bits n)
ones_size n small = sym (count_is n small)

pub bit_none : (n i : ℕ) → n ≡ 0 → bit n i ≡ false
bit_none n i none = ap (λ k. bit k i) none ∙ bit_zero i

pub lowest_none : (n : ℕ) → n ≡ 0 → slice_get (set_bits n) 0 ≡ None
lowest_none n none = ap (λ l. slice_get l 0) (no_bits n (λ i. bit_none n i none))

pub bit_lowest : (n : ℕ) → n < 2 ^ 32 → 0 < n → bit n (count_trailing_zeros 32 n) ≡ true
bit_lowest n small some = (lowest_told n _ (lowest_is n small some)).0

pub bit_before : (n i : ℕ) → n < 2 ^ 32 → 0 < n → i < count_trailing_zeros 32 n → bit n i ≡ false
bit_before n i small some before = (lowest_told n _ (lowest_is n small some)).1 i before

pub empty_of_none : (n : ℕ) → n < 2 ^ 32 → ((i : ℕ) → bit n i ≡ false) → n ≡ 0
empty_of_none n small none = same_bits 32 n 0 small (lit< tt) (λ i. none i ∙ sym (bit_zero i))

pub equal_of_same : (a b : ℕ) → a < 2 ^ 32 → b < 2 ^ 32 → ((i : ℕ) → bit a i ≡ bit b i) → eqb a b ≡ true
equal_of_same a b small_a small_b same = eq-eqb a b (same_bits 32 a b small_a small_b same)

-- ---- the sets that the specifications name

pub same_word : (s t : NodeSet) → s.bits ≡ t.bits → s ≡ t
same_word s t e = same_members s t (λ i. ap (λ n. bit n i) e)

pub union_bits : (a b : NodeSet) → (a ∪ b).bits ≡ bit_or a.bits b.bits
unfolding ◌∪◌
union_bits a b = refl

pub minus_bits : (a b : NodeSet) → (a ∖ b).bits ≡ bit_and a.bits (4294967295 - b.bits)
unfolding ◌∖◌
minus_bits a b = refl

pub only_bits : (node : ℕ) → (only node).bits ≡ cond (ltb node 32) (2 ^ node) 0
unfolding only
only_bits node = refl

pub or_zero : (n : ℕ) → bit_or 0 n ≡ n
or_zero n = refl

pub ruleset of_bits = (bit_of_or, bit_all, bit_lower, bit_one, bit_less, bit_absent_past, bit_kept, bit_tested, ones_size, bit_none, lowest_none, lowest_is, bit_lowest, bit_before, empty_of_none, equal_of_same, same_word, union_bits, minus_bits, only_bits, or_zero)
