-- Sets of nodes by their members. Assumes nothing.
use Rattle.std.proofs.Common.{◌≡◌, ℕ, zero, suc, ◌+◌, ◌/◌, ◌%◌, ◌^◌, ◌<◌, ◌≤◌, Bool, true, false, cond, not, ◌&&◌, ◌||◌, eqb, ltb, leb, ◌⊎◌, List, [], ◌∷◌, length, Some, filter, sym, refl, ap, ◌∙◌, inl, inr, ⊎_elim, suc-le-suc, pow-suc, arith, pow-add}
use native.Mathlib.Nat.{div-div-eq-div-mul}
use mathlib.Core.HLevel.{is_prop→PathP}
use native.Mathlib.Bridge.{le_prop}
use lib.Count.{ones, ones_step, count_trailing_zeros}
use Rattle.std.specs.List.{slice_get, range_with_len, ContainsAt, AllByRecursion}
use Rattle.std.proofs.ByRecursion.{kept_by_passes}
use Rattle.std.proofs.lemmas.Nat.{ones-le}
use Rattle.std.proofs.lemmas.Bool.{both_ways, cases_Bool, cases_eq, cases_lt, eq-eqb, eqb-false, eqb-true, ne_eqb}
use Rattle.std.proofs.lemmas.Bool.Decides.{nat_tests}
use Rattle.base.specs.NodeSets.{bit, has, members, no_nodes, set_bits}
use Rattle.base.specs.declared.node_set.NodeSet.{NodeSet}
use Rattle.base.proofs.Small.{some_same}
use Rattle.base.proofs.Words.{bit_past, same_bits}

-- two sets with the same members are the same
pub same_members : (s t : NodeSet) → ((i : ℕ) → has s i ≡ has t i) → s ≡ t
same_members s t same =
    let e : s.bits ≡ t.bits = same_bits 32 s.bits t.bits s.word t.word same in
    λ i. record { bits = e i; word = is_prop→PathP (λ j. e j < 2 ^ 32) (λ j. le_prop) s.word t.word i }

-- ---- what is left of a word n above its bit a, and how that falls with each bit

above : ℕ → ℕ → ℕ
above n a = n / 2 ^ a

above_next : (n a : ℕ) → above n (a + 1) ≡ above n a / 2
unfolding above
above_next n a = ap (λ x. n / x) (pow-add 2 a 1) ∙ sym (div-div-eq-div-mul n (2 ^ a) 2)

bit_above : (n a : ℕ) → bit n a ≡ eqb (above n a % 2) 1
unfolding above bit
bit_above n a = refl

-- as many members as bits
counted : (k a n : ℕ) → above n a < 2 ^ k → length (filter (bit n) (range_with_len a k)) ≡ ones (above n a)
unfolding ones
counted zero a n small = let none : above n a ≡ 0 = omega arith in sym (ap ones none)
counted (suc k) a n small =
    let twice = pow-suc 2 k in
    let half : above n (a + 1) < 2 ^ k = rw above_next (omega arith) in
    go (counted k (a + 1) n half ∙ ap ones (above_next n a)) (ones_step (above n a)) (cases_Bool (bit n a))
  where
    go : length (filter (bit n) (range_with_len (a + 1) k)) ≡ ones (above n a / 2) → ones (above n a) ≡ above n a % 2 + ones (above n a / 2) → (bit n a ≡ true) ⊎ (bit n a ≡ false) → length (filter (bit n) (range_with_len a (suc k))) ≡ ones (above n a)
    go rest step (inl e) = let odd = eqb-true (above n a % 2) 1 (sym (bit_above n a) ∙ e) in rw e (omega arith)
    go rest step (inr e) = let even = eqb-false (above n a % 2) 1 (sym (bit_above n a) ∙ e) in rw e (omega arith)

zeros_odd : (k m : ℕ) → m % 2 ≡ 1 → count_trailing_zeros (suc k) m ≡ 0
unfolding count_trailing_zeros
zeros_odd k m odd = rw odd refl

zeros_even : (k m : ℕ) → m % 2 ≡ 0 → count_trailing_zeros (suc k) m ≡ suc (count_trailing_zeros k (m / 2))
unfolding count_trailing_zeros
zeros_even k m even = rw even refl

-- the first member stands after the zeros
first : (k a n : ℕ) → above n a < 2 ^ k → 0 < above n a → slice_get (filter (bit n) (range_with_len a k)) 0 ≡ Some (a + count_trailing_zeros k (above n a))
first zero a n small some = absurd (omega arith)
first (suc k) a n small some =
    let twice = pow-suc 2 k in
    let next = above_next n a in
    go (λ more. first k (a + 1) n (omega arith) more) (cases_Bool (bit n a))
  where
    go : (0 < above n (a + 1) → slice_get (filter (bit n) (range_with_len (a + 1) k)) 0 ≡ Some (a + 1 + count_trailing_zeros k (above n (a + 1)))) → (bit n a ≡ true) ⊎ (bit n a ≡ false) → slice_get (filter (bit n) (range_with_len a (suc k))) 0 ≡ Some (a + count_trailing_zeros (suc k) (above n a))
    go rest (inl e) =
        let zeros = zeros_odd k (above n a) (eqb-true (above n a % 2) 1 (sym (bit_above n a) ∙ e)) in
        let here : a ≡ a + count_trailing_zeros (suc k) (above n a) = omega arith in
        rw e (ap Some here)
    go rest (inr e) =
        let even = eqb-false (above n a % 2) 1 (sym (bit_above n a) ∙ e) in
        let next = above_next n a in
        let zeros = zeros_even k (above n a) (omega arith) in
        let later : a + 1 + count_trailing_zeros k (above n (a + 1)) ≡ a + count_trailing_zeros (suc k) (above n a) = omega (arith, ap (count_trailing_zeros k) next) in
        rw e (rest (omega arith) ∙ ap Some later)

-- ---- the first member taken out

same_kept : (p q : ℕ → Bool) (k a : ℕ) → ((i : ℕ) → a ≤ i → p i ≡ q i) → filter p (range_with_len a k) ≡ filter q (range_with_len a k)
same_kept p q zero a same = refl
same_kept p q (suc k) a same =
    let rest = same_kept p q k (a + 1) (λ i later. same i (omega arith)) in
    rw (same a (omega arith), rest)

first_out : (p q : ℕ → Bool) (x : ℕ) → ((i : ℕ) → q i ≡ (p i && not (eqb i x))) → (k a : ℕ) → slice_get (filter p (range_with_len a k)) 0 ≡ Some x → filter p (range_with_len a k) ≡ x ∷ filter q (range_with_len a k)
first_out p q x less zero a is = let z : ◌≡◌ {A = ℕ} 0 1 = cc in absurd (omega arith)
first_out p q x less (suc k) a is = go (first_out p q x less k (a + 1)) (cases_Bool (p a))
  where
    go : (slice_get (filter p (range_with_len (a + 1) k)) 0 ≡ Some x → filter p (range_with_len (a + 1) k) ≡ x ∷ filter q (range_with_len (a + 1) k)) → (p a ≡ true) ⊎ (p a ≡ false) → filter p (range_with_len a (suc k)) ≡ x ∷ filter q (range_with_len a (suc k))
    go rest (inl e) =
        let here : a ≡ x = some_same (rw e at is) in
        let out : q a ≡ false = less a ∙ grind (arith, nat_tests) in
        let same = same_kept p q k (a + 1) (λ i later. sym (less i ∙ grind (arith, nat_tests))) in
        rw (e, out) (ap (λ ys. a ∷ ys) same ∙ ap (λ y. y ∷ filter q (range_with_len (a + 1) k)) here)
    go rest (inr e) =
        let out : q a ≡ false = less a ∙ grind (arith, nat_tests) in
        rw (e, out) (rest (rw e at is))

-- the first one kept passes the test, and none before it does
first_kept : (p : ℕ → Bool) (x k a : ℕ) → slice_get (filter p (range_with_len a k)) 0 ≡ Some x → (p x ≡ true) × ((i : ℕ) → a ≤ i → i < x → p i ≡ false)
first_kept p x zero a is = let z : ◌≡◌ {A = ℕ} 0 1 = cc in absurd (omega arith)
first_kept p x (suc k) a is = go (first_kept p x k (a + 1)) (cases_Bool (p a))
  where
    go : (slice_get (filter p (range_with_len (a + 1) k)) 0 ≡ Some x → (p x ≡ true) × ((i : ℕ) → a + 1 ≤ i → i < x → p i ≡ false)) → (p a ≡ true) ⊎ (p a ≡ false) → (p x ≡ true) × ((i : ℕ) → a ≤ i → i < x → p i ≡ false)
    go rest (inl e) =
        let here : a ≡ x = some_same (rw e at is) in
        (ap p (sym here) ∙ e, λ i from before. absurd (omega arith))
    go rest (inr e) =
        let found = rest (rw e at is) in
        (found.0, λ i from before. ⊎_elim (λ at_a. ap p at_a ∙ e) (λ past. found.1 i past before) (start i from))
      where
        start : (i : ℕ) → a ≤ i → (i ≡ a) ⊎ (a + 1 ≤ i)
        start i from = ⊎_elim inl (λ other. inr (omega arith)) (cases_eq i a)

none_kept : (p : ℕ → Bool) (k a : ℕ) → ((i : ℕ) → p i ≡ false) → filter p (range_with_len a k) ≡ []
none_kept p zero a none = refl
none_kept p (suc k) a none = rw (none a) (none_kept p k (a + 1) none)

-- ---- the bits of a word that are set

above_all : (n : ℕ) → above n 0 ≡ n
unfolding above
above_all n = omega arith

pub count_is : (word : ℕ) → word < 2 ^ 32 → length (set_bits word) ≡ ones word
unfolding set_bits
count_is word small = counted 32 0 word (rw above_all small) ∙ ap ones (above_all word)

pub lowest_is : (word : ℕ) → word < 2 ^ 32 → 0 < word → slice_get (set_bits word) 0 ≡ Some (count_trailing_zeros 32 word)
unfolding set_bits
lowest_is word small some =
    let whole = above_all word in
    first 32 0 word (rw above_all small) (rw above_all some) ∙ ap Some (omega (arith, ap (count_trailing_zeros 32) whole))

pub lowest_told : (word x : ℕ) → slice_get (set_bits word) 0 ≡ Some x → (bit word x ≡ true) × ((i : ℕ) → i < x → bit word i ≡ false)
unfolding set_bits
lowest_told word x is = let found = first_kept (bit word) x 32 0 is in (found.0, λ i before. found.1 i (omega arith) before)

pub no_bits : (word : ℕ) → ((i : ℕ) → bit word i ≡ false) → set_bits word ≡ []
unfolding set_bits
no_bits word none = none_kept (bit word) 32 0 none

-- ---- a set's members

pub none_is : (s : NodeSet) → s.bits ≡ 0 → s ≡ no_nodes
none_is s none = same_members s no_nodes (λ i. ap (λ n. bit n i) none)

-- t is s without its lowest member
pub lowest_out : (s t : NodeSet) (x : ℕ) → ((i : ℕ) → has t i ≡ (has s i && not (eqb i x))) → slice_get (members s) 0 ≡ Some x → members s ≡ x ∷ members t
unfolding set_bits
lowest_out s t x less is = first_out (has s) (has t) x less 32 0 is

pub members_all : (s : NodeSet) → AllByRecursion (λ i. has s i ≡ true) (members s)
unfolding set_bits
members_all s = kept_by_passes (has s) (range_with_len 0 32)

-- a member is below 32
pub member_below : (s : NodeSet) (i : ℕ) → has s i ≡ true → i < 32
member_below s i is = ⊎_elim (λ below. below) (λ past. absurd (both_ways (has s i) (bit_past 32 i s.bits s.word past) is)) (cases_lt i 32)

kept_has : (p : ℕ → Bool) (x k a : ℕ) → a ≤ x → x < a + k → p x ≡ true → ContainsAt (filter p (range_with_len a k)) x
kept_has p x zero a from until is = absurd (omega arith)
kept_has p x (suc k) a from until is = go (λ past. kept_has p x k (a + 1) past (omega arith) is) (cases_eq x a) (cases_Bool (p a))
  where
    go : (a + 1 ≤ x → ContainsAt (filter p (range_with_len (a + 1) k)) x) → (x ≡ a) ⊎ (x ≡ a → ⊥) → (p a ≡ true) ⊎ (p a ≡ false) → ContainsAt (filter p (range_with_len a (suc k))) x
    go rest (inl here) (inl e) = rw e (0, omega arith, λ d. sym here)
    go rest (inl here) (inr e) = absurd (both_ways (p x) (ap p here ∙ e) is)
    go rest (inr other) (inl e) = let h = rest (omega arith) in rw e (suc h.0, suc-le-suc h.1, h.2)
    go rest (inr other) (inr e) = rw e (rest (omega arith))

pub members_have : (s : NodeSet) (i : ℕ) → has s i ≡ true → ContainsAt (members s) i
unfolding set_bits
members_have s i is = kept_has (has s) i 32 0 (omega arith) (omega (arith, member_below s i is)) is

-- ---- how many members

pub size_most : (s : NodeSet) → length (members s) ≤ 32
size_most s = rw (count_is s.bits s.word) (ones-le 32 s.bits s.word)

kept_apart : (p q r : ℕ → Bool) (xs : List ℕ) → ((i : ℕ) → r i ≡ (p i || q i)) → ((i : ℕ) → p i ≡ true → q i ≡ false) → length (filter r xs) ≡ length (filter p xs) + length (filter q xs)
kept_apart p q r [] joins apart = refl
kept_apart p q r (x ∷ xs) joins apart = go (kept_apart p q r xs joins apart) (cases_Bool (p x)) (cases_Bool (q x))
  where
    go : length (filter r xs) ≡ length (filter p xs) + length (filter q xs) → (p x ≡ true) ⊎ (p x ≡ false) → (q x ≡ true) ⊎ (q x ≡ false) → length (filter r (x ∷ xs)) ≡ length (filter p (x ∷ xs)) + length (filter q (x ∷ xs))
    go rest (inl in_p) (inl in_q) = absurd (both_ways (q x) (apart x in_p) in_q)
    go rest (inl in_p) (inr not_q) = let in_r : r x ≡ true = joins x ∙ grind (arith, nat_tests) in rw (in_p, not_q, in_r) (omega arith)
    go rest (inr not_p) (inl in_q) = let in_r : r x ≡ true = joins x ∙ grind (arith, nat_tests) in rw (not_p, in_q, in_r) (omega arith)
    go rest (inr not_p) (inr not_q) = let not_r : r x ≡ false = joins x ∙ grind (arith, nat_tests) in rw (not_p, not_q, not_r) (omega arith)

-- t has the members of r and s, which have none in common
pub size_apart : (r s t : NodeSet) → ((i : ℕ) → has t i ≡ (has r i || has s i)) → ((i : ℕ) → has r i ≡ true → has s i ≡ false) → length (members t) ≡ length (members r) + length (members s)
unfolding set_bits
size_apart r s t joins apart = kept_apart (has r) (has s) (has t) (range_with_len 0 32) joins apart

kept_one : (x k a : ℕ) → length (filter (λ i. eqb i x) (range_with_len a k)) ≡ cond (leb a x && ltb x (a + k)) 1 0
kept_one x zero a = grind (arith, nat_tests)
kept_one x (suc k) a = go (kept_one x k (a + 1)) (cases_eq a x)
  where
    go : length (filter (λ i. eqb i x) (range_with_len (a + 1) k)) ≡ cond (leb (a + 1) x && ltb x (a + 1 + k)) 1 0 → (a ≡ x) ⊎ (a ≡ x → ⊥) → length (filter (λ i. eqb i x) (range_with_len a (suc k))) ≡ cond (leb a x && ltb x (a + suc k)) 1 0
    go rest (inl here) = rw (eq-eqb a x here) (grind (arith, nat_tests))
    go rest (inr other) = rw (ne_eqb a x other) (grind (arith, nat_tests))

-- t has one member more than s
pub size_more : (s t : NodeSet) (x : ℕ) → x < 32 → has s x ≡ false → ((i : ℕ) → has t i ≡ (has s i || eqb i x)) → length (members t) ≡ length (members s) + 1
unfolding set_bits
size_more s t x within absent joins =
    kept_apart (has s) (λ i. eqb i x) (has t) (range_with_len 0 32) joins (λ i is. ne_eqb i x (λ e. both_ways (has s x) absent (ap (has s) (sym e) ∙ is))) ∙ ap (λ n. length (filter (has s) (range_with_len 0 32)) + n) (kept_one x 32 0 ∙ grind (arith, nat_tests))
