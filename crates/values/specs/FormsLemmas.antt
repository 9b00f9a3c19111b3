-- The digits of numbers in any base, and the forms made of them. Assumes nothing.
use Rattle.std.specs.Prelude.{◌≡◌, ℕ, zero, suc, ◌+◌, ◌-◌, ◌*◌, ◌/◌, ◌%◌, ◌^◌, ◌<◌, ◌≤◌, List, [], ◌∷◌, ◌++◌, length, take, drop, slice_set, refl}
use Rattle.std.proofs.Common.{sym, ap, ◌∙◌, pow-suc, arith}
use Rattle.std.proofs.Math.Nat.{pow-zero}
use Rattle.std.proofs.lemmas.Nat.{div-add-mod', div_below, mod_below}
use Rattle.std.proofs.lemmas.List.{append_assoc, append-nil, drop_all, drop_at, drop-set, length-append, length_push, same_from_push, take_at}
use Rattle.std.proofs.lemmas.Bool.Decides.{nat_tests}
use Rattle.values.specs.Forms.{Forms, device_form, digit, digits, inventory_form, least_form, number_form, slash}
use Rattle.values.specs.declared.device.Device.{Device}
use Rattle.values.specs.declared.inventory.Inventory.{Inventory}
use Rattle.values.specs.Parts.{same_device, same_inventory, same_least, same_number}

-- ---- digits

pub length_digits : (base width n : ℕ) → length (digits base width n) ≡ width
unfolding digits
length_digits base zero n = refl
length_digits base (suc width) n = length_push (digits base width (n / base)) (digit (n % base)) ∙ omega (arith, length_digits base width (n / base))

-- ---- digits as they are written, the last one behind the others

pub no_digits : (base width n : ℕ) → width ≡ 0 → digits base width n ≡ []
unfolding digits
no_digits base zero n none = refl
no_digits base (suc width) n none = absurd (omega arith)

pub digits_last : (base width n : ℕ) → 0 < width → digits base width n ≡ digits base (width - 1) (n / base) ++ digit (n % base) ∷ []
unfolding digits
digits_last base zero n some = absurd (omega arith)
digits_last base (suc width) n some =
    let less : width ≡ suc width - 1 = omega arith in
    ap (λ w. digits base w (n / base) ++ digit (n % base) ∷ []) less

-- ---- digits written over places, from the last on

pub digits_none : (base n : ℕ) (places : List ℕ) → digits base (length places) n ≡ digits base (length places) n ++ drop (length places) places
digits_none base n places = sym (ap (λ l. digits base (length places) n ++ l) (drop_all (length places) places (omega arith)) ∙ append-nil (digits base (length places) n))

pub digits_more : (base i n : ℕ) (places : List ℕ) → 0 < i → i ≤ length places → digits base i n ++ drop i places ≡ digits base (i - 1) (n / base) ++ drop (i - 1) (slice_set places (i - 1) (digit (n % base)))
unfolding digits
digits_more base zero n places some fits = absurd (omega arith)
digits_more base (suc i) n places some fits =
    let front = digits base i (n / base) in
    let d = digit (n % base) in
    let less : suc i - 1 ≡ i = omega arith in
    let more : i + 1 ≡ suc i = omega arith in
    append_assoc front (d ∷ []) (drop (suc i) places) ∙ ap (λ l. front ++ l) (sym (drop-set places i d (omega arith) ∙ ap (λ k. d ∷ drop k places) more)) ∙ ap (λ k. digits base k (n / base) ++ drop k (slice_set places k d)) (sym less)

pub digits_all : (base i n : ℕ) (places : List ℕ) → i ≤ 0 → digits base i n ++ drop i places ≡ places
unfolding digits
digits_all base zero n places done = refl
digits_all base (suc i) n places done = absurd (omega arith)

-- ---- the number behind its digits

digit_only : (c d : ℕ) → c < 16 → d < 16 → digit c ≡ digit d → c ≡ d
digit_only c d small_c small_d e = grind (arith, nat_tests)

-- numbers that fit the width have the same digits only where they are the same
pub digits_only : (base : ℕ) → 2 ≤ base → base ≤ 16 → (width m n : ℕ) → m < base ^ width → n < base ^ width → digits base width m ≡ digits base width n → m ≡ n
unfolding digits
digits_only base two most zero m n small_m small_n e = let one = pow-zero base in omega arith
digits_only base two most (suc width) m n small_m small_n e =
    let parts = same_from_push (digits base width (m / base)) (digits base width (n / base)) (digit (m % base)) (digit (n % base)) e in
    let power = pow-suc base width in
    let fronts = digits_only base two most width (m / base) (n / base) (div_below m base (base ^ width) (omega arith) (rw power at small_m)) (div_below n base (base ^ width) (omega arith) (rw power at small_n)) parts.0 in
    let last = digit_only (m % base) (n % base) (omega (arith, mod_below m base (omega arith))) (omega (arith, mod_below n base (omega arith))) parts.1 in
    sym (div-add-mod' m base) ∙ ap (λ q. q * base + m % base) fronts ∙ ap (λ r. n / base * base + r) last ∙ div-add-mod' n base

pub decimal_only : (width m n : ℕ) → m < 10 ^ width → n < 10 ^ width → digits 10 width m ≡ digits 10 width n → m ≡ n
decimal_only = digits_only 10 (omega arith) (omega arith)

-- ---- forms of several parts

-- parts of the same length are the same
pub same_parts : (n : ℕ) (xs xs' ys ys' : List ℕ) → length xs ≡ n → length xs' ≡ n → xs ++ ys ≡ xs' ++ ys' → (xs ≡ xs') × (ys ≡ ys')
same_parts n xs xs' ys ys' long long' e =
    (sym (take_at xs ys n long) ∙ ap (take n) e ∙ take_at xs' ys' n long', sym (drop_at xs ys n long) ∙ ap (drop n) e ∙ drop_at xs' ys' n long')

-- ---- the kinds

-- a kind that is one word of 32 bits
word_forms : {T : Type 0} (value : T → ℕ) → ((x : T) → value x < 2 ^ 32) → ((x y : T) → value x ≡ value y → x ≡ y) → Forms 10 (λ x. digits 10 10 (value x))
word_forms value word same = record {
  some = omega arith;
  most = omega arith;
  wide = λ x. length_digits 10 10 (value x);
  only = λ x y e. same x y (decimal_only 10 (value x) (value y) (omega (arith, word x)) (omega (arith, word y)) e);
}

pub number_forms : Forms 10 number_form
number_forms = word_forms (λ x. x.value) (λ x. x.word) same_number

pub least_forms : Forms 10 least_form
least_forms = word_forms (λ x. x.value) (λ x. x.word) same_least

-- digits and a slash before the rest
part : (base width m n : ℕ) (xs ys : List ℕ) → digits base width m ++ slash ++ xs ≡ digits base width n ++ slash ++ ys → (digits base width m ≡ digits base width n) × (xs ≡ ys)
part base width m n xs ys e =
    let long : (k : ℕ) → length (digits base width k ++ slash) ≡ width + 1 = λ k. length_push (digits base width k) 47 ∙ ap (λ w. w + 1) (length_digits base width k) in
    let parts = same_parts (width + 1) (digits base width m ++ slash) (digits base width n ++ slash) xs ys (long m) (long n) e in
    ((same_from_push (digits base width m) (digits base width n) 47 47 parts.0).0, parts.1)

length_part : (base width n : ℕ) (xs : List ℕ) → length (digits base width n ++ slash ++ xs) ≡ width + 1 + length xs
length_part base width n xs = length-append (digits base width n ++ slash) xs ∙ ap (λ w. w + length xs) (length_push (digits base width n) 47 ∙ ap (λ w. w + 1) (length_digits base width n))

device_only : (x y : Device) → device_form x ≡ device_form y → x ≡ y
device_only x y e =
    let parts = part 10 2 x.class y.class (digits 10 5 x.number) (digits 10 5 y.number) e in
    same_device x y (decimal_only 2 x.class y.class (omega (arith, x.known)) (omega (arith, y.known)) parts.0) (decimal_only 5 x.number y.number (omega (arith, x.word)) (omega (arith, y.word)) parts.1)

pub device_forms : Forms 8 device_form
device_forms = record {
  some = omega arith;
  most = omega arith;
  wide = λ x. length_part 10 2 x.class (digits 10 5 x.number) ∙ omega (arith, length_digits 10 5 x.number);
  only = device_only;
}

-- an inventory's form, with what stands behind the firmware as one part
behind : Inventory → List ℕ
behind x = digits 16 4 x.services ++ slash ++ digits 10 5 x.delay

in_two : (x : Inventory) → inventory_form x ≡ digits 10 5 x.firmware ++ slash ++ behind x
unfolding behind
in_two x = simp append_assoc

inventory_only : (x y : Inventory) → inventory_form x ≡ inventory_form y → x ≡ y
unfolding behind
inventory_only x y e =
    let first = part 10 5 x.firmware y.firmware (behind x) (behind y) (sym (in_two x) ∙ e ∙ in_two y) in
    let second = part 16 4 x.services y.services (digits 10 5 x.delay) (digits 10 5 y.delay) first.1 in
    same_inventory
    x
    y
    (decimal_only 5 x.firmware y.firmware (omega (arith, x.words.0)) (omega (arith, y.words.0)) first.0)
    (digits_only 16 (omega arith) (omega arith) 4 x.services y.services x.words.1 y.words.1 second.0)
    (decimal_only 5 x.delay y.delay (omega (arith, x.words.2)) (omega (arith, y.words.2)) second.1)

inventory_wide : (x : Inventory) → length (inventory_form x) ≡ 16
unfolding behind
inventory_wide x = ap length (in_two x) ∙ length_part 10 5 x.firmware (behind x) ∙ omega (arith, length_part 16 4 x.services (digits 10 5 x.delay), length_digits 10 5 x.delay)

pub inventory_forms : Forms 16 inventory_form
inventory_forms = record { some = omega arith; most = omega arith; wide = inventory_wide; only = inventory_only }
