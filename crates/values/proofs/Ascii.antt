-- Digits are ASCII, and so they are text. Assumes nothing.
use Rattle.std.proofs.Common.{ℕ, zero, suc, ◌/◌, ◌%◌, ◌<◌, ◌≤◌, List, [], ◌∷◌, Ok, Err, Result, refl, arith}
use Rattle.std.proofs.lemmas.Bool.Decides.{nat_tests}
use Rattle.std.proofs.lemmas.Nat.{mod_below}
use Rattle.std.proofs.lemmas.Str.{IsAscii-append, IsUtf8-from_ascii}
use Rattle.std.proofs.lemmas.Str.Ascii.{IsAscii-nil}
use Rattle.std.specs.Str.{IsAscii, IsUtf8}
use Rattle.std.specs.Result.{IsOk, MatchResult}
use Rattle.values.specs.Bases.{radix}
use Rattle.values.specs.Forms.{digit, digits}
use Rattle.values.specs.declared.digits.Base.{Base}
use Rattle.values.specs.declared.digits.Base.TheVariants.{Decimal, Hexadecimal}

digit_ascii : (d : ℕ) → d < 16 → digit d < 128
digit_ascii d small = grind (arith, nat_tests)

one_ascii : (byte : ℕ) → byte < 128 → IsAscii (byte ∷ [])
one_ascii byte small zero = small
one_ascii byte small (suc i) = omega arith

digits_ascii : (base : ℕ) → 2 ≤ base → base ≤ 16 → (width n : ℕ) → IsAscii (digits base width n)
unfolding digits
digits_ascii base some most zero n = IsAscii-nil
digits_ascii base some most (suc width) n =
    IsAscii-append (digits base width (n / base)) (digit (n % base) ∷ []) (digits_ascii base some most width (n / base)) (one_ascii (digit (n % base)) (digit_ascii (n % base) (omega (arith, mod_below n base (omega arith)))))

pub radix_digits_ascii : (base : Base) (width n : ℕ) → IsAscii (digits (radix base) width n)
radix_digits_ascii Decimal = digits_ascii 10 (omega arith) (omega arith)
radix_digits_ascii Hexadecimal = digits_ascii 16 (omega arith) (omega arith)

-- who tells text from other bytes takes ASCII
pub told_text : {T E : Type 0} (r : Result T E) (bytes : List ℕ) (P : T → Type 0) (Q : E → Type 0) → MatchResult r P (λ e. ¬ (IsUtf8 bytes) × Q e) → IsAscii bytes → IsOk r
told_text (Ok x) bytes P Q told ascii = refl
told_text (Err e) bytes P Q told ascii = absurd (told.0 (IsUtf8-from_ascii bytes ascii))
