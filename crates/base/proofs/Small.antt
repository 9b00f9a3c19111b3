-- Small facts of tests and options, most of them the library's by another name. Assumes nothing.
use Rattle.std.proofs.Common.{◌≡◌, Bool, true, ◌||◌, is_some, Some, None, Option, sym, refl}
use Rattle.std.proofs.Math.Bool.{or_assoc}
use Rattle.std.proofs.lemmas.Bool.{both_ways}
use Rattle.std.proofs.lemmas.Option.{same_Some}
pub use Rattle.std.proofs.Math.Bool.{and-true as and_true, and-false as and_false, and_comm as and_swap, or-false as or_false, or_comm as or_swap}
pub use Rattle.std.proofs.lemmas.Option.{none-some as none_some}

pub or_regroup : (a b c : Bool) → (a || (b || c)) ≡ ((a || b) || c)
or_regroup a b c = sym (or_assoc a b c)

pub some_same : {A : Type 0} {a b : A} → Some a ≡ Some b → a ≡ b
some_same {a} {b} e = same_Some a b e

pub known : {A : Type 0} (o : Option A) → is_some o ≡ true → (a : A) × (o ≡ Some a)
known None e = absurd (both_ways true (sym e) refl)
known (Some a) e = (a, refl)
