-- The number of each kind of message. Assumes nothing.
use Rattle.std.specs.Prelude.{ℕ, Result, Ok, Err, cond, ◌==◌}
use Rattle.base.specs.declared.refusal.Refusal.{Refusal}
use Rattle.base.specs.declared.refusal.Refusal.TheVariants.{ForeignMessage}
use Rattle.wave.specs.declared.kind.Kind.{Kind}
use Rattle.wave.specs.declared.kind.Kind.TheVariants.{First, Second}

abbrev pub number_of : Kind → ℕ
number_of First = 1
number_of Second = 2

-- the kind with this number, or the refusal of a number that no kind has
abbrev pub kind_numbered : ℕ → Result Kind Refusal
kind_numbered n = cond (n == 1) (Ok First) (cond (n == 2) (Ok Second) (Err ForeignMessage))
