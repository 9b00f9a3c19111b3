-- The bases of digits. Assumes nothing.
use Rattle.std.specs.Prelude.{ℕ}
use Rattle.values.specs.declared.digits.Base.{Base}
use Rattle.values.specs.declared.digits.Base.TheVariants.{Decimal, Hexadecimal}

-- how many digits a base has
abbrev pub radix : Base → ℕ
radix Decimal = 10
radix Hexadecimal = 16
