-- Numbers as keys. Assumes nothing.
use Rattle.std.specs.Prelude.{Bool, ◌==◌, nat_lt}
use Rattle.values.specs.declared.number.Number.{Number}

-- the smaller is before
abbrev pub number_before : Number → Number → Bool
number_before a b = nat_lt a.value b.value

abbrev pub number_matches : Number → Number → Bool
number_matches a b = a.value == b.value
