-- Least holdings. Assumes nothing.
use Rattle.std.specs.Prelude.{if◌then◌else◌, nat_lt}
use Rattle.values.specs.declared.least.Least.{Least}

-- the smaller of two
abbrev pub smaller : Least → Least → Least
smaller a b = if nat_lt b.value a.value then b else a
