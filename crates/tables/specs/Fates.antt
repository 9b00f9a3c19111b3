-- What becomes of a message at its receiver. Assumes nothing.
use Rattle.std.specs.Prelude.{ℕ, cond, Some, None, Option, ◌==◌, nat_lt}
use Rattle.tables.specs.declared.standing.Fate.{Fate}
use Rattle.tables.specs.declared.standing.Fate.TheVariants.{Joins, Stays, GoesOut}
use Rattle.tables.specs.declared.standing.Joined.{Joined}

-- the fate of a message of the wave of s, by where its receiver stands: a node that is asleep or in a worse wave joins
abbrev pub fate : (ℕ → ℕ) → Option Joined → ℕ → Fate
fate rank None s = Joins
fate rank (Some j) s = cond (nat_lt (rank s) (rank j.wave)) Joins (cond (s == j.wave) (Stays j.kept) GoesOut)
