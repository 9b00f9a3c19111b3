use Rattle.values.specs.Ranks.{Apart}
use Rattle.values.proofs.rank.any_equal.Given as goal

abbrev pub invariant-loop-place : goal.invariant-loop-place
invariant-loop-place g l = Apart l.fn.keys l.place
