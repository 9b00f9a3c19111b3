use Rattle.std.proofs.Common.{◌≡◌}
use Rattle.values.proofs.Ranks.{filled}
use Rattle.values.proofs.rank.rank_keys.Given as goal

abbrev pub invariant-loop-i : goal.invariant-loop-i
invariant-loop-i g l = l.ranks ≡ filled g.K.KeyOrder.precedes l.keys l.i
