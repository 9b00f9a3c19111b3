use Rattle.std.proofs.Common.{◌≡◌, ◌≤◌, length, take}
use Rattle.values.specs.Ranks.{rank_of}
use Rattle.values.proofs.rank.count_before.Given as goal

abbrev pub invariant-loop-other : goal.invariant-loop-other
invariant-loop-other g l = (l.other-index ≤ length l.keys) × (l.count ≡ rank_of g.K.KeyOrder.precedes (take l.other-index l.keys) l.key)
