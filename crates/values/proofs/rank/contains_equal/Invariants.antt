use Rattle.std.proofs.Common.{◌≡◌, ◌≤◌, false, length, take}
use Rattle.std.specs.List.{list_any}
use Rattle.values.proofs.rank.contains_equal.Given as goal

abbrev pub invariant-loop-other : goal.invariant-loop-other
invariant-loop-other g l = (l.other-index ≤ length l.keys) × (list_any (λ other. g.K.KeyOrder.matches other l.key) (take l.other-index l.keys) ≡ false)
