use Rattle.std.proofs.Common.{◌+◌, ◌-◌, ◌*◌}
use Rattle.base.specs.NodeSets.{size}
use Rattle.network.specs.Paths.{adjacent}
use Rattle.network.proofs.Waiting.{Searching}
use Rattle.network.proofs.network.search.reached.Given as goal

abbrev pub invariant-loop-node : goal.invariant-loop-node
invariant-loop-node l = Searching (adjacent l.table) l.from l.waiting l.seen

-- a node that is taken out is one less, and each that is seen for the first time brings one more to wait
abbrev pub decreases-loop-node : goal.decreases-loop-node
decreases-loop-node l = l.waiting.count + 2 * (32 - size l.seen)
