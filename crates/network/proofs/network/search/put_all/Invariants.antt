use Rattle.std.proofs.Common.{◌≡◌, ◌++◌}
use Rattle.base.specs.Bags.{Left, held}
use Rattle.base.specs.NodeSets.{members}
use Rattle.network.proofs.network.search.put_all.Given as goal

abbrev pub invariant-loop-node : goal.invariant-loop-node
invariant-loop-node l = Left l.initial.waiting l.waiting (held l.initial.waiting ++ l.yielded) × (members l.initial.node-iterator.rest ≡ l.yielded ++ members l.node-iterator.rest)
