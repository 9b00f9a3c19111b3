use Rattle.std.proofs.Common.{◌≡◌, ◌++◌, map}
use Rattle.base.specs.Bags.{Left, held}
use Rattle.base.specs.NodeSets.{members}
use Rattle.wave.specs.Kinds.{number_of}
use Rattle.tables.specs.Messages.{message_to}
use Rattle.tables.proofs.tables.sending.send_kind.Given as goal

abbrev pub invariant-loop-receiver : goal.invariant-loop-receiver
invariant-loop-receiver g l = Left l.initial.transit l.transit (held l.initial.transit ++ map (message_to l.initial.event.starter l.initial.event.node (number_of l.initial.kind) l.initial.event.holding) l.yielded) × (members l.initial.receiver-iterator.rest ≡ l.yielded ++ members l.receiver-iterator.rest)
