use Rattle.std.proofs.Common.{map}
use Rattle.base.specs.NodeSets.{members}
use Rattle.base.proofs.Places.{put_on}
use Rattle.wave.specs.Kinds.{number_of}
use Rattle.tables.specs.Messages.{message_to}
use Rattle.tables.proofs.tables.sending.send_both.Goals as goal

pub returns : goal.returns
returns g c =
    let start = c.args.transit.now in
    let e = c.args.event.now in
    let write = message_to e.starter e.node (number_of c.args.kind) e.holding in
    let more = message_to e.starter e.node (number_of c.args.other) e.holding in
    record { after = put_on start c.send_kind.new.transit (map write (members c.args.first)) c.send_kind.ensures.after c.send_kind-2.new.transit (map more (members c.args.second)) c.send_kind-2.ensures.after }
