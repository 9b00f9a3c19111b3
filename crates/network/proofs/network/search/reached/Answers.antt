use Rattle.std.proofs.Common.{◌≡◌, length, ap, ◌∙◌, arith}
use Rattle.base.proofs.Members.{member_below}
use Rattle.base.proofs.Places.{put_into}
use Rattle.network.specs.Paths.{adjacent}
use Rattle.network.proofs.Waiting.{Turn, begins, ends, falls, room_enough, taken_seen, turn, turn_of}
use Rattle.std.proofs.lemmas.Bool.{lt-ltb}
use Rattle.std.proofs.lemmas.Bool.Decides.{nat_tests}
use Rattle.network.proofs.network.search.reached.Goals as goal

pub loop-node-init : goal.loop-node-init
loop-node-init c =
    let empty = c.over-waiting.result in
    let none = c.over-waiting.ensures.count in
    let rows : length empty.places.now ≡ 32 = ap length c.over-waiting.ensures.places in
    let put = put_into empty c.put.new.self c.put.result c.args.from c.put.ensures.answer c.put.ensures.after (omega arith) in
    let node = lt-ltb c.args.from 32 c.requires.node in
    begins empty c.put.new.self c.only-seen.result rows none put (λ i. c.only-seen.ensures.members i ∙ grind (arith, nat_tests))

-- a node that waits was seen, and is a node
pub bounds-table-node : goal.bounds-table-node
bounds-table-node c =
    let seen = c.loop-node.seen in
    let node = c.in-Ok.node in
    member_below seen node (taken_seen c.loop-node.waiting c.take.new.self seen node c.loop-node.invariant c.in-Ok.ensures.others)

pub listed : goal.listed
listed c = omega (arith, bounds-table-node c, c.told-table)

pub put_all-requires : goal.put_all-requires
put_all-requires c =
    let t = turn_of c.args.table.now c.args.from c.loop-node.waiting c.take.new.self c.loop-node.seen c.index-table-node.result c.minus-fresh.result c.union-seen.result c.in-Ok.node c.told-table c.loop-node.invariant c.in-Ok.ensures.others c.in-Ok.ensures.after.places c.minus-fresh.ensures.members c.union-seen.ensures.members in
    record { fits = room_enough c.loop-node.invariant t }

this_turn : (c : goal.After-put_all) → Turn (adjacent c.args.table.now) c.loop-node.waiting c.take.new.self c.loop-node.seen c.minus-fresh.result c.union-seen.result c.in-Ok.node
this_turn c = turn_of c.args.table.now c.args.from c.loop-node.waiting c.take.new.self c.loop-node.seen c.index-table-node.result c.minus-fresh.result c.union-seen.result c.in-Ok.node c.told-table c.loop-node.invariant c.in-Ok.ensures.others c.in-Ok.ensures.after.places c.minus-fresh.ensures.members c.union-seen.ensures.members

pub loop-node-smaller : goal.loop-node-smaller
loop-node-smaller c = falls c.loop-node.invariant (this_turn c) c.put_all.new.waiting c.put_all.ensures.after

pub loop-node-preserved : goal.loop-node-preserved
loop-node-preserved c = turn c.loop-node.invariant (this_turn c) c.put_all.new.waiting c.put_all.ensures.after

pub returns-clause-whole : goal.returns-clause-whole
returns-clause-whole c = ends c.loop-node.waiting c.loop-node.seen c.loop-node.invariant (omega (arith, c.in_default.ensures.answer.0))
