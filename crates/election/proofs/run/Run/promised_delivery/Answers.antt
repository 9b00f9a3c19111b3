use Rattle.tables.specs.Calls.{state}
use Rattle.election.proofs.Promised.{delivery_keeps}
use Rattle.election.proofs.run.Run.promised_delivery.Goals as goal

pub returns-clause-promise : goal.returns-clause-promise
returns-clause-promise g c =
    let before = state c.args.self.now.tables c.args.transit.now c.args.own.now c.args.running.now in
    let after = state c.deliver_apart.new.self c.deliver_apart.new.transit c.args.own.now c.deliver_apart.new.running in
    let step = c.deliver_apart.ensures.step in
    delivery_keeps g.met.W.Wave.laws g.met.K.KeyOrder.ordered g.met.T.Holding.semilattice before c.args.place c.deliver_apart.result after step
