use Rattle.tables.specs.Calls.{state}
use Rattle.election.proofs.Promised.{start_keeps}
use Rattle.election.proofs.run.Run.promised_start.Goals as goal

pub returns-clause-promise : goal.returns-clause-promise
returns-clause-promise g c =
    let before = state c.args.self.now.tables c.args.transit.now c.args.own.now c.args.running.now in
    let after = state c.start_apart.new.self c.start_apart.new.transit c.args.own.now c.start_apart.new.running in
    let step = c.start_apart.ensures.step in
    start_keeps g.met.W.Wave.laws g.met.K.KeyOrder.ordered g.met.T.Holding.semilattice before c.args.node c.start_apart.result after step
