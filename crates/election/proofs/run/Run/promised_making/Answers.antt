use Rattle.election.proofs.Promised.{makes_keep}
use Rattle.election.proofs.run.Run.promised_making.Goals as goal

pub returns-clause-promise : goal.returns-clause-promise
returns-clause-promise g c =
    makes_keep g.met.W.Wave.laws g.met.K.KeyOrder.ordered g.met.T.Holding.semilattice c.args.network.now c.args.keys.now c.args.own.now c.args.running.now c.args.transit.now c.take_making.result c.take_making.new.running c.take_making.new.transit c.take_making.ensures.made
