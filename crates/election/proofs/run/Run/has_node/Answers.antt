use Rattle.election.proofs.Promised.{stands}
use Rattle.election.proofs.run.Run.has_node.Goals as goal

pub returns-clause-promise : goal.returns-clause-promise
returns-clause-promise g c =
    stands g.met.W.Wave.laws g.met.K.KeyOrder.ordered g.met.T.Holding.semilattice c.args.self.now.tables
