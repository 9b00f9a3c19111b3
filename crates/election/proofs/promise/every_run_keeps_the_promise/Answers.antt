use Rattle.election.proofs.Promised.{promised}
use Rattle.election.proofs.promise.every_run_keeps_the_promise.Goals as goal

pub returns : goal.returns
returns g c =
    record { promise = promised g.met.W.Wave.laws g.met.K.KeyOrder.ordered g.met.T.Holding.semilattice }
