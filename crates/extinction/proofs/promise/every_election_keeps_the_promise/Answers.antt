use Rattle.extinction.proofs.Promised.{promised}
use Rattle.extinction.proofs.promise.every_election_keeps_the_promise.Goals as goal

pub returns : goal.returns
returns g c =
    record { promise = promised g.met.T.Holding.semilattice g.met.K.KeyOrder.ordered g.met.W.Wave.laws }
