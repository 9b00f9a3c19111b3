use Rattle.std.proofs.Common.{◌*◌, ◌≤◌, sym, subst, mul-le-mul_right, arith}
use Rattle.rules.specs.Sums.{total}
use Rattle.extinction.proofs.Promised.{promised}
use Rattle.extinction.proofs.allowance.times_bound.Goals as goal

pub returns-clause-enough : goal.returns-clause-enough
returns-clause-enough g c keys own d admits keyed distinct each e elects few =
    let kept = promised g.met.T.Holding.semilattice g.met.K.KeyOrder.ordered g.met.W.Wave.laws c.args.network.now keys own d admits keyed distinct each e elects in
    subst (λ k. total e.sent 32 ≤ c.args.starters * k) (sym c.bound.ensures.value) (omega (arith, kept.bounded, mul-le-mul_right (g.W.Wave.most c.args.network.now) few))
