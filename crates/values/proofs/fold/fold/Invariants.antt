use Rattle.std.proofs.Common.{◌≡◌, take, fold}
use Rattle.values.proofs.fold.fold.Given as goal

abbrev pub invariant-loop-next : goal.invariant-loop-next
invariant-loop-next g l = l.all ≡ fold g.T.Holding.meet l.initial.all (take l.next-index l.rest)
