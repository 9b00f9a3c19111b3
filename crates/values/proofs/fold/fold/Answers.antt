use Rattle.std.proofs.Common.{arith}
use Rattle.std.proofs.lemmas.Grind.{common_steps}
use Rattle.values.proofs.Folds.{fold_laws}
use Rattle.values.proofs.fold.fold.Goals as goal

pub returns-in_err-first-clause-laws : goal.returns-in_err-first-clause-laws
returns-in_err-first-clause-laws g c = fold_laws g.met.T.Holding.semilattice c.args.own.now _ (grind (arith, common_steps))

pub returns-clause-laws : goal.returns-clause-laws
returns-clause-laws g c = fold_laws g.met.T.Holding.semilattice c.args.own.now _ (grind (arith, common_steps))
