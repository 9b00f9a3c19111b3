use Rattle.std.proofs.Common.{length}
use Rattle.values.proofs.digits.+fill.Given as goal

abbrev pub decreases-fill : goal.decreases-fill
decreases-fill g l = length l.places.now
