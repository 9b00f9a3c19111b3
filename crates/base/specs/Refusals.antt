-- The number of each refusal. Assumes nothing.
use Rattle.std.specs.Prelude.{ℕ}
use Rattle.base.specs.declared.refusal.Refusal.{Refusal}
use Rattle.base.specs.declared.refusal.Refusal.TheVariants.{MarkNotDue, Truncated, CountOutOfRange, UnknownKind, ClassOutOfRange, FileTooLong, EndsOutOfOrder, LinkRepeated, NoPath, NotAdmitted, EqualKeys, NotOneEach, NoSuchNode, NotAsleep, NoSuchPlace, ForeignMessage, NoFreePlace, DoesNotFit}

abbrev pub number_of : Refusal → ℕ
number_of MarkNotDue = 11
number_of Truncated = 12
number_of CountOutOfRange = 13
number_of UnknownKind = 14
number_of ClassOutOfRange = 15
number_of FileTooLong = 16
number_of EndsOutOfOrder = 21
number_of LinkRepeated = 22
number_of NoPath = 23
number_of NotAdmitted = 31
number_of EqualKeys = 32
number_of NotOneEach = 33
number_of NoSuchNode = 41
number_of NotAsleep = 42
number_of NoSuchPlace = 43
number_of ForeignMessage = 44
number_of NoFreePlace = 45
number_of DoesNotFit = 51
