-- The checks of a call, each with its refusal. Assumes nothing.
use Rattle.std.specs.Prelude.{ℕ, cond, ◌&&◌, Some, None, Ok, Err, Option, Result, ◌==◌, nat_le, nat_lt}
use Rattle.base.specs.declared.refusal.Refusal.{Refusal}
use Rattle.base.specs.declared.refusal.Refusal.TheVariants.{ForeignMessage, NoFreePlace, NoSuchNode, NotAsleep, NotOneEach}
use Rattle.tables.specs.declared.message.Message.{Message}
use Rattle.tables.specs.declared.standing.Joined.{Joined}
use Rattle.tables.specs.Events.{belongs}
use Rattle.tables.specs.declared.tables.Tables.{Tables}

-- passed, or refused
abbrev pub Checked : Type 0
Checked = Result (Unit {0}) Refusal

abbrev pub one_each_else : ℕ → ℕ → ℕ → Checked
one_each_else nodes own running = cond (own == nodes && running == nodes) (Ok tt) (Err NotOneEach)

abbrev pub node_else : ℕ → ℕ → Checked
node_else nodes node = cond (nat_lt node nodes) (Ok tt) (Err NoSuchNode)

abbrev pub asleep_else : Option Joined → Checked
asleep_else None = Ok tt
asleep_else (Some _) = Err NotAsleep

abbrev pub enough_else : ℕ → ℕ → Checked
enough_else free sent = cond (nat_le sent free) (Ok tt) (Err NoFreePlace)

abbrev pub ours_else : {T : Type 0} → Tables → Message T → Checked
ours_else tables m = cond (belongs tables m) (Ok tt) (Err ForeignMessage)
