-- A delivery from where its message is out of the transit. Assumes nothing.
use Rattle.std.specs.Prelude.{◌+◌, ◌<◌, ◌≤◌, length, Some, None, Option}
use Rattle.base.specs.Bags.{room}
use Rattle.tables.specs.Tables.{sends}
use Rattle.tables.specs.declared.event.Event.{Event}
use Rattle.tables.specs.declared.stores.LentStores.{LentStores}
use Rattle.tables.specs.declared.tables.planning.Plan.{Plan}

module _ {T : Type 0} where
  -- the tables and the stores have a row for the event, and there are places for its messages
  abbrev pub ReadyFor : LentStores T → Option (Event T) → Type 0
  ReadyFor stores None = Unit {0}
  ReadyFor stores (Some e) = (e.node < 32) × (e.node < length stores.running.now) × (e.starter < 32) × (stores.transit.now.count + sends e.step ≤ room stores.transit.now)

  abbrev pub Ready : LentStores T → Plan T → Type 0
  Ready stores plan = (plan.message.starter < 32) × ReadyFor stores plan.event
