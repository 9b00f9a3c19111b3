-- What the workers of a call meet and leave. Assumes nothing.
use Rattle.tables.specs.Calls.{State, state}
use Rattle.tables.specs.declared.stores.LentStores.{LentStores}
use Rattle.tables.specs.declared.tables.Tables.{Tables}

-- the state of the tables and of the stores that are lent to a worker
abbrev pub stand_lent : {T : Type 0} → Tables → LentStores T → State T
stand_lent tables stores = state tables stores.transit.now stores.own.now stores.running.now
