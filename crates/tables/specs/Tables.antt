-- What the tables have of the nodes. Assumes nothing.
use Rattle.std.specs.Prelude.{ℕ, ◌+◌, Some, None, Option, slice_index, slice_index_or, slice_set}
use Rattle.base.specs.NodeSets.{size}
use Rattle.wave.specs.declared.step.Record.{Record}
use Rattle.wave.specs.declared.step.Step.{Step}
use Rattle.tables.specs.declared.standing.Joined.{Joined}
use Rattle.tables.specs.Ledgers.{nothing_sent, puts_out}
use Rattle.tables.specs.declared.event.Event.{Event}
use Rattle.tables.specs.declared.ledger.Account.{Account}
use Rattle.tables.specs.declared.row.Row.{Row}
use Rattle.tables.specs.declared.tables.Tables.{Tables}

-- how many messages a step sends
abbrev pub sends : Step → ℕ
sends step = size step.first_kind + size step.second_kind

abbrev pub asleep : Row
asleep = record { joined = None }

abbrev pub standing_in : ℕ → Record → Row
standing_in wave kept = record { joined = Some (record { wave = wave; kept = kept }) }

abbrev pub row_of : Tables → ℕ → Row
row_of tables node = slice_index_or tables.rows node asleep

-- where a node stands; none while it is asleep
abbrev pub standing_of : Tables → ℕ → Option Joined
standing_of tables node = (row_of tables node).joined

abbrev pub rank_in : Tables → ℕ → ℕ
rank_in tables node = slice_index tables.ranks node

-- what the ledger has of a starter
abbrev pub account_of : Tables → ℕ → Account
account_of tables starter = slice_index_or tables.ledger starter nothing_sent

-- ---- one row and one account change at most

abbrev pub moved : {T : Type 0} → Tables → (Account → ℕ → Account) → Event T → Tables
moved tables counted e = record {
  network = tables.network;
  ranks = tables.ranks;
  rows = slice_set tables.rows e.node (standing_in e.starter e.step.kept);
  ledger = slice_set tables.ledger e.starter (counted (account_of tables e.starter) (sends e.step));
}

abbrev pub put_out_in : Tables → ℕ → Tables
put_out_in tables starter = record { network = tables.network; ranks = tables.ranks; rows = tables.rows; ledger = slice_set tables.ledger starter (puts_out (account_of tables starter)) }
