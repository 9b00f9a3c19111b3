-- What a question about holdings answers. Assumes nothing.
use Rattle.std.specs.Prelude.{◌≡◌, ℕ, List, length, Ok, Err, Result, slice_index_or}
use Rattle.base.specs.declared.refusal.Refusal.{Refusal}
use Rattle.tables.specs.Calls.{passing}
use Rattle.tables.specs.Checks.{Checked, node_else, one_each_else}
use Rattle.tables.specs.declared.answer.Holdings.{Holdings}
use Rattle.tables.specs.declared.tables.Tables.{Tables}

module _ {T : Type 0} (tables : Tables) (own running : List T) (node : ℕ) where
  abbrev pub holdings_check : Checked
  holdings_check = passing (one_each_else tables.network.nodes (length own) (length running)) (node_else tables.network.nodes node)

  abbrev pub TellsHoldings : Result (Holdings T) Refusal → Type 0
  TellsHoldings (Ok h) = (holdings_check ≡ Ok tt) × (h.own ≡ slice_index_or own node h.own) × (h.running ≡ slice_index_or running node h.running)
  TellsHoldings (Err why) = holdings_check ≡ Err why
