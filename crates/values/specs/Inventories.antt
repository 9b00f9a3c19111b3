-- Station inventories. Assumes nothing.
use Rattle.std.specs.Prelude.{ℕ, ◌%◌, ◌^◌, min, max, bit_and}
use Rattle.std.proofs.Common.{arith}
use Rattle.values.specs.declared.inventory.Inventory.{Inventory}

-- the inventory of three words; what passes 16 bits is cut off, so that there is one for any three numbers
unfoldable pub inventory_of : ℕ → ℕ → ℕ → Inventory
inventory_of firmware services delay = record {
  firmware = firmware % 2 ^ 16;
  services = services % 2 ^ 16;
  delay = delay % 2 ^ 16;
  words = (omega arith, omega arith, omega arith);
}

-- what holds of both: the smaller firmware, the services set in both, the larger delay
abbrev pub common : Inventory → Inventory → Inventory
common a b = inventory_of (min a.firmware b.firmware) (bit_and a.services b.services) (max a.delay b.delay)
