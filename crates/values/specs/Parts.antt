-- Values of a kind are the same where their parts are. Assumes nothing.
use Rattle.std.specs.Prelude.{◌≡◌, ◌^◌, ◌<◌, ◌≤◌}
use mathlib.Core.HLevel.{is_prop→PathP}
use Rattle.std.proofs.Math.Bridge.{le_prop}
use Rattle.values.specs.declared.device.Device.{Device}
use Rattle.values.specs.declared.inventory.Inventory.{Inventory}
use Rattle.values.specs.declared.least.Least.{Least}
use Rattle.values.specs.declared.number.Number.{Number}

pub same_number : (a b : Number) → a.value ≡ b.value → a ≡ b
same_number a b e = λ i. record { value = e i; word = is_prop→PathP (λ j. e j < 2 ^ 32) (λ j. le_prop) a.word b.word i }

pub same_device : (a b : Device) → a.class ≡ b.class → a.number ≡ b.number → a ≡ b
same_device a b e f = λ i.
    record {
      class = e i;
      number = f i;
      known = is_prop→PathP (λ j. e j ≤ 15) (λ j. le_prop) a.known b.known i;
      word = is_prop→PathP (λ j. f j < 2 ^ 16) (λ j. le_prop) a.word b.word i;
    }

pub same_least : (a b : Least) → a.value ≡ b.value → a ≡ b
same_least a b e = λ i. record { value = e i; word = is_prop→PathP (λ j. e j < 2 ^ 32) (λ j. le_prop) a.word b.word i }

pub same_inventory : (a b : Inventory) → a.firmware ≡ b.firmware → a.services ≡ b.services → a.delay ≡ b.delay → a ≡ b
same_inventory a b e f g = λ i.
    record {
      firmware = e i;
      services = f i;
      delay = g i;
      words = (
        is_prop→PathP (λ j. e j < 2 ^ 16) (λ j. le_prop) a.words.0 b.words.0 i,
        is_prop→PathP (λ j. f j < 2 ^ 16) (λ j. le_prop) a.words.1 b.words.1 i,
        is_prop→PathP (λ j. g j < 2 ^ 16) (λ j. le_prop) a.words.2 b.words.2 i,
      );
    }
