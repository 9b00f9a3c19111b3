-- The printed forms of keys and holdings. Assumes nothing.
use Rattle.std.specs.Prelude.{◌≡◌, ℕ, zero, suc, ◌+◌, ◌/◌, ◌%◌, ◌≤◌, if◌then◌else◌, List, [], ◌∷◌, ◌++◌, length, Ok, Err, Result, nat_lt}
use Rattle.base.specs.declared.refusal.Refusal.{Refusal}
use Rattle.base.specs.declared.refusal.Refusal.TheVariants.{DoesNotFit}
use Rattle.values.specs.declared.device.Device.{Device}
use Rattle.values.specs.declared.inventory.Inventory.{Inventory}
use Rattle.values.specs.declared.least.Least.{Least}
use Rattle.values.specs.declared.number.Number.{Number}

-- the character of a digit: 0 to 9, then a to f
abbrev pub digit : ℕ → ℕ
digit d = if nat_lt d 10 then 48 + d else 87 + d

-- the last digits of n in a base, as many as the width says, the highest first
unfoldable pub digits : ℕ → ℕ → ℕ → List ℕ
digits base zero n = []
digits base (suc width) n = digits base width (n / base) ++ (digit (n % base) ∷ [])

-- a form of that width finds that many places
abbrev pub written : ℕ → ℕ → Result (Unit {0}) Refusal
written width places = if nat_lt places width then Err DoesNotFit else Ok tt

-- what the forms of a kind have to be
pub record Forms {T : Type 0} (width : ℕ) (form : T → List ℕ) : Type 0 where
  pub some : 1 ≤ width
  pub most : width ≤ 16
  pub wide : (x : T) → length (form x) ≡ width
  pub only : (x y : T) → form x ≡ form y → x ≡ y

-- ---- the kinds

abbrev pub slash : List ℕ
slash = 47 ∷ []

abbrev pub number_form : Number → List ℕ
number_form x = digits 10 10 x.value

abbrev pub least_form : Least → List ℕ
least_form x = digits 10 10 x.value

-- class, number
abbrev pub device_form : Device → List ℕ
device_form x = digits 10 2 x.class ++ slash ++ digits 10 5 x.number

-- firmware, services, delay
abbrev pub inventory_form : Inventory → List ℕ
inventory_form x = digits 10 5 x.firmware ++ slash ++ digits 16 4 x.services ++ slash ++ digits 10 5 x.delay
