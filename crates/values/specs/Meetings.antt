-- The infimum of each kind of holding keeps its three laws. Assumes nothing.
use Rattle.std.specs.Prelude.{◌≡◌, min, max}
use Rattle.std.proofs.Common.{sym, ap, ◌∙◌, arith}
use Rattle.std.specs.Int.Bits.{bit_and, and_lt, and_self}
use Rattle.std.proofs.lemmas.Nat.{and_assoc, and_comm}
use Rattle.std.proofs.lemmas.Bool.Decides.{nat_tests}
use Rattle.values.specs.Inventories.{common, inventory_of}
use Rattle.values.specs.Leasts.{smaller}
use Rattle.values.specs.Semilattices.{Semilattice}
use Rattle.values.specs.declared.inventory.Inventory.{Inventory}
use Rattle.values.specs.declared.least.Least.{Least}
use Rattle.values.specs.Parts.{same_inventory, same_least}

-- ---- least

smaller_value : (a b : Least) → (smaller a b).value ≡ min a.value b.value
smaller_value a b = grind (arith, nat_tests)

pub least_laws : Semilattice smaller
least_laws = record {
  commutative = λ a b. same_least (smaller a b) (smaller b a) (omega (arith, smaller_value a b, smaller_value b a));
  associative = λ a b c. same_least (smaller (smaller a b) c) (smaller a (smaller b c)) (omega (arith, smaller_value (smaller a b) c, smaller_value a b, smaller_value a (smaller b c), smaller_value b c));
  idempotent = λ a. same_least (smaller a a) a (omega (arith, smaller_value a a));
}

-- ---- inventories, by the parts of the infimum

common_firmware : (a b : Inventory) → (common a b).firmware ≡ min a.firmware b.firmware
unfolding inventory_of
common_firmware a b = omega (arith, a.words.0)

common_services : (a b : Inventory) → (common a b).services ≡ bit_and a.services b.services
unfolding inventory_of
common_services a b = omega (arith, and_lt 16 a.services b.services a.words.1 b.words.1)

common_delay : (a b : Inventory) → (common a b).delay ≡ max a.delay b.delay
unfolding inventory_of
common_delay a b = omega (arith, a.words.2, b.words.2)

associative_services : (a b c : Inventory) → (common (common a b) c).services ≡ (common a (common b c)).services
associative_services a b c =
    common_services (common a b) c ∙ ap (λ n. bit_and n c.services) (common_services a b) ∙ and_assoc c.services a.services b.services ∙ sym (common_services a (common b c) ∙ ap (bit_and a.services) (common_services b c))

pub inventory_laws : Semilattice common
inventory_laws = record {
  commutative = λ a b.
      same_inventory
      (common a b)
      (common b a)
      (omega (arith, common_firmware a b, common_firmware b a))
      (common_services a b ∙ and_comm a.services b.services ∙ sym (common_services b a))
      (omega (arith, common_delay a b, common_delay b a));
  associative = λ a b c.
      same_inventory
      (common (common a b) c)
      (common a (common b c))
      (omega (arith, common_firmware (common a b) c, common_firmware a b, common_firmware a (common b c), common_firmware b c))
      (associative_services a b c)
      (omega (arith, common_delay (common a b) c, common_delay a b, common_delay a (common b c), common_delay b c));
  idempotent = λ a.
      same_inventory
      (common a a)
      a
      (omega (arith, common_firmware a a))
      (common_services a a ∙ and_self a.services)
      (omega (arith, common_delay a a));
}
