-- The order of each kind of key keeps the law. Assumes nothing.
use Rattle.std.specs.Prelude.{◌≡◌, true, ◌⊎◌, ◌==◌, ◌≢◌}
use Rattle.std.proofs.Common.{sym, ap, inl, inr, ⊎_elim, arith}
use Rattle.std.proofs.lemmas.Bool.{and_from, and_parts, cases_order, eq-eqb, eqb-true, lt-ltb}
use Rattle.std.proofs.lemmas.Bool.Decides.{nat_tests}
use Rattle.values.specs.Devices.{device_before, device_matches}
use Rattle.values.specs.Numbers.{number_before, number_matches}
use Rattle.values.specs.Orders.{Equality, Order}
use Rattle.values.specs.declared.device.Device.{Device}
use Rattle.values.specs.declared.number.Number.{Number}
use Rattle.values.specs.Parts.{same_device, same_number}

-- ---- numbers

number_one : (a b : Number) → (number_before a b ≡ true) ⊎ ((number_before b a ≡ true) ⊎ (a ≡ b))
number_one a b = ⊎_elim (λ e. inr (inr (same_number a b e))) (⊎_elim (λ l. inl (lt-ltb _ _ l)) (λ l. inr (inl (lt-ltb _ _ l)))) (cases_order a.value b.value)

pub number_order : Order number_before
number_order = record {
  one = λ a b. (number_one a b, λ p q. grind (arith, nat_tests), λ p e. (let v = ap (λ x. x.value) e in grind (arith, nat_tests)), λ p e. (let v = ap (λ x. x.value) e in grind (arith, nat_tests)));
  transitive = λ a b c p q. grind (arith, nat_tests);
}

pub number_equality : Equality number_matches
number_equality a b = (λ is. same_number a b (eqb-true a.value b.value is), λ same. eq-eqb a.value b.value (ap (λ x. x.value) same))

-- ---- devices

device_one : (a b : Device) → (device_before a b ≡ true) ⊎ ((device_before b a ≡ true) ⊎ (a ≡ b))
device_one a b = ⊎_elim alike (⊎_elim (λ l. inl (grind (arith, nat_tests))) (λ l. inr (inl (grind (arith, nat_tests))))) (cases_order a.class b.class)
  where
    alike : a.class ≡ b.class → (device_before a b ≡ true) ⊎ ((device_before b a ≡ true) ⊎ (a ≡ b))
    alike e = ⊎_elim (λ f. inr (inr (same_device a b e f))) (⊎_elim (λ l. inl (grind (arith, nat_tests))) (λ l. inr (inl (grind (arith, nat_tests))))) (cases_order a.number b.number)

pub device_order : Order device_before
device_order = record {
  one = λ a b. (device_one a b, λ p q. grind (arith, nat_tests), λ p e. apart a b e p, λ p e. apart b a (sym e) p);
  transitive = λ a b c p q. grind (arith, nat_tests);
}
  where
    apart : (a b : Device) → a ≡ b → device_before a b ≢ true
    apart a b e p = let c = ap (λ x. x.class) e in let n = ap (λ x. x.number) e in grind (arith, nat_tests)

pub device_equality : Equality device_matches
device_equality a b = (
  λ is. (let parts = and_parts (a.class == b.class) (a.number == b.number) is in
      same_device a b (eqb-true a.class b.class parts.0) (eqb-true a.number b.number parts.1)),
  λ same. and_from _ _ (eq-eqb a.class b.class (ap (λ x. x.class) same)) (eq-eqb a.number b.number (ap (λ x. x.number) same)),
)
