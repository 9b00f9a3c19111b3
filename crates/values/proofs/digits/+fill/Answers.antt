use Rattle.std.proofs.Common.{◌≡◌, length, sym, ◌∙◌, arith}
use Rattle.std.proofs.lemmas.List.{nil_from_length}
use Rattle.values.specs.FormsLemmas.{digits_last, no_digits}
use Rattle.values.proofs.digits.+fill.Goals as goal

pub returns-in-Some : goal.returns-in-Some
returns-in-Some g t c =
    let split = c.in-Some.ensures.cases in
    let last = digits_last g.row.RADIX (length c.args.places.now) c.args.value (omega (arith, split.1)) in
    record { after = rw last (grind arith) }

pub returns-in_default : goal.returns-in_default
returns-in_default g t c =
    let places = c.args.places.now in
    let none : length places ≡ 0 = c.in_default.ensures.cases in
    record { after = nil_from_length places none ∙ sym (no_digits g.row.RADIX (length places) c.args.value none) }
