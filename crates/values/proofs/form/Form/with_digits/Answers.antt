use Rattle.std.proofs.Common.{sym, subst}
use Rattle.std.specs.Str.{IsAscii}
use Rattle.values.proofs.Ascii.{radix_digits_ascii, told_text}
use Rattle.values.proofs.form.Form.with_digits.Goals as goal

pub unwrap-requires : goal.unwrap-requires
unwrap-requires c = told_text c.from_utf8.result _ _ _ c.from_utf8.ensures.cases (subst IsAscii (sym c.fill.ensures.after) (radix_digits_ascii c.args.base _ c.args.value))
