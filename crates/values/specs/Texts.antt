-- The text of a form. Assumes nothing.
use Rattle.std.specs.Prelude.{ℕ, List}
use Rattle.values.specs.declared.form.Form.{Form}

abbrev pub text : Form → List ℕ
text form = form.text.bytes
