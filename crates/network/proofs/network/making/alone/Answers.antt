use Rattle.std.proofs.Common.{◌≡◌, ℕ, false, replicate, sym, refl, ◌∙◌, subst, arith, lit≤}
use Rattle.network.specs.Paths.{Path, adjacent, here}
use Rattle.network.proofs.Tables.{bare, bare_degrees}
use Rattle.network.proofs.network.making.alone.Goals as goal

pub invariant_of-result : goal.invariant_of-result
invariant_of-result c =
    let row = c.args.row in
    let table = replicate 32 row in
    let none : (a b : ℕ) → adjacent table a b ≡ false = λ a b. bare 32 a b row c.requires in
    record {
      table = refl;
      some = lit≤ tt;
      few = lit≤ tt;
      thin = lit≤ tt;
      inside = λ a b past. none a b;
      symmetric = λ a b. none a b ∙ sym (none b a);
      loopless = λ a. none a a;
      counted = bare_degrees 32 row c.requires;
      connected = λ a b a_node b_node. ∣ subst (Path (adjacent table) a) (omega arith) here ∣₁;
    }
