use Rattle.std.proofs.Common.{rules, arith, refl, ◌∙◌}
use Rattle.std.proofs.lemmas.Iterator.{YieldsList-from_range}
use Rattle.std.proofs.lemmas.Iterator.Search.{all_from_yields_List}
use Rattle.rules.proofs.RingSteps.{all_two, has_two}
use Rattle.waves.proofs.ring.has_two_each.Goals as goal

pub returns : goal.returns
returns c =
    let n = c.args.network.now in
    record { value = all_from_yields_List (has_two n) _ _ c.all.result c.all.ensures.ran (YieldsList-from_range 0 c.nodes.result n.nodes refl (omega (arith, c.nodes.ensures.value))) (λ x b q k. search rules) ∙ all_two n n.nodes }
