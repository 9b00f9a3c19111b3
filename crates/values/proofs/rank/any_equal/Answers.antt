use Rattle.std.proofs.Common.{sym, ◌∙◌}
use Rattle.values.proofs.Ranks.{apart_next, twice_before}
use Rattle.values.proofs.rank.any_equal.Goals as goal

pub returns-then-contains_equal : goal.returns-then-contains_equal
returns-then-contains_equal g c =
    let key = c.index-keys-place in
    record { value = twice_before g.met.K.KeyOrder.decided c.args.keys.now c.loop-place.place key.result c.loop-place-test.true key.is (sym c.if-contains_equal.true ∙ c.contains_equal.ensures.value) }

pub loop-place-preserved : goal.loop-place-preserved
loop-place-preserved g c =
    let key = c.index-keys-place in
    apart_next g.met.K.KeyOrder.decided c.args.keys.now c.loop-place.place key.result c.loop-place-test.true key.is (sym c.if-contains_equal.false ∙ c.contains_equal.ensures.value) c.loop-place.invariant
