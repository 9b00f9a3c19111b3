use Rattle.std.proofs.Common.{take, sym, arith}
use Rattle.std.proofs.lemmas.List.{length-take-le}
use Rattle.values.proofs.Ranks.{rank_all, rank_counts, rank_le, rank_none, rank_passes}
use Rattle.values.proofs.rank.count_before.Goals as goal
use Rattle.values.proofs.rank.count_before.Goals.{then-before, else-before}

pub loop-other-init : goal.loop-other-init
loop-other-init g c = (omega arith, sym (rank_none g.K.KeyOrder.precedes c.args.key.now))

pub overflow_add-count : goal.overflow_add-count
overflow_add-count g c =
    let i = c.loop-other.other-index in
    let keys = c.args.keys.now in
    omega (arith, c.loop-other.invariant.1, rank_le g.K.KeyOrder.precedes (take i keys) c.args.key.now, length-take-le i keys c.loop-other.invariant.0)

pub loop-other-preserved : goal.loop-other-preserved
loop-other-preserved g c =
    let precedes = g.K.KeyOrder.precedes in
    let keys = c.args.keys.now in
    let i = c.loop-other.other-index in
    let key = c.args.key.now in
    let other = c.other-item.result in
    let answer = c.before-in-loop-other.result in
    let within = c.loop-other-test.true in
    let told = c.before-in-loop-other.ensures.value in (
      omega arith,
      elim c.if-before.branch [ then-before w ↦ omega (arith, w.count-is, c.loop-other.invariant.1, rank_counts precedes keys i other key answer within c.other-item.is told w.if-before.true) | else-before w ↦ omega (arith, w.count-is, c.loop-other.invariant.1, rank_passes precedes keys i other key answer within c.other-item.is told w.if-before.false) ],
    )

pub returns : goal.returns
returns g c =
    record { value = rank_all g.K.KeyOrder.precedes c.args.keys.now c.loop-other.other-index c.args.key.now c.loop-other.count c.loop-other-test.false c.loop-other.invariant.1 }
