use Rattle.std.proofs.Common.{arith}
use Rattle.values.proofs.Ranks.{table_all, table_more, table_ranks}
use Rattle.values.proofs.rank.rank_keys.Goals as goal

pub loop-i-preserved : goal.loop-i-preserved
loop-i-preserved g c =
    let loop = c.loop-i in
    let key = c.index-keys-i in
    let count = c.count_before in
    table_more g.K.KeyOrder.precedes c.args.keys.now loop.i key.result loop.ranks count.result c.loop-i-test.true (omega arith) key.is loop.invariant count.ensures.value

pub returns-clause-ok : goal.returns-clause-ok
returns-clause-ok g c = table_all g.K.KeyOrder.precedes c.args.keys.now c.loop-i.i c.loop-i.ranks (omega arith) c.loop-i.invariant

pub returns-clause-laws : goal.returns-clause-laws
returns-clause-laws g c =
    let precedes = g.K.KeyOrder.precedes in
    let keys = c.args.keys.now in
    table_ranks precedes g.met.K.KeyOrder.ordered keys c.loop-i.ranks (table_all precedes keys c.loop-i.i c.loop-i.ranks (omega arith) c.loop-i.invariant)
