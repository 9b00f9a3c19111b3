use Rattle.std.proofs.Common.{sym, refl}
use Rattle.base.specs.Bags.{held, taken}
use Rattle.tables.specs.Lent.{stand_lent}
use Rattle.tables.proofs.Carrying.{reach, ready, taken_out}
use Rattle.tables.proofs.tables.Tables.take_delivery.Goals as goal

pub carry_out-requires : goal.carry_out-requires
carry_out-requires g c =
    let s = stand_lent c.args.self.now c.args.stores.now in
    let plan = c.in_ok-plan.plan in
    let accepted = sym c.in_ok-plan.ensures.value in
    let left = taken_out g.W.Wave.arrival g.T.Holding.meet s c.args.place plan accepted c.take.new.self c.take.result c.take.ensures.answer c.take.ensures.after in
    record { ready = ready g.W.Wave.arrival g.T.Holding.meet s c.args.place plan accepted (record { own = c.args.stores.now.own; running = c.args.stores.now.running; transit = record c.args.stores.now.transit { now = c.take.new.self } }) refl c.in_ok-plan.ensures.inside left }

pub returns-clause-step : goal.returns-clause-step
returns-clause-step g c =
    let s = stand_lent c.args.self.now c.args.stores.now in
    let plan = c.in_ok-plan.plan in
    let accepted = sym c.in_ok-plan.ensures.value in
    let left = taken_out g.W.Wave.arrival g.T.Holding.meet s c.args.place plan accepted c.take.new.self c.take.result c.take.ensures.answer c.take.ensures.after in
    record { plan = plan; accepted = accepted; reached = reach s _ _ plan.message.starter (taken (held s.transit) c.args.place) plan.event c.carry_out.result refl refl refl left c.carry_out.ensures.reached }
