use Rattle.std.proofs.Common.{◌+◌, ◌||◌, take, sym, refl, ap, ◌∙◌, arith}
use Rattle.std.proofs.lemmas.List.{length-take-le, take_more}
use Rattle.network.specs.Links.{joins, link_at, linked, no_link}
use Rattle.network.specs.Paths.{adjacent}
use Rattle.network.proofs.Faults.{fault_none, fault_same, linked_push, linked_symmetric}
use Rattle.network.proofs.Tables.{bare, bare_degrees}
use Rattle.network.proofs.network.drawing.drawn.Goals as goal

pub loop-link-init : goal.loop-link-init
loop-link-init c =
    let row = c.empty-table.result in
    let is = c.empty-table.ensures.same in
    (omega arith, record { rows = refl; joined = λ a b. bare 32 a b row is; counted = bare_degrees 32 row is }, refl)

pub draw-requires-clause-both_ways : goal.draw-requires-clause-both_ways
draw-requires-clause-both_ways c a b =
    let drawn = c.loop-link.invariant.1 in
    drawn.joined a b ∙ linked_symmetric (take c.loop-link.link-index c.args.links.now) a b ∙ sym (drawn.joined b a)

pub loop-link-preserved : goal.loop-link-preserved
loop-link-preserved c =
    let links = c.args.links.now in
    let i = c.loop-link.link-index in
    let inv = c.loop-link.invariant in
    let l = link_at links i in
    let within = c.loop-link-test.true in
    let more = take_more links i no_link within in
    let done = c.in_ok-draw.ensures in
    let sound = sym (fault_same c.args.nodes (adjacent c.loop-link.table) (linked (take i links)) l (inv.1.joined l.first l.second)) ∙ done.faults in (
      omega arith,
      record {
        rows = c.type_inv.table;
        joined = λ a b. done.joined a b ∙ ap (λ v. v || joins l a b) (inv.1.joined a b) ∙ sym (linked_push (take i links) l a b) ∙ ap (λ ls. linked ls a b) (sym more);
        counted = omega (arith, done.degrees, inv.1.counted, length-take-le i links inv.0, length-take-le (i + 1) links (omega arith));
      },
      sym (fault_none c.args.nodes links i within sound) ∙ inv.2,
    )
