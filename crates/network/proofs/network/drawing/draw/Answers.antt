use Rattle.std.proofs.Common.{◌≡◌, ◌<◌, false, ◌&&◌, ◌||◌, eqb, set, sym, ap, ◌∙◌, ap₂, arith}
use Rattle.base.specs.NodeSets.{has, no_nodes}
use Rattle.network.specs.Paths.{adjacent}
use Rattle.std.proofs.lemmas.List.{get_or_default, length-set}
use Rattle.network.proofs.Faults.{sound_to}
use Rattle.network.proofs.Tables.{link_degrees, link_joined, row_with}
use Rattle.network.proofs.network.drawing.draw.Goals as goal

pub returns : goal.returns
returns c =
    let table = c.args.table.now in
    let a = c.first-a.result in
    let b = c.second-b.result in
    let s = c.with.result in
    let t = c.with-2.result in
    let rows = c.told-table in
    let lower : a < b = c.if-a-b.false in
    let node : b < 32 = omega (arith, c.if-b-nodes.false, c.requires.few) in
    let fresh : adjacent table a b ≡ false = sym (c.if-contains.ensures.value ∙ ap (λ row. has row b) (get_or_default table a c.index-table-a.result no_nodes (omega arith))) in
    let first_row = row_with table a b c.index-table-a-2.result s (omega arith) node c.with.ensures.members in
    let second_row = row_with (set table a s) b a c.index-table-b.result t (rw length-set (omega arith)) (omega arith) c.with-2.ensures.members in
    let first = c.first-a.ensures.value in
    let second = c.second-b.ensures.value in
    record {
      faults = sound_to c.args.nodes (adjacent table) c.args.link (record {
        lower = omega arith;
        inside = omega (arith, c.if-b-nodes.false);
        fresh = ap₂ (adjacent table) (sym first) (sym second) ∙ fresh;
      });
      joined = λ x y. link_joined table a b s t rows lower node first_row second_row x y ∙ ap₂ (λ f g. adjacent table x y || ((eqb f x && eqb g y) || (eqb f y && eqb g x))) first second;
      degrees = link_degrees table a b s t rows lower node first_row second_row c.requires.both_ways fresh;
    }
