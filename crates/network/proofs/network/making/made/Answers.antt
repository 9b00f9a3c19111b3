use Rattle.std.proofs.Common.{ℕ, true, sym, refl, ◌∙◌, arith}
use Rattle.std.proofs.lemmas.Result.{err_from_is_err_and}
use Rattle.std.proofs.lemmas.Bool.{both_ways}
use Rattle.std.proofs.lemmas.Bool.Decides.{nat_tests}
use Rattle.network.specs.Links.{linked}
use Rattle.network.specs.Making.{bad_counts, bad_link, lawful, no_path}
use Rattle.network.specs.Paths.{Connected}
use Rattle.network.proofs.Graphs.{all_found, connected_along, connected_by}
use Rattle.network.proofs.Made.{drawn_inside, drawn_loopless, drawn_symmetric, has_only}
use Rattle.network.proofs.network.making.made.Goals as goal

pub returns-then-nodes-lt1-clause-answer : goal.returns-then-nodes-lt1-clause-answer
returns-then-nodes-lt1-clause-answer c =
    let either = c.then-nodes-lt1.either in
    bad_counts (grind (arith, nat_tests))

pub returns-in_err-neighbours-clause-answer : goal.returns-in_err-neighbours-clause-answer
returns-in_err-neighbours-clause-answer c =
    let why = err_from_is_err_and c.from_residual.result c.from_residual.ensures.1 in
    rw (why.1, why.2) (bad_link (grind (arith, nat_tests)) c.in_err-neighbours.ensures.faults)

pub returns-then-not-equals-clause-answer : goal.returns-then-not-equals-clause-answer
returns-then-not-equals-clause-answer c =
    let nodes = c.args.nodes in
    let links = c.args.links.now in
    let told = c.in_ok-neighbours.ensures in
    let drawn = told.table in
    let found = c.reached.result in
    let all = all_found found (omega arith) c.if-nodes-gt-MOST_NODES.false (drawn_inside drawn nodes told.faults) c.reached.ensures.sound c.reached.ensures.whole in
    let parted : Connected nodes (linked links) → ⊥ = λ connected.
    both_ways true (sym (c.if-not-equals.ensures.members.1 (λ i. all (connected_along (λ a b. sym (drawn.joined a b)) nodes connected) i ∙ sym (c.below.ensures.members i)))) refl in
    no_path (grind (arith, nat_tests)) told.faults parted

pub invariant_of-result : goal.invariant_of-result
invariant_of-result c =
    let nodes = c.args.nodes in
    let told = c.in_ok-neighbours.ensures in
    let drawn = told.table in
    let found = c.reached.result in
    let inside = drawn_inside drawn nodes told.faults in
    let both = drawn_symmetric drawn in
    let all = λ (i : ℕ). c.if-not-equals.ensures.members.0 refl i ∙ c.below.ensures.members i in
    record {
      table = drawn.rows;
      some = c.if-nodes-lt1.false;
      few = c.if-nodes-gt-MOST_NODES.false;
      thin = c.if-links-gt-MOST_LINKS.false;
      inside = inside;
      symmetric = both;
      loopless = drawn_loopless drawn nodes told.faults;
      counted = drawn.counted;
      connected = connected_by found c.if-nodes-lt1.false c.if-nodes-gt-MOST_NODES.false inside c.reached.ensures.sound c.reached.ensures.whole both all;
    }

pub returns-clause-answer : goal.returns-clause-answer
returns-clause-answer c = lawful (grind (arith, nat_tests)) c.in_ok-neighbours.ensures.faults (connected_along c.in_ok-neighbours.ensures.table.joined c.args.nodes (invariant_of-result c.before).connected)

pub returns-clause-only : goal.returns-clause-only
returns-clause-only c other has = has_only other _ c.args.nodes c.args.links.now has (record { nodes_are = refl; links_are = refl; joined = c.in_ok-neighbours.ensures.table.joined })
