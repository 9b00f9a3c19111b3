-- The ring wave keeps the laws of a wave. Assumes nothing.
use Rattle.std.proofs.Common.{◌≡◌, ℕ, ◌<◌, ◌≤◌, Bool, true, false, ◌||◌, eqb, ◌⊎◌, List, [], ◌∷◌, ◌++◌, length, is_some, Some, None, unwrap_or, sym, refl, ap, ◌∙◌, subst, subst₂, inl, inr, ⊎_elim, arith}
use Rattle.std.proofs.lemmas.Bool.{both_ways, cases_Bool, cond-false, cond-true, eq-eqb, eqb-true, false≢true, ne_eqb, or_left, or_parts, or_right}
use Rattle.base.specs.NodeSets.{no_nodes}
use Rattle.base.proofs.Members.{member_below}
use Rattle.network.specs.Paths.{adjacent}
use Rattle.network.specs.declared.network.Network.{Network}
use Rattle.wave.specs.Laws.{CoversAllNodes, DecidesOnce, KeepsLaws}
use Rattle.wave.specs.Lone.{Cover, Decision, Lone, Message, Run, blank, delivered, delivers, gained, message, messages, opened, opens, step_at, stepped}
use Rattle.wave.specs.declared.step.Record.{Record}
use Rattle.wave.specs.declared.step.Step.{Step}
use Rattle.rules.specs.Ring.{admitted, arrival, follower, most, opening, starter}
use Rattle.rules.specs.Sets.{is_empty, neighbours_of, only}
use Rattle.rules.proofs.Lists.{among, among_apart, among_cases, among_later, never_split, single_split}
use Rattle.rules.proofs.Neighbours.{closed_all, joined_back}
use Rattle.rules.proofs.RingSteps.{Next, names_neighbours, next_of}
use Rattle.rules.proofs.RingWalk.{Walk, again, closed_again, has_start, link_on, walk_most}
use Rattle.rules.proofs.SetLaws.{empty_none}
use Rattle.rules.proofs.Single.{lowest_none, lowest_some, members_none, members_only}

-- the cover has at least the nodes of the list
abbrev Covers : List ℕ → Cover → Type 0
Covers nodes cover = (i : ℕ) → among nodes i ≡ true → cover i ≡ true

-- ---- what a step sends

sends_none : (node : ℕ) (cover : Cover) (kept : Record) (decides : Bool) → messages node (record { kept = kept; first_kind = no_nodes; second_kind = no_nodes; decides = decides }) cover ≡ []
sends_none node cover kept decides = rw members_none refl

sends_one : (node : ℕ) (cover : Cover) (kept : Record) (decides : Bool) (to : ℕ) → to < 32 → messages node (record { kept = kept; first_kind = only to; second_kind = no_nodes; decides = decides }) cover ≡ message node 1 cover to ∷ []
sends_one node cover kept decides to small = rw (members_only to small, members_none) refl

-- ---- the states of a lone run

-- the one message is under way, from `node` to `to`
record Going (n : Network) (start : ℕ) (l : Lone) : Type 0 where
  first : ℕ
  earlier : List ℕ
  node : ℕ
  to : ℕ
  walk : Walk n start first earlier node to
  -- a node that the wave has not reached has no record
  asleep : (i : ℕ) → among (node ∷ earlier) i ≡ false → l.records i ≡ None
  at_start : l.records start ≡ Some starter
  cover : Cover
  covers : Covers (node ∷ earlier) cover
  kind : ℕ
  transit : l.transit ≡ record { sender = node; receiver = to; kind = kind; cover = cover } ∷ []
  sent : l.sent ≡ length (node ∷ earlier)
  undecided : l.decisions ≡ []

-- the starter has decided
record Done (n : Network) (l : Lone) : Type 0 where
  decision : Decision
  whole : (i : ℕ) → i < n.nodes → decision.cover i ≡ true
  transit : l.transit ≡ []
  sent : l.sent ≤ n.nodes
  decided : l.decisions ≡ decision ∷ []

abbrev State : Network → ℕ → Lone → Type 0
State n start l = Going n start l ⊎ Done n l

-- the cover of the receiver has the list with the receiver
gained_covers : (l : Lone) (m : Message) (nodes : List ℕ) → Covers nodes m.cover → Covers (m.receiver ∷ nodes) (gained l m)
gained_covers l m nodes covers i there = ⊎_elim
    (λ here. or_left (eqb i m.receiver) (l.covers m.receiver i || m.cover i) (eq-eqb i m.receiver here))
    (λ later. or_right (eqb i m.receiver) (l.covers m.receiver i || m.cover i) (or_right (l.covers m.receiver i) (m.cover i) (covers i later)))
    (among_cases m.receiver nodes i there)

module _ (n : Network) (start : ℕ) (admits : admitted n ≡ true) (start_node : start < n.nodes) where
  -- ---- the opening

  -- a starter without neighbours is alone
  alone : is_empty (neighbours_of n start) ≡ true → Done n (opened opening n start)
  alone none =
      let quiet : messages start (opening n start) (λ i. eqb i start) ≡ [] = rw (lowest_none (neighbours_of n start) none, members_none) refl in
      record {
        decision = record { node = start; cover = λ i. eqb i start };
        whole = closed_all n (λ i. eqb i start) closed start start_node (eq-eqb start start refl);
        transit = quiet;
        sent = rw (ap length quiet) (omega arith);
        decided = cond-true _ _ _ none;
      }
    where
      closed : (a b : ℕ) → eqb a start ≡ true → adjacent n.neighbours a b ≡ true → eqb b start ≡ true
      closed a b is link = absurd (both_ways (adjacent n.neighbours start b) (empty_none (neighbours_of n start) none b) (ap (λ v. adjacent n.neighbours v b) (sym (eqb-true a start is)) ∙ link))

  begun : is_empty (neighbours_of n start) ≡ false → Going n start (opened opening n start)
  begun some =
      let low = lowest_some (neighbours_of n start) some in
      let one : messages start (opening n start) (λ i. eqb i start) ≡ message start 1 (λ i. eqb i start) low.0 ∷ [] = rw (low.1, members_only low.0 (member_below (neighbours_of n start) low.0 low.2), members_none) refl in
      record {
        first = low.0;
        earlier = [];
        node = start;
        to = low.0;
        walk = record { starts = refl; goes = refl; link = low.2 };
        asleep = λ i out. cond-false _ _ _ (or_parts (eqb i start) false out).0;
        at_start = cond-true _ _ _ (eq-eqb start start refl);
        cover = λ i. eqb i start;
        covers = λ i there. ⊎_elim (eq-eqb i start) (λ none. absurd (false≢true none)) (among_cases start [] i there);
        kind = 1;
        transit = one;
        sent = rw (ap length one) (omega arith);
        undecided = cond-false _ _ _ some;
      }

  opened_state : State n start (opened opening n start)
  opened_state = ⊎_elim (λ none. inr (alone none)) (λ some. inl (begun some)) (cases_Bool (is_empty (neighbours_of n start)))

  -- ---- the delivery of the one message

  module _ (l : Lone) (g : Going n start l) where
    abbrev way : List ℕ
    way = g.node ∷ g.earlier

    abbrev under_way : Message
    under_way = record { sender = g.node; receiver = g.to; kind = g.kind; cover = g.cover }

    -- a node that the wave reaches first sends it on
    passed_on : among way g.to ≡ false → Going n start (delivered arrival n l [] under_way)
    passed_on fresh = subst (λ step. Going n start (stepped l [] g.to (gained l under_way) step)) (sym is) (record {
      first = g.first;
      earlier = way;
      node = g.to;
      to = next.0;
      walk = (record { fresh = fresh; next = next.1; lone = next.2 }, g.walk);
      asleep = λ i out. let parts = or_parts (eqb i g.to) (among way i) out in cond-false _ _ _ parts.0 ∙ g.asleep i parts.1;
      at_start = cond-false _ _ _ (ne_eqb start g.to (among_apart way start g.to (has_start n start g.first start_node g.earlier g.node g.to g.walk) fresh)) ∙ g.at_start;
      cover = gained l under_way;
      covers = gained_covers l under_way way g.covers;
      kind = 1;
      transit = one;
      sent = rw (ap length one) (omega (arith, g.sent));
      undecided = g.undecided;
    })
      where
        next : (to : ℕ) × Next (neighbours_of n g.to) g.node to × (to ≡ g.node → n.nodes ≤ 2)
        next = next_of n admits g.to g.node (joined_back n g.node g.to (link_on n start g.first start_node g.earlier g.node g.to g.walk))

        step : Step
        step = record { kept = follower g.node; first_kind = only next.0; second_kind = no_nodes; decides = false }

        is : step_at arrival n l under_way ≡ step
        is = ap (λ o. arrival n g.to (is_some o) (unwrap_or o blank) g.node g.kind) (g.asleep g.to fresh) ∙ ap (λ s. record { kept = follower g.node; first_kind = s; second_kind = no_nodes; decides = false }) next.1.goes

        one : messages g.to step (gained l under_way) ≡ message g.to 1 (gained l under_way) next.0 ∷ []
        one = sends_one g.to (gained l under_way) (follower g.node) false next.0 (member_below (neighbours_of n g.to) next.0 next.1.member)

    -- the starter decides
    come_back : g.to ≡ start → Done n (delivered arrival n l [] under_way)
    come_back back = subst (λ step. Done n (stepped l [] g.to (gained l under_way) step)) (sym is) (record {
      decision = record { node = g.to; cover = gained l under_way };
      whole = λ i node. gained_covers l under_way way g.covers i (among_later g.to way i (all i node));
      transit = none;
      sent = rw (ap length none) (omega (arith, g.sent, walk_most n start g.first start_node g.earlier g.node g.to g.walk));
      decided = ap (λ ds. record { node = g.to; cover = gained l under_way } ∷ ds) g.undecided;
    })
      where
        step : Step
        step = record { kept = starter; first_kind = no_nodes; second_kind = no_nodes; decides = true }

        is : step_at arrival n l under_way ≡ step
        is = ap (λ o. arrival n g.to (is_some o) (unwrap_or o blank) g.node g.kind) (ap l.records back ∙ g.at_start)

        none : messages g.to step (gained l under_way) ≡ []
        none = sends_none g.to (gained l under_way) starter true

        walk : Walk n start g.first g.earlier g.node start
        walk = subst (Walk n start g.first g.earlier g.node) back g.walk

        all : (i : ℕ) → i < n.nodes → among way i ≡ true
        all = closed_all n (among way) (closed_again n start g.first start_node g.earlier g.node admits walk) start start_node (has_start n start g.first start_node g.earlier g.node start walk)

    arrived : State n start (delivered arrival n l [] under_way)
    arrived = ⊎_elim
        (λ there. inr (come_back (again n start g.first start_node g.earlier g.node g.to g.walk there)))
        (λ fresh. inl (passed_on fresh))
        (cases_Bool (among way g.to))

  delivered_state : (l : Lone) → State n start l → (before later : List Message) (m : Message) → l.transit ≡ before ++ (m ∷ later) → State n start (delivered arrival n l (before ++ later) m)
  delivered_state l (inl g) before later m there =
      let only_one = single_split (under_way l g) m before later (sym g.transit ∙ there) in
      subst₂ (λ left m. State n start (delivered arrival n l left m)) (sym only_one.1) (sym only_one.0) (arrived l g)
  delivered_state l (inr d) before later m there = absurd (never_split m before later (sym d.transit ∙ there))

  state : (l : Lone) → Run opening arrival n start l → State n start l
  state _ opens = opened_state
  state _ (delivers {l} run before later m there) = delivered_state l (state l run) before later m there

-- ---- the laws

within : (n : Network) (start : ℕ) → start < n.nodes → (l : Lone) → State n start l → l.sent ≤ n.nodes
within n start start_node l (inl g) = omega (arith, g.sent, walk_most n start g.first start_node g.earlier g.node g.to g.walk)
within n start start_node l (inr d) = d.sent

at_rest : (n : Network) (start : ℕ) (l : Lone) → State n start l → l.transit ≡ [] → 0 < length l.decisions
at_rest n start l (inl g) rest = omega (arith, ap length (sym g.transit ∙ rest))
at_rest n start l (inr d) rest = rw d.decided (omega arith)

whole_cover : (n : Network) (start : ℕ) (l : Lone) → State n start l → CoversAllNodes n l
whole_cover n start l (inl g) = rw g.undecided tt
whole_cover n start l (inr d) = rw d.decided (d.whole, tt)

one_decision : (n : Network) (start : ℕ) (l : Lone) → State n start l → DecidesOnce n l
one_decision n start l (inl g) = rw g.undecided tt
one_decision n start l (inr d) = rw d.decided (tt, tt)

pub ring_keeps_laws : KeepsLaws admitted most opening arrival
ring_keeps_laws = record {
  small_bound = λ n. omega (arith, n.few);
  names_neighbours = names_neighbours;
  within_bound = λ n s admits node l run. within n s node l (state n s admits node l run);
  decides_at_rest = λ n s admits node l run. at_rest n s l (state n s admits node l run);
  covers_all_nodes = λ n s admits node l run. whole_cover n s l (state n s admits node l run);
  decides_once = λ n s admits node l run. one_decision n s l (state n s admits node l run);
}
