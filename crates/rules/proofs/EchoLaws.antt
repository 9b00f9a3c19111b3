-- The echo wave keeps the laws of a wave. Assumes nothing.
use Rattle.std.proofs.Common.{◌≡◌, ℕ, zero, suc, ◌+◌, ◌-◌, ◌<◌, ◌≤◌, Bool, true, false, cond, not, ◌&&◌, ◌||◌, eqb, List, [], ◌∷◌, ◌++◌, length, is_some, Some, None, Option, sym, refl, ap, ◌∙◌, subst, ap₂, ⊎_elim, arith}
use Rattle.std.specs.List.{AllByRecursion}
use Rattle.std.proofs.lemmas.Bool.{and_from, and_parts, both_ways, cases_Bool, cases_eq, eq-eqb, eqb-true, ne_eqb, not-false, not_from_false, not-true, or_cases, or_parts}
use Rattle.std.proofs.lemmas.Bool.Decides.{nat_tests}
use Rattle.base.specs.NodeSets.{has, no_nodes, size}
use Rattle.base.specs.declared.node_set.NodeSet.{NodeSet}
use Rattle.base.proofs.Members.{same_members}
use Rattle.base.proofs.Small.{and_false, and_true, known, none_some, some_same}
use Rattle.network.specs.declared.network.Network.{Network}
use Rattle.wave.specs.Laws.{Apart, CoversAllNodes, KeepsLaws, Names, Neighbours}
use Rattle.wave.specs.Lone.{Decision, Lone, Message, Run, delivered, delivers, gained, messages, nothing_yet, opened, opens}
use Rattle.wave.specs.declared.step.Record.{Record}
use Rattle.wave.specs.declared.step.Standing.{Standing}
use Rattle.wave.specs.declared.step.Standing.TheVariants.{Follower, Starter}
use Rattle.wave.specs.declared.step.Step.{Step}
use Rattle.rules.specs.Echo.{admitted, arrival, follower, is_starter, most, notes_last, noting, opening, parent_of}
use Rattle.rules.specs.Sets.{◌∖◌, if_so, is_empty, neighbours_of, only}
use Rattle.rules.specs.Sums.{one, total}
use Rattle.rules.proofs.EchoRun.{Carries, Echoing, absent, after_starter, link, next_echoing, noted_sent, owed, sender_known}
use Rattle.rules.proofs.EchoSteps.{full, noted, sent_at_once, sent_to, standing_after, step, step_decides, step_notes, step_second, step_standing, was_not_full}
use Rattle.rules.proofs.Flights.{flight}
use Rattle.rules.proofs.Neighbours.{closed_all, names_none, names_part}
use Rattle.rules.proofs.Nodes.{at_here, at_other, messages_all, messages_flight, messages_length, starter_follower}
use Rattle.rules.proofs.SetLaws.{empty_none, has_if, has_minus, has_none, has_union, size_none, some_member}
use Rattle.rules.proofs.Totals.{degrees_total, one_false, one_most, one_true, size_total, total_at, total_le, total_none, total_same}

-- ---- in one state

-- how a node has sent to its parent: it has noted all
parent_full : (near itself all : Bool) → itself ≡ true → (near && (not itself || all)) ≡ true → all ≡ true
parent_full true true all e sent = sent
parent_full true false all e sent = absurd (both_ways true (sym e) refl)
parent_full false itself all e sent = absurd (both_ways true (sym sent) refl)

starter_is : (st : Standing) → is_starter st ≡ true → st ≡ Starter
starter_is Starter e = refl
starter_is (Follower p) e = absurd (both_ways true (sym e) refl)

-- a neighbour to which nothing was sent
near_false : (near sent : Bool) → near ≡ true → (near && sent) ≡ false → sent ≡ false
near_false true sent e none = none
near_false false sent e none = absurd (both_ways true (sym e) refl)

at_once_false : (st : Standing) (i : ℕ) → sent_at_once st i ≡ false → st ≡ Follower i
at_once_false Starter i e = absurd (both_ways true e refl)
at_once_false (Follower p) i e = ap Follower (sym (eqb-true i p (not-false _ e)))

noted_known : (o : Option Record) (i : ℕ) → noted o i ≡ true → is_some o ≡ true
noted_known None i e = absurd (both_ways true (sym e) refl)
noted_known (Some r) i e = refl

module _ {n : Network} {s : ℕ} {l : Lone} (is : Echoing n s l) where
  -- a node that has noted all has noted each neighbour
  full_noted : (v i : ℕ) (r : Record) → full n v r ≡ true → has (neighbours_of n v) i ≡ true → has r.marked i ≡ true
  full_noted v i r all near = ⊎_elim (λ e. e) (λ e. absurd (both_ways (has (neighbours_of n v ∖ r.marked) i) (empty_none (neighbours_of n v ∖ r.marked) all i) (has_minus (neighbours_of n v) r.marked i ∙ and_from _ _ near (not_from_false _ e)))) (cases_Bool (has r.marked i))

  -- ---- where the starter has noted all

  module _ (all : full n s is.start.0 ≡ true) where
    -- every node that was reached has noted all: it is the starter, or its parent has noted it
    all_full : (k v : ℕ) (r : Record) → l.records v ≡ Some r → is.times v < k → full n v r ≡ true
    all_full zero v r is_r soon = absurd (omega arith)
    all_full (suc k) v r is_r soon = go r.standing refl (all_full k)
      where
        go : (st : Standing) → r.standing ≡ st → ((p : ℕ) (q : Record) → l.records p ≡ Some q → is.times p < k → full n p q ≡ true) → full n v r ≡ true
        go Starter stands rest =
            let root = is.starters v r is_r stands in
            ap₂ (full n) root (some_same (sym is_r ∙ ap l.records root ∙ is.start.1)) ∙ all
        go (Follower p) stands rest =
            let parent = is.parents v p r is_r stands in
            let q = known (l.records p) parent.1 in
            let noted_v = ap (λ o. noted o v) q.1 ∙ full_noted p v q.0 (rest p q.0 q.1 (omega (arith, parent.2))) (n.symmetric p v ∙ parent.0) in
            let sent = ap (λ o. sent_to n v o p) (sym is_r) ∙ noted_sent is v p noted_v in
            parent_full (has (neighbours_of n v) p) (eqb p p) (full n v r) (eq-eqb p p refl) (ap (λ st. has (neighbours_of n v) p && (sent_at_once st p || full n v r)) (sym stands) ∙ sent)

    parent_noted : (v p : ℕ) (r : Record) → l.records v ≡ Some r → r.standing ≡ Follower p → noted (l.records p) v ≡ true
    parent_noted v p r is_r stands =
        let parent = is.parents v p r is_r stands in
        let q = known (l.records p) parent.1 in
        ap (λ o. noted o v) q.1 ∙ full_noted p v q.0 (all_full (is.times p + 1) p q.0 q.1 (omega arith)) (n.symmetric p v ∙ parent.0)

    -- what a node covers the starter covers
    cover_up : (k v i : ℕ) (r : Record) → l.records v ≡ Some r → is.times v < k → l.covers v i ≡ true → l.covers s i ≡ true
    cover_up zero v i r is_r soon covered = absurd (omega arith)
    cover_up (suc k) v i r is_r soon covered = go r.standing refl (cover_up k)
      where
        go : (st : Standing) → r.standing ≡ st → ((w j : ℕ) (q : Record) → l.records w ≡ Some q → is.times w < k → l.covers w j ≡ true → l.covers s j ≡ true) → l.covers s i ≡ true
        go Starter stands rest = ap (λ w. l.covers w i) (sym (is.starters v r is_r stands)) ∙ covered
        go (Follower p) stands rest =
            let parent = is.parents v p r is_r stands in
            let q = known (l.records p) parent.1 in
            rest p i q.0 q.1 (omega (arith, parent.2)) (is.up v p r is_r stands (parent_noted v p r is_r stands) i covered)

    -- all nodes were reached
    reached : (i : ℕ) → s < n.nodes → i < n.nodes → is_some (l.records i) ≡ true
    reached i s_node i_node = closed_all n (λ v. is_some (l.records v)) onward s s_node (ap is_some is.start.1) i i_node
      where
        onward : (a b : ℕ) → is_some (l.records a) ≡ true → has (neighbours_of n a) b ≡ true → is_some (l.records b) ≡ true
        onward a b joined near =
            let q = known (l.records a) joined in
            sender_known is b a (noted_sent is b a (ap (λ o. noted o b) q.1 ∙ full_noted a b q.0 (all_full (is.times a + 1) a q.0 q.1 (omega arith)) near))

    pub starter_covers : s < n.nodes → (i : ℕ) → i < n.nodes → l.covers s i ≡ true
    starter_covers s_node i i_node =
        let joined = reached i s_node i_node in
        let r = known (l.records i) joined in
        cover_up (is.times i + 1) i i r.0 r.1 (omega arith) (is.own i joined)

  -- ---- at rest

  -- a node that was reached has noted all: else one that it misses would miss one that joined later still
  at_rest : l.transit ≡ [] → (k v : ℕ) (r : Record) → l.records v ≡ Some r → is.clock - is.times v < k → full n v r ≡ true
  unfolding flight
  at_rest none zero v r is_r late = absurd (omega arith)
  at_rest none (suc k) v r is_r late = ⊎_elim (λ e. e) (λ misses. absurd (later misses (at_rest none k))) (cases_Bool (full n v r))
    where
      no_flight : (x y : ℕ) → one (noted (l.records y) x) ≡ one (sent_to n x (l.records x) y)
      no_flight x y = omega (arith, is.flights x y, ap (flight x y) none)

      later : full n v r ≡ false → ((w : ℕ) (q : Record) → l.records w ≡ Some q → is.clock - is.times w < k → full n w q ≡ true) → ⊥
      later misses rest =
          let found = some_member (neighbours_of n v ∖ r.marked) misses in
          let y = found.0 in
          let parts = and_parts (has (neighbours_of n v) y) (not (has r.marked y)) (sym (has_minus (neighbours_of n v) r.marked y) ∙ found.1) in
          let unnoted : noted (l.records v) y ≡ false = ap (λ o. noted o y) is_r ∙ not-true _ parts.1 in
          let unsent : sent_to n y (l.records y) v ≡ false = one_false _ (sym (no_flight y v) ∙ ap one unnoted) in
          let known_y : is_some (l.records y) ≡ true = missed_known y parts.0 misses in
          let q = known (l.records y) known_y in
          let tests = or_parts (sent_at_once q.0.standing v) (full n y q.0) (near_false _ _ (n.symmetric y v ∙ parts.0) (ap (λ o. sent_to n y o v) (sym q.1) ∙ unsent)) in
          let child = is.parents y v q.0 q.1 (at_once_false q.0.standing v tests.0) in
          both_ways (full n y q.0) tests.1 (rest y q.0 q.1 (omega (arith, child.2, is.past y known_y)))
        where
          -- one that is missed was reached: this node sent to it, or was reached by it
          missed_known : (y : ℕ) → has (neighbours_of n v) y ≡ true → full n v r ≡ false → is_some (l.records y) ≡ true
          missed_known y near not_all = ⊎_elim sent unsent (cases_Bool (sent_to n v (l.records v) y))
            where
              sent : sent_to n v (l.records v) y ≡ true → is_some (l.records y) ≡ true
              sent e = noted_known (l.records y) v (one_true _ (omega (arith, no_flight v y, ap one e)))

              unsent : sent_to n v (l.records v) y ≡ false → is_some (l.records y) ≡ true
              unsent e =
                  let tests = or_parts (sent_at_once r.standing y) (full n v r) (near_false _ _ near (ap (λ o. sent_to n v o y) (sym is_r) ∙ e)) in
                  (is.parents v y r is_r (at_once_false r.standing y tests.0)).1

  pub rests : l.transit ≡ [] → full n s is.start.0 ≡ true
  rests none = at_rest none (is.clock - is.times s + 1) s is.start.0 is.start.1 (omega arith)

-- ---- the opening

module _ (n : Network) (s : ℕ) (node : s < n.nodes) where
  first_record : Record
  first_record = record { standing = Starter; marked = no_nodes; token_sent = false }

  start_here : (w : ℕ) → w ≡ s → (opened opening n s).records w ≡ Some first_record
  unfolding first_record
  start_here w e = at_here nothing_yet.records s _ w e

  none_there : (w : ℕ) → (w ≡ s → ⊥) → (opened opening n s).records w ≡ None
  none_there w other = at_other nothing_yet.records s _ w other

  -- nobody has noted anybody, and only the starter has a record
  none_noted : (x y : ℕ) → noted ((opened opening n s).records y) x ≡ false
  unfolding first_record
  none_noted x y = ⊎_elim (λ e. ap (λ o. noted o x) (start_here y e) ∙ has_none x) (λ other. ap (λ o. noted o x) (none_there y other)) (cases_eq y s)

  opened_sent : (x y : ℕ) → sent_to n x ((opened opening n s).records x) y ≡ (eqb s x && has (neighbours_of n s) y)
  unfolding first_record
  opened_sent x y = ⊎_elim here there (cases_eq x s)
    where
      here : x ≡ s → sent_to n x ((opened opening n s).records x) y ≡ (eqb s x && has (neighbours_of n s) y)
      here e = ap (λ o. sent_to n x o y) (start_here x e) ∙ and_true (has (neighbours_of n x) y) ∙ ap (λ w. has (neighbours_of n w) y) e ∙ sym (ap (λ b. b && has (neighbours_of n s) y) (eq-eqb s x (sym e)))

      there : (x ≡ s → ⊥) → sent_to n x ((opened opening n s).records x) y ≡ (eqb s x && has (neighbours_of n s) y)
      there other = ap (λ o. sent_to n x o y) (none_there x other) ∙ sym (ap (λ b. b && has (neighbours_of n s) y) (ne_eqb s x (λ e. other (sym e))))

  opened_flights : (x y : ℕ) → flight x y (opened opening n s).transit + one (noted ((opened opening n s).records y) x) ≡ one (sent_to n x ((opened opening n s).records x) y)
  opened_flights x y =
      let second_none : one (eqb s x && has no_nodes y) ≡ 0 = ap (λ b. one (eqb s x && b)) (has_none y) ∙ grind (arith, nat_tests) in
      omega (arith, messages_flight s (opening n s) (λ i. eqb i s) x y, ap one (none_noted x y), ap one (opened_sent x y))

  known_start : (w : ℕ) (r : Record) → (opened opening n s).records w ≡ Some r → (w ≡ s) × (r ≡ first_record)
  known_start w r is_r = ⊎_elim (λ e. (e, some_same (sym is_r ∙ start_here w e))) (λ other. absurd (none_some r (sym (none_there w other) ∙ is_r))) (cases_eq w s)

  opened_count : 0 + length (messages s (opening n s) (λ i. eqb i s)) ≡ total (λ v. owed n v ((opened opening n s).records v)) 32
  opened_count =
      let around = neighbours_of n s in
      let change = total_at (λ v. 0) (λ v. owed n v ((opened opening n s).records v)) s 32 (omega (arith, n.few)) (λ i other. ap (owed n i) (none_there i other) ∙ total_none 32) in
      let here : owed n s ((opened opening n s).records s) ≡ size around = total_same (λ i. one (sent_to n s ((opened opening n s).records s) i)) (λ i. one (has around i)) 32 (λ i within. ap one (opened_sent s i ∙ ap (λ b. b && has around i) (eq-eqb s s refl))) ∙ sym (size_total around) in
      omega (arith, messages_length s (opening n s) (λ i. eqb i s), size_none, total_none 32)

  pub opens_echoing : Echoing n s (opened opening n s)
  unfolding first_record
  opens_echoing = record {
    flights = opened_flights;
    start = (first_record, start_here s refl, refl);
    starters = λ v r is_r stands. (known_start v r is_r).0;
    times = λ _. 0;
    clock = 0;
    past = λ v known. omega arith;
    parents = λ v p r is_r stands. absurd (starter_follower p (sym (ap (λ k. k.standing) (known_start v r is_r).1) ∙ stands));
    count = opened_count;
    own = λ v known. ⊎_elim (λ e. ap (λ f. f v) (at_here nothing_yet.covers s (λ i. eqb i s) v e) ∙ eq-eqb v s e) (λ other. absurd (both_ways (is_some ((opened opening n s).records v)) (ap is_some (none_there v other)) known)) (cases_eq v s);
    up = λ v p r is_r stands. absurd (starter_follower p (sym (ap (λ k. k.standing) (known_start v r is_r).1) ∙ stands));
    carried = messages_all (Carries (opened opening n s)) s (opening n s) (λ i. eqb i s) (λ kind receiver r is_r stands. absurd (starter_follower receiver (sym (ap (λ k. k.standing) (known_start s r is_r).1) ∙ stands)));
  }

-- ---- the decisions

-- one decision where the starter has noted all, and none before; it covers all nodes
pub record Judged (n : Network) (s : ℕ) (l : Lone) (is : Echoing n s l) : Type 0 where
  pub once : length l.decisions ≡ one (full n s is.start.0)
  pub covered : CoversAllNodes n l

start_is : {n : Network} {s : ℕ} {l : Lone} (is : Echoing n s l) (r : Record) → l.records s ≡ Some r → is.start.0 ≡ r
start_is is r is_r = some_same (sym is.start.1 ∙ is_r)

-- an event that may add a decision
judge : {n : Network} {s : ℕ} {l : Lone} (is : Echoing n s l) (decides : Bool) (d : Decision) (earlier : List Decision) → l.decisions ≡ cond decides (d ∷ earlier) earlier → one decides + length earlier ≡ one (full n s is.start.0) → (decides ≡ true → (i : ℕ) → i < n.nodes → d.cover i ≡ true) → AllByRecursion (λ e. (i : ℕ) → i < n.nodes → e.cover i ≡ true) earlier → Judged n s l is
judge {n} is true d earlier are once covers before = record { once = ap length are ∙ omega (arith, once); covered = subst (AllByRecursion (λ e. (i : ℕ) → i < n.nodes → e.cover i ≡ true)) (sym are) (covers refl, before) }
judge {n} is false d earlier are once covers before = record { once = ap length are ∙ omega (arith, once); covered = subst (AllByRecursion (λ e. (i : ℕ) → i < n.nodes → e.cover i ≡ true)) (sym are) before }

module _ (n : Network) (s : ℕ) (node : s < n.nodes) where
  opens_judged : Judged n s (opened opening n s) (opens_echoing n s node)
  unfolding first_record
  opens_judged = judge (opens_echoing n s node) (is_empty (neighbours_of n s)) (record { node = s; cover = λ i. eqb i s }) [] refl (omega (arith, ap one all_full')) covers tt
    where
      around : neighbours_of n s ∖ no_nodes ≡ neighbours_of n s
      around = same_members (neighbours_of n s ∖ no_nodes) (neighbours_of n s) (λ i. has_minus (neighbours_of n s) no_nodes i ∙ ap (λ b. has (neighbours_of n s) i && not b) (has_none i) ∙ and_true (has (neighbours_of n s) i))

      all_full' : full n s (opens_echoing n s node).start.0 ≡ is_empty (neighbours_of n s)
      all_full' = ap (full n s) (start_is (opens_echoing n s node) (first_record n s node) (start_here n s node s refl)) ∙ ap is_empty around

      covers : is_empty (neighbours_of n s) ≡ true → (i : ℕ) → i < n.nodes → eqb i s ≡ true
      covers alone i i_node = sym (ap (λ f. f i) (at_here nothing_yet.covers s (λ k. eqb k s) s refl)) ∙ starter_covers (opens_echoing n s node) (all_full' ∙ alone) node i i_node

  module _ (l : Lone) (is : Echoing n s l) (judged : Judged n s l is) (before later : List Message) (m : Message) (split : l.transit ≡ before ++ (m ∷ later)) where
    the_step : Step
    the_step = step n m.receiver (l.records m.receiver) m.sender m.kind

    pub next : Echoing n s (delivered arrival n l (before ++ later) m)
    next =
        let y = m.receiver in
        let x = m.sender in
        next_echoing is before later m split (step n y (l.records y) x m.kind) (step_notes n y x m.kind (l.records y) (link is before later m split) (absent is before later m split)) (step_second n y x m.kind (l.records y)) (step_standing n y x m.kind (l.records y))

    decides_so : the_step.decides ≡ (full n m.receiver the_step.kept && is_starter (standing_after (l.records m.receiver) m.sender))
    unfolding the_step
    decides_so = step_decides n m.receiver m.sender m.kind (l.records m.receiver) (link is before later m split) (absent is before later m split)

    pub next_judged : Judged n s (delivered arrival n l (before ++ later) m) next
    unfolding the_step
    next_judged = judge next the_step.decides (record { node = m.receiver; cover = gained l m }) l.decisions refl (⊎_elim (λ e. (here e).0) (λ other. (there other).0) (cases_eq s m.receiver)) (⊎_elim (λ e. (here e).1) (λ other. (there other).1) (cases_eq s m.receiver)) judged.covered
      where
        -- the starter, which had not noted all
        here : s ≡ m.receiver → (one the_step.decides + length l.decisions ≡ one (full n s next.start.0)) × (the_step.decides ≡ true → (i : ℕ) → i < n.nodes → gained l m i ≡ true)
        here e =
            let was : l.records m.receiver ≡ Some is.start.0 = ap l.records (sym e) ∙ is.start.1 in
            let starts : is_starter (standing_after (l.records m.receiver) m.sender) ≡ true = ap (λ o. is_starter (standing_after o m.sender)) was ∙ ap is_starter is.start.2 in
            let now : full n s next.start.0 ≡ the_step.decides =
            ap₂ (full n) e (start_is next the_step.kept (at_here l.records m.receiver (Some the_step.kept) s e)) ∙ sym (decides_so ∙ ap (λ b. full n m.receiver the_step.kept && b) starts ∙ and_true (full n m.receiver the_step.kept)) in
            let before_not : full n s is.start.0 ≡ false = ap (λ k. full n k is.start.0) e ∙ was_not_full n m.receiver m.sender m.kind is.start.0 (link is before later m split) (ap (λ o. noted o m.sender) (sym was) ∙ absent is before later m split) in
            (omega (arith, judged.once, ap one before_not, ap one now), λ decides i i_node. sym (ap (λ f. f i) (at_here l.covers m.receiver (gained l m) s e)) ∙ starter_covers next (now ∙ decides) node i i_node)

        -- a follower, which decides nothing
        there : (s ≡ m.receiver → ⊥) → (one the_step.decides + length l.decisions ≡ one (full n s next.start.0)) × (the_step.decides ≡ true → (i : ℕ) → i < n.nodes → gained l m i ≡ true)
        there other =
            let not_start : is_starter (standing_after (l.records m.receiver) m.sender) ≡ false = ⊎_elim (λ starts. absurd (let was = after_starter (l.records m.receiver) m.sender (starter_is _ starts) in other (sym (is.starters m.receiver was.0 was.1 was.2)))) (λ no'. no') (cases_Bool (is_starter (standing_after (l.records m.receiver) m.sender))) in
            let undecided : the_step.decides ≡ false = decides_so ∙ ap (λ b. full n m.receiver the_step.kept && b) not_start ∙ and_false (full n m.receiver the_step.kept) in
            let same : full n s next.start.0 ≡ full n s is.start.0 = ap (full n s) (start_is next is.start.0 (at_other l.records m.receiver (Some the_step.kept) s other ∙ is.start.1)) in
            (omega (arith, judged.once, ap one same, ap one undecided), λ decides. absurd (both_ways the_step.decides undecided decides))

  -- every state of a lone run
  pub every : {l : Lone} → Run opening arrival n s l → (is : Echoing n s l) × Judged n s l is
  every opens = (opens_echoing n s node, opens_judged)
  every (delivers {l} run before later m split) = let so_far = every run in (next l so_far.0 so_far.1 before later m split, next_judged l so_far.0 so_far.1 before later m split)

-- ---- the laws

owed_most : (n : Network) (v : ℕ) (o : Option Record) → owed n v o ≤ size (neighbours_of n v)
owed_most n v o = subst (λ k. owed n v o ≤ k) (sym (size_total (neighbours_of n v))) (total_le (λ i. one (sent_to n v o i)) (λ i. one (has (neighbours_of n v) i)) 32 (λ i within. sent_near o i))
  where
    part : (near sent : Bool) → one (near && sent) ≤ one near
    part true true = omega arith
    part true false = omega arith
    part false sent = omega arith

    sent_near : (k : Option Record) (i : ℕ) → one (sent_to n v k i) ≤ one (has (neighbours_of n v) i)
    sent_near None i = omega arith
    sent_near (Some r) i = part (has (neighbours_of n v) i) (sent_at_once r.standing i || full n v r)

few_apart : (ds : List Decision) → length ds ≤ 1 → Apart ds
few_apart [] few = tt
few_apart (d ∷ []) few = (tt, tt)
few_apart (d ∷ (e ∷ ds)) few = absurd (omega arith)

names_noting : (n : Network) (node : ℕ) (kept : Record) (sender : ℕ) (onward : NodeSet) → Neighbours n node onward → Names n node (noting (neighbours_of n node) kept sender onward)
names_noting n node kept sender onward near = record { first = first; second = names_none n node }
  where
    last : Bool
    last = notes_last (neighbours_of n node) kept.marked sender

    back : NodeSet
    back = neighbours_of n node ∖ (neighbours_of n node ∖ parent_of kept.standing)

    first : Neighbours n node (noting (neighbours_of n node) kept sender onward).first_kind
    first i e = ⊎_elim (near i) (λ is_back. names_part n node (neighbours_of n node ∖ parent_of kept.standing) i (and_parts last (has back i) (sym (has_if last back i) ∙ is_back)).1) (or_cases (has onward i) (has (if_so last back) i) (sym (has_union onward (if_so last back) i) ∙ e))

names_arrival : (n : Network) (node : ℕ) (known : Bool) (kept : Record) (sender kind : ℕ) → Names n node (arrival n node known kept sender kind)
names_arrival n node true kept sender kind = names_noting n node kept sender no_nodes (names_none n node)
names_arrival n node false kept sender kind = names_noting n node (follower sender) sender (neighbours_of n node ∖ only sender) (names_part n node (only sender))

pub echo_keeps_laws : KeepsLaws admitted most opening arrival
echo_keeps_laws = record {
  small_bound = λ n. omega (arith, n.thin);
  names_neighbours = record { opens = λ n node. record { first = λ i e. e; second = names_none n node }; arrives = names_arrival };
  within_bound = λ n s yes' node l run. omega (arith, (every n s node run).0.count, total_le (λ v. owed n v (l.records v)) (λ v. size (neighbours_of n v)) 32 (λ v within. owed_most n v (l.records v)), degrees_total n);
  decides_at_rest = λ n s yes' node l run none. let so = every n s node run in omega (arith, so.1.once, ap one (rests so.0 none));
  covers_all_nodes = λ n s yes' node l run. (every n s node run).1.covered;
  decides_once = λ n s yes' node l run. let so = every n s node run in few_apart l.decisions (omega (arith, so.1.once, one_most (full n s so.0.start.0)));
}
