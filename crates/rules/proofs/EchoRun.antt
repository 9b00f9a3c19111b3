-- What holds in every lone run of the echo wave. Assumes nothing.
use Rattle.std.proofs.Common.{◌≡◌, ℕ, ◌+◌, ◌<◌, ◌≤◌, Bool, true, false, not, ◌&&◌, ◌||◌, eqb, ◌⊎◌, List, ◌∷◌, ◌++◌, length, is_some, Some, None, Option, sym, refl, ap, ◌∙◌, subst, ap₂, inl, inr, ⊎_elim, arith}
use Rattle.std.specs.List.{AllByRecursion}
use Rattle.std.proofs.ByRecursion.{All-append}
use Rattle.std.proofs.lemmas.Bool.{and_from, and_parts, both_ways, cases_eq, eq-eqb, eqb-true, ne_eqb, or_cases, or_left, or_right}
use Rattle.std.proofs.lemmas.Bool.Decides.{nat_tests}
use Rattle.base.specs.NodeSets.{has, no_nodes, size}
use Rattle.base.proofs.Members.{member_below}
use Rattle.base.proofs.Small.{or_false, some_same}
use Rattle.network.specs.declared.network.Network.{Network}
use Rattle.wave.specs.Lone.{Cover, Lone, Message, at_node, gained, messages, stepped}
use Rattle.wave.specs.declared.step.Record.{Record}
use Rattle.wave.specs.declared.step.Standing.TheVariants.{Follower, Starter}
use Rattle.wave.specs.declared.step.Step.{Step}
use Rattle.rules.specs.Sets.{neighbours_of}
use Rattle.rules.specs.Sums.{one, total}
use Rattle.rules.proofs.EchoSteps.{Notes, full, noted, sent_at_once, sent_to, standing_after, was_not_full}
use Rattle.rules.proofs.Flights.{flight, flight_append, flight_middle, goes}
use Rattle.rules.proofs.Nodes.{all_both, all_fly, all_middle, at_here, at_other, messages_all, messages_flight, messages_length}
use Rattle.rules.proofs.SetLaws.{has_none, size_none}
use Rattle.rules.proofs.Totals.{one_false, one_most, one_true, size_total, total_at, total_same, total_sum}

-- how many messages a node with this record has sent
abbrev pub owed : Network → ℕ → Option Record → ℕ
owed n node kept = total (λ i. one (sent_to n node kept i)) 32

-- a message to the parent of its sender carries all that the sender covers
abbrev pub Carries : Lone → Message → Type 0
Carries l m = (r : Record) → l.records m.sender ≡ Some r → r.standing ≡ Follower m.receiver → (i : ℕ) → l.covers m.sender i ≡ true → m.cover i ≡ true

pub record Echoing (n : Network) (s : ℕ) (l : Lone) : Type 0 where
  -- what x has sent to y is in transit or was noted, and was sent once
  pub flights : (x y : ℕ) → flight x y l.transit + one (noted (l.records y) x) ≡ one (sent_to n x (l.records x) y)
  pub start : (r : Record) × (l.records s ≡ Some r) × (r.standing ≡ Starter)
  pub starters : (v : ℕ) (r : Record) → l.records v ≡ Some r → r.standing ≡ Starter → v ≡ s
  -- when each node joined
  pub times : ℕ → ℕ
  pub clock : ℕ
  pub past : (v : ℕ) → is_some (l.records v) ≡ true → times v ≤ clock
  pub parents : (v p : ℕ) (r : Record) → l.records v ≡ Some r → r.standing ≡ Follower p → (has (neighbours_of n v) p ≡ true) × (is_some (l.records p) ≡ true) × (times p < times v)
  pub count : l.sent ≡ total (λ v. owed n v (l.records v)) 32
  -- covers
  pub own : (v : ℕ) → is_some (l.records v) ≡ true → l.covers v v ≡ true
  pub up : (v p : ℕ) (r : Record) → l.records v ≡ Some r → r.standing ≡ Follower p → noted (l.records p) v ≡ true → (i : ℕ) → l.covers v i ≡ true → l.covers p i ≡ true
  pub carried : AllByRecursion (Carries l) l.transit

-- ---- what follows in one state

module _ {n : Network} {s : ℕ} {l : Lone} (is : Echoing n s l) where
  -- a node that sent has a record
  pub sender_known : (x y : ℕ) → sent_to n x (l.records x) y ≡ true → is_some (l.records x) ≡ true
  sender_known x y sent = go (l.records x) sent
    where
      go : (o : Option Record) → sent_to n x o y ≡ true → is_some o ≡ true
      go None e = absurd (both_ways true (sym e) refl)
      go (Some r) e = refl

  -- a node that sent to another is its neighbour
  pub sender_near : (x y : ℕ) → sent_to n x (l.records x) y ≡ true → has (neighbours_of n x) y ≡ true
  sender_near x y sent = go (l.records x) sent
    where
      go : (o : Option Record) → sent_to n x o y ≡ true → has (neighbours_of n x) y ≡ true
      go None e = absurd (both_ways true (sym e) refl)
      go (Some r) e = (and_parts (has (neighbours_of n x) y) _ e).0

  -- one that was noted has sent
  pub noted_sent : (x y : ℕ) → noted (l.records y) x ≡ true → sent_to n x (l.records x) y ≡ true
  noted_sent x y e = one_true (sent_to n x (l.records x) y) (omega (arith, is.flights x y, ap one e))

-- who stands as a starter after an event had a record, as a starter
pub after_starter : (o : Option Record) (sender : ℕ) → standing_after o sender ≡ Starter → (r : Record) × (o ≡ Some r) × (r.standing ≡ Starter)
after_starter None sender e = absurd (let z : ◌≡◌ {A = ℕ} 0 1 = cc in omega arith)
after_starter (Some r) sender e = (r, refl, e)

-- who follows after an event was reached now, or followed before
after_follower : (o : Option Record) (sender p : ℕ) → standing_after o sender ≡ Follower p → ((o ≡ None) × (sender ≡ p)) ⊎ ((r : Record) × (o ≡ Some r) × (r.standing ≡ Follower p))
after_follower None sender p e = inl (refl, cc)
after_follower (Some r) sender p e = inr (r, refl, e)

-- the time of a node's first event
abbrev joined_at : Option Record → ℕ → ℕ → ℕ
joined_at None old now = now
joined_at (Some r) old now = old

joined_known : (o : Option Record) (old now : ℕ) → is_some o ≡ true → joined_at o old now ≡ old
joined_known None old now e = absurd (both_ways true (sym e) refl)
joined_known (Some r) old now e = refl

joined_most : (o : Option Record) (old clock : ℕ) → (is_some o ≡ true → old ≤ clock) → joined_at o old (clock + 1) ≤ clock + 1
joined_most None old clock le = omega arith
joined_most (Some r) old clock le = omega (arith, le refl)

not_yet : (near itself : Bool) → itself ≡ true → (near && (not itself || false)) ≡ false
not_yet true true e = refl
not_yet true false e = sym e
not_yet false x e = refl

-- ---- one delivery

module _ {n : Network} {s : ℕ} {l : Lone} (is : Echoing n s l) (before later : List Message) (m : Message) (split : l.transit ≡ before ++ (m ∷ later)) where
  transit_flight : (u v : ℕ) → flight u v l.transit ≡ one (goes m u v) + flight u v (before ++ later)
  transit_flight u v = ap (flight u v) split ∙ flight_middle u v before later m

  its_flight : one (goes m m.sender m.receiver) ≡ 1
  its_flight = ap one (and_from _ _ (eq-eqb m.sender m.sender refl) (eq-eqb m.receiver m.receiver refl))

  -- the receiver has not noted the sender yet
  pub absent : noted (l.records m.receiver) m.sender ≡ false
  absent = one_false _ (omega (arith, is.flights m.sender m.receiver, transit_flight m.sender m.receiver, its_flight, one_most (sent_to n m.sender (l.records m.sender) m.receiver)))

  was_sent : sent_to n m.sender (l.records m.sender) m.receiver ≡ true
  was_sent = one_true _ (omega (arith, is.flights m.sender m.receiver, transit_flight m.sender m.receiver, its_flight))

  near : has (neighbours_of n m.sender) m.receiver ≡ true
  near = sender_near is m.sender m.receiver was_sent

  -- the two are neighbours, and two nodes
  pub link : has (neighbours_of n m.receiver) m.sender ≡ true
  link = n.symmetric m.receiver m.sender ∙ near

  apart : m.sender ≡ m.receiver → ⊥
  apart e = both_ways (has (neighbours_of n m.receiver) m.receiver) (n.loopless m.receiver) (ap (has (neighbours_of n m.receiver)) (sym e) ∙ link)

  -- a message to a node means that the node has not noted all
  waits : (r : Record) → l.records m.receiver ≡ Some r → full n m.receiver r ≡ false
  waits r e = was_not_full n m.receiver m.sender m.kind r link (ap (λ o. noted o m.sender) (sym e) ∙ absent)

  -- and so has sent nothing to its parent
  parent_waits : (p : ℕ) (r : Record) → l.records m.receiver ≡ Some r → r.standing ≡ Follower p → sent_to n m.receiver (l.records m.receiver) p ≡ true → ⊥
  parent_waits p r e stands sent = both_ways (sent_to n m.receiver (Some r) p) (ap (λ b. has (neighbours_of n m.receiver) p && (sent_at_once r.standing p || b)) (waits r e) ∙ ap (λ st. has (neighbours_of n m.receiver) p && (sent_at_once st p || false)) stands ∙ not_yet (has (neighbours_of n m.receiver) p) (eqb p p) (eq-eqb p p refl)) (ap (λ o. sent_to n m.receiver o p) (sym e) ∙ sent)

  module _ (st : Step) (notes : Notes n m.receiver (l.records m.receiver) m.sender st.kept st.first_kind) (second : st.second_kind ≡ no_nodes) (standing : st.kept.standing ≡ standing_after (l.records m.receiver) m.sender) where
    now_sent : (u v : ℕ) → flight u v ((before ++ later) ++ messages m.receiver st (gained l m)) ≡ flight u v (before ++ later) + one (eqb m.receiver u && has st.first_kind v)
    now_sent u v =
        let none : one (eqb m.receiver u && has st.second_kind v) ≡ 0 = ap (λ w. one (eqb m.receiver u && has w v)) second ∙ ap (λ w. one (eqb m.receiver u && w)) (has_none v) ∙ grind (arith, nat_tests) in
        omega (arith, flight_append u v (before ++ later) (messages m.receiver st (gained l m)), messages_flight m.receiver st (gained l m) u v)

    records_next : ℕ → Option Record
    records_next = at_node l.records m.receiver (Some st.kept)

    next_flights : (u v : ℕ) → flight u v ((before ++ later) ++ messages m.receiver st (gained l m)) + one (noted (records_next v) u) ≡ one (sent_to n u (records_next u) v)
    unfolding records_next
    next_flights u v = go (cases_eq u m.receiver) (cases_eq v m.receiver) (cases_eq u m.sender)
      where
        new_here : (w : ℕ) → w ≡ m.receiver → records_next w ≡ Some st.kept
        new_here w e = at_here l.records m.receiver (Some st.kept) w e

        old_there : (w : ℕ) → (w ≡ m.receiver → ⊥) → records_next w ≡ l.records w
        old_there w other = at_other l.records m.receiver (Some st.kept) w other

        -- who is not the sender is noted as before
        noted_still : v ≡ m.receiver → (u ≡ m.sender → ⊥) → noted (records_next v) u ≡ noted (l.records v) u
        noted_still v_here u_quiet = ap (λ o. noted o u) (new_here v v_here) ∙ notes.marks u ∙ ap (λ b. noted (l.records m.receiver) u || b) (ne_eqb u m.sender u_quiet) ∙ or_false (noted (l.records m.receiver) u) ∙ ap (λ k. noted (l.records k) u) (sym v_here)

        goes_else : u ≡ m.receiver → one (goes m u v) ≡ 0
        goes_else u_here = ap (λ b. one (b && eqb m.receiver v)) (ne_eqb m.sender u (λ e. apart (e ∙ u_here)))

        -- what the receiver sends now is what it had not sent
        newly : u ≡ m.receiver → one (eqb m.receiver u && has st.first_kind v) + one (sent_to n u (l.records u) v) ≡ one (sent_to n u (records_next u) v)
        newly u_here =
            ap (λ b. one (b && has st.first_kind v) + one (sent_to n u (l.records u) v)) (eq-eqb m.receiver u (sym u_here)) ∙ ap (λ k. one (has st.first_kind v) + one (sent_to n k (l.records k) v)) u_here ∙ notes.sends v ∙ ap (λ k. one (sent_to n k (Some st.kept) v)) (sym u_here) ∙ ap (λ o. one (sent_to n u o v)) (sym (new_here u u_here))

        go : (u ≡ m.receiver) ⊎ (u ≡ m.receiver → ⊥) → (v ≡ m.receiver) ⊎ (v ≡ m.receiver → ⊥) → (u ≡ m.sender) ⊎ (u ≡ m.sender → ⊥) → flight u v ((before ++ later) ++ messages m.receiver st (gained l m)) + one (noted (records_next v) u) ≡ one (sent_to n u (records_next u) v)
        go (inr u_else) (inr v_else) w =
            let sends_none : one (eqb m.receiver u && has st.first_kind v) ≡ 0 = ap (λ b. one (b && has st.first_kind v)) (ne_eqb m.receiver u (λ e. u_else (sym e))) in
            let goes_not : one (goes m u v) ≡ 0 = ap (λ b. one (eqb m.sender u && b)) (ne_eqb m.receiver v (λ e. v_else (sym e))) ∙ grind (arith, nat_tests) in
            omega (arith, now_sent u v, transit_flight u v, is.flights u v, ap (λ o. one (noted o u)) (old_there v v_else), ap (λ o. one (sent_to n u o v)) (old_there u u_else))
        go (inr u_else) (inl v_here) (inl u_sends) =
            let sends_none : one (eqb m.receiver u && has st.first_kind v) ≡ 0 = ap (λ b. one (b && has st.first_kind v)) (ne_eqb m.receiver u (λ e. u_else (sym e))) in
            let goes_so : one (goes m u v) ≡ 1 = ap one (and_from _ _ (eq-eqb m.sender u (sym u_sends)) (eq-eqb m.receiver v (sym v_here))) in
            let noted_now : one (noted (records_next v) u) ≡ 1 = ap one (ap (λ o. noted o u) (new_here v v_here) ∙ notes.marks u ∙ or_right _ _ (eq-eqb u m.sender u_sends)) in
            let noted_not : one (noted (l.records v) u) ≡ 0 = ap one (ap (λ k. noted (l.records k) u) v_here ∙ ap (noted (l.records m.receiver)) u_sends ∙ absent) in
            omega (arith, now_sent u v, transit_flight u v, is.flights u v, ap (λ o. one (sent_to n u o v)) (old_there u u_else))
        go (inr u_else) (inl v_here) (inr u_quiet) =
            let sends_none : one (eqb m.receiver u && has st.first_kind v) ≡ 0 = ap (λ b. one (b && has st.first_kind v)) (ne_eqb m.receiver u (λ e. u_else (sym e))) in
            let goes_not : one (goes m u v) ≡ 0 = ap (λ b. one (b && eqb m.receiver v)) (ne_eqb m.sender u (λ e. u_quiet (sym e))) in
            omega (arith, now_sent u v, transit_flight u v, is.flights u v, ap one (noted_still v_here u_quiet), ap (λ o. one (sent_to n u o v)) (old_there u u_else))
        go (inl u_here) (inr v_else) w =
            omega (arith, now_sent u v, transit_flight u v, is.flights u v, goes_else u_here, newly u_here, ap (λ o. one (noted o u)) (old_there v v_else))
        go (inl u_here) (inl v_here) w =
            omega (arith, now_sent u v, transit_flight u v, is.flights u v, goes_else u_here, newly u_here, ap one (noted_still v_here (λ e. apart (sym e ∙ u_here))))

    -- ---- who has a record, and since when

    new_here : (w : ℕ) → w ≡ m.receiver → records_next w ≡ Some st.kept
    unfolding records_next
    new_here w e = at_here l.records m.receiver (Some st.kept) w e

    old_there : (w : ℕ) → (w ≡ m.receiver → ⊥) → records_next w ≡ l.records w
    unfolding records_next
    old_there w other = at_other l.records m.receiver (Some st.kept) w other

    still_known : (w : ℕ) → is_some (l.records w) ≡ true → is_some (records_next w) ≡ true
    still_known w known = ⊎_elim (λ e. ap is_some (new_here w e)) (λ other. ap is_some (old_there w other) ∙ known) (cases_eq w m.receiver)

    times_next : ℕ → ℕ
    times_next = at_node is.times m.receiver (joined_at (l.records m.receiver) (is.times m.receiver) (is.clock + 1))

    time_here : times_next m.receiver ≡ joined_at (l.records m.receiver) (is.times m.receiver) (is.clock + 1)
    unfolding times_next
    time_here = at_here is.times m.receiver _ m.receiver refl

    time_there : (w : ℕ) → (w ≡ m.receiver → ⊥) → times_next w ≡ is.times w
    unfolding times_next
    time_there w other = at_other is.times m.receiver _ w other

    time_known : (w : ℕ) → is_some (l.records w) ≡ true → times_next w ≡ is.times w
    time_known w known = ⊎_elim (λ e. ap times_next e ∙ time_here ∙ joined_known (l.records m.receiver) (is.times m.receiver) (is.clock + 1) (ap (λ k. is_some (l.records k)) (sym e) ∙ known) ∙ ap is.times (sym e)) (time_there w) (cases_eq w m.receiver)

    next_past : (w : ℕ) → is_some (records_next w) ≡ true → times_next w ≤ is.clock + 1
    next_past w known = ⊎_elim here there (cases_eq w m.receiver)
      where
        here : w ≡ m.receiver → times_next w ≤ is.clock + 1
        here e = subst (λ t. t ≤ is.clock + 1) (sym (ap times_next e ∙ time_here)) (joined_most (l.records m.receiver) (is.times m.receiver) is.clock (is.past m.receiver))

        there : (w ≡ m.receiver → ⊥) → times_next w ≤ is.clock + 1
        there other = omega (arith, time_there w other, is.past w (ap is_some (sym (old_there w other)) ∙ known))

    -- ---- who stands how

    here_stands : (w : ℕ) (r : Record) → w ≡ m.receiver → records_next w ≡ Some r → standing_after (l.records m.receiver) m.sender ≡ r.standing
    here_stands w r e is_r = sym standing ∙ ap (λ k. k.standing) (some_same (sym (new_here w e) ∙ is_r))

    next_start : (r : Record) × (records_next s ≡ Some r) × (r.standing ≡ Starter)
    next_start = ⊎_elim here there (cases_eq s m.receiver)
      where
        here : s ≡ m.receiver → (r : Record) × (records_next s ≡ Some r) × (r.standing ≡ Starter)
        here e = (st.kept, new_here s e, standing ∙ ap (λ o. standing_after o m.sender) (ap l.records (sym e) ∙ is.start.1) ∙ is.start.2)

        there : (s ≡ m.receiver → ⊥) → (r : Record) × (records_next s ≡ Some r) × (r.standing ≡ Starter)
        there other = (is.start.0, old_there s other ∙ is.start.1, is.start.2)

    next_starters : (v : ℕ) (r : Record) → records_next v ≡ Some r → r.standing ≡ Starter → v ≡ s
    next_starters v r is_r stands = ⊎_elim here there (cases_eq v m.receiver)
      where
        here : v ≡ m.receiver → v ≡ s
        here e = let was = after_starter (l.records m.receiver) m.sender (here_stands v r e is_r ∙ stands) in e ∙ is.starters m.receiver was.0 was.1 was.2

        there : (v ≡ m.receiver → ⊥) → v ≡ s
        there other = is.starters v r (sym (old_there v other) ∙ is_r) stands

    next_parents : (v p : ℕ) (r : Record) → records_next v ≡ Some r → r.standing ≡ Follower p → (has (neighbours_of n v) p ≡ true) × (is_some (records_next p) ≡ true) × (times_next p < times_next v)
    next_parents v p r is_r stands = ⊎_elim here there (cases_eq v m.receiver)
      where
        there : (v ≡ m.receiver → ⊥) → (has (neighbours_of n v) p ≡ true) × (is_some (records_next p) ≡ true) × (times_next p < times_next v)
        there other = let was = is.parents v p r (sym (old_there v other) ∙ is_r) stands in (was.0, still_known p was.1, omega (arith, was.2, time_known p was.1, time_there v other))

        here : v ≡ m.receiver → (has (neighbours_of n v) p ≡ true) × (is_some (records_next p) ≡ true) × (times_next p < times_next v)
        here e = ⊎_elim reached followed (after_follower (l.records m.receiver) m.sender p (here_stands v r e is_r ∙ stands))
          where
            reached : (l.records m.receiver ≡ None) × (m.sender ≡ p) → (has (neighbours_of n v) p ≡ true) × (is_some (records_next p) ≡ true) × (times_next p < times_next v)
            reached w =
                let known = sender_known is m.sender m.receiver was_sent in
                let known_p : is_some (l.records p) ≡ true = ap (λ k. is_some (l.records k)) (sym w.1) ∙ known in
                let joins : times_next v ≡ is.clock + 1 = ap times_next e ∙ time_here ∙ ap (λ o. joined_at o (is.times m.receiver) (is.clock + 1)) w.0 in
                (ap₂ (λ a b. has (neighbours_of n a) b) e (sym w.1) ∙ link, still_known p known_p, omega (arith, time_known p known_p, is.past p known_p))

            followed : (k : Record) × (l.records m.receiver ≡ Some k) × (k.standing ≡ Follower p) → (has (neighbours_of n v) p ≡ true) × (is_some (records_next p) ≡ true) × (times_next p < times_next v)
            followed w =
                let was = is.parents m.receiver p w.0 w.1 w.2 in
                let known_v : is_some (l.records v) ≡ true = ap (λ k. is_some (l.records k)) e ∙ ap is_some w.1 in
                (ap (λ a. has (neighbours_of n a) p) e ∙ was.0, still_known p was.1, omega (arith, was.2, time_known p was.1, time_known v known_v, ap is.times e))

    -- ---- how many messages were sent

    next_count : l.sent + length (messages m.receiver st (gained l m)) ≡ total (λ v. owed n v (records_next v)) 32
    next_count =
        let y = m.receiver in
        let second_none : size st.second_kind ≡ 0 = ap size second ∙ size_none in
        let sends : size st.first_kind + owed n y (l.records y) ≡ owed n y (Some st.kept) =
        ap (λ k. k + owed n y (l.records y)) (size_total st.first_kind) ∙ sym (total_sum (λ i. one (has st.first_kind i)) (λ i. one (sent_to n y (l.records y) i)) 32) ∙ total_same (λ i. one (has st.first_kind i) + one (sent_to n y (l.records y) i)) (λ i. one (sent_to n y (Some st.kept) i)) 32 (λ i within. notes.sends i) in
        let change = total_at (λ v. owed n v (l.records v)) (λ v. owed n v (records_next v)) y 32 (member_below (neighbours_of n m.sender) y near) (λ i other. ap (owed n i) (old_there i other)) in
        omega (arith, messages_length y st (gained l m), is.count, ap (owed n y) (new_here y refl))

    -- ---- covers

    covers_next : ℕ → Cover
    covers_next = at_node l.covers m.receiver (gained l m)

    cover_here : (w i : ℕ) → w ≡ m.receiver → covers_next w i ≡ gained l m i
    unfolding covers_next
    cover_here w i e = ap (λ f. f i) (at_here l.covers m.receiver (gained l m) w e)

    cover_there : (w i : ℕ) → (w ≡ m.receiver → ⊥) → covers_next w i ≡ l.covers w i
    unfolding covers_next
    cover_there w i other = ap (λ f. f i) (at_other l.covers m.receiver (gained l m) w other)

    next_own : (v : ℕ) → is_some (records_next v) ≡ true → covers_next v v ≡ true
    next_own v known = ⊎_elim (λ e. cover_here v v e ∙ or_left _ _ (eq-eqb v m.receiver e)) (λ other. cover_there v v other ∙ is.own v (ap is_some (sym (old_there v other)) ∙ known)) (cases_eq v m.receiver)

    -- the receiver covers what it covered, and what the message covers
    gains_own : (i : ℕ) → l.covers m.receiver i ≡ true → gained l m i ≡ true
    gains_own i e = or_right _ _ (or_left _ _ e)

    gains_message : (i : ℕ) → m.cover i ≡ true → gained l m i ≡ true
    gains_message i e = or_right _ _ (or_right (l.covers m.receiver i) (m.cover i) e)

    -- the receiver has sent nothing to its parent
    no_parent_sent : (w p : ℕ) (r : Record) → w ≡ m.receiver → records_next w ≡ Some r → r.standing ≡ Follower p → sent_to n m.receiver (l.records m.receiver) p ≡ true → ⊥
    no_parent_sent w p r e is_r stands sent = ⊎_elim reached followed (after_follower (l.records m.receiver) m.sender p (here_stands w r e is_r ∙ stands))
      where
        reached : (l.records m.receiver ≡ None) × (m.sender ≡ p) → ⊥
        reached w = both_ways false refl (sym (ap (λ o. sent_to n m.receiver o p) w.0) ∙ sent)

        followed : (k : Record) × (l.records m.receiver ≡ Some k) × (k.standing ≡ Follower p) → ⊥
        followed w = parent_waits p w.0 w.1 w.2 sent

    its_carried : Carries l m
    its_carried = (all_middle (Carries l) before later m (subst (AllByRecursion (Carries l)) split is.carried)).0

    left_carried : AllByRecursion (Carries l) (before ++ later)
    left_carried = (all_middle (Carries l) before later m (subst (AllByRecursion (Carries l)) split is.carried)).1

    next_up : (v p : ℕ) (r : Record) → records_next v ≡ Some r → r.standing ≡ Follower p → noted (records_next p) v ≡ true → (i : ℕ) → covers_next v i ≡ true → covers_next p i ≡ true
    next_up v p r is_r stands is_noted i covered = go (cases_eq v m.receiver) (cases_eq p m.receiver)
      where
        go : (v ≡ m.receiver) ⊎ (v ≡ m.receiver → ⊥) → (p ≡ m.receiver) ⊎ (p ≡ m.receiver → ⊥) → covers_next p i ≡ true
        go (inl v_here) (inl p_here) = absurd (both_ways (has (neighbours_of n v) v) (n.loopless v) (ap (has (neighbours_of n v)) (v_here ∙ sym p_here) ∙ (next_parents v p r is_r stands).0))
        go (inl v_here) (inr p_else) = absurd (no_parent_sent v p r v_here is_r stands (noted_sent is m.receiver p (ap (noted (l.records p)) (sym v_here) ∙ ap (λ o. noted o v) (sym (old_there p p_else)) ∙ is_noted)))
        go (inr v_else) (inr p_else) =
            cover_there p i p_else ∙ is.up v p r (sym (old_there v v_else) ∙ is_r) stands (ap (λ o. noted o v) (sym (old_there p p_else)) ∙ is_noted) i (sym (cover_there v i v_else) ∙ covered)
        go (inr v_else) (inl p_here) =
            cover_here p i p_here ∙ ⊎_elim before_noted now_noted (or_cases _ _ (sym (ap (λ o. noted o v) (new_here p p_here) ∙ notes.marks v) ∙ is_noted))
          where
            covered_before : l.covers v i ≡ true
            covered_before = sym (cover_there v i v_else) ∙ covered

            was_r : l.records v ≡ Some r
            was_r = sym (old_there v v_else) ∙ is_r

            before_noted : noted (l.records m.receiver) v ≡ true → gained l m i ≡ true
            before_noted e = gains_own i (is.up v m.receiver r was_r (stands ∙ ap Follower p_here) e i covered_before)

            now_noted : eqb v m.sender ≡ true → gained l m i ≡ true
            now_noted e = let sends = eqb-true v m.sender e in gains_message i (its_carried r (ap l.records (sym sends) ∙ was_r) (stands ∙ ap Follower p_here) i (ap (λ k. l.covers k i) (sym sends) ∙ covered_before))

    -- a message left in transit is none from the receiver to its parent
    next_carried : (k : Message) → 0 < flight k.sender k.receiver (before ++ later) → Carries l k → (r : Record) → records_next k.sender ≡ Some r → r.standing ≡ Follower k.receiver → (i : ℕ) → covers_next k.sender i ≡ true → k.cover i ≡ true
    next_carried k flies carries r is_r stands i covered = ⊎_elim here there (cases_eq k.sender m.receiver)
      where
        here : k.sender ≡ m.receiver → k.cover i ≡ true
        here e = absurd (no_parent_sent k.sender k.receiver r e is_r stands (ap (λ w. sent_to n w (l.records w) k.receiver) (sym e) ∙ one_true _ (omega (arith, is.flights k.sender k.receiver, transit_flight k.sender k.receiver))))

        there : (k.sender ≡ m.receiver → ⊥) → k.cover i ≡ true
        there other = carries r (sym (old_there k.sender other) ∙ is_r) stands i (sym (cover_there k.sender i other) ∙ covered)

    pub next_echoing : Echoing n s (stepped l (before ++ later) m.receiver (gained l m) st)
    unfolding records_next covers_next
    next_echoing = record {
      flights = next_flights;
      start = next_start;
      starters = next_starters;
      times = times_next;
      clock = is.clock + 1;
      past = next_past;
      parents = next_parents;
      count = next_count;
      own = next_own;
      up = next_up;
      carried = All-append Kept (before ++ later) (messages m.receiver st (gained l m)) (all_both (λ k. 0 < flight k.sender k.receiver (before ++ later)) (Carries l) Kept next_carried (before ++ later) (all_fly (before ++ later)) left_carried) (messages_all Kept m.receiver st (gained l m) (λ kind receiver r is_r stands i covered. sym (cover_here m.receiver i refl) ∙ covered));
    }
      where
        Kept : Message → Type 0
        Kept k = (r : Record) → at_node l.records m.receiver (Some st.kept) k.sender ≡ Some r → r.standing ≡ Follower k.receiver → (i : ℕ) → at_node l.covers m.receiver (gained l m) k.sender i ≡ true → k.cover i ≡ true
