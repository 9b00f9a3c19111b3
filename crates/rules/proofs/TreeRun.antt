-- What holds in every lone run of the tree wave. Assumes nothing.
use Rattle.std.proofs.Common.{◌≡◌, ℕ, ◌+◌, ◌<◌, ◌≤◌, Bool, true, false, cond, not, ◌&&◌, ◌||◌, eqb, ◌⊎◌, List, ◌∷◌, ◌++◌, length, is_some, Some, None, Option, sym, refl, ap, ◌∙◌, subst, ap₂, inl, inr, ⊎_elim, arith}
use mathlib.Core.Bool.{Bool-set}
use mathlib.Core.Logic.{∥∥₁_elim}
use Rattle.std.specs.List.{AllByRecursion}
use Rattle.std.proofs.ByRecursion.{All-append, All-weaker}
use Rattle.std.proofs.lemmas.Bool.{and_from, and_parts, both_ways, cases_Bool, cases_eq, cases_lt, eq-eqb, eqb-false, eqb-true, ne_eqb, not_from_false, not-true, or_cases, or_left, or_right}
use Rattle.std.proofs.lemmas.Bool.Decides.{nat_tests}
use Rattle.base.specs.NodeSets.{has, size}
use Rattle.base.proofs.Members.{member_below}
use Rattle.base.proofs.Small.{and_false, or_false, some_same}
use Rattle.network.specs.Paths.{Path, here, onward}
use Rattle.network.specs.declared.network.Network.{Network}
use Rattle.wave.specs.Laws.{Apart}
use Rattle.wave.specs.Lone.{Cover, Decision, Lone, Message, at_node, gained, messages, stepped}
use Rattle.wave.specs.declared.step.Record.{Record}
use Rattle.wave.specs.declared.step.Standing.TheVariants.{Follower, Starter}
use Rattle.wave.specs.declared.step.Step.{Step}
use Rattle.rules.specs.Sets.{is_empty, neighbours_of}
use Rattle.rules.specs.Sums.{one, total}
use Rattle.rules.proofs.Flights.{flight, flight_append, flight_middle, goes, second_goes, seconds, seconds_append, seconds_middle}
use Rattle.rules.proofs.Nodes.{all_middle, at_here, at_other, messages_each, messages_flight, messages_length, messages_seconds}
use Rattle.rules.proofs.SetLaws.{empty_none, none_empty}
use Rattle.rules.proofs.Sizes.{size_less}
use Rattle.rules.proofs.Totals.{one_false, one_most, size_total, total_at, total_part, total_same, total_sum}
use Rattle.rules.proofs.TreeSteps.{Told, Within, allowed, noted, standing_after, token_out}

-- ---- paths that avoid a node

-- a link between two nodes other than v
abbrev pub avoiding : Network → ℕ → ℕ → ℕ → Bool
avoiding n v a b = has (neighbours_of n a) b && (not (eqb a v) && not (eqb b v))

-- Cut a path to w at its first visit of w: it begins there, or comes by a neighbour of w along a path without w.
pub first_visit : {joined : ℕ → ℕ → Bool} (n : Network) (w x : ℕ) → ((a b : ℕ) → joined a b ≡ true → has (neighbours_of n a) b ≡ true) → Path joined x w → (x ≡ w) ⊎ ((u : ℕ) × (joined u w ≡ true) × Path (avoiding n w) x u)
first_visit {joined} n w x near path = ⊎_elim inl (λ other. inr (came other path)) (cases_eq x w)
  where
    cut : (x ≡ w → ⊥) → {b : ℕ} → Path joined x b → ((b ≡ w → ⊥) × Path (avoiding n w) x b) ⊎ ((u : ℕ) × (joined u w ≡ true) × Path (avoiding n w) x u)
    cut other here = inl (other, here)
    cut other (onward {a} {b} path' link) = ⊎_elim (λ clear. ⊎_elim (λ e. inr (a, subst (λ k. joined a k ≡ true) e link, clear.1)) (λ away. inl (away, onward clear.1 (and_from _ _ (near a b link) (and_from _ _ (not_from_false _ (ne_eqb a w clear.0)) (not_from_false _ (ne_eqb b w away)))))) (cases_eq b w)) inr (cut other path')

    came : (x ≡ w → ⊥) → Path joined x w → (u : ℕ) × (joined u w ≡ true) × Path (avoiding n w) x u
    came other path' = ⊎_elim (λ clear. absurd (clear.0 refl)) (λ found. found) (cut other path')

pub avoiding_near : (n : Network) (v a b : ℕ) → avoiding n v a b ≡ true → has (neighbours_of n a) b ≡ true
avoiding_near n v a b e = (and_parts _ _ e).0

-- ---- the invariant

-- a message goes along a link, from a node that was reached
pub record Sent (n : Network) (l : Lone) (m : Message) : Type 0 where
  pub near : has (neighbours_of n m.sender) m.receiver ≡ true
  pub known : is_some (l.records m.sender) ≡ true
  -- a token carries every node with a path to its sender that avoids its receiver
  pub carries : eqb m.kind 2 ≡ true → (x : ℕ) → Path (avoiding n m.receiver) x m.sender → m.cover x ≡ true

pub record Treeing (n : Network) (s : ℕ) (l : Lone) : Type 0 where
  pub sent : AllByRecursion (Sent n l) l.transit
  pub inside : (v : ℕ) → Within n v (l.records v)
  pub start : is_some (l.records s) ≡ true
  pub starters : (v : ℕ) (r : Record) → l.records v ≡ Some r → r.standing ≡ Starter → v ≡ s
  -- the token of a node is under way or was noted by one, or is not out
  pub tokens : (u : ℕ) → total (λ v. seconds u v l.transit + one (noted n v (l.records v) u)) 32 ≡ one (token_out (l.records u))
  -- a neighbour of one that was reached was reached, or a message is under way to it
  pub reach : (u v : ℕ) → is_some (l.records u) ≡ true → has (neighbours_of n u) v ≡ true → (is_some (l.records v) ≡ true) ⊎ (0 < flight u v l.transit)
  pub quiet : (v : ℕ) (r : Record) → l.records v ≡ Some r → r.token_sent ≡ false → (2 ≤ size r.marked) ⊎ (0 < length l.decisions)
  pub ended : (v : ℕ) (r : Record) → l.records v ≡ Some r → is_empty r.marked ≡ true → 0 < length l.decisions
  -- a follower has a neighbour
  pub kin : (v p : ℕ) (r : Record) → l.records v ≡ Some r → r.standing ≡ Follower p → 1 ≤ size (neighbours_of n v)
  pub count : l.sent ≤ total (λ v. allowed n v (l.records v)) 32
  pub own : (v : ℕ) → is_some (l.records v) ≡ true → l.covers v v ≡ true
  -- a node covers every node with a path to one that it noted which avoids it
  pub heard : (v u : ℕ) → noted n v (l.records v) u ≡ true → (x : ℕ) → Path (avoiding n v) x u → l.covers v x ≡ true
  -- who decided has noted all
  pub decided : AllByRecursion (λ d. (r : Record) × (l.records d.node ≡ Some r) × (is_empty r.marked ≡ true)) l.decisions
  pub apart : Apart l.decisions

-- ---- one delivery

module _ {n : Network} {s : ℕ} {l : Lone} (is : Treeing n s l) (before later : List Message) (m : Message) (split : l.transit ≡ before ++ (m ∷ later)) where
  its : Sent n l m
  its = (all_middle (Sent n l) before later m (subst (AllByRecursion (Sent n l)) split is.sent)).0

  left_sent : AllByRecursion (Sent n l) (before ++ later)
  left_sent = (all_middle (Sent n l) before later m (subst (AllByRecursion (Sent n l)) split is.sent)).1

  -- the sender is a neighbour
  pub link : has (neighbours_of n m.receiver) m.sender ≡ true
  link = n.symmetric m.receiver m.sender ∙ its.near

  apart_nodes : m.sender ≡ m.receiver → ⊥
  apart_nodes e = both_ways (has (neighbours_of n m.receiver) m.receiver) (n.loopless m.receiver) (ap (has (neighbours_of n m.receiver)) (sym e) ∙ link)

  transit_seconds : (u v : ℕ) → seconds u v l.transit ≡ one (second_goes m u v) + seconds u v (before ++ later)
  transit_seconds u v = ap (seconds u v) split ∙ seconds_middle u v before later m

  transit_flight : (u v : ℕ) → flight u v l.transit ≡ one (goes m u v) + flight u v (before ++ later)
  transit_flight u v = ap (flight u v) split ∙ flight_middle u v before later m

  -- a token that comes was not noted yet
  pub absent : eqb m.kind 2 ≡ true → noted n m.receiver (l.records m.receiver) m.sender ≡ false
  absent token =
      let x = m.sender in
      let y = m.receiver in
      let part = total_part (λ v. seconds x v l.transit + one (noted n v (l.records v) x)) y 32 (member_below (neighbours_of n x) y its.near) in
      let goes_so : one (second_goes m x y) ≡ 1 = ap one (and_from _ _ (and_from _ _ (eq-eqb x x refl) (eq-eqb y y refl)) token) in
      one_false _ (omega (arith, part, is.tokens x, one_most (token_out (l.records x)), transit_seconds x y))

  module _ (st : Step) (told : Told n m.receiver m.sender (eqb m.kind 2) (l.records m.receiver) st) (standing : st.kept.standing ≡ standing_after (l.records m.receiver) m.sender) where
    records_next : ℕ → Option Record
    records_next = at_node l.records m.receiver (Some st.kept)

    new_here : (w : ℕ) → w ≡ m.receiver → records_next w ≡ Some st.kept
    unfolding records_next
    new_here w e = at_here l.records m.receiver (Some st.kept) w e

    old_there : (w : ℕ) → (w ≡ m.receiver → ⊥) → records_next w ≡ l.records w
    unfolding records_next
    old_there w other = at_other l.records m.receiver (Some st.kept) w other

    still_known : (w : ℕ) → is_some (l.records w) ≡ true → is_some (records_next w) ≡ true
    still_known w known = ⊎_elim (λ e. ap is_some (new_here w e)) (λ other. ap is_some (old_there w other) ∙ known) (cases_eq w m.receiver)

    is_kept : (w : ℕ) (r : Record) → w ≡ m.receiver → records_next w ≡ Some r → st.kept ≡ r
    is_kept w r e is_r = some_same (sym (new_here w e) ∙ is_r)

    transit_next : List Message
    transit_next = (before ++ later) ++ messages m.receiver st (gained l m)

    next_seconds : (u v : ℕ) → seconds u v transit_next ≡ seconds u v (before ++ later) + one (eqb m.receiver u && has st.second_kind v)
    unfolding transit_next
    next_seconds u v = seconds_append u v (before ++ later) (messages m.receiver st (gained l m)) ∙ ap (λ k. seconds u v (before ++ later) + k) (messages_seconds m.receiver st (gained l m) u v)

    next_flight : (u v : ℕ) → flight u v transit_next ≡ flight u v (before ++ later) + (one (eqb m.receiver u && has st.first_kind v) + one (eqb m.receiver u && has st.second_kind v))
    unfolding transit_next
    next_flight u v = flight_append u v (before ++ later) (messages m.receiver st (gained l m)) ∙ ap (λ k. flight u v (before ++ later) + k) (messages_flight m.receiver st (gained l m) u v)

    -- ---- tokens

    -- what a node that is not the receiver has out stays, and a token that came is noted
    tokens_else : (u : ℕ) → (u ≡ m.receiver → ⊥) → (v : ℕ) → seconds u v transit_next + one (noted n v (records_next v) u) ≡ seconds u v l.transit + one (noted n v (l.records v) u)
    tokens_else u u_else v = go (cases_eq v m.receiver) (cases_Bool (eqb m.kind 2)) (cases_eq u m.sender)
      where
        sends_none : one (eqb m.receiver u && has st.second_kind v) ≡ 0
        sends_none = ap (λ b. one (b && has st.second_kind v)) (ne_eqb m.receiver u (λ e. u_else (sym e)))

        noted_here : v ≡ m.receiver → noted n v (records_next v) u ≡ (noted n v (l.records v) u || (eqb m.kind 2 && eqb u m.sender))
        noted_here e = ap (λ o. noted n v o u) (new_here v e) ∙ ap (λ k. noted n k (Some st.kept) u) e ∙ told.notes u ∙ ap (λ k. noted n k (l.records k) u || (eqb m.kind 2 && eqb u m.sender)) (sym e)

        go : (v ≡ m.receiver) ⊎ (v ≡ m.receiver → ⊥) → (eqb m.kind 2 ≡ true) ⊎ (eqb m.kind 2 ≡ false) → (u ≡ m.sender) ⊎ (u ≡ m.sender → ⊥) → seconds u v transit_next + one (noted n v (records_next v) u) ≡ seconds u v l.transit + one (noted n v (l.records v) u)
        go (inr v_else) w z =
            let goes_not : one (second_goes m u v) ≡ 0 = ap (λ b. one ((eqb m.sender u && b) && eqb m.kind 2)) (ne_eqb m.receiver v (λ e. v_else (sym e))) ∙ grind (arith, nat_tests) in
            omega (arith, next_seconds u v, transit_seconds u v, sends_none, ap (λ o. one (noted n v o u)) (old_there v v_else))
        go (inl v_here) (inr wake) z =
            let goes_not : one (second_goes m u v) ≡ 0 = ap (λ b. one (goes m u v && b)) wake ∙ grind (arith, nat_tests) in
            omega (arith, next_seconds u v, transit_seconds u v, sends_none, ap one (noted_here v_here ∙ ap (λ b. noted n v (l.records v) u || (b && eqb u m.sender)) wake ∙ or_false (noted n v (l.records v) u)))
        go (inl v_here) (inl token) (inr quiet) =
            let goes_not : one (second_goes m u v) ≡ 0 = ap (λ b. one ((b && eqb m.receiver v) && eqb m.kind 2)) (ne_eqb m.sender u (λ e. quiet (sym e))) in
            omega (arith, next_seconds u v, transit_seconds u v, sends_none, ap one (noted_here v_here ∙ ap₂ (λ b c. noted n v (l.records v) u || (b && c)) token (ne_eqb u m.sender quiet) ∙ or_false (noted n v (l.records v) u)))
        go (inl v_here) (inl token) (inl sends) =
            let goes_so : one (second_goes m u v) ≡ 1 = ap one (and_from _ _ (and_from _ _ (eq-eqb m.sender u (sym sends)) (eq-eqb m.receiver v (sym v_here))) token) in
            let now : one (noted n v (records_next v) u) ≡ 1 = ap one (noted_here v_here ∙ or_right (noted n v (l.records v) u) _ (and_from _ _ token (eq-eqb u m.sender sends))) in
            let not_before : one (noted n v (l.records v) u) ≡ 0 = ap one (ap₂ (λ k w. noted n k (l.records k) w) v_here sends ∙ absent token) in
            omega (arith, next_seconds u v, transit_seconds u v, sends_none)

    tokens_here : (v : ℕ) → seconds m.receiver v transit_next + one (noted n v (records_next v) m.receiver) ≡ seconds m.receiver v l.transit + one (noted n v (l.records v) m.receiver) + one (has st.second_kind v)
    tokens_here v =
        let y = m.receiver in
        let goes_not : one (second_goes m y v) ≡ 0 = ap (λ b. one ((b && eqb y v) && eqb m.kind 2)) (ne_eqb m.sender y apart_nodes) in
        let sends : one (eqb y y && has st.second_kind v) ≡ one (has st.second_kind v) = ap (λ b. one (b && has st.second_kind v)) (eq-eqb y y refl) in
        omega (arith, next_seconds y v, transit_seconds y v, ap one (same v))
      where
        same : (v : ℕ) → noted n v (records_next v) m.receiver ≡ noted n v (l.records v) m.receiver
        same v = ⊎_elim (λ e. ap (λ o. noted n v o m.receiver) (new_here v e) ∙ ap (λ k. noted n k (Some st.kept) m.receiver) e ∙ told.notes m.receiver ∙ ap (λ b. noted n m.receiver (l.records m.receiver) m.receiver || (eqb m.kind 2 && b)) (ne_eqb m.receiver m.sender (λ e'. apart_nodes (sym e'))) ∙ ap (λ b. noted n m.receiver (l.records m.receiver) m.receiver || b) (and_false (eqb m.kind 2)) ∙ or_false (noted n m.receiver (l.records m.receiver) m.receiver) ∙ ap (λ k. noted n k (l.records k) m.receiver) (sym e)) (λ other. ap (λ o. noted n v o m.receiver) (old_there v other)) (cases_eq v m.receiver)

    next_tokens : (u : ℕ) → total (λ v. seconds u v transit_next + one (noted n v (records_next v) u)) 32 ≡ one (token_out (records_next u))
    next_tokens u = ⊎_elim (λ e. subst (λ k. total (λ v. seconds k v transit_next + one (noted n v (records_next v) k)) 32 ≡ one (token_out (records_next k))) (sym e) itself) (λ other. total_same (λ v. seconds u v transit_next + one (noted n v (records_next v) u)) (λ v. seconds u v l.transit + one (noted n v (l.records v) u)) 32 (λ v within. tokens_else u other v) ∙ is.tokens u ∙ ap (λ o. one (token_out o)) (sym (old_there u other))) (cases_eq u m.receiver)
      where
        itself : total (λ v. seconds m.receiver v transit_next + one (noted n v (records_next v) m.receiver)) 32 ≡ one (token_out (records_next m.receiver))
        itself =
            let y = m.receiver in
            omega (arith, total_same (λ v. seconds y v transit_next + one (noted n v (records_next v) y)) (λ v. seconds y v l.transit + one (noted n v (l.records v) y) + one (has st.second_kind v)) 32 (λ v within. tokens_here v), total_sum (λ v. seconds y v l.transit + one (noted n v (l.records v) y)) (λ v. one (has st.second_kind v)) 32, is.tokens y, size_total st.second_kind, told.out, ap (λ o. one (token_out o)) (new_here y refl))

    -- ---- who was reached

    next_reach : (u v : ℕ) → is_some (records_next u) ≡ true → has (neighbours_of n u) v ≡ true → (is_some (records_next v) ≡ true) ⊎ (0 < flight u v transit_next)
    next_reach u v known near = ⊎_elim (λ v_here. inl (ap is_some (new_here v v_here))) (λ v_else. ⊎_elim (here v_else) (there v_else) (cases_eq u m.receiver)) (cases_eq v m.receiver)
      where
        goes_not : (v ≡ m.receiver → ⊥) → one (goes m u v) ≡ 0
        goes_not v_else = ap (λ b. one (eqb m.sender u && b)) (ne_eqb m.receiver v (λ e. v_else (sym e))) ∙ grind (arith, nat_tests)

        -- one that was reached before
        before_too : (v ≡ m.receiver → ⊥) → is_some (l.records u) ≡ true → (is_some (records_next v) ≡ true) ⊎ (0 < flight u v transit_next)
        before_too v_else known_u = ⊎_elim (λ known_v. inl (still_known v known_v)) (λ flies. inr (omega (arith, flies, goes_not v_else, transit_flight u v, next_flight u v))) (is.reach u v known_u near)

        there : (v ≡ m.receiver → ⊥) → (u ≡ m.receiver → ⊥) → (is_some (records_next v) ≡ true) ⊎ (0 < flight u v transit_next)
        there v_else u_else = before_too v_else (ap is_some (sym (old_there u u_else)) ∙ known)

        here : (v ≡ m.receiver → ⊥) → u ≡ m.receiver → (is_some (records_next v) ≡ true) ⊎ (0 < flight u v transit_next)
        here v_else u_here = ⊎_elim (before_too v_else) new (cases_Bool (is_some (l.records u)))
          where
            gets : one (has st.first_kind v) ≡ 1 → (is_some (records_next v) ≡ true) ⊎ (0 < flight u v transit_next)
            gets e = inr (omega (arith, next_flight u v, ap (λ b. one (b && has st.first_kind v)) (eq-eqb m.receiver u (sym u_here))))

            gets_token : one (has st.second_kind v) ≡ 1 → (is_some (records_next v) ≡ true) ⊎ (0 < flight u v transit_next)
            gets_token e = inr (omega (arith, next_flight u v, ap (λ b. one (b && has st.second_kind v)) (eq-eqb m.receiver u (sym u_here))))

            new : is_some (l.records u) ≡ false → (is_some (records_next v) ≡ true) ⊎ (0 < flight u v transit_next)
            new unknown = ⊎_elim (λ e. inl (still_known v (ap (λ k. is_some (l.records k)) e ∙ its.known))) (⊎_elim (λ e. gets (ap one e)) (λ e. gets_token (ap one e))) (told.spreads (ap (λ k. is_some (l.records k)) (sym u_here) ∙ unknown) v (ap (λ k. has (neighbours_of n k) v) (sym u_here) ∙ near))

    -- ---- decisions

    decisions_next : List Decision
    decisions_next = cond st.decides (record { node = m.receiver; cover = gained l m } ∷ l.decisions) l.decisions

    more_decisions : 0 < length l.decisions → 0 < length decisions_next
    unfolding decisions_next
    more_decisions some = go st.decides
      where
        go : (b : Bool) → 0 < length (cond b (record { node = m.receiver; cover = gained l m } ∷ l.decisions) l.decisions)
        go true = omega arith
        go false = some

    one_decision : st.decides ≡ true → 0 < length decisions_next
    unfolding decisions_next
    one_decision e = subst (λ b. 0 < length (cond b (record { node = m.receiver; cover = gained l m } ∷ l.decisions) l.decisions)) (sym e) (omega arith)

    next_quiet : (v : ℕ) (r : Record) → records_next v ≡ Some r → r.token_sent ≡ false → (2 ≤ size r.marked) ⊎ (0 < length decisions_next)
    next_quiet v r is_r unsent = ⊎_elim here there (cases_eq v m.receiver)
      where
        there : (v ≡ m.receiver → ⊥) → (2 ≤ size r.marked) ⊎ (0 < length decisions_next)
        there other = ⊎_elim inl (λ some. inr (more_decisions some)) (is.quiet v r (sym (old_there v other) ∙ is_r) unsent)

        here : v ≡ m.receiver → (2 ≤ size r.marked) ⊎ (0 < length decisions_next)
        here e =
            let same = is_kept v r e is_r in
            let unsent_now : st.kept.token_sent ≡ false = ap (λ k. k.token_sent) same ∙ unsent in
            ⊎_elim (λ many. inl (subst (λ k. 2 ≤ size k.marked) same many)) (λ was. inr (more_decisions (⊎_elim (λ many. absurd (omega (arith, was.2))) (λ some. some) (is.quiet m.receiver was.0 was.1 (one_false _ (omega (arith, told.out, ap one unsent_now, ap (λ o. one (token_out o)) was.1))))))) (told.waits unsent_now)

    next_ended : (v : ℕ) (r : Record) → records_next v ≡ Some r → is_empty r.marked ≡ true → 0 < length decisions_next
    next_ended v r is_r none = ⊎_elim here (λ other. more_decisions (is.ended v r (sym (old_there v other) ∙ is_r) none)) (cases_eq v m.receiver)
      where
        here : v ≡ m.receiver → 0 < length decisions_next
        here e = ⊎_elim one_decision (λ was. more_decisions (is.ended m.receiver was.0 was.1 was.2)) (told.ends (ap (λ k. is_empty k.marked) (is_kept v r e is_r) ∙ none))

    -- who has noted all has noted all later too
    stays_empty : (r : Record) → l.records m.receiver ≡ Some r → is_empty r.marked ≡ true → is_empty st.kept.marked ≡ true
    stays_empty r is_r none = none_empty st.kept.marked (λ i. ⊎_elim (λ e. absurd (both_ways (has st.kept.marked i) (not-true _ (and_parts _ _ (now i (told.inside i e))).1) e)) (λ e. e) (cases_Bool (has st.kept.marked i)))
      where
        now : (i : ℕ) → has (neighbours_of n m.receiver) i ≡ true → noted n m.receiver (Some st.kept) i ≡ true
        now i near = told.notes i ∙ or_left _ _ (ap (λ o. noted n m.receiver o i) is_r ∙ and_from _ _ near (not_from_false _ (empty_none r.marked none i)))

    Done : Decision → Type 0
    Done d = (r : Record) × (records_next d.node ≡ Some r) × (is_empty r.marked ≡ true)

    still_done : AllByRecursion Done l.decisions
    unfolding Done
    still_done = All-weaker (λ d. (r : Record) × (l.records d.node ≡ Some r) × (is_empty r.marked ≡ true)) (λ d. (r : Record) × (records_next d.node ≡ Some r) × (is_empty r.marked ≡ true)) (λ d was. ⊎_elim (λ e. (st.kept, new_here d.node e, stays_empty was.0 (ap l.records (sym e) ∙ was.1) was.2)) (λ other. (was.0, old_there d.node other ∙ was.1, was.2)) (cases_eq d.node m.receiver)) l.decisions is.decided

    next_decided : AllByRecursion (λ d. (r : Record) × (records_next d.node ≡ Some r) × (is_empty r.marked ≡ true)) decisions_next
    unfolding decisions_next Done
    next_decided = go st.decides refl
      where
        go : (b : Bool) → st.decides ≡ b → AllByRecursion Done (cond b (record { node = m.receiver; cover = gained l m } ∷ l.decisions) l.decisions)
        go true e = ((st.kept, new_here m.receiver refl, (told.decided e).0), still_done)
        go false e = still_done

    next_apart : Apart decisions_next
    unfolding decisions_next
    next_apart = go st.decides refl
      where
        go : (b : Bool) → st.decides ≡ b → Apart (cond b (record { node = m.receiver; cover = gained l m } ∷ l.decisions) l.decisions)
        go true e = (All-weaker (λ d. (r : Record) × (l.records d.node ≡ Some r) × (is_empty r.marked ≡ true)) (λ d. d.node ≡ m.receiver → ⊥) (λ d was same. both_ways (is_empty was.0.marked) ((told.decided e).1 was.0 (ap l.records (sym same) ∙ was.1)) was.2) l.decisions is.decided, is.apart)
        go false e = is.apart

    -- ---- how many messages

    next_count : l.sent + length (messages m.receiver st (gained l m)) ≤ total (λ v. allowed n v (records_next v)) 32
    next_count =
        let y = m.receiver in
        let change = total_at (λ v. allowed n v (l.records v)) (λ v. allowed n v (records_next v)) y 32 (member_below (neighbours_of n m.sender) y its.near) (λ i other. ap (allowed n i) (old_there i other)) in
        omega (arith, messages_length y st (gained l m), is.count, told.within, ap (allowed n y) (new_here y refl))

    next_starters : (v : ℕ) (r : Record) → records_next v ≡ Some r → r.standing ≡ Starter → v ≡ s
    next_starters v r is_r stands = ⊎_elim here (λ other. is.starters v r (sym (old_there v other) ∙ is_r) stands) (cases_eq v m.receiver)
      where
        after : (o : Option Record) → l.records m.receiver ≡ o → standing_after o m.sender ≡ Starter → m.receiver ≡ s
        after None e starts = absurd (let z : ◌≡◌ {A = ℕ} 0 1 = cc in omega arith)
        after (Some q) e starts = is.starters m.receiver q e starts

        here : v ≡ m.receiver → v ≡ s
        here e = e ∙ after (l.records m.receiver) refl (sym standing ∙ ap (λ k. k.standing) (is_kept v r e is_r) ∙ stands)

    next_kin : (v p : ℕ) (r : Record) → records_next v ≡ Some r → r.standing ≡ Follower p → 1 ≤ size (neighbours_of n v)
    next_kin v p r is_r stands = ⊎_elim (λ e. subst (λ k. 1 ≤ size (neighbours_of n k)) (sym e) (omega (arith, size_less (neighbours_of n m.receiver) m.sender link))) (λ other. is.kin v p r (sym (old_there v other) ∙ is_r) stands) (cases_eq v m.receiver)

    next_inside : (v : ℕ) → Within n v (records_next v)
    next_inside v r is_r i e = ⊎_elim (λ v_here. ap (λ k. has (neighbours_of n k) i) v_here ∙ told.inside i (ap (λ k. has k.marked i) (is_kept v r v_here is_r) ∙ e)) (λ other. is.inside v r (sym (old_there v other) ∙ is_r) i e) (cases_eq v m.receiver)

    -- ---- covers

    covers_next : ℕ → Cover
    covers_next = at_node l.covers m.receiver (gained l m)

    cover_here : (w i : ℕ) → w ≡ m.receiver → covers_next w i ≡ gained l m i
    unfolding covers_next
    cover_here w i e = ap (λ f. f i) (at_here l.covers m.receiver (gained l m) w e)

    cover_there : (w i : ℕ) → (w ≡ m.receiver → ⊥) → covers_next w i ≡ l.covers w i
    unfolding covers_next
    cover_there w i other = ap (λ f. f i) (at_other l.covers m.receiver (gained l m) w other)

    next_own : (v : ℕ) → is_some (records_next v) ≡ true → covers_next v v ≡ true
    next_own v known = ⊎_elim (λ e. cover_here v v e ∙ or_left _ _ (eq-eqb v m.receiver e)) (λ other. cover_there v v other ∙ is.own v (ap is_some (sym (old_there v other)) ∙ known)) (cases_eq v m.receiver)

    -- the receiver covers what its noted neighbours brought
    here_heard : (u : ℕ) → noted n m.receiver (Some st.kept) u ≡ true → (x : ℕ) → Path (avoiding n m.receiver) x u → gained l m x ≡ true
    here_heard u now x path = ⊎_elim (λ e. or_right _ _ (or_left _ _ (is.heard m.receiver u e x path))) (λ e. or_right _ _ (or_right (l.covers m.receiver x) (m.cover x) (its.carries (and_parts _ _ e).0 x (subst (Path (avoiding n m.receiver) x) (eqb-true u m.sender (and_parts _ _ e).1) path)))) (or_cases _ _ (sym (told.notes u) ∙ now))

    next_heard : (v u : ℕ) → noted n v (records_next v) u ≡ true → (x : ℕ) → Path (avoiding n v) x u → covers_next v x ≡ true
    next_heard v u now x path = ⊎_elim here there (cases_eq v m.receiver)
      where
        here : v ≡ m.receiver → covers_next v x ≡ true
        here e = cover_here v x e ∙ here_heard u (ap (λ k. noted n k (Some st.kept) u) (sym e) ∙ ap (λ o. noted n v o u) (sym (new_here v e)) ∙ now) x (subst (λ k. Path (avoiding n k) x u) e path)

        there : (v ≡ m.receiver → ⊥) → covers_next v x ≡ true
        there other = cover_there v x other ∙ is.heard v u (ap (λ o. noted n v o u) (sym (old_there v other)) ∙ now) x path

    own_here : gained l m m.receiver ≡ true
    own_here = or_left _ _ (eq-eqb m.receiver m.receiver refl)

    -- the new token carries what comes to its sender past its receiver
    token_carries : (t : ℕ) → has st.second_kind t ≡ true → (x : ℕ) → Path (avoiding n t) x m.receiver → gained l m x ≡ true
    token_carries t in_t x path = ⊎_elim (λ e. ap (gained l m) e ∙ own_here) (λ found. by found.0 found.1 found.2) (first_visit n m.receiver x (avoiding_near n t) path)
      where
        by : (u : ℕ) → avoiding n t u m.receiver ≡ true → Path (avoiding n m.receiver) x u → gained l m x ≡ true
        by u step rest =
            let parts = and_parts _ _ step in
            here_heard u (told.others t in_t u (n.symmetric m.receiver u ∙ parts.0) (eqb-false u t (not-true _ (and_parts _ _ parts.1).0))) x rest

    next_sent : AllByRecursion (Sent n (stepped l (before ++ later) m.receiver (gained l m) st)) ((before ++ later) ++ messages m.receiver st (gained l m))
    unfolding records_next
    next_sent = All-append (Sent n (stepped l (before ++ later) m.receiver (gained l m) st)) (before ++ later) (messages m.receiver st (gained l m)) (All-weaker (Sent n l) (Sent n (stepped l (before ++ later) m.receiver (gained l m) st)) (λ k was. record { near = was.near; known = still_known k.sender was.known; carries = was.carries }) (before ++ later) left_sent) (messages_each (Sent n (stepped l (before ++ later) m.receiver (gained l m) st)) m.receiver st (gained l m) (λ i e. record { near = told.first_near i e; known = ap is_some (new_here m.receiver refl); carries = λ token. absurd (both_ways (eqb 1 2) refl token) }) (λ i e. record { near = told.second_near i e; known = ap is_some (new_here m.receiver refl); carries = λ _ x path. token_carries i e x path }))

    pub next_treeing : Treeing n s (stepped l (before ++ later) m.receiver (gained l m) st)
    unfolding records_next covers_next decisions_next transit_next
    next_treeing = record {
      sent = next_sent;
      inside = next_inside;
      start = still_known s is.start;
      starters = next_starters;
      tokens = next_tokens;
      reach = next_reach;
      quiet = next_quiet;
      ended = next_ended;
      kin = next_kin;
      count = next_count;
      own = next_own;
      heard = next_heard;
      decided = next_decided;
      apart = next_apart;
    }

    -- ---- a node that decides covers all

    receiver_node : m.receiver < n.nodes
    receiver_node = ⊎_elim (λ e. e) (λ past. absurd (both_ways (has (neighbours_of n m.sender) m.receiver) (n.inside m.sender m.receiver past) its.near)) (cases_lt m.receiver n.nodes)

    pub decides_covering : st.decides ≡ true → (i : ℕ) → i < n.nodes → gained l m i ≡ true
    decides_covering decides i i_node = ∥∥₁_elim (n.connected i m.receiver i_node receiver_node) (Bool-set (gained l m i) true) (λ path. ⊎_elim (λ e. ap (gained l m) e ∙ own_here) (λ found. here_heard found.0 (and_from _ _ (n.symmetric m.receiver found.0 ∙ found.1) (not_from_false _ (empty_none st.kept.marked (told.decided decides).0 found.0))) i found.2) (first_visit n m.receiver i (λ a b e. e) path))
