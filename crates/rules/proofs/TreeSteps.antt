-- The steps of the tree wave, by what a record says. Assumes nothing.
use Rattle.std.proofs.Common.{◌≡◌, ℕ, ◌+◌, ◌-◌, ◌<◌, ◌≤◌, Bool, true, false, cond, not, ◌&&◌, ◌||◌, eqb, ◌⊎◌, is_some, Some, None, Option, unwrap_or, sym, refl, ap, ◌∙◌, ap₂, inl, inr, ⊎_elim, arith}
use Rattle.std.proofs.lemmas.Bool.{and_from, and_parts, both_ways, cases_Bool, cases_eq, cases_lt, eq-eqb, eqb-true, ne_eqb, not-false, not_from_false, or_parts}
use Rattle.base.specs.NodeSets.{has, no_nodes, size}
use Rattle.base.specs.declared.node_set.NodeSet.{NodeSet}
use Rattle.base.proofs.Members.{member_below, same_members}
use Rattle.base.proofs.Small.{and_false, and_true, none_some, some_same}
use Rattle.network.specs.declared.network.Network.{Network}
use Rattle.wave.specs.Lone.{blank}
use Rattle.wave.specs.declared.step.Record.{Record}
use Rattle.wave.specs.declared.step.Standing.{Standing}
use Rattle.wave.specs.declared.step.Standing.TheVariants.{Follower, Starter}
use Rattle.wave.specs.declared.step.Step.{Step}
use Rattle.rules.specs.Sets.{◌∖◌, if_so, is_empty, neighbours_of, only}
use Rattle.rules.specs.Tree.{arrival, first_event, later_event, later_token, notes_last, sender_of, still_silent, token_to}
use Rattle.rules.specs.Sums.{one}
use Rattle.rules.proofs.SetLaws.{empty_none, has_back, has_if, has_minus, has_node, has_none, size_none}
use Rattle.rules.proofs.Sizes.{empty_size, one_member, size_empty, size_le, size_less, size_one}

-- ---- what a record says

-- a node with this record has noted i
abbrev pub noted : Network → ℕ → Option Record → ℕ → Bool
noted n node None i = false
noted n node (Some r) i = has (neighbours_of n node) i && not (has r.marked i)

abbrev pub token_out : Option Record → Bool
token_out None = false
token_out (Some r) = r.token_sent

-- the messages that a node may have sent: wakes to all but who reached it, and a token
abbrev pub by_starter : Standing → ℕ
by_starter Starter = 0
by_starter (Follower parent) = 1

abbrev pub allowed : Network → ℕ → Option Record → ℕ
allowed n node None = 0
allowed n node (Some r) = size (neighbours_of n node) - by_starter r.standing + one r.token_sent

-- ---- an event

-- what the event of a node changes, where x is the sender and `token` says that a token came
pub record Told (n : Network) (node x : ℕ) (token : Bool) (old : Option Record) (st : Step) : Type 0 where
  pub inside : (i : ℕ) → has st.kept.marked i ≡ true → has (neighbours_of n node) i ≡ true
  pub notes : (i : ℕ) → noted n node (Some st.kept) i ≡ (noted n node old i || (token && eqb i x))
  pub out : one st.kept.token_sent ≡ one (token_out old) + size st.second_kind
  pub first_near : (i : ℕ) → has st.first_kind i ≡ true → has (neighbours_of n node) i ≡ true
  pub second_near : (i : ℕ) → has st.second_kind i ≡ true → has (neighbours_of n node) i ≡ true
  -- who gets the token is the only one that is not noted
  pub others : (t : ℕ) → has st.second_kind t ≡ true → (i : ℕ) → has (neighbours_of n node) i ≡ true → (i ≡ t → ⊥) → noted n node (Some st.kept) i ≡ true
  pub within : size st.first_kind + size st.second_kind + allowed n node old ≤ allowed n node (Some st.kept)
  -- at a first event every neighbour is the sender or gets a message
  pub spreads : is_some old ≡ false → (i : ℕ) → has (neighbours_of n node) i ≡ true → (i ≡ x) ⊎ ((has st.first_kind i ≡ true) ⊎ (has st.second_kind i ≡ true))
  pub waits : st.kept.token_sent ≡ false → (2 ≤ size st.kept.marked) ⊎ ((r : Record) × (old ≡ Some r) × (size r.marked < 2))
  pub ends : is_empty st.kept.marked ≡ true → (st.decides ≡ true) ⊎ ((r : Record) × (old ≡ Some r) × (is_empty r.marked ≡ true))
  pub decided : st.decides ≡ true → (is_empty st.kept.marked ≡ true) × ((r : Record) → old ≡ Some r → is_empty r.marked ≡ false)

-- ---- the token

pub token_cases : (silent back : NodeSet) → ((is_empty silent ≡ true) × (token_to silent back ≡ back)) ⊎ (((is_empty silent ≡ false) × (size silent ≡ 1) × (token_to silent back ≡ silent)) ⊎ ((is_empty silent ≡ false) × (2 ≤ size silent) × (token_to silent back ≡ no_nodes)))
token_cases silent back = go (cases_Bool (is_empty silent)) (cases_eq (size silent) 1)
  where
    go : (is_empty silent ≡ true) ⊎ (is_empty silent ≡ false) → (size silent ≡ 1) ⊎ (size silent ≡ 1 → ⊥) → ((is_empty silent ≡ true) × (token_to silent back ≡ back)) ⊎ (((is_empty silent ≡ false) × (size silent ≡ 1) × (token_to silent back ≡ silent)) ⊎ ((is_empty silent ≡ false) × (2 ≤ size silent) × (token_to silent back ≡ no_nodes)))
    go (inl none) w = inl (none, ap (λ b. cond b back (if_so (eqb (size silent) 1) silent)) none)
    go (inr some) (inl single) = inr (inl (some, single, ap (λ b. cond b back (if_so (eqb (size silent) 1) silent)) some ∙ ap (λ b. if_so b silent) (eq-eqb (size silent) 1 single)))
    go (inr some) (inr more) = inr (inr (some, omega (arith, empty_size silent some), ap (λ b. cond b back (if_so (eqb (size silent) 1) silent)) some ∙ ap (λ b. if_so b silent) (ne_eqb (size silent) 1 more)))

notes_bool : (near silent now : Bool) → (now ≡ true → near ≡ true) → (near && not (silent && not now)) ≡ ((near && not silent) || now)
notes_bool true true true so = refl
notes_bool true true false so = refl
notes_bool true false true so = refl
notes_bool true false false so = refl
notes_bool false x true so = absurd (both_ways true (sym (so refl)) refl)
notes_bool false x false so = refl

first_bool : (near now : Bool) → (now ≡ true → near ≡ true) → (near && not (near && not now)) ≡ (false || now)
first_bool true true so = refl
first_bool true false so = refl
first_bool false true so = absurd (both_ways true (sym (so refl)) refl)
first_bool false false so = refl

pub one_empty : (s : NodeSet) → size s ≡ 1 → is_empty s ≡ false
one_empty s single = ⊎_elim (λ e. absurd (omega (arith, size_empty s e))) (λ e. e) (cases_Bool (is_empty s))

module _ (n : Network) (node x kind : ℕ) (link : has (neighbours_of n node) x ≡ true) where
  around : NodeSet
  around = neighbours_of n node

  x_node : x < 32
  x_node = member_below (neighbours_of n node) x link

  -- the sender is a neighbour
  now_near : (i : ℕ) → (eqb kind 2 && eqb i x) ≡ true → has (neighbours_of n node) i ≡ true
  now_near i e = ap (has (neighbours_of n node)) (eqb-true i x (and_parts (eqb kind 2) (eqb i x) e).1) ∙ link

  silent_has : (silent : NodeSet) (i : ℕ) → has (still_silent silent x kind) i ≡ (has silent i && not (eqb kind 2 && eqb i x))
  silent_has silent i = has_minus silent (if_so (eqb kind 2) (only x)) i ∙ ap (λ b. has silent i && not b) (has_if (eqb kind 2) (only x) i ∙ ap (λ b. eqb kind 2 && b) (has_node x i x_node))

  reached_has : (i : ℕ) → has (sender_of (neighbours_of n node) x) i ≡ eqb i x
  reached_has i = has_back (neighbours_of n node) x i ∙ ⊎_elim (λ e. ap (λ b. b && eqb i x) (ap (has (neighbours_of n node)) e ∙ link)) (λ other. ap (λ b. has (neighbours_of n node) i && b) (ne_eqb i x other) ∙ and_false (has (neighbours_of n node) i) ∙ sym (ne_eqb i x other)) (cases_eq i x)

  -- ---- a first event

  silent_then : NodeSet
  silent_then = still_silent (neighbours_of n node) x kind

  first_inside : (i : ℕ) → has silent_then i ≡ true → has (neighbours_of n node) i ≡ true
  unfolding silent_then
  first_inside i e = (and_parts _ _ (sym (silent_has (neighbours_of n node) i) ∙ e)).0

  token_then : NodeSet
  token_then = token_to (still_silent (neighbours_of n node) x kind) (sender_of (neighbours_of n node) x)

  token_near : (i : ℕ) → has token_then i ≡ true → has (neighbours_of n node) i ≡ true
  unfolding token_then silent_then
  token_near i e = ⊎_elim back (⊎_elim single none) (token_cases silent_then (sender_of (neighbours_of n node) x))
    where
      back : (is_empty silent_then ≡ true) × (token_then ≡ sender_of (neighbours_of n node) x) → has (neighbours_of n node) i ≡ true
      back w = (and_parts _ _ (sym (has_back (neighbours_of n node) x i) ∙ ap (λ s. has s i) (sym w.1) ∙ e)).0

      single : (is_empty silent_then ≡ false) × (size silent_then ≡ 1) × (token_then ≡ silent_then) → has (neighbours_of n node) i ≡ true
      single w = first_inside i (ap (λ s. has s i) (sym w.2) ∙ e)

      none : (is_empty silent_then ≡ false) × (2 ≤ size silent_then) × (token_then ≡ no_nodes) → has (neighbours_of n node) i ≡ true
      none w = absurd (both_ways (has no_nodes i) (has_none i) (ap (λ s. has s i) (sym w.2) ∙ e))

  -- the token goes to one, or was not sent
  token_size : one (not (is_empty token_then)) ≡ size token_then
  unfolding token_then silent_then
  token_size = ⊎_elim back (⊎_elim single none) (token_cases silent_then (sender_of (neighbours_of n node) x))
    where
      sent : size token_then ≡ 1 → one (not (is_empty token_then)) ≡ size token_then
      sent is = ap (λ b. one (not b)) (one_empty token_then is) ∙ sym is

      back : (is_empty silent_then ≡ true) × (token_then ≡ sender_of (neighbours_of n node) x) → one (not (is_empty token_then)) ≡ size token_then
      back w = sent (ap size w.1 ∙ size_one (sender_of (neighbours_of n node) x) x x_node reached_has)

      single : (is_empty silent_then ≡ false) × (size silent_then ≡ 1) × (token_then ≡ silent_then) → one (not (is_empty token_then)) ≡ size token_then
      single w = sent (ap size w.2 ∙ w.1)

      none : (is_empty silent_then ≡ false) × (2 ≤ size silent_then) × (token_then ≡ no_nodes) → one (not (is_empty token_then)) ≡ size token_then
      none w = ap (λ s. one (not (is_empty s))) w.2 ∙ sym (ap size w.2 ∙ size_none)

  token_others : (t : ℕ) → has token_then t ≡ true → (i : ℕ) → has (neighbours_of n node) i ≡ true → (i ≡ t → ⊥) → has silent_then i ≡ false
  unfolding token_then silent_then
  token_others t in_t i near other = ⊎_elim back (⊎_elim single none) (token_cases silent_then (sender_of (neighbours_of n node) x))
    where
      back : (is_empty silent_then ≡ true) × (token_then ≡ sender_of (neighbours_of n node) x) → has silent_then i ≡ false
      back w = empty_none silent_then w.0 i

      single : (is_empty silent_then ≡ false) × (size silent_then ≡ 1) × (token_then ≡ silent_then) → has silent_then i ≡ false
      single w = ⊎_elim (λ e. absurd (other (one_member silent_then t i w.1 (ap (λ s. has s t) (sym w.2) ∙ in_t) e))) (λ e. e) (cases_Bool (has silent_then i))

      none : (is_empty silent_then ≡ false) × (2 ≤ size silent_then) × (token_then ≡ no_nodes) → has silent_then i ≡ false
      none w = absurd (both_ways (has no_nodes t) (has_none t) (ap (λ s. has s t) (sym w.2) ∙ in_t))

  wakes : NodeSet
  wakes = neighbours_of n node ∖ sender_of (neighbours_of n node) x ∖ token_to (still_silent (neighbours_of n node) x kind) (sender_of (neighbours_of n node) x)

  wakes_has : (i : ℕ) → has wakes i ≡ ((has (neighbours_of n node) i && not (eqb i x)) && not (has token_then i))
  unfolding wakes token_then
  wakes_has i = has_minus (neighbours_of n node ∖ sender_of (neighbours_of n node) x) token_then i ∙ ap (λ b. b && not (has token_then i)) (has_minus (neighbours_of n node) (sender_of (neighbours_of n node) x) i ∙ ap (λ b. has (neighbours_of n node) i && not b) (reached_has i))

  wakes_size : size wakes + 1 ≤ size (neighbours_of n node)
  wakes_size = omega (arith, size_le wakes (neighbours_of n node ∖ only x) (λ i e. has_minus (neighbours_of n node) (only x) i ∙ ap (λ b. has (neighbours_of n node) i && not b) (has_node x i x_node) ∙ (and_parts _ _ (sym (wakes_has i) ∙ e)).0), size_less (neighbours_of n node) x link)

  pub told_first : Told n node x (eqb kind 2) None (first_event (neighbours_of n node) (Follower x) (sender_of (neighbours_of n node) x) (still_silent (neighbours_of n node) x kind) (notes_last (neighbours_of n node) x kind))
  unfolding token_then silent_then wakes
  told_first = record {
    inside = first_inside;
    notes = λ i. ap (λ b. has (neighbours_of n node) i && not b) (silent_has (neighbours_of n node) i) ∙ first_bool (has (neighbours_of n node) i) (eqb kind 2 && eqb i x) (now_near i);
    out = token_size ∙ omega arith;
    first_near = λ i e. (and_parts _ _ (and_parts _ _ (sym (wakes_has i) ∙ e)).0).0;
    second_near = token_near;
    others = λ t in_t i near other. and_from _ _ near (not_from_false _ (token_others t in_t i near other));
    within = omega (arith, wakes_size, token_size);
    spreads = λ _ i near. ⊎_elim inl (λ other. inr (⊎_elim (λ e. inr e) (λ e. inl (wakes_has i ∙ and_from _ _ (and_from _ _ near (not_from_false _ (ne_eqb i x other))) (not_from_false _ e))) (cases_Bool (has token_then i)))) (cases_eq i x);
    waits = λ unsent. inl (⊎_elim (back unsent) (⊎_elim (single unsent) (λ w. w.1)) (token_cases silent_then (sender_of (neighbours_of n node) x)));
    ends = λ none. inl (last none);
    decided = λ e. ((and_parts _ _ e).1, λ r is_r. absurd (none_some r is_r));
  }
    where
      sent_not : not (is_empty token_then) ≡ false → size token_then ≡ 1 → ⊥
      sent_not e single = both_ways (is_empty token_then) (one_empty token_then single) (not-false _ e)

      back : not (is_empty token_then) ≡ false → (is_empty silent_then ≡ true) × (token_then ≡ sender_of (neighbours_of n node) x) → 2 ≤ size silent_then
      back e w = absurd (sent_not e (ap size w.1 ∙ size_one (sender_of (neighbours_of n node) x) x x_node reached_has))

      single : not (is_empty token_then) ≡ false → (is_empty silent_then ≡ false) × (size silent_then ≡ 1) × (token_then ≡ silent_then) → 2 ≤ size silent_then
      single e w = absurd (sent_not e (ap size w.2 ∙ w.1))

      -- with nobody silent the sender was noted
      last : is_empty (still_silent (neighbours_of n node) x kind) ≡ true → notes_last (neighbours_of n node) x kind ≡ true
      last none = and_from _ _ (and_from _ _ a_token link) none
        where
          a_token : eqb kind 2 ≡ true
          a_token = ⊎_elim (λ e. e) (λ e. absurd (both_ways (has silent_then x) (empty_none silent_then none x) (silent_has (neighbours_of n node) x ∙ ap₂ (λ a b. a && not (b && eqb x x)) link e))) (cases_Bool (eqb kind 2))

  -- ---- a later event

  module _ (r : Record) (near : (i : ℕ) → has r.marked i ≡ true → has (neighbours_of n node) i ≡ true) (fresh : eqb kind 2 ≡ true → has r.marked x ≡ true) where
    silent_now : NodeSet
    silent_now = still_silent r.marked x kind

    now_inside : (i : ℕ) → has silent_now i ≡ true → has (neighbours_of n node) i ≡ true
    unfolding silent_now
    now_inside i e = near i (and_parts _ _ (sym (silent_has r.marked i) ∙ e)).0

    -- the silent ones are neighbours
    all_silent : neighbours_of n node ∖ (neighbours_of n node ∖ silent_now) ≡ silent_now
    all_silent = same_members (neighbours_of n node ∖ (neighbours_of n node ∖ silent_now)) silent_now (λ i. has_minus (neighbours_of n node) (neighbours_of n node ∖ silent_now) i ∙ ap (λ b. has (neighbours_of n node) i && not b) (has_minus (neighbours_of n node) silent_now i) ∙ both (has (neighbours_of n node) i) (has silent_now i) (now_inside i))
      where
        both : (a b : Bool) → (b ≡ true → a ≡ true) → (a && not (a && not b)) ≡ b
        both true true so = refl
        both true false so = refl
        both false true so = absurd (both_ways true (sym (so refl)) refl)
        both false false so = refl

    token_now : NodeSet
    token_now = later_token (neighbours_of n node) r (still_silent r.marked x kind)

    -- sent before; or sent now, to the one that is silent; or not sent, with none or more than one silent
    later_cases : ((r.token_sent ≡ true) × (token_now ≡ no_nodes)) ⊎ (((r.token_sent ≡ false) × (size silent_now ≡ 1) × (token_now ≡ silent_now)) ⊎ ((r.token_sent ≡ false) × (size silent_now ≡ 1 → ⊥) × (token_now ≡ no_nodes)))
    unfolding token_now silent_now
    later_cases = go (cases_Bool r.token_sent) (cases_eq (size silent_now) 1)
      where
        to : NodeSet
        to = neighbours_of n node ∖ (neighbours_of n node ∖ still_silent r.marked x kind)

        go : (r.token_sent ≡ true) ⊎ (r.token_sent ≡ false) → (size silent_now ≡ 1) ⊎ (size silent_now ≡ 1 → ⊥) → ((r.token_sent ≡ true) × (token_now ≡ no_nodes)) ⊎ (((r.token_sent ≡ false) × (size silent_now ≡ 1) × (token_now ≡ silent_now)) ⊎ ((r.token_sent ≡ false) × (size silent_now ≡ 1 → ⊥) × (token_now ≡ no_nodes)))
        go (inl sent) w = inl (sent, ap (λ b. if_so (not b && eqb (size silent_now) 1) to) sent)
        go (inr unsent) (inl single) = inr (inl (unsent, single, ap₂ (λ b c. if_so (not b && c) to) unsent (eq-eqb (size silent_now) 1 single) ∙ all_silent))
        go (inr unsent) (inr more) = inr (inr (unsent, more, ap₂ (λ b c. if_so (not b && c) to) unsent (ne_eqb (size silent_now) 1 more)))

    out_now : one (r.token_sent || not (is_empty token_now)) ≡ one r.token_sent + size token_now
    unfolding token_now silent_now
    out_now = ⊎_elim sent (⊎_elim sends keeps) later_cases
      where
        sent : (r.token_sent ≡ true) × (token_now ≡ no_nodes) → one (r.token_sent || not (is_empty token_now)) ≡ one r.token_sent + size token_now
        sent w = omega (arith, ap (λ b. one (b || not (is_empty token_now))) w.0, ap one w.0, ap size w.1, size_none)

        sends : (r.token_sent ≡ false) × (size silent_now ≡ 1) × (token_now ≡ silent_now) → one (r.token_sent || not (is_empty token_now)) ≡ one r.token_sent + size token_now
        sends w = omega (arith, ap₂ (λ b s. one (b || not (is_empty s))) w.0 w.2, ap (λ b. one (not b)) (one_empty silent_now w.1), ap one w.0, ap size w.2, w.1)

        keeps : (r.token_sent ≡ false) × (size silent_now ≡ 1 → ⊥) × (token_now ≡ no_nodes) → one (r.token_sent || not (is_empty token_now)) ≡ one r.token_sent + size token_now
        keeps w = omega (arith, ap₂ (λ b s. one (b || not (is_empty s))) w.0 w.2, ap one w.0, ap size w.2, size_none)

    token_silent : (i : ℕ) → has token_now i ≡ true → (size silent_now ≡ 1) × (has silent_now i ≡ true)
    token_silent i e = ⊎_elim (λ w. absurd (both_ways (has no_nodes i) (has_none i) (ap (λ s. has s i) (sym w.1) ∙ e))) (⊎_elim (λ w. (w.1, ap (λ s. has s i) (sym w.2) ∙ e)) (λ w. absurd (both_ways (has no_nodes i) (has_none i) (ap (λ s. has s i) (sym w.2) ∙ e)))) later_cases

    -- a token takes one away from the silent ones
    silent_less : (eqb kind 2 ≡ true → size silent_now + 1 ≡ size r.marked) × (eqb kind 2 ≡ false → silent_now ≡ r.marked)
    unfolding silent_now
    silent_less = (
      (λ token. ap (λ b. size (r.marked ∖ if_so b (only x)) + 1) token ∙ size_less r.marked x (fresh token)),
      (λ wake. same_members silent_now r.marked (λ i. silent_has r.marked i ∙ ap (λ b. has r.marked i && not (b && eqb i x)) wake ∙ and_true (has r.marked i))),
    )

    pub told_later : Told n node x (eqb kind 2) (Some r) (later_event (neighbours_of n node) r (still_silent r.marked x kind) (notes_last r.marked x kind))
    unfolding token_now silent_now
    told_later = record {
      inside = now_inside;
      notes = λ i. ap (λ b. has (neighbours_of n node) i && not b) (silent_has r.marked i) ∙ notes_bool (has (neighbours_of n node) i) (has r.marked i) (eqb kind 2 && eqb i x) (now_near i);
      out = out_now;
      first_near = λ i e. absurd (both_ways (has no_nodes i) (has_none i) e);
      second_near = λ i e. now_inside i (token_silent i e).1;
      others = λ t in_t i i_near other. and_from _ _ i_near (not_from_false _ (⊎_elim (λ e. absurd (other (one_member silent_now t i (token_silent t in_t).0 (token_silent t in_t).1 e))) (λ e. e) (cases_Bool (has silent_now i))));
      within = omega (arith, out_now, size_none);
      spreads = λ known. absurd (both_ways true known refl);
      waits = λ unsent. ⊎_elim (λ few. inr (r, refl, few)) (λ more. inl (many unsent more)) (cases_lt (size r.marked) 2);
      ends = λ none. ⊎_elim (λ token. inl (and_from _ _ (and_from _ _ token (fresh token)) none)) (λ wake. inr (r, refl, ap is_empty (sym (silent_less.1 wake)) ∙ none)) (cases_Bool (eqb kind 2));
      decided = λ e. ((and_parts _ _ e).1, λ q is_q. ap (λ k. is_empty k.marked) (sym (some_same is_q)) ∙ not_empty (and_parts _ _ (and_parts _ _ e).0).1);
    }
      where
        not_empty : has r.marked x ≡ true → is_empty r.marked ≡ false
        not_empty in_x = ⊎_elim (λ e. absurd (both_ways (has r.marked x) (empty_none r.marked e x) in_x)) (λ e. e) (cases_Bool (is_empty r.marked))

        left : 2 ≤ size r.marked → 1 ≤ size silent_now
        left more = ⊎_elim (λ token. omega (arith, silent_less.0 token)) (λ wake. omega (arith, ap size (silent_less.1 wake))) (cases_Bool (eqb kind 2))

        many : (r.token_sent || not (is_empty token_now)) ≡ false → 2 ≤ size r.marked → 2 ≤ size silent_now
        many unsent more = ⊎_elim (λ w. absurd (both_ways r.token_sent (or_parts r.token_sent (not (is_empty token_now)) unsent).0 w.0)) (⊎_elim (λ w. absurd (both_ways (is_empty token_now) (ap is_empty w.2 ∙ one_empty silent_now w.1) (not-false (is_empty token_now) (or_parts r.token_sent (not (is_empty token_now)) unsent).1))) (λ w. omega (arith, left more, w.1))) later_cases

-- ---- the step of an arrival, whatever the record was

abbrev pub step : Network → ℕ → Option Record → ℕ → ℕ → Step
step n node old sender kind = arrival n node (is_some old) (unwrap_or old blank) sender kind

-- the silent ones of a record are neighbours
abbrev pub Within : Network → ℕ → Option Record → Type 0
Within n node old = (r : Record) → old ≡ Some r → (i : ℕ) → has r.marked i ≡ true → has (neighbours_of n node) i ≡ true

pub step_told : (n : Network) (node x kind : ℕ) (old : Option Record) → has (neighbours_of n node) x ≡ true → Within n node old → (eqb kind 2 ≡ true → noted n node old x ≡ false) → Told n node x (eqb kind 2) old (step n node old x kind)
step_told n node x kind None link near absent = told_first n node x kind link
step_told n node x kind (Some r) link near absent = told_later n node x kind link r (near r refl) (λ token. not-false _ (still (has (neighbours_of n node) x) (not (has r.marked x)) link (absent token)))
  where
    still : (a b : Bool) → a ≡ true → (a && b) ≡ false → b ≡ false
    still true b e none = none
    still false b e none = absurd (both_ways true (sym e) refl)

-- who stands how after an event
abbrev pub standing_after : Option Record → ℕ → Standing
standing_after None sender = Follower sender
standing_after (Some r) sender = r.standing

pub step_standing : (n : Network) (node x kind : ℕ) (old : Option Record) → (step n node old x kind).kept.standing ≡ standing_after old x
step_standing n node x kind None = refl
step_standing n node x kind (Some r) = refl
