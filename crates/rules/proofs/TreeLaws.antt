-- The tree wave keeps the laws of a wave. Assumes nothing.
use Rattle.std.proofs.Common.{◌≡◌, ℕ, ◌+◌, ◌-◌, ◌*◌, ◌<◌, ◌≤◌, Bool, true, false, cond, not, ◌&&◌, eqb, ◌⊎◌, List, [], ◌∷◌, ◌++◌, length, is_some, Some, None, Option, sym, refl, ap, ◌∙◌, subst, ap₂, inl, inr, ⊎_elim, arith}
use mathlib.Core.Bool.{Bool-set}
use mathlib.Core.Logic.{∥∥₁_elim}
use Rattle.std.specs.List.{AllByRecursion}
use Rattle.std.proofs.lemmas.Bool.{and_from, and_parts, both_ways, cases_Bool, cases_eq, cases_lt, eq-eqb, eqb-false, eqb-true, ne_eqb, not-false, not_from_false, not-true}
use Rattle.base.specs.NodeSets.{has, no_nodes, size}
use Rattle.base.specs.declared.node_set.NodeSet.{NodeSet}
use Rattle.base.proofs.Small.{and_true, some_same}
use Rattle.network.specs.Paths.{Path}
use Rattle.network.specs.declared.network.Network.{Network}
use Rattle.wave.specs.Laws.{Apart, CoversAllNodes, KeepsLaws, Names, Neighbours}
use Rattle.wave.specs.Lone.{Decision, Lone, Message, Run, delivered, delivers, gained, messages, nothing_yet, opened, opens}
use Rattle.wave.specs.declared.step.Record.{Record}
use Rattle.wave.specs.declared.step.Standing.{Standing}
use Rattle.wave.specs.declared.step.Standing.TheVariants.{Follower, Starter}
use Rattle.rules.specs.Sets.{◌∖◌, if_so, is_empty, neighbours_of, only}
use Rattle.rules.specs.Tree.{admitted, arrival, first_event, most, opening, sender_of, still_silent, token_to}
use Rattle.rules.specs.Sums.{one, total}
use Rattle.rules.proofs.Flights.{flight, seconds}
use Rattle.rules.proofs.Neighbours.{closed_all, names_none, names_part}
use Rattle.rules.proofs.Nodes.{at_here, at_other, messages_each, messages_flight, messages_length, messages_seconds, starter_follower}
use Rattle.rules.proofs.SetLaws.{empty_none, has_if, has_minus, has_none, size_none}
use Rattle.rules.proofs.Sizes.{empty_size, one_member, size_le}
use Rattle.rules.proofs.Totals.{degrees_total, one_most, size_total, total_at, total_le, total_least, total_none, total_same, total_sum, total_swap}
use Rattle.rules.proofs.TreeRun.{Sent, Treeing, absent, avoiding, avoiding_near, decides_covering, first_visit, link, next_treeing}
use Rattle.rules.proofs.TreeSteps.{Told, allowed, by_starter, noted, step, step_standing, step_told, token_cases, token_out}

-- ---- the opening

module _ (n : Network) (s : ℕ) (node : s < n.nodes) where
  token_at_start : NodeSet
  token_at_start = token_to (neighbours_of n s) no_nodes

  -- the token goes to the only neighbour, or to nobody
  start_token : ((is_empty (neighbours_of n s) ≡ true) × (token_to (neighbours_of n s) no_nodes ≡ no_nodes)) ⊎ (((is_empty (neighbours_of n s) ≡ false) × (size (neighbours_of n s) ≡ 1) × (token_to (neighbours_of n s) no_nodes ≡ neighbours_of n s)) ⊎ ((is_empty (neighbours_of n s) ≡ false) × (2 ≤ size (neighbours_of n s)) × (token_to (neighbours_of n s) no_nodes ≡ no_nodes)))
  start_token = token_cases (neighbours_of n s) no_nodes

  token_size : one (not (is_empty token_at_start)) ≡ size token_at_start
  unfolding token_at_start
  token_size = ⊎_elim (λ w. none w.1) (⊎_elim (λ w. ap (λ t. one (not (is_empty t))) w.2 ∙ ap (λ b. one (not b)) w.0 ∙ sym (ap size w.2 ∙ w.1)) (λ w. none w.2)) start_token
    where
      none : token_at_start ≡ no_nodes → one (not (is_empty token_at_start)) ≡ size token_at_start
      none e = ap (λ t. one (not (is_empty t))) e ∙ sym (ap size e ∙ size_none)

  token_near : (i : ℕ) → has token_at_start i ≡ true → (size (neighbours_of n s) ≡ 1) × (has (neighbours_of n s) i ≡ true)
  unfolding token_at_start
  token_near i e = ⊎_elim (λ w. none w.1) (⊎_elim (λ w. (w.1, ap (λ t. has t i) (sym w.2) ∙ e)) (λ w. none w.2)) start_token
    where
      none : token_at_start ≡ no_nodes → (size (neighbours_of n s) ≡ 1) × (has (neighbours_of n s) i ≡ true)
      none is = absurd (both_ways (has no_nodes i) (has_none i) (ap (λ t. has t i) (sym is) ∙ e))

  first_record : Record
  first_record = (opening n s).kept

  start_here : (w : ℕ) → w ≡ s → (opened opening n s).records w ≡ Some first_record
  unfolding first_record
  start_here w e = at_here nothing_yet.records s _ w e

  none_there : (w : ℕ) → (w ≡ s → ⊥) → (opened opening n s).records w ≡ None
  none_there w other = at_other nothing_yet.records s _ w other

  known_start : (w : ℕ) → is_some ((opened opening n s).records w) ≡ true → w ≡ s
  known_start w known = ⊎_elim (λ e. e) (λ other. absurd (both_ways (is_some ((opened opening n s).records w)) (ap is_some (none_there w other)) known)) (cases_eq w s)

  record_start : (w : ℕ) (r : Record) → (opened opening n s).records w ≡ Some r → (w ≡ s) × (first_record ≡ r)
  record_start w r is_r = let e = known_start w (ap is_some is_r) in (e, some_same (sym (start_here w e) ∙ is_r))

  none_noted : (v u : ℕ) → noted n v ((opened opening n s).records v) u ≡ false
  unfolding first_record
  none_noted v u = ⊎_elim (λ e. ap (λ o. noted n v o u) (start_here v e) ∙ ap (λ k. has (neighbours_of n v) u && not (has (neighbours_of n k) u)) (sym e) ∙ neither (has (neighbours_of n v) u)) (λ other. ap (λ o. noted n v o u) (none_there v other)) (cases_eq v s)
    where
      neither : (b : Bool) → (b && not b) ≡ false
      neither true = refl
      neither false = refl

  -- who is near is woken or gets the token
  wakes_has : (i : ℕ) → has (opening n s).first_kind i ≡ (has (neighbours_of n s) i && not (has token_at_start i))
  unfolding token_at_start
  wakes_has i = has_minus (neighbours_of n s ∖ no_nodes) token_at_start i ∙ ap (λ b. b && not (has token_at_start i)) (has_minus (neighbours_of n s) no_nodes i ∙ ap (λ b. has (neighbours_of n s) i && not b) (has_none i) ∙ and_true (has (neighbours_of n s) i))

  opened_tokens : (u : ℕ) → total (λ v. seconds u v (opened opening n s).transit + one (noted n v ((opened opening n s).records v) u)) 32 ≡ one (token_out ((opened opening n s).records u))
  unfolding first_record token_at_start
  opened_tokens u =
      total_same (λ v. seconds u v (opened opening n s).transit + one (noted n v ((opened opening n s).records v) u)) (λ v. one (eqb s u && has token_at_start v)) 32 (λ v within. omega (arith, messages_seconds s (opening n s) (λ i. eqb i s) u v, ap one (none_noted v u))) ∙ ⊎_elim here there (cases_eq u s)
    where
      here : u ≡ s → total (λ v. one (eqb s u && has token_at_start v)) 32 ≡ one (token_out ((opened opening n s).records u))
      here e = total_same (λ v. one (eqb s u && has token_at_start v)) (λ v. one (has token_at_start v)) 32 (λ v within. ap (λ b. one (b && has token_at_start v)) (eq-eqb s u (sym e))) ∙ sym (size_total token_at_start) ∙ sym token_size ∙ ap (λ o. one (token_out o)) (sym (start_here u e))

      there : (u ≡ s → ⊥) → total (λ v. one (eqb s u && has token_at_start v)) 32 ≡ one (token_out ((opened opening n s).records u))
      there other = total_same (λ v. one (eqb s u && has token_at_start v)) (λ v. 0) 32 (λ v within. ap (λ b. one (b && has token_at_start v)) (ne_eqb s u (λ e. other (sym e)))) ∙ total_none 32 ∙ ap (λ o. one (token_out o)) (sym (none_there u other))

  -- with no neighbour the starter is alone, and decides
  alone_decides : is_empty (neighbours_of n s) ≡ true → 0 < length (opened opening n s).decisions
  alone_decides e = subst (λ b. 0 < length {A = Decision} (cond b (record { node = s; cover = λ i. eqb i s } ∷ []) [])) (sym e) (omega arith)

  opened_count : 0 + length (messages s (opening n s) (λ i. eqb i s)) ≤ total (λ v. allowed n v ((opened opening n s).records v)) 32
  unfolding first_record token_at_start
  opened_count =
      let change = total_at (λ v. 0) (λ v. allowed n v ((opened opening n s).records v)) s 32 (omega (arith, n.few)) (λ i other. ap (allowed n i) (none_there i other)) in
      omega (arith, messages_length s (opening n s) (λ i. eqb i s), total_none 32, ap (allowed n s) (start_here s refl), token_size, size_le (opening n s).first_kind (neighbours_of n s) (λ i e. (and_parts _ _ (sym (wakes_has i) ∙ e)).0))

  opened_sent : AllByRecursion (Sent n (opened opening n s)) (messages s (opening n s) (λ i. eqb i s))
  unfolding first_record token_at_start
  opened_sent = messages_each (Sent n (opened opening n s)) s (opening n s) (λ i. eqb i s) (λ i e. record { near = (and_parts _ _ (sym (wakes_has i) ∙ e)).0; known = ap is_some (start_here s refl); carries = λ token. absurd (both_ways (eqb 1 2) refl token) }) (λ i e. record { near = (token_near i e).1; known = ap is_some (start_here s refl); carries = λ _ x path. alone i (token_near i e) x path })
    where
      alone : (t : ℕ) → (size (neighbours_of n s) ≡ 1) × (has (neighbours_of n s) t ≡ true) → (x : ℕ) → Path (avoiding n t) x s → eqb x s ≡ true
      alone t only_t x path = ⊎_elim (λ e. eq-eqb x s e) (λ found. absurd (away found.0 found.1)) (first_visit n s x (avoiding_near n t) path)
        where
          away : (u : ℕ) → avoiding n t u s ≡ true → ⊥
          away u e =
              let parts = and_parts _ _ e in
              eqb-false u t (not-true _ (and_parts _ _ parts.1).0) (one_member (neighbours_of n s) t u only_t.0 only_t.1 (n.symmetric s u ∙ parts.0))

  opened_reach : (u v : ℕ) → is_some ((opened opening n s).records u) ≡ true → has (neighbours_of n u) v ≡ true → (is_some ((opened opening n s).records v) ≡ true) ⊎ (0 < flight u v (opened opening n s).transit)
  unfolding token_at_start
  opened_reach u v known near = inr (⊎_elim token wake (cases_Bool (has token_at_start v)))
    where
      root : u ≡ s
      root = known_start u known

      token : has token_at_start v ≡ true → 0 < flight u v (opened opening n s).transit
      token e = omega (arith, messages_flight s (opening n s) (λ i. eqb i s) u v, ap₂ (λ b c. one (b && c)) (eq-eqb s u (sym root)) e)

      wake : has token_at_start v ≡ false → 0 < flight u v (opened opening n s).transit
      wake e = omega (arith, messages_flight s (opening n s) (λ i. eqb i s) u v, ap₂ (λ b c. one (b && c)) (eq-eqb s u (sym root)) (wakes_has v ∙ and_from _ _ (ap (λ k. has (neighbours_of n k) v) (sym root) ∙ near) (not_from_false _ e)))

  opened_quiet : (v : ℕ) (r : Record) → (opened opening n s).records v ≡ Some r → r.token_sent ≡ false → (2 ≤ size r.marked) ⊎ (0 < length (opened opening n s).decisions)
  unfolding first_record token_at_start
  opened_quiet v r is_r unsent = ⊎_elim (λ w. inr (alone_decides w.0)) (⊎_elim (λ w. absurd (both_ways (is_empty token_at_start) (ap is_empty w.2 ∙ w.0) (not-false _ none_sent))) (λ w. inl (subst (λ k. 2 ≤ size k.marked) same w.1))) start_token
    where
      same : first_record ≡ r
      same = (record_start v r is_r).1

      none_sent : not (is_empty token_at_start) ≡ false
      none_sent = ap (λ k. k.token_sent) same ∙ unsent

  -- where the starter decides at once it is alone
  opened_covered : CoversAllNodes n (opened opening n s)
  opened_covered = go (is_empty (neighbours_of n s)) refl
    where
      go : (b : Bool) → is_empty (neighbours_of n s) ≡ b → AllByRecursion {X = Decision} (λ d. (i : ℕ) → i < n.nodes → d.cover i ≡ true) (cond b (record { node = s; cover = λ i. eqb i s } ∷ []) [])
      go false e = tt
      go true e = ((λ i i_node. ∥∥₁_elim (n.connected i s i_node node) (Bool-set (eqb i s) true) (λ path. ⊎_elim (λ same. eq-eqb i s same) (λ found. absurd (both_ways (has (neighbours_of n s) found.0) (empty_none (neighbours_of n s) e found.0) (n.symmetric s found.0 ∙ found.1))) (first_visit n s i (λ a b near. near) path))), tt)

  pub opens_treeing : Treeing n s (opened opening n s)
  unfolding first_record
  opens_treeing = record {
    sent = opened_sent;
    inside = λ v r is_r i e. let start = record_start v r is_r in ap (λ k. has (neighbours_of n k) i) start.0 ∙ ap (λ k. has k.marked i) start.1 ∙ e;
    start = ap is_some (start_here s refl);
    starters = λ v r is_r stands. (record_start v r is_r).0;
    tokens = opened_tokens;
    reach = opened_reach;
    quiet = opened_quiet;
    ended = λ v r is_r none. alone_decides (ap (λ k. is_empty k.marked) (record_start v r is_r).1 ∙ none);
    kin = λ v p r is_r stands. absurd (starter_follower p (ap (λ k. k.standing) (record_start v r is_r).1 ∙ stands));
    count = opened_count;
    own = λ v known. let e = known_start v known in ap (λ f. f v) (at_here nothing_yet.covers s (λ i. eqb i s) v e) ∙ eq-eqb v s e;
    heard = λ v u now. absurd (both_ways (noted n v ((opened opening n s).records v) u) (none_noted v u) now);
    decided = decided_so (is_empty (neighbours_of n s)) refl;
    apart = apart_so (is_empty (neighbours_of n s));
  }
    where
      decided_so : (b : Bool) → is_empty (neighbours_of n s) ≡ b → AllByRecursion {X = Decision} (λ d. (r : Record) × ((opened opening n s).records d.node ≡ Some r) × (is_empty r.marked ≡ true)) (cond b (record { node = s; cover = λ i. eqb i s } ∷ []) [])
      decided_so true e = ((first_record, start_here s refl, e), tt)
      decided_so false e = tt

      apart_so : (b : Bool) → Apart (cond b (record { node = s; cover = λ i. eqb i s } ∷ []) [])
      apart_so true = (tt, tt)
      apart_so false = tt

-- ---- every state of a lone run

module _ (n : Network) (s : ℕ) (node : s < n.nodes) where
  module _ (l : Lone) (is : Treeing n s l) (covered : CoversAllNodes n l) (before later : List Message) (m : Message) (split : l.transit ≡ before ++ (m ∷ later)) where
    now_told : Told n m.receiver m.sender (eqb m.kind 2) (l.records m.receiver) (step n m.receiver (l.records m.receiver) m.sender m.kind)
    now_told = step_told n m.receiver m.sender m.kind (l.records m.receiver) (link is before later m split) (is.inside m.receiver) (absent is before later m split)

    pub next : Treeing n s (delivered arrival n l (before ++ later) m)
    next = next_treeing is before later m split (step n m.receiver (l.records m.receiver) m.sender m.kind) now_told (step_standing n m.receiver m.sender m.kind (l.records m.receiver))

    pub next_covered : CoversAllNodes n (delivered arrival n l (before ++ later) m)
    next_covered = go (step n m.receiver (l.records m.receiver) m.sender m.kind).decides refl
      where
        go : (b : Bool) → (step n m.receiver (l.records m.receiver) m.sender m.kind).decides ≡ b → AllByRecursion {X = Decision} (λ d. (i : ℕ) → i < n.nodes → d.cover i ≡ true) (cond b (record { node = m.receiver; cover = gained l m } ∷ l.decisions) l.decisions)
        go true e = (decides_covering is before later m split (step n m.receiver (l.records m.receiver) m.sender m.kind) now_told (step_standing n m.receiver m.sender m.kind (l.records m.receiver)) e, covered)
        go false e = covered

  pub every : {l : Lone} → Run opening arrival n s l → Treeing n s l × CoversAllNodes n l
  every opens = (opens_treeing n s node, opened_covered n s node)
  every (delivers {l} run before later m split) = let so_far = every run in (next l so_far.0 so_far.1 before later m split, next_covered l so_far.0 so_far.1 before later m split)

-- ---- at rest

silent_size : Option Record → ℕ
silent_size None = 0
silent_size (Some r) = size r.marked

module _ {n : Network} {s : ℕ} {l : Lone} (is : Treeing n s l) (node : s < n.nodes) (none : l.transit ≡ []) where
  -- everyone was reached
  all_known : (i : ℕ) → i < n.nodes → is_some (l.records i) ≡ true
  unfolding flight
  all_known i i_node = closed_all n (λ v. is_some (l.records v)) (λ a b joined near. ⊎_elim (λ e. e) (λ flies. absurd (omega (arith, flies, ap (flight a b) none))) (is.reach a b joined near)) s node is.start i i_node

  -- the tokens that are out are those that were noted
  noted_out : (u : ℕ) → total (λ v. one (noted n v (l.records v) u)) 32 ≡ one (token_out (l.records u))
  unfolding seconds
  noted_out u = total_same (λ v. one (noted n v (l.records v) u)) (λ v. seconds u v l.transit + one (noted n v (l.records v) u)) 32 (λ v within. omega (arith, ap (seconds u v) none)) ∙ is.tokens u

  -- each neighbour of a node is silent or noted
  silent_or_noted : (v : ℕ) (o : Option Record) → ((r : Record) → o ≡ Some r → (i : ℕ) → has r.marked i ≡ true → has (neighbours_of n v) i ≡ true) → silent_size o + total (λ u. one (noted n v o u)) 32 ≤ size (neighbours_of n v)
  unfolding silent_size
  silent_or_noted v None near = omega (arith, total_none 32)
  silent_or_noted v (Some r) near = omega (arith, size_total r.marked, size_total (neighbours_of n v), sym (total_sum (λ u. one (has r.marked u)) (λ u. one (has (neighbours_of n v) u && not (has r.marked u))) 32), total_same (λ u. one (has r.marked u) + one (has (neighbours_of n v) u && not (has r.marked u))) (λ u. one (has (neighbours_of n v) u)) 32 (λ u within. each (has (neighbours_of n v) u) (has r.marked u) (near r refl u)))
    where
      each : (a b : Bool) → (b ≡ true → a ≡ true) → one b + one (a && not b) ≡ one a
      each true true so = refl
      each true false so = refl
      each false true so = absurd (both_ways true (sym (so refl)) refl)
      each false false so = refl

  -- a node that decided nothing misses two tokens, or one if its own is out
  two_each : length l.decisions ≡ 0 → (v : ℕ) → v < n.nodes → 2 ≤ silent_size (l.records v) + one (token_out (l.records v))
  unfolding silent_size
  two_each quiet v v_node = go (l.records v) refl (all_known v v_node)
    where
      go : (o : Option Record) → l.records v ≡ o → is_some o ≡ true → 2 ≤ silent_size o + one (token_out o)
      go None e known = absurd (both_ways true (sym known) refl)
      go (Some r) e known = ⊎_elim sent unsent (cases_Bool r.token_sent)
        where
          sent : r.token_sent ≡ true → 2 ≤ size r.marked + one r.token_sent
          sent t = omega (arith, ap one t, ⊎_elim (λ empty. absurd (omega (arith, is.ended v r e empty))) (empty_size r.marked) (cases_Bool (is_empty r.marked)))

          unsent : r.token_sent ≡ false → 2 ≤ size r.marked + one r.token_sent
          unsent t = ⊎_elim (λ many. omega arith) (λ some. absurd (omega arith)) (is.quiet v r e t)

  pub rests : n.links + 1 ≡ n.nodes → 0 < length l.decisions
  rests less = ⊎_elim (λ some. some) (λ few. absurd (contradiction (omega arith))) (cases_lt 0 (length l.decisions))
    where
      S : ℕ → ℕ
      S v = silent_size (l.records v)

      K : ℕ → ℕ
      K v = one (token_out (l.records v))

      contradiction : length l.decisions ≡ 0 → ⊥
      contradiction quiet =
          let least = total_least (λ v. S v + K v) 2 n.nodes 32 n.few (two_each quiet) in
          let swapped = total_swap (λ u v. one (noted n v (l.records v) u)) 32 32 in
          let out = total_same (λ u. total (λ v. one (noted n v (l.records v) u)) 32) K 32 (λ u within. noted_out u) in
          let most_pairs = total_le (λ v. S v + total (λ u. one (noted n v (l.records v) u)) 32) (λ v. size (neighbours_of n v)) 32 (λ v within. silent_or_noted v (l.records v) (is.inside v)) in
          omega (arith, least, swapped, out, most_pairs, total_sum S K 32, total_sum S (λ v. total (λ u. one (noted n v (l.records v) u)) 32) 32, degrees_total n)

-- ---- how many messages

-- a node's share: its degree, and one more for the starter
share : (n : Network) (s v : ℕ) → ℕ
share n s v = size (neighbours_of n v) + one (eqb v s)

module _ {n : Network} {s : ℕ} {l : Lone} (is : Treeing n s l) (node : s < n.nodes) where
  within_share : (v : ℕ) → allowed n v (l.records v) ≤ share n s v
  unfolding share
  within_share v = go (l.records v) refl
    where
      by : (r : Record) → l.records v ≡ Some r → (st : Standing) → r.standing ≡ st → size (neighbours_of n v) - by_starter r.standing + one r.token_sent ≤ size (neighbours_of n v) + one (eqb v s)
      by r e Starter stands = omega (arith, one_most r.token_sent, ap one (eq-eqb v s (is.starters v r e stands)))
      by r e (Follower p) stands = omega (arith, one_most r.token_sent, is.kin v p r e stands, ap by_starter stands)

      go : (o : Option Record) → l.records v ≡ o → allowed n v o ≤ size (neighbours_of n v) + one (eqb v s)
      go None e = omega arith
      go (Some r) e = by r e r.standing refl

  pub in_bound : n.links + 1 ≡ n.nodes → l.sent ≤ 2 * n.nodes - 1
  unfolding share
  in_bound less =
      let once = total_at (λ v. 0) (λ v. one (eqb v s)) s 32 (omega (arith, n.few)) (λ i other. ap one (ne_eqb i s other)) in
      omega (arith, is.count, total_le (λ v. allowed n v (l.records v)) (share n s) 32 (λ v within. within_share v), total_sum (λ v. size (neighbours_of n v)) (λ v. one (eqb v s)) 32, degrees_total n, total_none 32, ap one (eq-eqb s s refl))

-- ---- the laws

names_first : (n : Network) (node : ℕ) (standing : Standing) (reached silent : NodeSet) (decides : Bool) → Neighbours n node reached → Neighbours n node silent → Names n node (first_event (neighbours_of n node) standing reached silent decides)
names_first n node standing reached silent decides near_reached near_silent = record { first = wakes; second = token }
  where
    wakes : Neighbours n node (neighbours_of n node ∖ reached ∖ token_to silent reached)
    wakes i e = names_part n node reached i (and_parts (has (neighbours_of n node ∖ reached) i) (not (has (token_to silent reached) i)) (sym (has_minus (neighbours_of n node ∖ reached) (token_to silent reached) i) ∙ e)).0

    token : Neighbours n node (token_to silent reached)
    token i e = ⊎_elim (λ w. near_reached i (ap (λ t. has t i) (sym w.1) ∙ e)) (⊎_elim (λ w. near_silent i (ap (λ t. has t i) (sym w.2) ∙ e)) (λ w. names_none n node i (ap (λ t. has t i) (sym w.2) ∙ e))) (token_cases silent reached)

names_arrival : (n : Network) (node : ℕ) (known : Bool) (kept : Record) (sender kind : ℕ) → Names n node (arrival n node known kept sender kind)
names_arrival n node true kept sender kind = record { first = names_none n node; second = λ i e. names_part n node (neighbours_of n node ∖ still_silent kept.marked sender kind) i (and_parts _ _ (sym (has_if (not kept.token_sent && eqb (size (still_silent kept.marked sender kind)) 1) (neighbours_of n node ∖ (neighbours_of n node ∖ still_silent kept.marked sender kind)) i) ∙ e)).1 }
names_arrival n node false kept sender kind = names_first n node (Follower sender) (sender_of (neighbours_of n node) sender) (still_silent (neighbours_of n node) sender kind) _ (names_part n node (neighbours_of n node ∖ only sender)) (names_part n node (if_so (eqb kind 2) (only sender)))

pub tree_keeps_laws : KeepsLaws admitted most opening arrival
tree_keeps_laws = record {
  small_bound = λ n. omega (arith, n.few);
  names_neighbours = record { opens = λ n node. names_first n node Starter no_nodes (neighbours_of n node) _ (names_none n node) (λ i e. e); arrives = names_arrival };
  within_bound = λ n s yes' node l run. in_bound (every n s node run).0 node (eqb-true (n.links + 1) n.nodes yes');
  decides_at_rest = λ n s yes' node l run none. rests (every n s node run).0 node none (eqb-true (n.links + 1) n.nodes yes');
  covers_all_nodes = λ n s yes' node l run. (every n s node run).1;
  decides_once = λ n s yes' node l run. (every n s node run).0.apart;
}
