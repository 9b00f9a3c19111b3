-- Every state of an election has its lone runs. Assumes nothing.
use Rattle.std.proofs.Common.{◌≡◌, ℕ, ◌+◌, ◌<◌, ◌≤◌, Bool, true, false, cond, ◌||◌, eqb, ltb, ◌⊎◌, List, [], ◌∷◌, ◌++◌, length, get_or, is_some, Some, None, Option, unwrap_or, sym, refl, ap, ◌∙◌, subst, ap₂, inl, inr, ⊎_elim, arith, length-append}
use Rattle.std.specs.List.Sorted.{IsPermutation}
use Rattle.std.specs.List.{AllByRecursion}
use Rattle.std.proofs.ByRecursion.{All-weaker}
use Rattle.std.proofs.lemmas.Bool.{both_ways, cases_Bool, cases_eq, eq-eqb, eqb-false, eqb-true, ltb-false, ltb-true, ne_eqb}
use Rattle.base.proofs.Small.{none_some, some_same}
use Rattle.network.specs.declared.network.Network.{Network}
use Rattle.values.specs.Folds.{fold_of, fold_over, met}
use Rattle.values.specs.Semilattices.{Semilattice}
use Rattle.values.proofs.Folds.{chosen_same, fold_one, fold_union}
use Rattle.wave.specs.Laws.{KeepsLaws}
use Rattle.wave.specs.Lone.{Arrival, Lone, Message, Opening, Run, at_node, blank, delivers, gained, nothing_yet, opens, step_at, stepped}
use Rattle.wave.specs.declared.step.Record.{Record}
use Rattle.rules.specs.Sums.{total}
use Rattle.rules.proofs.Neighbours.{joined_below}
use Rattle.rules.proofs.Nodes.{all_middle, at_here, at_other}
use Rattle.rules.proofs.Totals.{total_at, total_none}
use Rattle.extinction.specs.Elections.{Election, Joined, Letter, acted, begun, fate, goes_out, joins, made, met_by, one_put_out, reached, stays}
use Rattle.extinction.specs.Elections as elections
use Rattle.extinction.proofs.Acting.{acts}
use Rattle.extinction.proofs.Grounded.{grounded}
use Rattle.extinction.proofs.Picked.{find, picked, picked_append, picked_no, picked_none, picked_swap, picked_yes}
use Rattle.extinction.proofs.Same.{Same, same_length, same_trans, shuffled_same}
use Rattle.extinction.proofs.Shadows.{Follows, Shadow, Shadowed, Sound, Trace, alone, living, of, written}

module _ {T : Type 0} {meet : T → T → T} (semi : Semilattice meet) {admitted : Network → Bool} {most : Network → ℕ} {opening : Opening} {arrival : Arrival} (laws : KeepsLaws admitted most opening arrival) (n : Network) (admits : admitted n ≡ true) (rank : ℕ → ℕ) (apart : (a b : ℕ) → a < n.nodes → b < n.nodes → rank a ≡ rank b → a ≡ b) (own : List T) (each : length own ≡ n.nodes) (d : T) where
  abbrev own_of : ℕ → T
  own_of v = get_or own v d

  abbrev HasShadows : Election T → Type 0
  HasShadows e = Shadowed meet n rank own opening arrival e

  -- ---- the making

  makes_shadows : HasShadows (made own_of)
  makes_shadows = record {
    gs = [];
    transit = refl;
    sound = tt;
    shadow = λ s st. absurd (both_ways true (sym st) refl);
    awake = λ s st. absurd (both_ways true (sym st) refl);
    waves = λ v j is_j. absurd (none_some j is_j);
    nodes = λ s st. absurd (both_ways true (sym st) refl);
    unsent = λ s no'. refl;
    counts = omega (arith, total_none 32);
    shown = tt;
  }

  -- ---- a start

  module _ (e : Election T) (is : HasShadows e) (s : ℕ) (s_node : s < n.nodes) (asleep : e.rows s ≡ None) where
    unstarted : e.started s ≡ true → ⊥
    unstarted st = let was = is.awake s st in none_some was.0 (sym asleep ∙ was.1)

    starts_follows : Follows meet n rank own e s nothing_yet
    starts_follows = record {
      same = λ v j is_j in_s. absurd (unstarted (ap e.started (sym in_s) ∙ is.waves v j is_j));
      asleep = λ v none. refl;
      worse = λ v j is_j less. refl;
      better = λ t st less. refl;
      sent = is.unsent s (⊎_elim (λ st. absurd (unstarted st)) (λ no'. no') (cases_Bool (e.started s)));
      heard = λ some. absurd (omega arith);
      spoke = All-weaker (λ w. (e.started w.named ≡ true) × (Some w.holding ≡ fold_of meet own)) (λ w. w.named ≡ s → 0 < 0) (λ w so named. absurd (unstarted (ap e.started (sym named) ∙ so.0))) e.verdicts is.shown;
    }

    starts_shadows : HasShadows (begun opening arrival n rank meet own_of e s)
    starts_shadows = acts laws n admits rank own each e is (at_node e.started s true) e.handled is.gs e.transit s s (own_of s) (opening n s) nothing_yet [] (λ i. eqb i s)
        (λ t st. ⊎_elim (λ same. at_here e.started s true t same) (λ other. at_other e.started s true t other ∙ st) (cases_eq t s))
        (λ t st. ⊎_elim (λ same. inr (same, refl, asleep)) (λ other. inl (sym (at_other e.started s true t other) ∙ st)) (cases_eq t s))
        (at_here e.started s true s refl)
        s_node
        is.transit
        is.counts
        is.sound
        (λ t other. refl)
        starts_follows
        (sym (picked_none (of s) alone is.gs (All-weaker (Sound meet n rank own e) (λ g. of s g ≡ false) (λ g so. ne_eqb g.letter.starter s (λ same. unstarted (ap e.started (sym same) ∙ so.accepted))) is.gs is.sound)))
        opens
        (fold_one semi own s d (omega (arith, each)))
        (laws.names_neighbours.opens n s)
        (inl asleep)
        (λ _. omega arith)

  -- ---- a delivery of the message of a trace

  module _ (e : Election T) (is : HasShadows e) (before later : List (Trace T)) (g : Trace T) (whole : is.gs ≡ before ++ (g ∷ later)) (lives : living g ≡ true) (left : List (Letter T)) (still : Same (picked living written (before ++ later)) left) where
    abbrev s : ℕ
    s = g.letter.starter

    abbrev v : ℕ
    v = g.letter.receiver

    parts : Sound meet n rank own e g × AllByRecursion (Sound meet n rank own e) (before ++ later)
    parts = all_middle (Sound meet n rank own e) before later g (subst (AllByRecursion (Sound meet n rank own e)) whole is.sound)

    s_node : s < n.nodes
    s_node = is.nodes s parts.0.accepted

    one_less : length e.transit ≡ length left + 1
    one_less = sym (same_length e.transit (picked living written is.gs) is.transit) ∙ ap length (ap (picked living written) whole ∙ picked_yes living written before later g lives) ∙ length-append (picked living written before) (g.letter ∷ picked living written later) ∙ omega (arith, sym (same_length left (picked living written (before ++ later)) still) ∙ ap length (picked_append living written before later) ∙ length-append (picked living written before) (picked living written later))

    one_more : (f : ℕ → ℕ) → total (at_node f s (f s + 1)) 32 ≡ total f 32 + 1
    one_more f = omega (arith, total_at f (at_node f s (f s + 1)) s 32 (omega (arith, n.few, s_node)) (λ i other. at_other f s (f s + 1) i other), at_here f s (f s + 1) s refl)

    -- ---- it is put out

    gone : Trace T
    gone = record { letter = g.letter; cover = g.cover; lost = true }

    puts_out : (t : ℕ) → e.started t ≡ true → rank t < rank s → HasShadows (one_put_out e left s)
    unfolding gone
    puts_out t st less = record {
      gs = before ++ (gone ∷ later);
      transit = subst (λ ls. Same ls left) (sym (picked_no living written before later gone refl)) still;
      sound = all_insert before (All-weaker (Sound meet n rank own e) (Sound meet n rank own (one_put_out e left s)) again (before ++ later) parts.1);
      shadow = λ r str. let old = is.shadow r str in record { lone = old.lone; run = old.run; follows = follows_out r old.lone old.follows; flights = old.flights ∙ ap (picked (of r) alone) whole ∙ picked_swap (of r) alone before later g gone refl refl };
      awake = is.awake;
      waves = is.waves;
      nodes = is.nodes;
      unsent = is.unsent;
      counts = omega (arith, is.counts, one_less, one_more e.put_out);
      shown = is.shown;
    }
      where
        again : (x : Trace T) → Sound meet n rank own e x → Sound meet n rank own (one_put_out e left s) x
        again x so = record { accepted = so.accepted; near = so.near; holds = so.holds; better = so.better }

        all_insert : (front : List (Trace T)) → AllByRecursion (Sound meet n rank own (one_put_out e left s)) (front ++ later) → AllByRecursion (Sound meet n rank own (one_put_out e left s)) (front ++ (gone ∷ later))
        all_insert [] rest = (record { accepted = parts.0.accepted; near = parts.0.near; holds = parts.0.holds; better = λ lost. (t, st, less) }, rest)
        all_insert (x ∷ front) rest = (rest.0, all_insert front rest.1)

        follows_out : (r : ℕ) (l : Lone) → Follows meet n rank own e r l → Follows meet n rank own (one_put_out e left s) r l
        follows_out r l was = record { same = was.same; asleep = was.asleep; worse = was.worse; better = was.better; sent = was.sent; heard = was.heard; spoke = was.spoke }

    -- ---- it is handled

    shadow_s : Shadow meet n rank own opening arrival e is.gs s
    shadow_s = is.shadow s parts.0.accepted

    abbrev lone : Lone
    lone = shadow_s.lone

    abbrev lone_left : List Message
    lone_left = picked (of s) alone before ++ picked (of s) alone later

    v_node : v < length own
    v_node = omega (arith, each, joined_below n g.letter.sender v parts.0.near)

    runs : Run opening arrival n s (stepped lone lone_left v (gained lone (alone g)) (step_at arrival n lone (alone g)))
    runs = delivers shadow_s.run (picked (of s) alone before) (picked (of s) alone later) (alone g) (shadow_s.flights ∙ ap (picked (of s) alone) whole ∙ picked_yes (of s) alone before later g (eq-eqb s s refl))

    handles : (known : Bool) (kept : Record) (h : T) →
        step_at arrival n lone (alone g) ≡ arrival n v known kept g.letter.sender g.letter.kind →
        fold_over meet (gained lone (alone g)) own ≡ Some h →
        (e.rows v ≡ None) ⊎ ((j : Joined) × (e.rows v ≡ Some j) × (rank s ≤ rank j.wave)) →
        HasShadows (acted (elections.one_handled e s) left s v h (arrival n v known kept g.letter.sender g.letter.kind))
    handles known kept h same holds stood = acts laws n admits rank own each e is e.started (at_node e.handled s (e.handled s + 1)) (before ++ later) left s v h (arrival n v known kept g.letter.sender g.letter.kind) lone lone_left (gained lone (alone g))
        (λ t st. st)
        (λ t st. inl st)
        parts.0.accepted
        s_node
        still
        (omega (arith, is.counts, one_less, one_more e.handled))
        parts.1
        (λ t other. ap (picked (of t) alone) whole ∙ picked_no (of t) alone before later g (ne_eqb s t other))
        shadow_s.follows
        (sym (picked_append (of s) alone before later))
        (subst (λ st. Run opening arrival n s (stepped lone lone_left v (gained lone (alone g)) st)) same runs)
        holds
        (laws.names_neighbours.arrives n v known kept g.letter.sender g.letter.kind)
        stood
        (λ st. let was = is.awake v st in ⊎_elim (λ none. absurd (none_some was.0 (sym none ∙ was.1))) (λ in_j. omega (arith, in_j.2, was.2, ap (λ j. rank j.wave) (some_same (sym in_j.1 ∙ was.1)))) stood)

    -- the receiver joins the wave, in which it has no record
    joins_it : lone.records v ≡ None → (e.rows v ≡ None) ⊎ ((j : Joined) × (e.rows v ≡ Some j) × (rank s ≤ rank j.wave)) → HasShadows (met_by opening arrival n rank meet own_of e left g.letter joins)
    joins_it none stood = handles false blank (meet (own_of v) g.letter.holding) (ap (λ o. arrival n v (is_some o) (unwrap_or o blank) g.letter.sender g.letter.kind) none) holds stood
      where
        holds : fold_over meet (gained lone (alone g)) own ≡ Some (meet (own_of v) g.letter.holding)
        holds = fold_union semi (λ i. eqb i v) (λ i. lone.covers v i || g.cover i) own ∙ ap₂ (met meet) (fold_one semi own v d v_node) (ap (fold_of meet) (chosen_same (λ i. lone.covers v i || g.cover i) g.cover own (λ i within. ap (λ b. b || g.cover i) ((grounded opening arrival n s shadow_s.run).empty v none i))) ∙ parts.0.holds)

    -- the receiver stands in the wave
    stays_it : (j : Joined) → e.rows v ≡ Some j → j.wave ≡ s → HasShadows (met_by opening arrival n rank meet own_of e left g.letter (stays j.kept))
    stays_it j is_j in_s = handles true j.kept (meet (e.running v) g.letter.holding) (ap (λ o. arrival n v (is_some o) (unwrap_or o blank) g.letter.sender g.letter.kind) was.0) holds (inr (j, is_j, omega (arith, ap rank in_s)))
      where
        was : (lone.records v ≡ Some j.kept) × (fold_over meet (lone.covers v) own ≡ Some (e.running v))
        was = shadow_s.follows.same v j is_j in_s

        itself : (i : ℕ) → (eqb i v || (lone.covers v i || g.cover i)) ≡ (lone.covers v i || g.cover i)
        itself i = ⊎_elim (λ same. let own_in : lone.covers v i ≡ true = ap (lone.covers v) same ∙ (grounded opening arrival n s shadow_s.run).own v (ap is_some was.0) in ap (λ b. b || (lone.covers v i || g.cover i)) (eq-eqb i v same) ∙ sym (ap (λ b. b || g.cover i) own_in)) (λ other. ap (λ b. b || (lone.covers v i || g.cover i)) (ne_eqb i v other)) (cases_eq i v)

        holds : fold_over meet (gained lone (alone g)) own ≡ Some (meet (e.running v) g.letter.holding)
        holds = ap (fold_of meet) (chosen_same (gained lone (alone g)) (λ i. lone.covers v i || g.cover i) own (λ i within. itself i)) ∙ fold_union semi (lone.covers v) g.cover own ∙ ap₂ (met meet) was.1 parts.0.holds

    -- ---- whatever its fate

    meets : (o : Option Joined) → e.rows v ≡ o → HasShadows (met_by opening arrival n rank meet own_of e left g.letter (fate rank o s))
    meets None none = joins_it (shadow_s.follows.asleep v none) (inl none)
    meets (Some j) is_j = by (ltb (rank s) (rank j.wave)) refl (eqb s j.wave) refl
      where
        by : (less : Bool) → ltb (rank s) (rank j.wave) ≡ less → (same : Bool) → eqb s j.wave ≡ same → HasShadows (met_by opening arrival n rank meet own_of e left g.letter (cond less joins (cond same (stays j.kept) goes_out)))
        by true less same is_same = let lower = ltb-true (rank s) (rank j.wave) less in joins_it (shadow_s.follows.worse v j is_j lower) (inr (j, is_j, omega arith))
        by false less true same = stays_it j is_j (sym (eqb-true s j.wave same))
        by false less false same =
            let accepted = is.waves v j is_j in
            let no_lower = ltb-false (rank s) (rank j.wave) less in
            puts_out j.wave accepted (⊎_elim (λ equal. absurd (eqb-false s j.wave same (apart s j.wave s_node (is.nodes j.wave accepted) equal))) (λ differ. omega arith) (cases_eq (rank s) (rank j.wave)))

  -- ---- every state

  delivers_shadows : (e : Election T) → HasShadows e → (left : List (Letter T)) (m : Letter T) → IsPermutation e.transit (m ∷ left) → HasShadows (reached opening arrival n rank meet own_of e left m)
  delivers_shadows e is left m taken =
      let apart_m = same_trans (m ∷ left) e.transit (picked living written is.gs) is.transit (shuffled_same e.transit (m ∷ left) taken) in
      let found = find living written is.gs apart_m.0 apart_m.1 m apart_m.2 in
      let others : picked living written (found.before_it ++ found.later_it) ≡ apart_m.0 ++ apart_m.1 = picked_append living written found.before_it found.later_it ∙ ap₂ ◌++◌ found.picks_before found.picks_later in
      subst (λ k. HasShadows (reached opening arrival n rank meet own_of e left k)) found.is (meets e is found.before_it found.later_it found.it found.whole found.picks left (subst (λ ls. Same ls left) (sym others) apart_m.3) (e.rows found.it.letter.receiver) refl)

  pub every : {e : Election T} → elections.Elects opening arrival n rank meet own_of e → HasShadows e
  every elections.makes = makes_shadows
  every (elections.starts {e} so_far s s_node asleep) = starts_shadows e (every so_far) s s_node asleep
  every (elections.delivers {e} so_far left m taken) = delivers_shadows e (every so_far) left m taken
