-- One step of a node in a wave, seen in every lone run. Assumes nothing.
use Rattle.std.proofs.Common.{◌≡◌, ℕ, ◌+◌, ◌<◌, ◌≤◌, Bool, true, false, cond, ◌⊎◌, List, ◌∷◌, ◌++◌, length, Some, None, sym, refl, ap, ◌∙◌, subst, ap₂, ⊎_elim, arith, length-append}
use Rattle.std.specs.List.{AllByRecursion}
use Rattle.std.proofs.ByRecursion.{All-append, All-weaker}
use Rattle.std.proofs.lemmas.List.{append-nil}
use Rattle.std.proofs.lemmas.Bool.{both_ways, cases_Bool, cases_eq}
use Rattle.base.proofs.Small.{none_some, some_same}
use Rattle.network.specs.declared.network.Network.{Network}
use Rattle.values.specs.Folds.{fold_of, fold_over}
use Rattle.values.proofs.Folds.{chosen_all}
use Rattle.wave.specs.Laws.{KeepsLaws, Names}
use Rattle.wave.specs.Lone.{Arrival, Cover, Decision, Lone, Message, Opening, Run, stepped}
use Rattle.wave.specs.declared.step.Step.{Step}
use Rattle.rules.specs.Sums.{total}
use Rattle.rules.proofs.Nodes.{at_here, at_other}
use Rattle.rules.proofs.Totals.{total_at}
use Rattle.extinction.specs.Elections.{Election, Joined, Letter, Verdict, acted, letters}
use Rattle.extinction.proofs.Picked.{picked, picked_append}
use Rattle.extinction.proofs.Same.{Same, same_append}
use Rattle.extinction.proofs.Shadows.{Follows, Shadow, Shadowed, Sound, Trace, alone, letters_length, living, of, traces, traces_alone, traces_each, traces_other, traces_written, written}

module _ {T : Type 0} {meet : T → T → T} {admitted : Network → Bool} {most : Network → ℕ} {opening : Opening} {arrival : Arrival} (laws : KeepsLaws admitted most opening arrival) (n : Network) (admits : admitted n ≡ true) (rank : ℕ → ℕ) (own : List T) (each : length own ≡ n.nodes) (e : Election T) (is : Shadowed meet n rank own opening arrival e) where
  -- Node v takes a step in the wave of s, which l follows; before it, perhaps, s was started and a message was taken out.
  module _ (started' : ℕ → Bool) (handled' : ℕ → ℕ) (left : List (Trace T)) (after : List (Letter T)) (s v : ℕ) (h : T) (step : Step) (l : Lone) (under_way : List Message) (cover : Cover)
      (more : (t : ℕ) → e.started t ≡ true → started' t ≡ true)
      (fresh : (t : ℕ) → started' t ≡ true → (e.started t ≡ true) ⊎ ((t ≡ s) × (s ≡ v) × (e.rows s ≡ None)))
      (begun_s : started' s ≡ true)
      (s_node : s < n.nodes)
      (still : Same (picked living written left) after)
      (counted : total e.sent 32 ≡ total handled' 32 + total e.put_out 32 + length after)
      (left_sound : AllByRecursion (Sound meet n rank own e) left)
      (others : (t : ℕ) → (s ≡ t → ⊥) → picked (of t) alone is.gs ≡ picked (of t) alone left)
      (follows : Follows meet n rank own e s l)
      (flights : under_way ≡ picked (of s) alone left)
      (run : Run opening arrival n s (stepped l under_way v cover step))
      (holds : fold_over meet cover own ≡ Some h)
      (names : Names n v step)
      (stood : (e.rows v ≡ None) ⊎ ((j : Joined) × (e.rows v ≡ Some j) × (rank s ≤ rank j.wave)))
      (not_better : started' v ≡ true → rank s ≤ rank v) where
    abbrev pub next : Election T
    next = acted (record { rows = e.rows; running = e.running; transit = e.transit; started = started'; sent = e.sent; handled = handled'; put_out = e.put_out; verdicts = e.verdicts }) after s v h step

    here : Joined
    here = record { wave = s; kept = step.kept }

    rows_here : (u : ℕ) → u ≡ v → next.rows u ≡ Some here
    unfolding here
    rows_here u at_v = at_here e.rows v (Some (record { wave = s; kept = step.kept })) u at_v

    rows_there : (u : ℕ) → (u ≡ v → ⊥) → next.rows u ≡ e.rows u
    rows_there u other = at_other e.rows v (Some (record { wave = s; kept = step.kept })) u other

    row_here : (u : ℕ) (j : Joined) → u ≡ v → next.rows u ≡ Some j → here ≡ j
    row_here u j at_v is_j = some_same (sym (rows_here u at_v) ∙ is_j)

    awake_here : (u : ℕ) → u ≡ v → next.rows u ≡ None → ⊥
    awake_here u at_v none = none_some here (sym none ∙ rows_here u at_v)

    -- ---- the wave of s

    lone_next : Lone
    lone_next = stepped l under_way v cover step

    records_there : (u : ℕ) → (u ≡ v → ⊥) → lone_next.records u ≡ l.records u
    unfolding lone_next
    records_there u other = at_other l.records v (Some step.kept) u other

    some_verdict : (b : Bool) (ds : List Decision) (vs : List (Verdict T)) (d : Decision) (w : Verdict T) → (0 < length ds → 0 < length vs) → 0 < length (cond b (d ∷ ds) ds) → 0 < length (cond b (w ∷ vs) vs)
    some_verdict true ds vs d w was now' = omega arith
    some_verdict false ds vs d w was now' = was now'

    follows_same : (u : ℕ) (j : Joined) → next.rows u ≡ Some j → j.wave ≡ s → (lone_next.records u ≡ Some j.kept) × (fold_over meet (lone_next.covers u) own ≡ Some (next.running u))
    unfolding lone_next here
    follows_same u j is_j in_s = ⊎_elim at_v there (cases_eq u v)
      where
        at_v : u ≡ v → (lone_next.records u ≡ Some j.kept) × (fold_over meet (lone_next.covers u) own ≡ Some (next.running u))
        at_v eq = (at_here l.records v (Some step.kept) u eq ∙ ap (λ k. Some k.kept) (row_here u j eq is_j), ap (λ f. fold_over meet f own) (at_here l.covers v cover u eq) ∙ holds ∙ ap Some (sym (at_here e.running v h u eq)))

        there : (u ≡ v → ⊥) → (lone_next.records u ≡ Some j.kept) × (fold_over meet (lone_next.covers u) own ≡ Some (next.running u))
        there other = let was = follows.same u j (sym (rows_there u other) ∙ is_j) in_s in (records_there u other ∙ was.0, ap (λ f. fold_over meet f own) (at_other l.covers v cover u other) ∙ was.1 ∙ ap Some (sym (at_other e.running v h u other)))

    follows_next : Follows meet n rank own next s lone_next
    unfolding lone_next here
    follows_next = record {
      same = follows_same;
      asleep = λ u none. ⊎_elim (λ at_v. absurd (awake_here u at_v none)) (λ other. records_there u other ∙ follows.asleep u (sym (rows_there u other) ∙ none)) (cases_eq u v);
      worse = λ u j is_j less. ⊎_elim (λ at_v. absurd (omega (arith, ap (λ k. rank k.wave) (row_here u j at_v is_j)))) (λ other. records_there u other ∙ follows.worse u j (sym (rows_there u other) ∙ is_j) less) (cases_eq u v);
      better = λ t st less. ⊎_elim (λ at_v. absurd (omega (arith, not_better (ap started' (sym at_v) ∙ st), ap rank at_v))) (λ other. records_there t other ∙ ⊎_elim (λ was. follows.better t was less) (λ new. absurd (omega (arith, ap rank new.0))) (fresh t st)) (cases_eq t v);
      sent = at_here e.sent s (e.sent s + length (letters s v step h)) s refl ∙ ap₂ ◌+◌ follows.sent (letters_length s v step h cover);
      heard = some_verdict step.decides l.decisions e.verdicts (record { node = v; cover = cover }) (record { node = v; named = s; holding = h }) follows.heard;
      spoke = spoken step.decides;
    }
      where
        spoken : (b : Bool) → AllByRecursion (λ d. d.named ≡ s → 0 < length {A = Decision} (cond b (record { node = v; cover = cover } ∷ l.decisions) l.decisions)) (cond b (record { node = v; named = s; holding = h } ∷ e.verdicts) e.verdicts)
        spoken true = (λ _. omega arith, All-weaker (λ d. d.named ≡ s → 0 < length l.decisions) (λ d. d.named ≡ s → 0 < length {A = Decision} (record { node = v; cover = cover } ∷ l.decisions)) (λ d was named. omega arith) e.verdicts follows.spoke)
        spoken false = follows.spoke

    -- ---- the wave of another

    module _ (t : ℕ) (other_wave : s ≡ t → ⊥) (k : Lone) (was : Follows meet n rank own e t k) where
      unmet : rank t < rank s → k.records v ≡ None
      unmet less = ⊎_elim (was.asleep v) (λ in_j. was.worse v in_j.0 in_j.1 (omega (arith, in_j.2))) stood

      follows_other : Follows meet n rank own next t k
      unfolding here
      follows_other = record {
        same = λ u j is_j in_t. ⊎_elim (λ at_v. absurd (other_wave (ap (λ w. w.wave) (row_here u j at_v is_j) ∙ in_t))) (λ other. let so = was.same u j (sym (rows_there u other) ∙ is_j) in_t in (so.0, so.1 ∙ ap Some (sym (at_other e.running v h u other)))) (cases_eq u v);
        asleep = λ u none. ⊎_elim (λ at_v. absurd (awake_here u at_v none)) (λ other. was.asleep u (sym (rows_there u other) ∙ none)) (cases_eq u v);
        worse = λ u j is_j less. ⊎_elim (λ at_v. ap k.records at_v ∙ unmet (omega (arith, ap (λ w. rank w.wave) (row_here u j at_v is_j)))) (λ other. was.worse u j (sym (rows_there u other) ∙ is_j) less) (cases_eq u v);
        better = λ r st less. ⊎_elim (λ old. was.better r old less) (λ new. ap k.records new.0 ∙ was.asleep s new.2) (fresh r st);
        sent = at_other e.sent s (e.sent s + length (letters s v step h)) t (λ same. other_wave (sym same)) ∙ was.sent;
        heard = λ some. longer step.decides (was.heard some);
        spoke = spoken step.decides;
      }
        where
          longer : (b : Bool) → 0 < length e.verdicts → 0 < length {A = Verdict T} (cond b (record { node = v; named = s; holding = h } ∷ e.verdicts) e.verdicts)
          longer true some = omega arith
          longer false some = some

          spoken : (b : Bool) → AllByRecursion (λ d. d.named ≡ t → 0 < length k.decisions) (cond b (record { node = v; named = s; holding = h } ∷ e.verdicts) e.verdicts)
          spoken true = (λ named. absurd (other_wave named), was.spoke)
          spoken false = was.spoke

    -- ---- all

    gs_next : List (Trace T)
    gs_next = left ++ traces s v step h cover

    sound_next : (g : Trace T) → Sound meet n rank own e g → Sound meet n rank own next g
    sound_next g was = record { accepted = more _ was.accepted; near = was.near; holds = was.holds; better = λ lost. let by = was.better lost in (by.0, more _ by.1, by.2) }

    shown_next : (b : Bool) → step.decides ≡ b → AllByRecursion (λ d. (started' d.named ≡ true) × (Some d.holding ≡ fold_of meet own)) (cond b (record { node = v; named = s; holding = h } ∷ e.verdicts) e.verdicts)
    shown_next b decides = by b decides (All-weaker (λ d. (e.started d.named ≡ true) × (Some d.holding ≡ fold_of meet own)) (λ d. (started' d.named ≡ true) × (Some d.holding ≡ fold_of meet own)) (λ d so. (more _ so.0, so.1)) e.verdicts is.shown)
      where
        covered : AllByRecursion (λ d. (i : ℕ) → i < n.nodes → d.cover i ≡ true) (cond step.decides (record { node = v; cover = cover } ∷ l.decisions) l.decisions)
        covered = laws.covers_all_nodes n s admits s_node (stepped l under_way v cover step) run

        by : (b' : Bool) → step.decides ≡ b' → AllByRecursion (λ d. (started' d.named ≡ true) × (Some d.holding ≡ fold_of meet own)) e.verdicts → AllByRecursion (λ d. (started' d.named ≡ true) × (Some d.holding ≡ fold_of meet own)) (cond b' (record { node = v; named = s; holding = h } ∷ e.verdicts) e.verdicts)
        by true yes' rest =
            let all = (subst (λ b''. AllByRecursion {X = Decision} (λ d. (i : ℕ) → i < n.nodes → d.cover i ≡ true) (cond b'' (record { node = v; cover = cover } ∷ l.decisions) l.decisions)) yes' covered).0 in
            ((begun_s, sym holds ∙ ap (fold_of meet) (chosen_all cover own (λ i within. all i (omega (arith, each))))), rest)
        by false no' rest = rest

    pub acts : Shadowed meet n rank own opening arrival next
    unfolding gs_next here lone_next
    acts = record {
      gs = gs_next;
      transit = subst (λ ls. Same ls (after ++ letters s v step h)) (sym (picked_append living written left (traces s v step h cover) ∙ ap (λ ls. picked living written left ++ ls) (traces_written s v step h cover))) (same_append after (picked living written left) (letters s v step h) still);
      sound = All-append (Sound meet n rank own next) left (traces s v step h cover) (All-weaker (Sound meet n rank own e) (Sound meet n rank own next) sound_next left left_sound) (traces_each s v step h cover (Sound meet n rank own next) (λ kind i named. record { accepted = begun_s; near = ⊎_elim (names.first i) (names.second i) named; holds = holds; better = λ lost. absurd (both_ways true (sym lost) refl) }));
      shadow = λ t st. ⊎_elim (λ same. subst (Shadow meet n rank own opening arrival next gs_next) same of_s) (λ other. of_other t st other) (cases_eq s t);
      awake = λ t st. ⊎_elim (λ at_v. (here, rows_here t at_v, subst (λ k. rank s ≤ rank k) (sym at_v) (not_better (ap started' (sym at_v) ∙ st)))) (λ other. ⊎_elim (λ old. let was = is.awake t old in (was.0, rows_there t other ∙ was.1, was.2)) (λ new. absurd (other (new.0 ∙ new.1))) (fresh t st)) (cases_eq t v);
      waves = λ u j is_j. ⊎_elim (λ at_v. ap (λ k. started' k.wave) (sym (row_here u j at_v is_j)) ∙ begun_s) (λ other. more _ (is.waves u j (sym (rows_there u other) ∙ is_j))) (cases_eq u v);
      nodes = λ t st. ⊎_elim (is.nodes t) (λ new. subst (λ k. k < n.nodes) (sym new.0) s_node) (fresh t st);
      unsent = λ t no'. at_other e.sent s (e.sent s + length (letters s v step h)) t (λ same. both_ways (started' t) no' (ap started' same ∙ begun_s)) ∙ is.unsent t (⊎_elim (λ st. absurd (both_ways (started' t) no' (more t st))) (λ no''. no'') (cases_Bool (e.started t)));
      counts =
          let change = total_at e.sent next.sent s 32 (omega (arith, n.few, s_node)) (λ i other. at_other e.sent s (e.sent s + length (letters s v step h)) i other) in
          omega (arith, change, counted, at_here e.sent s (e.sent s + length (letters s v step h)) s refl, length-append after (letters s v step h));
      shown = shown_next step.decides refl;
    }
      where
        of_s : Shadow meet n rank own opening arrival next gs_next s
        of_s = record { lone = lone_next; run = run; follows = follows_next; flights = ap₂ ◌++◌ flights (sym (traces_alone s v step h cover)) ∙ sym (picked_append (of s) alone left (traces s v step h cover)) }

        of_other : (t : ℕ) → started' t ≡ true → (s ≡ t → ⊥) → Shadow meet n rank own opening arrival next gs_next t
        of_other t st other =
            let old = is.shadow t (⊎_elim (λ was. was) (λ new. absurd (other (sym new.0))) (fresh t st)) in
            record { lone = old.lone; run = old.run; follows = follows_other t other old.lone old.follows; flights = old.flights ∙ others t other ∙ sym (picked_append (of t) alone left (traces s v step h cover) ∙ ap (λ ms. picked (of t) alone left ++ ms) (traces_other s v step h cover t other) ∙ append-nil (picked (of t) alone left)) }
