-- What is promised of an election, from its lone runs. Assumes nothing.
use Rattle.std.proofs.Common.{◌≡◌, ℕ, zero, suc, ◌+◌, ◌*◌, ◌<◌, ◌≤◌, Bool, true, false, ◌⊎◌, List, [], ◌∷◌, length, get_or, is_some, Some, sym, refl, ap, ◌∙◌, subst, inl, inr, ⊎_elim, mul-le-mul_right, suc-mul, arith}
use Rattle.std.specs.List.{AllByRecursion}
use Rattle.std.proofs.ByRecursion.{All-weaker}
use Rattle.std.proofs.lemmas.Bool.{both_ways, cases_Bool, cases_eq, cases_lt, eqb-true, le-ltb, not-false}
use Rattle.network.specs.declared.network.Network.{Network}
use Rattle.values.specs.Folds.{fold_of}
use Rattle.values.specs.Orders.{Order}
use Rattle.values.specs.Ranks.{Distinct, Ranking, rank_table}
use Rattle.values.specs.Semilattices.{Semilattice}
use Rattle.values.proofs.Ranks.{table_ranks}
use Rattle.wave.specs.Laws.{KeepsLaws}
use Rattle.wave.specs.Lone.{Arrival, Decision, Opening}
use Rattle.rules.specs.Sums.{one, total}
use Rattle.rules.proofs.Nodes.{all_both}
use Rattle.extinction.specs.Elections.{Election, Verdict}
use Rattle.extinction.specs.Promises.{Kept, Promise, Right, starters}
use Rattle.extinction.proofs.Every.{every}
use Rattle.extinction.proofs.Grounded.{grounded}
use Rattle.extinction.proofs.Picked.{none_picked, picked, picked_none}
use Rattle.extinction.proofs.Same.{Same}
use Rattle.extinction.proofs.Shadows.{Shadowed, Sound, Trace, alone, living, of, written}

-- at most m for each one that passes the test
total_bounded : (f : ℕ → ℕ) (p : ℕ → Bool) (m k : ℕ) → ((i : ℕ) → p i ≡ true → f i ≤ m) → ((i : ℕ) → p i ≡ false → f i ≡ 0) → total f k ≤ total (λ i. one (p i)) k * m
unfolding total
total_bounded f p m zero most none = omega arith
total_bounded f p m (suc k) most none = ⊎_elim (λ in_p. passes in_p (total_bounded f p m k most none)) (λ out. fails out (total_bounded f p m k most none)) (cases_Bool (p k))
  where
    passes : p k ≡ true → total f k ≤ total (λ i. one (p i)) k * m → total f k + f k ≤ (total (λ i. one (p i)) k + one (p k)) * m
    passes in_p rest =
        let more : (total (λ i. one (p i)) k + one (p k)) * m ≡ total (λ i. one (p i)) k * m + m = ap (λ b. (total (λ i. one (p i)) k + one b) * m) in_p ∙ ap (λ j. j * m) (omega arith) ∙ suc-mul (total (λ i. one (p i)) k) m in
        omega (arith, most k in_p)

    fails : p k ≡ false → total f k ≤ total (λ i. one (p i)) k * m → total f k + f k ≤ (total (λ i. one (p i)) k + one (p k)) * m
    fails out rest =
        let same : (total (λ i. one (p i)) k + one (p k)) * m ≡ total (λ i. one (p i)) k * m = ap (λ b. (total (λ i. one (p i)) k + one b) * m) out ∙ ap (λ j. j * m) (omega arith) in
        omega (arith, none k out)

-- of a test that only nodes below a number pass
passes_most : (p : ℕ → Bool) (nodes k : ℕ) → ((i : ℕ) → p i ≡ true → i < nodes) → (total (λ i. one (p i)) k ≤ k) × (total (λ i. one (p i)) k ≤ nodes)
unfolding total
passes_most p nodes zero below = (omega arith, omega arith)
passes_most p nodes (suc k) below = let rest = passes_most p nodes k below in ⊎_elim (λ in_p. (omega (arith, rest.0, ap one in_p), omega (arith, rest.0, below k in_p, ap one in_p))) (λ out. (omega (arith, rest.0, ap one out), omega (arith, rest.1, ap one out))) (cases_Bool (p k))

-- one of those below k that pass the test, and none of them has a lower rank
abbrev Least : (ℕ → ℕ) → (ℕ → Bool) → ℕ → Type 0
Least rank p k = (a : ℕ) × (p a ≡ true) × ((t : ℕ) → t < k → p t ≡ true → rank a ≤ rank t)

least_of : (rank : ℕ → ℕ) (p : ℕ → Bool) (k : ℕ) → ((t : ℕ) → t < k → p t ≡ false) ⊎ Least rank p k
least_of rank p zero = inl (λ t within. absurd (omega arith))
least_of rank p (suc k) = ⊎_elim (λ in_k. inr (⊎_elim (only in_k) (against in_k) (least_of rank p k))) (λ out. ⊎_elim (λ none. inl (λ t le. ⊎_elim (λ same. ap p same ∙ out) (λ other. none t (omega arith)) (cases_eq t k))) (λ found. inr (found.0, found.1, λ t le in_t. ⊎_elim (λ same. absurd (both_ways (p k) out (ap p (sym same) ∙ in_t))) (λ other. found.2 t (omega arith) in_t) (cases_eq t k))) (least_of rank p k)) (cases_Bool (p k))
  where
    only : p k ≡ true → ((t : ℕ) → t < k → p t ≡ false) → Least rank p (suc k)
    only in_k none = (k, in_k, λ t le in_t. ⊎_elim (λ same. omega (arith, ap rank same)) (λ other. absurd (both_ways (p t) (none t (omega arith)) in_t)) (cases_eq t k))

    against : p k ≡ true → Least rank p k → Least rank p (suc k)
    against in_k found = ⊎_elim (λ less. (k, in_k, λ t le in_t. ⊎_elim (λ same. omega (arith, ap rank same)) (λ other. omega (arith, found.2 t (omega arith) in_t)) (cases_eq t k))) (λ more. (found.0, found.1, λ t le in_t. ⊎_elim (λ same. omega (arith, ap rank same)) (λ other. found.2 t (omega arith) in_t) (cases_eq t k))) (cases_lt (rank k) (rank found.0))

-- what follows from two facts of one decision, where there is one
some_decision : {P Q : Decision → Type 0} (R : Type 0) (ds : List Decision) → 0 < length ds → AllByRecursion P ds → AllByRecursion Q ds → ((d : Decision) → P d → Q d → R) → R
some_decision R [] some ps qs so = absurd (omega arith)
some_decision R (d ∷ ds) some ps qs so = so d ps.0 qs.0

module _ {T : Type 0} {meet : T → T → T} {admitted : Network → Bool} {most : Network → ℕ} {opening : Opening} {arrival : Arrival} (laws : KeepsLaws admitted most opening arrival) (n : Network) (admits : admitted n ≡ true) (rank : ℕ → ℕ) (own : List T) (each : length own ≡ n.nodes) where
  module _ (e : Election T) (is : Shadowed meet n rank own opening arrival e) where
    -- a starter whose wave decided is the least
    decided_least : (s : ℕ) (st : e.started s ≡ true) → 0 < length (is.shadow s st).lone.decisions → (t : ℕ) → e.started t ≡ true → rank s ≤ rank t
    decided_least s st some t st_t = ⊎_elim (λ less. absurd (contradiction less)) (λ more. more) (cases_lt (rank t) (rank s))
      where
        contradiction : rank t < rank s → ⊥
        contradiction less = some_decision ⊥ (is.shadow s st).lone.decisions some (laws.covers_all_nodes n s admits (is.nodes s st) (is.shadow s st).lone (is.shadow s st).run) (grounded opening arrival n s (is.shadow s st).run).decided (λ w covers known. both_ways (is_some ((is.shadow s st).lone.records t)) (ap is_some ((is.shadow s st).follows.better t st_t less)) (known t (covers t (is.nodes t st_t))))

    -- at rest the least starter's wave has nothing under way
    quiet : (s : ℕ) (st : e.started s ≡ true) → ((t : ℕ) → e.started t ≡ true → rank s ≤ rank t) → e.transit ≡ [] → (is.shadow s st).lone.transit ≡ []
    quiet s st least none = (is.shadow s st).flights ∙ picked_none (of s) alone is.gs (all_both (λ g. living g ≡ false) (Sound meet n rank own e) (λ g. of s g ≡ false) not_mine is.gs (none_picked living written is.gs (subst (Same (picked living written is.gs)) none is.transit)) is.sound)
      where
        not_mine : (g : Trace T) → living g ≡ false → Sound meet n rank own e g → of s g ≡ false
        not_mine g lost so = ⊎_elim (λ mine. let by = so.better (not-false g.lost lost) in absurd (omega (arith, least by.0 by.1, by.2, ap rank (eqb-true g.letter.starter s mine)))) (λ other. other) (cases_Bool (of s g))

    -- ---- the parts of the promise

    bounded : total e.sent 32 ≤ starters e * most n
    bounded = total_bounded e.sent e.started (most n) 32 (λ s st. omega (arith, (is.shadow s st).follows.sent, laws.within_bound n s admits (is.nodes s st) (is.shadow s st).lone (is.shadow s st).run)) is.unsent

    starters_nodes : starters e ≤ n.nodes
    starters_nodes = (passes_most e.started n.nodes 32 is.nodes).1

    verdict_least : AllByRecursion (λ w. (e.started w.named ≡ true) × ((t : ℕ) → e.started t ≡ true → rank w.named ≤ rank t) × (Some w.holding ≡ fold_of meet own)) e.verdicts
    verdict_least = each_least e.verdicts is.shown (λ s st. (is.shadow s st).follows.spoke)
      where
        each_least : (ws : List (Verdict T)) → AllByRecursion (λ w. (e.started w.named ≡ true) × (Some w.holding ≡ fold_of meet own)) ws → ((s : ℕ) (st : e.started s ≡ true) → AllByRecursion (λ w. w.named ≡ s → 0 < length (is.shadow s st).lone.decisions) ws) → AllByRecursion (λ w. (e.started w.named ≡ true) × ((t : ℕ) → e.started t ≡ true → rank w.named ≤ rank t) × (Some w.holding ≡ fold_of meet own)) ws
        each_least [] shown spoke = tt
        each_least (w ∷ ws) shown spoke = ((shown.0.0, decided_least w.named shown.0.0 ((spoke w.named shown.0.0).0 refl), shown.0.1), each_least ws shown.1 (λ s st. (spoke s st).1))

    rests : (s : ℕ) → e.started s ≡ true → e.transit ≡ [] → 0 < length e.verdicts
    rests s st none = ⊎_elim (λ nobody. absurd (both_ways (e.started s) (nobody s (omega (arith, n.few, is.nodes s st))) st)) at_least (least_of rank e.started 32)
      where
        at_least : Least rank e.started 32 → 0 < length e.verdicts
        at_least (a, st_a, lowest) = (is.shadow a st_a).follows.heard (laws.decides_at_rest n a admits (is.nodes a st_a) (is.shadow a st_a).lone (is.shadow a st_a).run (quiet a st_a (λ t st_t. lowest t (omega (arith, n.few, is.nodes t st_t)) st_t) none))

-- ---- with ranks from keys

module _ {K : Type 0} {precedes : K → K → Bool} (order : Order precedes) (keys : List K) where
  abbrev rank_in : ℕ → ℕ
  rank_in v = get_or (rank_table precedes keys) v 0

  ranking : Ranking precedes keys (rank_table precedes keys)
  ranking = table_ranks precedes order keys (rank_table precedes keys) refl

  rank_apart : Distinct keys → (a b : ℕ) → a < length keys → b < length keys → rank_in a ≡ rank_in b → a ≡ b
  rank_apart distinct a b a_in b_in same = ⊎_elim (λ lower. absurd (ranking.different distinct a b lower b_in same)) (λ no_lower. ⊎_elim (λ upper. absurd (ranking.different distinct b a upper a_in (sym same))) (λ no_upper. omega arith) (cases_lt b a)) (cases_lt a b)

  -- a key whose rank is not lower is not before
  not_before : (a b : ℕ) (d : K) → a < length keys → b < length keys → rank_in a ≤ rank_in b → precedes (get_or keys b d) (get_or keys a d) ≡ false
  not_before a b d a_in b_in le = sym (ranking.ordered b a d b_in a_in) ∙ le-ltb (rank_in b) (rank_in a) le

-- every election keeps the promise
pub promised : {K T : Type 0} {meet : T → T → T} → Semilattice meet → {precedes : K → K → Bool} → Order precedes → {admitted : Network → Bool} {most : Network → ℕ} {opening : Opening} {arrival : Arrival} → KeepsLaws admitted most opening arrival → Promise admitted most opening arrival precedes meet
promised {K} {T} {meet} semi {precedes} order {admitted} {most} {opening} {arrival} laws n keys own d admits keyed distinct each e elects =
    let is : Shadowed meet n (λ v. get_or (rank_table precedes keys) v 0) own opening arrival e = every semi laws n admits (λ v. get_or (rank_table precedes keys) v 0) (λ a b a_node b_node. rank_apart order keys distinct a b (omega (arith, keyed)) (omega (arith, keyed))) own each d elects in
    kept is (verdict_least laws n admits (λ v. get_or (rank_table precedes keys) v 0) own each e is)
  where
    kept : (is : Shadowed meet n (λ v. get_or (rank_table precedes keys) v 0) own opening arrival e) → AllByRecursion (λ w. (e.started w.named ≡ true) × ((t : ℕ) → e.started t ≡ true → get_or (rank_table precedes keys) w.named 0 ≤ get_or (rank_table precedes keys) t 0) × (Some w.holding ≡ fold_of meet own)) e.verdicts → Kept precedes keys n (most n) (fold_of meet own) e
    kept is right = record {
      counts = is.counts;
      bounded = bounded laws n admits (λ v. get_or (rank_table precedes keys) v 0) own each e is;
      room = omega (arith, is.counts, bounded laws n admits (λ v. get_or (rank_table precedes keys) v 0) own each e is, mul-le-mul_right (most n) (starters_nodes laws n admits (λ v. get_or (rank_table precedes keys) v 0) own each e is));
      verdicts = All-weaker (λ w. (e.started w.named ≡ true) × ((t : ℕ) → e.started t ≡ true → get_or (rank_table precedes keys) w.named 0 ≤ get_or (rank_table precedes keys) t 0) × (Some w.holding ≡ fold_of meet own)) (Right precedes keys (fold_of meet own) e) (λ w so. record { accepted = so.0; least = λ t k st. not_before order keys w.named t k (omega (arith, keyed, is.nodes w.named so.0)) (omega (arith, keyed, is.nodes t st)) (so.1 t st); shows = so.2 }) e.verdicts right;
      rest = rests laws n admits (λ v. get_or (rank_table precedes keys) v 0) own each e is;
    }
