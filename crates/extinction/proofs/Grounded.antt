-- What holds in every lone run, of any wave: who has a record, and who is in a cover. Assumes nothing.
use Rattle.std.proofs.Common.{◌≡◌, ℕ, Bool, true, false, cond, eqb, List, [], ◌∷◌, ◌++◌, is_some, Some, None, Option, sym, refl, ap, ◌∙◌, subst, ⊎_elim}
use Rattle.std.specs.List.{AllByRecursion}
use Rattle.std.proofs.ByRecursion.{All-append, All-weaker}
use Rattle.std.proofs.lemmas.Bool.{both_ways, cases_eq, eq-eqb, eqb-true, or_cases, or_left}
use Rattle.network.specs.declared.network.Network.{Network}
use Rattle.wave.specs.Lone.{Arrival, Cover, Lone, Message, Opening, Run, delivers, gained, messages, nothing_yet, opens, step_at, stepped}
use Rattle.wave.specs.declared.step.Record.{Record}
use Rattle.wave.specs.declared.step.Step.{Step}
use Rattle.rules.proofs.Nodes.{all_middle, at_here, at_other, messages_all}

-- the nodes of a cover have a record
abbrev pub KnownIn : (ℕ → Option Record) → Cover → Type 0
KnownIn records cover = (i : ℕ) → cover i ≡ true → is_some (records i) ≡ true

pub record Grounded (l : Lone) : Type 0 where
  pub own : (v : ℕ) → is_some (l.records v) ≡ true → l.covers v v ≡ true
  pub empty : (v : ℕ) → l.records v ≡ None → (i : ℕ) → l.covers v i ≡ false
  pub known : (v : ℕ) → KnownIn l.records (l.covers v)
  pub carried : AllByRecursion (λ m. KnownIn l.records m.cover) l.transit
  pub decided : AllByRecursion (λ d. KnownIn l.records d.cover) l.decisions

-- a node takes a step with a cover that has itself and nodes with a record
module _ (l : Lone) (is : Grounded l) (left : List Message) (node : ℕ) (cover : Cover) (step : Step)
    (still : AllByRecursion (λ m. KnownIn l.records m.cover) left)
    (itself : cover node ≡ true)
    (before_it : (i : ℕ) → cover i ≡ true → (i ≡ node → ⊥) → is_some (l.records i) ≡ true) where
  records_next : ℕ → Option Record
  records_next = (stepped l left node cover step).records

  more : (i : ℕ) → is_some (l.records i) ≡ true → is_some (records_next i) ≡ true
  unfolding records_next
  more i e = ⊎_elim (λ here. ap is_some (at_here l.records node (Some step.kept) i here)) (λ other. ap is_some (at_other l.records node (Some step.kept) i other) ∙ e) (cases_eq i node)

  cover_known : KnownIn records_next cover
  unfolding records_next
  cover_known i e = ⊎_elim (λ here. ap is_some (at_here l.records node (Some step.kept) i here)) (λ other. more i (before_it i e other)) (cases_eq i node)

  pub next_grounded : Grounded (stepped l left node cover step)
  unfolding records_next
  next_grounded = record {
    own = λ v e. ⊎_elim (λ here. ap (λ f. f v) (at_here l.covers node cover v here) ∙ ap cover here ∙ itself) (λ other. ap (λ f. f v) (at_other l.covers node cover v other) ∙ is.own v (ap is_some (sym (at_other l.records node (Some step.kept) v other)) ∙ e)) (cases_eq v node);
    empty = λ v e i. ⊎_elim (λ here. absurd (both_ways (is_some (records_next v)) (ap is_some e) (ap is_some (at_here l.records node (Some step.kept) v here)))) (λ other. ap (λ f. f i) (at_other l.covers node cover v other) ∙ is.empty v (sym (at_other l.records node (Some step.kept) v other) ∙ e) i) (cases_eq v node);
    known = λ v i e. ⊎_elim (λ here. cover_known i (sym (ap (λ f. f i) (at_here l.covers node cover v here)) ∙ e)) (λ other. more i (is.known v i (sym (ap (λ f. f i) (at_other l.covers node cover v other)) ∙ e))) (cases_eq v node);
    carried = All-append (λ m. KnownIn records_next m.cover) left (messages node step cover) (All-weaker (λ m. KnownIn l.records m.cover) (λ m. KnownIn records_next m.cover) (λ m k i e. more i (k i e)) left still) (messages_all (λ m. KnownIn records_next m.cover) node step cover (λ kind receiver. cover_known));
    decided = decides step.decides;
  }
    where
      decides : (b : Bool) → AllByRecursion (λ d. KnownIn records_next d.cover) (cond b (record { node = node; cover = cover } ∷ l.decisions) l.decisions)
      decides true = (cover_known, All-weaker (λ d. KnownIn l.records d.cover) (λ d. KnownIn records_next d.cover) (λ d k i e. more i (k i e)) l.decisions is.decided)
      decides false = All-weaker (λ d. KnownIn l.records d.cover) (λ d. KnownIn records_next d.cover) (λ d k i e. more i (k i e)) l.decisions is.decided

module _ (opening : Opening) (arrival : Arrival) (n : Network) (s : ℕ) where
  nothing_grounded : Grounded nothing_yet
  nothing_grounded = record {
    own = λ v e. absurd (both_ways true (sym e) refl);
    empty = λ v e i. refl;
    known = λ v i e. absurd (both_ways true (sym e) refl);
    carried = tt;
    decided = tt;
  }

  pub grounded : {l : Lone} → Run opening arrival n s l → Grounded l
  grounded opens = next_grounded nothing_yet nothing_grounded [] s (λ i. eqb i s) (opening n s) tt (eq-eqb s s refl) (λ i e other. absurd (other (eqb-true i s e)))
  grounded (delivers {l} run before later m split) =
      let is = grounded run in
      let parts = all_middle (λ k. KnownIn l.records k.cover) before later m (subst (AllByRecursion (λ k. KnownIn l.records k.cover)) split is.carried) in
      next_grounded l is (before ++ later) m.receiver (gained l m) (step_at arrival n l m) parts.1 (or_left _ _ (eq-eqb m.receiver m.receiver refl)) (λ i e other. ⊎_elim (λ here. absurd (other (eqb-true i m.receiver here))) (λ rest. ⊎_elim (is.known m.receiver i) (parts.0 i) (or_cases _ _ rest)) (or_cases _ _ e))
