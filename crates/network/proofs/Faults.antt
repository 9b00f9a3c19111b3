-- Lists of links and their faults. Assumes nothing.
use Rattle.std.proofs.Common.{◌≡◌, ℕ, zero, suc, ◌+◌, ◌<◌, Bool, true, false, cond, ◌&&◌, ◌||◌, eqb, ltb, List, [], ◌∷◌, ◌++◌, length, take, drop, Some, None, Option, sym, refl, ap, ◌∙◌, subst, arith}
use Rattle.std.proofs.lemmas.List.{append_assoc, append-nil, drop_more, take_more}
use Rattle.std.proofs.lemmas.Bool.{lt-ltb, ltb-true, or_parts}
use Rattle.std.proofs.lemmas.Bool.Decides.{nat_tests}
use Rattle.base.specs.declared.refusal.Refusal.{Refusal}
use Rattle.base.specs.declared.refusal.Refusal.TheVariants.{EndsOutOfOrder, LinkRepeated}
use Rattle.base.proofs.Small.{or_false, or_regroup, or_swap}
use Rattle.network.specs.Links.{fault, first_fault, fits, joins, link_at, linked, no_link, or_else}
use Rattle.network.specs.Paths.{Inside, Loopless, Symmetric}
use Rattle.network.specs.declared.link.Link.{Link}

-- ---- what links join

pub linked_symmetric : (links : List Link) → Symmetric (linked links)
linked_symmetric [] a b = refl
linked_symmetric (l ∷ links) a b =
    ap (λ v. v || linked links a b) (or_swap (eqb l.first a && eqb l.second b) (eqb l.first b && eqb l.second a)) ∙ ap (λ v. joins l b a || v) (linked_symmetric links a b)

pub linked_push : (links : List Link) (l : Link) (a b : ℕ) → linked (links ++ (l ∷ [])) a b ≡ (linked links a b || joins l a b)
linked_push [] l a b = or_false (joins l a b)
linked_push (m ∷ links) l a b = ap (λ v. joins m a b || v) (linked_push links l a b) ∙ or_regroup (joins m a b) (linked links a b) (joins l a b)

pub linked_none : (links : List Link) (a b : ℕ) → ((j : ℕ) → j < length links → joins (link_at links j) a b ≡ false) → linked links a b ≡ false
linked_none [] a b none = refl
linked_none (l ∷ links) a b none =
    let first : joins l a b ≡ false = none 0 (omega arith) in
    rw first (linked_none links a b (λ j within. none (suc j) (omega arith)))

pub none_linked : (links : List Link) (a b : ℕ) → linked links a b ≡ false → (j : ℕ) → j < length links → joins (link_at links j) a b ≡ false
none_linked [] a b none j within = absurd (omega arith)
none_linked (l ∷ links) a b none zero within = (or_parts (joins l a b) (linked links a b) none).0
none_linked (l ∷ links) a b none (suc j) within = none_linked links a b (or_parts (joins l a b) (linked links a b) none).1 j (omega arith)

-- ---- the fault of one link

-- a link without a fault
pub record Sound (nodes : ℕ) (joined : ℕ → ℕ → Bool) (l : Link) : Type 0 where
  pub lower : l.first < l.second
  pub inside : l.second < nodes
  pub fresh : joined l.first l.second ≡ false

some_none : (why : Refusal) → Some why ≡ None → ⊥
some_none why e = let z : ◌≡◌ {A = ℕ} 0 1 = cc in omega arith

no_test_fails : (x y z : Bool) → cond (x && y) (cond z (Some LinkRepeated) None) (Some EndsOutOfOrder) ≡ None → (x ≡ true) × (y ≡ true) × (z ≡ false)
no_test_fails true true true none = absurd (some_none LinkRepeated none)
no_test_fails true true false none = (refl, refl, refl)
no_test_fails true false z none = absurd (some_none EndsOutOfOrder none)
no_test_fails false y z none = absurd (some_none EndsOutOfOrder none)

pub sound_from : (nodes : ℕ) (joined : ℕ → ℕ → Bool) (l : Link) → fault nodes joined l ≡ None → Sound nodes joined l
sound_from nodes joined l none =
    let tests = no_test_fails (ltb l.first l.second) (ltb l.second nodes) (joined l.first l.second) none in
    record { lower = ltb-true l.first l.second tests.0; inside = ltb-true l.second nodes tests.1; fresh = tests.2 }

pub sound_to : (nodes : ℕ) (joined : ℕ → ℕ → Bool) (l : Link) → Sound nodes joined l → fault nodes joined l ≡ None
sound_to nodes joined l sound =
    let lower = lt-ltb l.first l.second sound.lower in
    let inside = lt-ltb l.second nodes sound.inside in
    let fresh = sound.fresh in
    rw (lower, inside, fresh) refl

pub fault_same : (nodes : ℕ) (joined other : ℕ → ℕ → Bool) (l : Link) → joined l.first l.second ≡ other l.first l.second → fault nodes joined l ≡ fault nodes other l
fault_same nodes joined other l same = ap (λ v. cond (fits nodes l) (cond v (Some LinkRepeated) None) (Some EndsOutOfOrder)) same

-- ---- the first fault

or_else_none : (x y : Option Refusal) → or_else x y ≡ None → (x ≡ None) × (y ≡ None)
or_else_none (Some why) y none = absurd (some_none why none)
or_else_none None y none = (refl, none)

pub no_fault_at : (nodes : ℕ) (before links : List Link) → first_fault nodes before links ≡ None → (k : ℕ) → k < length links → Sound nodes (linked (before ++ take k links)) (link_at links k)
no_fault_at nodes before [] none k within = absurd (omega arith)
no_fault_at nodes before (l ∷ links) none zero within =
    let first = sound_from nodes (linked before) l (or_else_none (fault nodes (linked before) l) (first_fault nodes (before ++ (l ∷ [])) links) none).0 in
    subst (λ ls. Sound nodes (linked ls) l) (sym (append-nil before)) first
no_fault_at nodes before (l ∷ links) none (suc k) within =
    let rest = no_fault_at nodes (before ++ (l ∷ [])) links (or_else_none (fault nodes (linked before) l) (first_fault nodes (before ++ (l ∷ [])) links) none).1 k (omega arith) in
    subst (λ ls. Sound nodes (linked ls) (link_at links k)) (append_assoc before (l ∷ []) (take k links)) rest

pub no_fault : (nodes : ℕ) (before links : List Link) → ((k : ℕ) → k < length links → Sound nodes (linked (before ++ take k links)) (link_at links k)) → first_fault nodes before links ≡ None
no_fault nodes before [] sound = refl
no_fault nodes before (l ∷ links) sound =
    let first = sound_to nodes (linked before) l (subst (λ ls. Sound nodes (linked ls) l) (append-nil before) (sound 0 (omega arith))) in
    let rest = no_fault nodes (before ++ (l ∷ [])) links (λ k within. subst (λ ls. Sound nodes (linked ls) (link_at links k)) (sym (append_assoc before (l ∷ []) (take k links))) (sound (suc k) (omega arith))) in
    rw (first, rest) refl

-- ---- one link further

pub fault_none : (nodes : ℕ) (links : List Link) (i : ℕ) → i < length links → fault nodes (linked (take i links)) (link_at links i) ≡ None → first_fault nodes (take i links) (drop i links) ≡ first_fault nodes (take (i + 1) links) (drop (i + 1) links)
fault_none nodes links i within none =
    ap (first_fault nodes (take i links)) (drop_more links i no_link within) ∙ ap (λ x. or_else x (first_fault nodes (take i links ++ (link_at links i ∷ [])) (drop (i + 1) links))) none ∙ ap (λ x. first_fault nodes x (drop (i + 1) links)) (sym (take_more links i no_link within))

-- ---- links without a fault

module _ (nodes : ℕ) (links : List Link) (lower : (k : ℕ) → k < length links → (link_at links k).first < (link_at links k).second) where
  pub linked_loopless : Loopless (linked links)
  linked_loopless a = linked_none links a a (λ j within. let less = lower j within in grind (arith, nat_tests))

  pub linked_inside : ((k : ℕ) → k < length links → (link_at links k).second < nodes) → Inside nodes (linked links)
  linked_inside inside a b past = linked_none links a b (λ j within. let less = lower j within in let node = inside j within in grind (arith, nat_tests))
