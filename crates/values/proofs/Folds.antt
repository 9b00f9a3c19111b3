-- The fold of holdings, for every infimum that keeps its three laws.
use Rattle.std.proofs.Common.{◌≡◌, ℕ, zero, suc, ◌<◌, Bool, true, false, cond, ◌||◌, eqb, List, [], ◌∷◌, ◌++◌, length, get_or, Some, None, fold, Option, sym, refl, ap, ◌∙◌, subst, arith}
use lib.Dec.{eqb-suc-suc, eqb-suc-zero, eqb-zero-suc}
use Rattle.std.specs.List.{ContainsAt}
use Rattle.values.specs.Folds.{Folding, SameElements, chosen, fold_of, fold_over, met}
use Rattle.values.specs.Semilattices.{Semilattice}

module _ {T : Type 0} where
  -- nodes that are the same choose the same
  pub chosen_same : (p q : ℕ → Bool) (own : List T) → ((i : ℕ) → i < length own → p i ≡ q i) → chosen p own ≡ chosen q own
  chosen_same p q [] same = refl
  chosen_same p q (x ∷ own) same =
      let rest = chosen_same (λ i. p (suc i)) (λ i. q (suc i)) own (λ i within. same (suc i) (omega arith)) in
      rw (same 0 (omega arith), rest)

  pub chosen_none : (p : ℕ → Bool) (own : List T) → ((i : ℕ) → p i ≡ false) → chosen p own ≡ []
  chosen_none p [] none = refl
  chosen_none p (x ∷ own) none = rw (none 0) (chosen_none (λ i. p (suc i)) own (λ i. none (suc i)))

  pub chosen_all : (p : ℕ → Bool) (own : List T) → ((i : ℕ) → i < length own → p i ≡ true) → chosen p own ≡ own
  chosen_all p [] all = refl
  chosen_all p (x ∷ own) all =
      let rest = chosen_all (λ i. p (suc i)) own (λ i within. all (suc i) (omega arith)) in
      rw (all 0 (omega arith), rest)

module _ {T : Type 0} {meet : T → T → T} (laws : Semilattice meet) where
  -- ---- the infimum of two folds keeps the laws, and a fold of no holdings changes nothing

  pub met_commutative : (a b : Option T) → met meet a b ≡ met meet b a
  met_commutative None None = refl
  met_commutative None (Some y) = refl
  met_commutative (Some x) None = refl
  met_commutative (Some x) (Some y) = ap Some (laws.commutative x y)

  pub met_associative : (a b c : Option T) → met meet (met meet a b) c ≡ met meet a (met meet b c)
  met_associative None b c = refl
  met_associative (Some x) None c = refl
  met_associative (Some x) (Some y) None = refl
  met_associative (Some x) (Some y) (Some z) = ap Some (laws.associative x y z)

  pub met_idempotent : (a : Option T) → met meet a a ≡ a
  met_idempotent None = refl
  met_idempotent (Some x) = ap Some (laws.idempotent x)

  -- a again changes nothing
  pub met_again : (a b : Option T) → met meet a (met meet a b) ≡ met meet a b
  met_again a b = sym (met_associative a a b) ∙ ap (λ x. met meet x b) (met_idempotent a)

  -- ---- the first holding, and the others

  folded_cons : (x y : T) (xs : List T) → fold meet (meet x y) xs ≡ meet x (fold meet y xs)
  folded_cons x y [] = refl
  folded_cons x y (z ∷ xs) = ap (λ w. fold meet w xs) (laws.associative x y z) ∙ folded_cons x (meet y z) xs

  pub fold_cons : (x : T) (xs : List T) → fold_of meet (x ∷ xs) ≡ met meet (Some x) (fold_of meet xs)
  fold_cons x [] = refl
  fold_cons x (y ∷ xs) = ap Some (folded_cons x y xs)

  pub fold_append : (xs ys : List T) → fold_of meet (xs ++ ys) ≡ met meet (fold_of meet xs) (fold_of meet ys)
  fold_append [] ys = refl
  fold_append (x ∷ xs) ys = fold_cons x (xs ++ ys) ∙ ap (met meet (Some x)) (fold_append xs ys) ∙ sym (met_associative (Some x) (fold_of meet xs) (fold_of meet ys)) ∙ ap (λ a. met meet a (fold_of meet ys)) (sym (fold_cons x xs))

  -- ---- another order, and repeated holdings

  -- a holding that is among the others adds nothing
  pub fold_has : (x : T) (xs : List T) → ContainsAt xs x → met meet (Some x) (fold_of meet xs) ≡ fold_of meet xs
  fold_has x [] (k, within, is) = absurd (omega arith)
  fold_has x (y ∷ xs) (zero, within, is) = ap (met meet (Some x)) (fold_cons y xs) ∙ ap (λ z. met meet (Some x) (met meet (Some z) (fold_of meet xs))) (is x) ∙ met_again (Some x) (fold_of meet xs) ∙ ap (λ z. met meet (Some z) (fold_of meet xs)) (sym (is x)) ∙ sym (fold_cons y xs)
  fold_has x (y ∷ xs) (suc k, within, is) =
      let later = fold_has x xs (k, omega arith, is) in
      ap (met meet (Some x)) (fold_cons y xs) ∙ sym (met_associative (Some x) (Some y) (fold_of meet xs)) ∙ ap (λ a. met meet a (fold_of meet xs)) (met_commutative (Some x) (Some y)) ∙ met_associative (Some y) (Some x) (fold_of meet xs) ∙ ap (met meet (Some y)) later ∙ sym (fold_cons y xs)

  -- holdings that are all among others add nothing to them
  pub fold_among : (xs ys : List T) → ((x : T) → ContainsAt xs x → ContainsAt ys x) → met meet (fold_of meet xs) (fold_of meet ys) ≡ fold_of meet ys
  fold_among [] ys among = refl
  fold_among (x ∷ xs) ys among =
      ap (λ a. met meet a (fold_of meet ys)) (fold_cons x xs) ∙ met_associative (Some x) (fold_of meet xs) (fold_of meet ys) ∙ ap (met meet (Some x)) (fold_among xs ys (λ z has. among z (suc has.0, omega (arith, has.1), has.2))) ∙ fold_has x ys (among x (0, omega arith, λ d. refl))

  -- the same elements have the same fold
  pub fold_same : (xs ys : List T) → SameElements xs ys → fold_of meet ys ≡ fold_of meet xs
  fold_same xs ys same = sym (fold_among xs ys same.0) ∙ met_commutative (fold_of meet xs) (fold_of meet ys) ∙ fold_among ys xs same.1

  -- ---- folds over nodes

  -- one node more, chosen or not
  one_more : (b : Bool) (x : T) (xs : List T) → fold_of meet (cond b (x ∷ xs) xs) ≡ met meet (cond b (Some x) None) (fold_of meet xs)
  one_more true x xs = fold_cons x xs
  one_more false x xs = refl

  met_swap : (a b c : Option T) → met meet a (met meet b c) ≡ met meet b (met meet a c)
  met_swap a b c = sym (met_associative a b c) ∙ ap (λ x. met meet x c) (met_commutative a b) ∙ met_associative b a c

  both_more : (b c : Bool) (x : T) (left right : Option T) → met meet (cond (b || c) (Some x) None) (met meet left right) ≡ met meet (met meet (cond b (Some x) None) left) (met meet (cond c (Some x) None) right)
  both_more true true x left right = sym (met_associative (Some x) left (met meet (Some x) right) ∙ ap (met meet (Some x)) (met_swap left (Some x) right) ∙ met_again (Some x) (met meet left right))
  both_more true false x left right = sym (met_associative (Some x) left right)
  both_more false true x left right = met_swap (Some x) left right
  both_more false false x left right = refl

  -- two sets of nodes, which may overlap
  pub fold_union : (p q : ℕ → Bool) (own : List T) → fold_over meet (λ i. p i || q i) own ≡ met meet (fold_over meet p own) (fold_over meet q own)
  fold_union p q [] = refl
  fold_union p q (x ∷ own) =
      let p' : ℕ → Bool = λ i. p (suc i) in
      let q' : ℕ → Bool = λ i. q (suc i) in
      one_more (p 0 || q 0) x (chosen (λ i. p' i || q' i) own) ∙ ap (met meet (cond (p 0 || q 0) (Some x) None)) (fold_union p' q' own) ∙ both_more (p 0) (q 0) x (fold_over meet p' own) (fold_over meet q' own) ∙ sym (ap (λ a. met meet a (fold_over meet q (x ∷ own))) (one_more (p 0) x (chosen p' own)) ∙ ap (met meet (met meet (cond (p 0) (Some x) None) (fold_over meet p' own))) (one_more (q 0) x (chosen q' own)))

  -- one node
  pub fold_one : (own : List T) (i : ℕ) (d : T) → i < length own → fold_over meet (λ k. eqb k i) own ≡ Some (get_or own i d)
  fold_one [] i d within = absurd (omega arith)
  fold_one (x ∷ own) zero d within = ap (fold_of meet) (ap (λ l. x ∷ l) (chosen_none (λ k. eqb (suc k) 0) own (λ k. eqb-suc-zero k)))
  fold_one (x ∷ own) (suc i) d within =
      let later = chosen (λ k. eqb (suc k) (suc i)) own in
      ap (fold_of meet) (ap (λ b. cond b (x ∷ later) later) (eqb-zero-suc i) ∙ chosen_same (λ k. eqb (suc k) (suc i)) (λ k. eqb k i) own (λ k _. eqb-suc-suc k i)) ∙ fold_one own i d (omega arith)

  -- ---- the fold of all

  folding : (own : List T) → Folding meet own (fold_of meet own)
  folding own = record {
    whole = λ p all. ap (fold_of meet) (chosen_all p own all);
    alone = fold_one own;
    joined = λ p q. fold_union p q own;
    reordered = fold_same own;
  }

  pub fold_laws : (own : List T) (all : Option T) → all ≡ fold_of meet own → Folding meet own all
  fold_laws own all is = subst (Folding meet own) (sym is) (folding own)
