-- Lists with the same elements, each as often. Assumes nothing.
use Rattle.std.proofs.Common.{◌≡◌, ℕ, zero, suc, ◌<◌, ◌⊎◌, List, [], ◌∷◌, ◌++◌, length, get_or, set, sym, refl, ap, ◌∙◌, subst, ap₂, inl, inr, ⊎_elim, arith, length-append}
use Rattle.std.specs.List.Sorted.{IsPermutation}
use Rattle.std.specs.List.{swap}
use Rattle.std.proofs.lemmas.List.{append_assoc}
use Rattle.std.proofs.lemmas.List.Sorted.{IsPermutation-keeps}

module _ {X : Type 0} where
  -- taking the elements of ys out of xs, one by one, leaves nothing
  abbrev pub Same : List X → List X → Type 0
  Same xs [] = xs ≡ []
  Same xs (y ∷ ys) = (before : List X) × (later : List X) × (xs ≡ before ++ (y ∷ later)) × Same (before ++ later) ys

  pub same_refl : (xs : List X) → Same xs xs
  same_refl [] = refl
  same_refl (x ∷ xs) = ([], xs, refl, same_refl xs)

  pub same_length : (ys xs : List X) → Same xs ys → length xs ≡ length ys
  same_length [] xs none = ap length none
  same_length (y ∷ ys) xs (before, later, is, rest) = omega (arith, ap length is, length-append before (y ∷ later), length-append before later, same_length ys (before ++ later) rest)

  pub same_append : (ys xs zs : List X) → Same xs ys → Same (xs ++ zs) (ys ++ zs)
  same_append [] xs zs none = subst (λ l. Same (l ++ zs) zs) (sym none) (same_refl zs)
  same_append (y ∷ ys) xs zs (before, later, is, rest) = (before, later ++ zs, ap (λ l. l ++ zs) is ∙ append_assoc before (y ∷ later) zs, subst (λ l. Same l (ys ++ zs)) (append_assoc before later zs) (same_append ys (before ++ later) zs rest))

  -- where an element of two lists stands
  where_in : (c d a b : List X) (y : X) → c ++ d ≡ a ++ (y ∷ b) → ((k : List X) × (c ≡ a ++ (y ∷ k)) × (b ≡ k ++ d)) ⊎ ((k : List X) × (d ≡ k ++ (y ∷ b)) × (a ≡ c ++ k))
  where_in [] d a b y e = inr (a, e, refl)
  where_in (x ∷ c) d [] b y e = inl (c, cc, cc)
  where_in (x ∷ c) d (z ∷ a) b y e =
      let same : x ≡ z = cc in
      ⊎_elim (λ w. inl (w.0, ap₂ ◌∷◌ same w.1, w.2)) (λ w. inr (w.0, w.1, ap₂ ◌∷◌ (sym same) w.2)) (where_in c d a b y cc)

  -- an element taken out from the middle
  same_without : (before later : List X) (y : X) (xs : List X) → Same xs (before ++ (y ∷ later)) → (a : List X) × (b : List X) × (xs ≡ a ++ (y ∷ b)) × Same (a ++ b) (before ++ later)
  same_without [] later y xs so = so
  same_without (x ∷ before) later y xs (c, d, is, rest) =
      let found = same_without before later y (c ++ d) rest in
      go found.0 found.1 found.3 (where_in c d found.0 found.1 y found.2)
    where
      go : (a b : List X) → Same (a ++ b) (before ++ later) → ((k : List X) × (c ≡ a ++ (y ∷ k)) × (b ≡ k ++ d)) ⊎ ((k : List X) × (d ≡ k ++ (y ∷ b)) × (a ≡ c ++ k)) → (a' : List X) × (b' : List X) × (xs ≡ a' ++ (y ∷ b')) × Same (a' ++ b') (x ∷ (before ++ later))
      go a b so (inl (k, is_c, is_b)) = (a, k ++ (x ∷ d), is ∙ ap (λ l. l ++ (x ∷ d)) is_c ∙ append_assoc a (y ∷ k) (x ∷ d), (a ++ k, d, sym (append_assoc a k (x ∷ d)), subst (λ l. Same l (before ++ later)) (ap (λ l. a ++ l) is_b ∙ sym (append_assoc a k d)) so))
      go a b so (inr (k, is_d, is_a)) = (c ++ (x ∷ k), b, is ∙ ap (λ l. c ++ (x ∷ l)) is_d ∙ sym (append_assoc c (x ∷ k) (y ∷ b)), (c, k ++ b, append_assoc c (x ∷ k) b, subst (λ l. Same l (before ++ later)) (ap (λ l. l ++ b) is_a ∙ append_assoc c k b) so))

  pub same_trans : (zs ys xs : List X) → Same xs ys → Same ys zs → Same xs zs
  same_trans [] ys xs so none = subst (Same xs) none so
  same_trans (z ∷ zs) ys xs so (before, later, is, rest) =
      let found = same_without before later z xs (subst (Same xs) is so) in
      (found.0, found.1, found.2, same_trans zs (before ++ later) (found.0 ++ found.1) found.3 rest)

  -- ---- exchanges

  -- x for the element at a place
  replaced : (xs : List X) (j : ℕ) (x d : X) → j < length xs → Same (x ∷ xs) (get_or xs j d ∷ set xs j x)
  replaced [] j x d within = absurd (omega arith)
  replaced (z ∷ xs) zero x d within = (x ∷ [], xs, refl, same_refl (x ∷ xs))
  replaced (z ∷ xs) (suc j) x d within =
      let y = get_or xs j d in
      let rest = set xs j x in
      same_trans (y ∷ z ∷ rest) (z ∷ y ∷ rest) (x ∷ z ∷ xs) (same_trans (z ∷ y ∷ rest) (z ∷ x ∷ xs) (x ∷ z ∷ xs) (x ∷ [], xs, refl, same_refl (x ∷ xs)) ([], x ∷ xs, refl, replaced xs j x d (omega arith))) (z ∷ [], rest, refl, same_refl (z ∷ rest))

  swapped : (xs : List X) (i j : ℕ) (d : X) → i < length xs → j < length xs → Same xs (set (set xs i (get_or xs j d)) j (get_or xs i d))
  swapped [] i j d in_i in_j = absurd (omega arith)
  swapped (x ∷ xs) zero zero d in_i in_j = same_refl (x ∷ xs)
  swapped (x ∷ xs) zero (suc j) d in_i in_j = replaced xs j x d (omega arith)
  swapped (x ∷ xs) (suc i) zero d in_i in_j = replaced xs i x d (omega arith)
  swapped (x ∷ xs) (suc i) (suc j) d in_i in_j = ([], _, refl, swapped xs i j d (omega arith) (omega arith))

  exchanged_same : (l : List X) (i j : ℕ) → i < length l → j < length l → Same l (swap l i j)
  exchanged_same [] i j in_i in_j = absurd (omega arith)
  exchanged_same (x ∷ l) i j in_i in_j = swapped (x ∷ l) i j x in_i in_j

  pub shuffled_same : (xs ys : List X) → IsPermutation xs ys → Same xs ys
  shuffled_same xs ys = IsPermutation-keeps xs (Same xs) (same_refl xs) (λ l i j in_i in_j was. same_trans (swap l i j) l xs was (exchanged_same l i j in_i in_j)) ys
