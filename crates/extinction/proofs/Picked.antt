-- Lists, and what a test picks from them. Assumes nothing.
use Rattle.std.proofs.Common.{◌≡◌, ℕ, Bool, true, false, cond, List, [], ◌∷◌, ◌++◌, map, sym, refl, ap, ◌∙◌, ap₂, ⊎_elim, arith}
use Rattle.std.specs.List.{AllByRecursion}
use Rattle.std.proofs.lemmas.Bool.{cases_Bool}

module _ {X Y : Type 0} (p : X → Bool) (f : X → Y) where
  abbrev pub picked : List X → List Y
  picked [] = []
  picked (x ∷ xs) = cond (p x) (f x ∷ picked xs) (picked xs)

  pub picked_append : (xs ys : List X) → picked (xs ++ ys) ≡ picked xs ++ picked ys
  picked_append [] ys = refl
  picked_append (x ∷ xs) ys = let rest = picked_append xs ys in by (p x) rest
    where
      by : (b : Bool) → picked (xs ++ ys) ≡ picked xs ++ picked ys → cond b (f x ∷ picked (xs ++ ys)) (picked (xs ++ ys)) ≡ cond b (f x ∷ picked xs) (picked xs) ++ picked ys
      by true rest = ap (λ l. f x ∷ l) rest
      by false rest = rest

  pub picked_yes : (before later : List X) (x : X) → p x ≡ true → picked (before ++ (x ∷ later)) ≡ picked before ++ (f x ∷ picked later)
  picked_yes before later x taken = picked_append before (x ∷ later) ∙ ap (λ b. picked before ++ cond b (f x ∷ picked later) (picked later)) taken

  pub picked_no : (before later : List X) (x : X) → p x ≡ false → picked (before ++ (x ∷ later)) ≡ picked (before ++ later)
  picked_no before later x no' = picked_append before (x ∷ later) ∙ ap (λ b. picked before ++ cond b (f x ∷ picked later) (picked later)) no' ∙ sym (picked_append before later)

  -- one in the place of another
  pub picked_swap : (before later : List X) (x y : X) → p x ≡ p y → f x ≡ f y → picked (before ++ (x ∷ later)) ≡ picked (before ++ (y ∷ later))
  picked_swap before later x y test same = picked_append before (x ∷ later) ∙ ap₂ (λ b z. picked before ++ cond b (z ∷ picked later) (picked later)) test same ∙ sym (picked_append before (y ∷ later))

  pub none_picked : (xs : List X) → picked xs ≡ [] → AllByRecursion (λ x. p x ≡ false) xs
  none_picked [] none = tt
  none_picked (x ∷ xs) none = ⊎_elim (λ taken. absurd (some (sym (ap (λ b. cond b (f x ∷ picked xs) (picked xs)) taken) ∙ none))) (λ no'. (no', none_picked xs (sym (ap (λ b. cond b (f x ∷ picked xs) (picked xs)) no') ∙ none))) (cases_Bool (p x))
    where
      some : f x ∷ picked xs ≡ [] → ⊥
      some e = let z : ◌≡◌ {A = ℕ} 0 1 = cc in omega arith

  pub picked_none : (xs : List X) → AllByRecursion (λ x. p x ≡ false) xs → picked xs ≡ []
  picked_none [] none = refl
  picked_none (x ∷ xs) none = ap (λ b. cond b (f x ∷ picked xs) (picked xs)) none.0 ∙ picked_none xs none.1

  module _ {Z : Type 0} (g : Z → X) where
    pub picked_map : (zs : List Z) → ((z : Z) → p (g z) ≡ true) → picked (map g zs) ≡ map (λ z. f (g z)) zs
    picked_map [] taken = refl
    picked_map (z ∷ zs) taken = ap (λ b. cond b (f (g z) ∷ picked (map g zs)) (picked (map g zs))) (taken z) ∙ ap (λ l. f (g z) ∷ l) (picked_map zs taken)

    pub unpicked_map : (zs : List Z) → ((z : Z) → p (g z) ≡ false) → picked (map g zs) ≡ []
    unpicked_map [] no' = refl
    unpicked_map (z ∷ zs) no' = ap (λ b. cond b (f (g z) ∷ picked (map g zs)) (picked (map g zs))) (no' z) ∙ unpicked_map zs no'

  -- where one that was picked stands
  pub record Stands (xs : List X) (before later : List Y) (y : Y) : Type 0 where
    pub before_it : List X
    pub later_it : List X
    pub it : X
    pub whole : xs ≡ before_it ++ (it ∷ later_it)
    pub picks : p it ≡ true
    pub is : f it ≡ y
    pub picks_before : picked before_it ≡ before
    pub picks_later : picked later_it ≡ later

  pub find : (xs : List X) (before later : List Y) (y : Y) → picked xs ≡ before ++ (y ∷ later) → Stands xs before later y
  find [] [] later y e = let z : ◌≡◌ {A = ℕ} 0 1 = cc in absurd (omega arith)
  find [] (b ∷ before) later y e = let z : ◌≡◌ {A = ℕ} 0 1 = cc in absurd (omega arith)
  find (x ∷ xs) before later y e = ⊎_elim (λ taken. here before taken (sym (ap (λ b. cond b (f x ∷ picked xs) (picked xs)) taken) ∙ e) (λ rest. find xs rest later y)) (λ no'. on no' (find xs before later y (sym (ap (λ b. cond b (f x ∷ picked xs) (picked xs)) no') ∙ e))) (cases_Bool (p x))
    where
      on : p x ≡ false → Stands xs before later y → Stands (x ∷ xs) before later y
      on no' s = record {
        before_it = x ∷ s.before_it;
        later_it = s.later_it;
        it = s.it;
        whole = ap (λ l. x ∷ l) s.whole;
        picks = s.picks;
        is = s.is;
        picks_before = ap (λ b. cond b (f x ∷ picked s.before_it) (picked s.before_it)) no' ∙ s.picks_before;
        picks_later = s.picks_later;
      }

      here : (front : List Y) → p x ≡ true → f x ∷ picked xs ≡ front ++ (y ∷ later) → ((rest : List Y) → picked xs ≡ rest ++ (y ∷ later) → Stands xs rest later y) → Stands (x ∷ xs) front later y
      here [] taken e' rest = record { before_it = []; later_it = xs; it = x; whole = refl; picks = taken; is = cc; picks_before = refl; picks_later = cc }
      here (b ∷ front) taken e' rest =
          let s = rest front cc in
          let same : f x ≡ b = cc in
          record {
            before_it = x ∷ s.before_it;
            later_it = s.later_it;
            it = s.it;
            whole = ap (λ l. x ∷ l) s.whole;
            picks = s.picks;
            is = s.is;
            picks_before = ap (λ b'. cond b' (f x ∷ picked s.before_it) (picked s.before_it)) taken ∙ ap₂ ◌∷◌ same s.picks_before;
            picks_later = s.picks_later;
          }
