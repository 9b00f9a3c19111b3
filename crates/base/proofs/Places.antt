-- The places of a bag, and what taking an element leaves. Assumes nothing.
use Rattle.std.proofs.Common.{◌≡◌, ℕ, ◌+◌, ◌-◌, ◌<◌, ◌≤◌, List, [], ◌∷◌, ◌++◌, length, get_or, take, drop, set, Ok, Err, Result, sym, refl, ap, ◌∙◌, subst, ⊎_elim, arith, length-append, MatchResult}
use Rattle.std.proofs.Math.Seq.{take-set-lt}
use Rattle.std.specs.List.{swap}
use Rattle.std.specs.List.Sorted.{IsPermutation}
use Rattle.std.proofs.lemmas.List.{append_assoc, drop-drop, drop-set-lt, get_or-set_same, get_or-take, length-set, length-take-le, set-get_or, take_all, take_more, take-set, take-take}
use Rattle.std.proofs.lemmas.List.Edits.{swap_is, length-swap}
use Rattle.std.proofs.lemmas.List.Sorted.{IsPermutation-swap, IsPermutation-to_front, IsPermutation-trans}
use Rattle.std.proofs.lemmas.Bool.{cases_eq}
use Rattle.base.specs.Bags.{Fits, Left, held, room, taken}
use Rattle.base.specs.declared.bag.Bag.{Bag}
use Rattle.base.specs.declared.refusal.Refusal.{Refusal}

module _ {T : Type 0} where
  -- ---- what closes up after a removal

  pub length_taken : (xs : List T) (i : ℕ) → length (taken xs i) ≡ length xs - 1
  unfolding taken
  length_taken xs i = length-take-le (length xs - 1) (swap xs i (length xs - 1)) (rw length-swap (omega arith))

  -- the element taken, before the others, makes up what there was
  pub taken_others : (xs : List T) (i : ℕ) (x : T) → i < length xs → x ≡ get_or xs i x → IsPermutation xs (x ∷ taken xs i)
  unfolding taken
  taken_others xs i x within is =
      let last = length xs - 1 in
      let ex = swap xs i last in
      let written : set (set xs i (get_or xs last x)) last (get_or xs i x) ≡ ex = swap_is xs i last x within (omega arith) in
      let at_last : get_or ex last x ≡ x = ap (λ l. get_or l last x) (sym written) ∙ get_or-set_same (set xs i (get_or xs last x)) last (get_or xs i x) x (rw length-set (omega arith)) ∙ sym is in
      let long : length ex ≡ length xs = length-swap xs i last in
      let split : ex ≡ take last ex ++ (x ∷ []) = sym (take_all (last + 1) ex (omega arith)) ∙ take_more ex last x (omega arith) ∙ ap (λ y. take last ex ++ (y ∷ [])) at_last in
      let swapped : IsPermutation xs ex = IsPermutation-swap xs ex i last within (omega arith) refl in
      IsPermutation-trans xs (take last ex ++ (x ∷ [])) (x ∷ take last ex) (subst (IsPermutation xs) split swapped) (IsPermutation-to_front (take last ex) x)

  -- a write of the last element over the one at `i` leaves what `taken` says, and the places past it
  pub take_written : (ps : List T) (n i : ℕ) (d : T) → n ≤ length ps → i < n → take (n - 1) (set ps i (get_or ps (n - 1) d)) ≡ taken (take n ps) i
  unfolding taken
  take_written ps n i d fits within =
      let long : length (take n ps) ≡ n = length-take-le n ps fits in
      let last = n - 1 in
      let v = get_or ps last d in
      let same : get_or (take n ps) last d ≡ v = get_or-take n ps last d (omega arith) in
      let written : set (set (take n ps) i (get_or (take n ps) last d)) last (get_or (take n ps) i d) ≡ swap (take n ps) i last = swap_is (take n ps) i last d (omega arith) (omega arith) in
      let fronts : take last (swap (take n ps) i last) ≡ take last (set ps i v) =
      ap (take last) (sym written) ∙ take-set (set (take n ps) i (get_or (take n ps) last d)) last (get_or (take n ps) i d) ∙ ap (λ y. take last (set (take n ps) i y)) same ∙ ap (take last) (sym (take-set-lt n ps i v within)) ∙ take-take last n (set ps i v) (omega arith) in
      sym (ap (λ k. take (k - 1) (swap (take n ps) i (k - 1))) long ∙ fronts)

  pub drop_written : (ps : List T) (n i : ℕ) (d : T) → n ≤ length ps → i < n → drop (n - 1) (set ps i (get_or ps (n - 1) d)) ≡ drop (n - 1) ps
  drop_written ps n i d fits within = ⊎_elim last before (cases_eq i (n - 1))
    where
      last : i ≡ n - 1 → drop (n - 1) (set ps i (get_or ps (n - 1) d)) ≡ drop (n - 1) ps
      last e = ap (λ k. drop (n - 1) (set ps k (get_or ps (n - 1) d))) e ∙ ap (drop (n - 1)) (set-get_or ps (n - 1) d)

      before : (i ≡ n - 1 → ⊥) → drop (n - 1) (set ps i (get_or ps (n - 1) d)) ≡ drop (n - 1) ps
      before other = drop-set-lt (n - 1) ps i (get_or ps (n - 1) d) (omega arith)

  -- ---- a bag

  pub fits_room : (b : Bag T) → b.count ≤ length b.places.now
  fits_room b = omega (arith, b.within)

  pub length_held : (b : Bag T) → length (held b) ≡ b.count
  length_held b = length-take-le b.count b.places.now (fits_room b)

  pub left_same : (b : Bag T) → Left b b (held b)
  left_same b = record { count = sym (length_held b); holds = refl; past = refl; places = refl; lender = refl }

  -- two calls, the second of which leaves no fewer elements
  pub left_more : (a b c : Bag T) (xs ys : List T) → Left a b xs → Left b c ys → b.count ≤ c.count → Left a c ys
  left_more a b c xs ys first second more =
      let n = c.count - b.count in
      let on : b.count + n ≡ c.count = omega arith in
      let later : (ps qs : List T) → drop b.count ps ≡ drop b.count qs → drop c.count ps ≡ drop c.count qs =
      λ ps qs same. ap (λ k. drop k ps) (sym on) ∙ sym (drop-drop n b.count ps) ∙ ap (drop n) same ∙ drop-drop n b.count qs ∙ ap (λ k. drop k qs) on in
      record {
        count = second.count;
        holds = second.holds;
        past = second.past ∙ later b.places.now a.places.now first.past;
        places = second.places ∙ first.places;
        lender = second.lender ∙ first.lender;
      }

  -- a put where a place is free
  pub put_into : (a b : Bag T) (r : Result (Unit {0}) Refusal) (x : T) → Fits a r → MatchResult r (λ _. Left a b (held a ++ (x ∷ []))) (λ _. b ≡ a) → a.count < room a → Left a b (held a ++ (x ∷ []))
  put_into a b (Ok _) x fits left free = left
  put_into a b (Err why) x refused left free = absurd (omega (arith, refused.0))

  -- ---- some elements after others

  module _ (start b : Bag T) (done : List T) (so_far : Left start b (held start ++ done)) where
    pub put_on : (after : Bag T) (xs : List T) → Left b after (held b ++ xs) → Left start after (held start ++ (done ++ xs))
    put_on after xs put =
        let on : Left start after (held b ++ xs) = left_more start b after (held start ++ done) (held b ++ xs) so_far put (omega (arith, put.count, length_held b, length-append (held b) xs)) in
        subst (Left start after) (ap (λ l. l ++ xs) so_far.holds ∙ append_assoc (held start) done xs) on

    pub room_left : {A : Type 0} (all before later : List A) (x : A) → length before ≡ length done → all ≡ before ++ (x ∷ later) → start.count + length all ≤ room start → b.count < room b
    room_left all before later x as_long split fits =
        let long : length all ≡ length before + (length later + 1) = ap length split ∙ length-append before (x ∷ later) ∙ omega arith in
        omega (arith, so_far.count, so_far.places, length-append (held start) done, length_held start)
