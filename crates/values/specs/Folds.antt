-- The fold of holdings, over any nodes. Assumes nothing.
use Rattle.std.specs.Prelude.{◌≡◌, ℕ, suc, ◌<◌, Bool, true, if◌then◌else◌, ◌||◌, List, [], ◌∷◌, length, Some, None, fold, Option, nat_eq, slice_index_or}
use Rattle.std.specs.List.{ContainsAt}

module _ {T : Type 0} where
  -- the infimum of all, from left to right; none of no holdings
  abbrev pub fold_of : (T → T → T) → List T → Option T
  fold_of meet [] = None
  fold_of meet (x ∷ xs) = Some (fold meet x xs)

  -- the holdings of the chosen nodes, in node order
  abbrev pub chosen : (ℕ → Bool) → List T → List T
  chosen p [] = []
  chosen p (x ∷ xs) = if p 0 then x ∷ chosen (λ i. p (suc i)) xs else chosen (λ i. p (suc i)) xs

  -- the fold over the chosen nodes
  abbrev pub fold_over : (T → T → T) → (ℕ → Bool) → List T → Option T
  fold_over meet p own = fold_of meet (chosen p own)

  -- the infimum of two folds, either of which may be of no nodes
  abbrev pub met : (T → T → T) → Option T → Option T → Option T
  met meet None b = b
  met meet (Some x) None = Some x
  met meet (Some x) (Some y) = Some (meet x y)

  -- each element of the one is in the other: another order, or elements repeated
  abbrev pub SameElements : List T → List T → Type 0
  SameElements xs ys = ((x : T) → ContainsAt xs x → ContainsAt ys x) × ((x : T) → ContainsAt ys x → ContainsAt xs x)

  -- what the fold of all nodes' holdings has to do with the folds over some of the nodes, and over other lists
  pub record Folding (meet : T → T → T) (own : List T) (all : Option T) : Type 0 where
    pub whole : (p : ℕ → Bool) → ((i : ℕ) → i < length own → p i ≡ true) → fold_over meet p own ≡ all
    pub alone : (i : ℕ) (d : T) → i < length own → fold_over meet (λ k. nat_eq k i) own ≡ Some (slice_index_or own i d)
    pub joined : (p q : ℕ → Bool) → fold_over meet (λ i. p i || q i) own ≡ met meet (fold_over meet p own) (fold_over meet q own)
    pub reordered : (others : List T) → SameElements own others → fold_of meet others ≡ all
