-- A bag by its elements. Assumes nothing.
use Rattle.std.specs.Prelude.{◌≡◌, ℕ, ◌-◌, ◌<◌, ◌≤◌, min, List, length, take, drop, Ok, Err, Result, slice_index_or}
use Rattle.std.specs.List.{swap}
use Rattle.base.specs.declared.bag.Bag.{Bag}
use Rattle.base.specs.declared.refusal.Refusal.{Refusal}
use Rattle.base.specs.declared.refusal.Refusal.TheVariants.{NoFreePlace, NoSuchPlace}

-- The elements once the one at `place` is taken out: the last one takes the freed place.
-- This is the one text that says how a bag closes up.
unfoldable pub taken : {T : Type 0} → List T → ℕ → List T
taken elements place = take (length elements - 1) (swap elements place (length elements - 1))

module _ {T : Type 0} where
  -- the elements, in the order of their places
  abbrev pub held : Bag T → List T
  held b = take b.count b.places.now

  -- how many places the bag may use
  abbrev pub room : Bag T → ℕ
  room b = min (length b.places.now) 40000000

  -- the element at a place, or the refusal
  abbrev pub Found : Bag T → ℕ → Result T Refusal → Type 0
  Found b place (Ok x) = (place < b.count) × (x ≡ slice_index_or b.places.now place x)
  Found b place (Err why) = (b.count ≤ place) × (why ≡ NoSuchPlace)

  -- whether one more element finds a place, or the refusal
  abbrev pub Fits : Bag T → Result (Unit {0}) Refusal → Type 0
  Fits b (Ok _) = b.count < room b
  Fits b (Err why) = (room b ≤ b.count) × (why ≡ NoFreePlace)

  -- a bag after a call: what it holds now; the places past that, and whose they are, are as before
  pub record Left (before after : Bag T) (elements : List T) : Type 0 where
    pub count : after.count ≡ length elements
    pub holds : held after ≡ elements
    pub past : drop after.count after.places.now ≡ drop after.count before.places.now
    pub places : length after.places.now ≡ length before.places.now
    pub lender : after.places.ghost_name ≡ before.places.ghost_name
