-- What "before" has to be for a kind of key. Assumes nothing.
use Rattle.std.specs.Prelude.{◌≡◌, Bool, true, ◌⊎◌, ◌↔◌, IsTrue}

-- one of three facts holds, and no two of them
abbrev pub ExactlyOne : Type 0 → Type 0 → Type 0 → Type 0
ExactlyOne P Q R = (P ⊎ (Q ⊎ R)) × (P → Q → ⊥) × (P → R → ⊥) × (Q → R → ⊥)

pub record Order {K : Type 0} (precedes : K → K → Bool) : Type 0 where
  pub one : (a b : K) → ExactlyOne (precedes a b ≡ true) (precedes b a ≡ true) (a ≡ b)
  pub transitive : (a b c : K) → precedes a b ≡ true → precedes b c ≡ true → precedes a c ≡ true

-- a test for equal keys
abbrev pub Equality : {K : Type 0} → (K → K → Bool) → Type 0
Equality {K} matches = (a b : K) → IsTrue (matches a b) ↔ (a ≡ b)
