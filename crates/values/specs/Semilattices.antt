-- What the infimum of two has to be for a kind of holding. Assumes nothing.
use Rattle.std.specs.Prelude.{◌≡◌}

pub record Semilattice {T : Type 0} (meet : T → T → T) : Type 0 where
  pub commutative : (a b : T) → meet a b ≡ meet b a
  pub associative : (a b c : T) → meet (meet a b) c ≡ meet a (meet b c)
  pub idempotent : (a : T) → meet a a ≡ a
