-- Sets of nodes, by their members. Assumes nothing.
use Rattle.std.specs.Prelude.{ℕ, ◌-◌, ◌/◌, ◌%◌, ◌^◌, ◌<◌, ◌≤◌, Bool, cond, List, length, filter, ◌==◌, bit_and, bit_or, nat_lt}
use Rattle.std.proofs.Common.{arith, lit<}
use Rattle.std.proofs.Math.Pow.{pow-lt}
use Rattle.std.proofs.lemmas.Nat.{and_le_l, or_lt}
use Rattle.std.proofs.lemmas.Bool.{cond_both, ltb-true}
use Rattle.std.specs.List.{range_with_len}
use Rattle.base.specs.declared.node_set.NodeSet.{NodeSet}

-- bit i of a word is set
unfoldable pub bit : ℕ → ℕ → Bool
bit word i = word / 2 ^ i % 2 == 1

-- the bits of a word that are set, ascending
unfoldable pub set_bits : ℕ → List ℕ
set_bits word = filter (bit word) (range_with_len 0 32)

-- node i is in s
abbrev pub has : NodeSet → ℕ → Bool
has s i = bit s.bits i

-- the members of s, ascending
abbrev pub members : NodeSet → List ℕ
members s = set_bits s.bits

-- how many members s has
abbrev pub size : NodeSet → ℕ
size s = length (members s)

abbrev pub no_nodes : NodeSet
no_nodes = record { bits = 0; word = lit< tt }

-- the set of one node; none where i is no node
unfoldable pub only : ℕ → NodeSet
only i = record { bits = cond (nat_lt i 32) (2 ^ i) 0; word = cond_both (nat_lt i 32) (2 ^ i) 0 (λ n. n < 2 ^ 32) (λ e. pow-lt (ltb-true i 32 e)) (λ _. lit< tt) }

infixl 65 ◌∪◌
infixl 65 ◌∖◌
unfoldable pub ◌∪◌ : NodeSet → NodeSet → NodeSet
a ∪ b = record { bits = bit_or a.bits b.bits; word = or_lt 32 a.bits b.bits a.word b.word }

unfoldable pub ◌∖◌ : NodeSet → NodeSet → NodeSet
a ∖ b = record { bits = bit_and a.bits (2 ^ 32 - 1 - b.bits); word = below (and_le_l a.bits (2 ^ 32 - 1 - b.bits)) a.word }
  where
    below : {x y : ℕ} → x ≤ y → y < 2 ^ 32 → x < 2 ^ 32
    below le lt = omega arith
