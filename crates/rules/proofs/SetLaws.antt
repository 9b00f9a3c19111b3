-- The members of sets as values. Assumes nothing.
use Rattle.std.proofs.Common.{◌≡◌, ℕ, ◌^◌, ◌<◌, Bool, true, false, cond, not, ◌&&◌, ◌||◌, eqb, ltb, ◌⊎◌, length, sym, refl, ap, ◌∙◌, inl, inr, arith, lit<}
use lib.Count.{count_trailing_zeros}
use Rattle.std.proofs.lemmas.Bool.{cases_Bool, eq-eqb, eqb-false, eqb-true, lt-ltb}
use Rattle.std.proofs.lemmas.Bool.Decides.{nat_tests}
use Rattle.base.specs.NodeSets.{bit, has, no_nodes, size}
use Rattle.base.specs.declared.node_set.NodeSet.{NodeSet}
use Rattle.base.proofs.Members.{lowest_is, lowest_told, member_below, no_bits}
use Rattle.base.proofs.Words.{bit_minus, bit_of_or, bit_power, bit_zero, same_bits}
use Rattle.rules.specs.Sets.{◌∖◌, ◌∪◌, if_so, is_empty, only}

pub has_none : (i : ℕ) → has no_nodes i ≡ false
has_none i = bit_zero i

pub has_union : (a b : NodeSet) (i : ℕ) → has (a ∪ b) i ≡ (has a i || has b i)
unfolding ◌∪◌
has_union a b i = bit_of_or i a.bits b.bits

pub has_minus : (a b : NodeSet) (i : ℕ) → has (a ∖ b) i ≡ (has a i && not (has b i))
unfolding ◌∖◌
has_minus a b i = bit_minus 32 i a.bits b.bits a.word b.word

pub has_only : (node i : ℕ) → has (only node) i ≡ (eqb i node && ltb node 32)
unfolding only
has_only node i = go (cases_Bool (ltb node 32))
  where
    go : (ltb node 32 ≡ true) ⊎ (ltb node 32 ≡ false) → bit (cond (ltb node 32) (2 ^ node) 0) i ≡ (eqb i node && ltb node 32)
    go (inl e) = rw e (bit_power node i ∙ grind (arith, nat_tests))
    go (inr e) = rw e (bit_zero i ∙ grind (arith, nat_tests))

pub has_if : (test : Bool) (s : NodeSet) (i : ℕ) → has (if_so test s) i ≡ (test && has s i)
has_if true s i = refl
has_if false s i = bit_zero i

-- an empty set has no member, and one without a member is empty
pub empty_none : (s : NodeSet) → is_empty s ≡ true → (i : ℕ) → has s i ≡ false
empty_none s e i = ap (λ n. bit n i) (eqb-true s.bits 0 e) ∙ bit_zero i

pub none_empty : (s : NodeSet) → ((i : ℕ) → has s i ≡ false) → is_empty s ≡ true
none_empty s none = eq-eqb s.bits 0 (same_bits 32 s.bits 0 s.word (lit< tt) (λ i. none i ∙ sym (bit_zero i)))

-- the one node i below 32
pub has_node : (node i : ℕ) → node < 32 → has (only node) i ≡ eqb i node
has_node node i within = has_only node i ∙ ap (λ v. eqb i node && v) (lt-ltb node 32 within) ∙ grind (arith, nat_tests)

-- the node in the set, and no other
pub has_back : (s : NodeSet) (node i : ℕ) → has (s ∖ (s ∖ only node)) i ≡ (has s i && eqb i node)
has_back s node i = has_minus s (s ∖ only node) i ∙ ap (λ v. has s i && not v) (has_minus s (only node) i ∙ ap (λ v. has s i && not v) (has_only node i)) ∙ go (cases_Bool (has s i))
  where
    go : (has s i ≡ true) ⊎ (has s i ≡ false) → (has s i && not (has s i && not (eqb i node && ltb node 32))) ≡ (has s i && eqb i node)
    go (inl e) = let below = member_below s i e in grind (arith, nat_tests)
    go (inr e) = rw e refl

-- some member of a set that is not empty
pub some_member : (s : NodeSet) → is_empty s ≡ false → (i : ℕ) × (has s i ≡ true)
some_member s e =
    let found = lowest_is s.bits s.word (omega (arith, eqb-false s.bits 0 e)) in
    (count_trailing_zeros 32 s.bits, (lowest_told s.bits _ found).0)

pub size_none : size no_nodes ≡ 0
size_none = ap length (no_bits 0 bit_zero)
