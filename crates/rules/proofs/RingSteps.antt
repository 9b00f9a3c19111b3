-- The steps of the ring wave: who is next. Assumes nothing.
use Rattle.std.proofs.Common.{◌≡◌, ℕ, zero, suc, ◌+◌, ◌<◌, ◌≤◌, Bool, true, false, cond, not, ◌&&◌, eqb, leb, nat_eq, ◌⊎◌, [], ◌∷◌, ◌++◌, map, sym, refl, ap, ◌∙◌, inl, inr, ⊎_elim, add-one, arith}
use Rattle.std.proofs.lemmas.Bool.{and_from, and_parts, both_ways, cases_Bool, cond-false, cond-true, leb-true, not_from_false, or_cases}
use Rattle.std.proofs.lemmas.Bool.Decides.{Decides-below_and, Decides-eqb, nat_tests}
use Rattle.std.proofs.lemmas.List.Folds.{list_all-append, list_all-map}
use Rattle.std.proofs.lemmas.List.FromFn.{map-range_with_len_more}
use Rattle.std.specs.List.{list_all, range_with_len}
use Rattle.base.specs.NodeSets.{has, size}
use Rattle.base.specs.declared.node_set.NodeSet.{NodeSet}
use Rattle.base.proofs.Members.{member_below}
use Rattle.network.specs.Paths.{adjacent}
use Rattle.network.specs.declared.network.Network.{Network}
use Rattle.wave.specs.Laws.{Names, NamesNeighbours}
use Rattle.wave.specs.declared.step.Record.{Record}
use Rattle.wave.specs.declared.step.Standing.{Standing}
use Rattle.wave.specs.declared.step.Standing.TheVariants.{Follower, Starter}
use Rattle.rules.specs.Ring.{admitted, arrival, follower, onward, opening, passed, two_each}
use Rattle.rules.specs.Sets.{◌∖◌, if_so, is_empty, lowest_of, neighbours_of, only}
use Rattle.rules.proofs.Neighbours.{joined_back, joined_below, joined_other, names_none}
use Rattle.rules.proofs.SetLaws.{has_if, has_minus, has_only, none_empty}
use Rattle.rules.proofs.Single.{lowest_some, lowest_within, only_itself, only_same}
use Rattle.rules.proofs.Sizes.{one_member, size_empty, size_less}

-- ---- a set of neighbours, less the one that a message came from

module _ (around : NodeSet) (from : ℕ) where
  abbrev rest : NodeSet
  rest = around ∖ only from

  rest_within : (i : ℕ) → has rest i ≡ true → has around i ≡ true
  rest_within i is = (and_parts (has around i) (not (has (only from) i)) (sym (has_minus around (only from) i) ∙ is)).0

  rest_other : (i : ℕ) → has around i ≡ true → (i ≡ from → ⊥) → has rest i ≡ true
  rest_other i is other = has_minus around (only from) i ∙ and_from (has around i) (not (has (only from) i)) is (not_from_false (has (only from) i) (has_only from i ∙ grind (arith, nat_tests)))

  rest_without : has around from ≡ true → has rest from ≡ false
  rest_without is = has_minus around (only from) from ∙ rw (is, only_itself from (member_below around from is)) refl

  pub onward_within : (i : ℕ) → has (onward around from) i ≡ true → has around i ≡ true
  onward_within i is = go (is_empty rest) is
    where
      go : (none : Bool) → has (cond none (if_so (has around from) (only from)) (lowest_of rest)) i ≡ true → has around i ≡ true
      go true is =
          let both = and_parts (has around from) (has (only from) i) (sym (has_if (has around from) (only from) i) ∙ is) in
          ap (has around) (only_same from i both.1) ∙ both.0
      go false is = rest_within i (lowest_within rest i is)

-- the message that came from a neighbour goes on to `to`, and there is no third neighbour
pub record Next (around : NodeSet) (from to : ℕ) : Type 0 where
  pub goes : onward around from ≡ only to
  pub member : has around to ≡ true
  pub other : (i : ℕ) → has around i ≡ true → (i ≡ from → ⊥) → i ≡ to

module _ (around : NodeSet) (from : ℕ) (is : has around from ≡ true) where
  next_lone : ((i : ℕ) → has around i ≡ true → i ≡ from) → Next around from from
  next_lone lone = record {
    goes = cond-true _ _ _ (none_empty (rest around from) none) ∙ cond-true _ _ _ is;
    member = is;
    other = λ i i_is not_from. lone i i_is;
  }
    where
      none : (i : ℕ) → has (rest around from) i ≡ false
      none i = ⊎_elim (λ in_rest. absurd (both_ways (has (rest around from) from) (rest_without around from is) (ap (has (rest around from)) (sym (lone i (rest_within around from i in_rest))) ∙ in_rest))) (λ out. out) (cases_Bool (has (rest around from) i))

  next_two : size around ≡ 2 → (to : ℕ) × Next around from to × (to ≡ from → ⊥)
  next_two two = go (cases_Bool (is_empty (rest around from)))
    where
      one : size (rest around from) ≡ 1
      one = omega (arith, size_less around from is)

      go : (is_empty (rest around from) ≡ true) ⊎ (is_empty (rest around from) ≡ false) → (to : ℕ) × Next around from to × (to ≡ from → ⊥)
      go (inl none) = absurd (omega (arith, one, size_empty (rest around from) none))
      go (inr some) =
          let low = lowest_some (rest around from) some in (
            low.0,
            record {
              goes = cond-false _ _ _ some ∙ low.1;
              member = rest_within around from low.0 low.2;
              other = λ i i_is not_from. one_member (rest around from) low.0 i one low.2 (rest_other around from i i_is not_from);
            },
            λ same. both_ways (has (rest around from) from) (rest_without around from is) (ap (has (rest around from)) (sym same) ∙ low.2),
          )

-- ---- on an admitted network

two_at : (n : Network) (k : ℕ) → two_each n k ≡ true → (node : ℕ) → node < k → size (neighbours_of n node) ≡ 2
two_at n k all = (Decides-below_and (λ i. eqb (size (neighbours_of n i)) 2) (λ i. size (neighbours_of n i) ≡ 2) (two_each n) (λ i. Decides-eqb (size (neighbours_of n i)) 2) refl (λ _. refl) k).0 all

-- node i has two neighbours
abbrev pub has_two : Network → ℕ → Bool
has_two n i = nat_eq (size (neighbours_of n i)) 2

pub all_two : (n : Network) (k : ℕ) → list_all (has_two n) (range_with_len 0 k) ≡ two_each n k
all_two n zero = refl
all_two n (suc k) =
    let more = map-range_with_len_more (has_two n) 0 k k (omega arith) in
    let one_more : list_all (has_two n) (range_with_len 0 (k + 1)) ≡ list_all (λ b. b) (map (has_two n) (range_with_len 0 k) ++ (has_two n k ∷ [])) = sym (list_all-map (λ b. b) (has_two n) (range_with_len 0 (k + 1))) ∙ ap (list_all (λ b. b)) more in
    ap (λ m. list_all (has_two n) (range_with_len 0 m)) (sym (add-one k)) ∙ one_more ∙ list_all-append (λ b. b) (map (has_two n) (range_with_len 0 k)) (has_two n k ∷ []) ∙ ap (λ b. b && (has_two n k && true)) (list_all-map (λ b. b) (has_two n) (range_with_len 0 k) ∙ all_two n k) ∙ swapped (two_each n k) (has_two n k)
  where
    swapped : (a b : Bool) → (a && (b && true)) ≡ (b && a)
    swapped true true = refl
    swapped true false = refl
    swapped false true = refl
    swapped false false = refl

module _ (n : Network) (admits : admitted n ≡ true) where
  -- whatever neighbour of a node a message came from, there is a next one; it is the same one only where there are two nodes
  pub next_of : (node from : ℕ) → adjacent n.neighbours node from ≡ true → (to : ℕ) × Next (neighbours_of n node) from to × (to ≡ from → n.nodes ≤ 2)
  next_of node from link = go (or_cases (leb n.nodes 2) (two_each n n.nodes) admits)
    where
      go : (leb n.nodes 2 ≡ true) ⊎ (two_each n n.nodes ≡ true) → (to : ℕ) × Next (neighbours_of n node) from to × (to ≡ from → n.nodes ≤ 2)
      go (inl few) = (from, next_lone (neighbours_of n node) from link (λ i i_link. omega (arith, leb-true n.nodes 2 few, joined_below n node i i_link, joined_below n node from link, joined_other n node i i_link, joined_other n node from link, joined_below n from node (joined_back n node from link))), λ _. leb-true n.nodes 2 few)
      go (inr two) =
          let next = next_two (neighbours_of n node) from link (two_at n n.nodes two node (joined_below n from node (joined_back n node from link))) in
          (next.0, next.1, λ same. absurd (next.2 same))

-- ---- who gets a message is a neighbour

passes : (n : Network) (node : ℕ) (kept : Record) (sender : ℕ) (standing : Standing) → Names n node (passed (neighbours_of n node) kept sender standing)
passes n node kept sender Starter = record { first = names_none n node; second = names_none n node }
passes n node kept sender (Follower parent) = record { first = onward_within (neighbours_of n node) sender; second = names_none n node }

arrives : (n : Network) (node : ℕ) (known : Bool) (kept : Record) (sender kind : ℕ) → Names n node (arrival n node known kept sender kind)
arrives n node true kept sender kind = passes n node kept sender kept.standing
arrives n node false kept sender kind = passes n node (follower sender) sender (Follower sender)

pub names_neighbours : NamesNeighbours opening arrival
names_neighbours = record {
  opens = λ n node. record { first = lowest_within (neighbours_of n node); second = names_none n node };
  arrives = arrives;
}
