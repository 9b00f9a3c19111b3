-- Nodes that wait in a bag, and the search that takes them out. Assumes nothing.
use Rattle.std.proofs.Common.{◌≡◌, ℕ, zero, suc, ◌+◌, ◌-◌, ◌*◌, ◌<◌, ◌≤◌, Bool, true, not, ◌&&◌, ◌||◌, eqb, ◌⊎◌, List, [], ◌∷◌, ◌++◌, length, get_or, take, sym, refl, ap, ◌∙◌, subst, inl, inr, ⊎_elim, arith, length-append}
use Rattle.std.specs.List.Sorted.{IsPermutation}
use Rattle.std.specs.List.{ContainsAt, AllByRecursion}
use Rattle.std.proofs.ByRecursion.{All-append, All-weaker, has_append_left, has_append_right, all_shuffled, has_shuffled}
use Rattle.std.proofs.lemmas.List.{get_or_default, length_push}
use Rattle.std.proofs.lemmas.List.Sorted.{length_permutation}
use Rattle.std.proofs.lemmas.Bool.{and_from, and_parts, cases_Bool, eq-eqb, eqb-true, not_from_false, or_cases, or_left, or_right}
use Rattle.base.specs.Bags.{Left, held, room}
use Rattle.base.specs.NodeSets.{has, members, no_nodes, size}
use Rattle.base.specs.declared.bag.Bag.{Bag}
use Rattle.base.specs.declared.node_set.NodeSet.{NodeSet}
use Rattle.base.proofs.Members.{member_below, members_all, members_have, size_apart, size_most}
use Rattle.base.proofs.Places.{length_held}
use Rattle.base.proofs.Small.{and_false}
use Rattle.network.specs.Paths.{Path, adjacent, here, onward}
use Rattle.network.proofs.Graphs.{along}

-- ---- the search

-- What is known between two turns of a search from a node: every node seen has a path, and a node seen
-- whose neighbours are not all seen still waits.
pub record Searching (joined : ℕ → ℕ → Bool) (from : ℕ) (waiting : Bag ℕ) (seen : NodeSet) : Type 0 where
  pub places : length waiting.places.now ≡ 32
  pub few : waiting.count ≤ size seen
  pub waits : AllByRecursion (λ node. has seen node ≡ true) (held waiting)
  pub start : has seen from ≡ true
  pub sound : (b : ℕ) → has seen b ≡ true → Path joined from b
  pub looked : (a b : ℕ) → has seen a ≡ true → joined a b ≡ true → (has seen b ≡ true) ⊎ ContainsAt (held waiting) a

-- what one turn takes out and adds
pub record Turn (joined : ℕ → ℕ → Bool) (before taken : Bag ℕ) (seen fresh more : NodeSet) (node : ℕ) : Type 0 where
  pub others : IsPermutation (held before) (node ∷ held taken)
  pub rows : length taken.places.now ≡ length before.places.now
  pub fresh_is : (i : ℕ) → has fresh i ≡ (joined node i && not (has seen i))
  pub more_is : (i : ℕ) → has more i ≡ (has seen i || has fresh i)

module _ {joined : ℕ → ℕ → Bool} {from : ℕ} where
  -- the start: one node seen, which waits
  pub begins : (empty waiting : Bag ℕ) (seen : NodeSet) → length empty.places.now ≡ 32 → empty.count ≡ 0 → Left empty waiting (held empty ++ (from ∷ [])) → ((i : ℕ) → has seen i ≡ eqb i from) → Searching joined from waiting seen
  begins empty waiting seen rows none put only =
      let alone : held waiting ≡ from ∷ [] = put.holds ∙ ap (λ n. take n empty.places.now ++ (from ∷ [])) none in
      let start : has seen from ≡ true = only from ∙ eq-eqb from from refl in
      let is : (i : ℕ) → has seen i ≡ true → i ≡ from = λ i in_it. eqb-true i from (sym (only i) ∙ in_it) in
      record {
        places = put.places ∙ rows;
        few = omega (arith, put.count, length_push (held empty) from, length_held empty, (members_have seen from start).1);
        waits = subst (AllByRecursion (λ node. has seen node ≡ true)) (sym alone) (start, tt);
        start = start;
        sound = λ b in_it. subst (Path joined from) (sym (is b in_it)) here;
        looked = λ a b in_it link. inr (subst (λ l. ContainsAt l a) (sym alone) (0, omega arith, λ d. sym (is a in_it)));
      }

  -- the end: nobody waits
  pub ends : (waiting : Bag ℕ) (seen : NodeSet) → Searching joined from waiting seen → waiting.count ≡ 0 → (b : ℕ) → Path joined from b → has seen b ≡ true
  ends waiting seen is none b path = along (λ n. has seen n ≡ true) step is.start path
    where
      step : (a c : ℕ) → joined a c ≡ true → has seen a ≡ true → has seen c ≡ true
      step a c link in_it = ⊎_elim (λ yes'. yes') (λ waits. absurd (omega (arith, waits.1, length_held waiting))) (is.looked a c in_it link)

  -- a node that is taken out was seen
  pub taken_seen : (before taken : Bag ℕ) (seen : NodeSet) (node : ℕ) → Searching joined from before seen → IsPermutation (held before) (node ∷ held taken) → has seen node ≡ true
  taken_seen before taken seen node is others = (all_shuffled (λ n. has seen n ≡ true) (held before) (node ∷ held taken) others is.waits).0

  -- one turn: a node that waited is taken out, and its neighbours that were not seen wait now
  module _ {before taken : Bag ℕ} {seen fresh more : NodeSet} {node : ℕ} (is : Searching joined from before seen) (t : Turn joined before taken seen fresh more node) where
    one_less : taken.count + 1 ≡ before.count
    one_less = omega (arith, length_permutation (held before) (node ∷ held taken) t.others, length_held before, length_held taken)

    node_seen : has seen node ≡ true
    node_seen = taken_seen before taken seen node is t.others

    grown : size more ≡ size seen + size fresh
    grown = size_apart seen fresh more t.more_is (λ i in_it. t.fresh_is i ∙ ap (λ v. joined node i && not v) in_it ∙ and_false (joined node i))

    pub falls : (after : Bag ℕ) → Left taken after (held taken ++ members fresh) → after.count + 2 * (32 - size more) < before.count + 2 * (32 - size seen)
    falls after put = omega (arith, put.count, length-append (held taken) (members fresh), length_held taken, one_less, grown, size_most more)

    pub room_enough : taken.count + size fresh ≤ room taken
    room_enough = omega (arith, one_less, grown, size_most more, is.few, is.places, t.rows)

    pub turn : (after : Bag ℕ) → Left taken after (held taken ++ members fresh) → Searching joined from after more
    turn after put = record {
      places = put.places ∙ t.rows ∙ is.places;
      few = omega (arith, put.count, length-append (held taken) (members fresh), length_held taken, one_less, grown, is.few);
      waits = subst (AllByRecursion InMore) (sym put.holds) (All-append InMore (held taken) (members fresh) (All-weaker InSeen InMore old (held taken) still) (All-weaker (λ n. has fresh n ≡ true) InMore new (members fresh) (members_all fresh)));
      start = old from is.start;
      sound = λ b in_it. ⊎_elim (is.sound b) (λ in_fresh. onward (is.sound node node_seen) (and_parts (joined node b) (not (has seen b)) (sym (t.fresh_is b) ∙ in_fresh)).0) (or_cases (has seen b) (has fresh b) (sym (t.more_is b) ∙ in_it));
      looked = λ a b in_it link. ⊎_elim (λ in_seen. ⊎_elim (λ b_seen. inl (old b b_seen)) (λ waits. from_waiting a b link (has_shuffled (held before) (node ∷ held taken) a t.others waits)) (is.looked a b in_seen link)) (λ in_fresh. inr (subst (λ l. ContainsAt l a) (sym put.holds) (has_append_right (held taken) (members fresh) a (members_have fresh a in_fresh)))) (or_cases (has seen a) (has fresh a) (sym (t.more_is a) ∙ in_it));
    }
      where
        InSeen : ℕ → Type 0
        InSeen n = has seen n ≡ true

        InMore : ℕ → Type 0
        InMore n = has more n ≡ true

        old : (n : ℕ) → has seen n ≡ true → has more n ≡ true
        old n in_it = t.more_is n ∙ or_left (has seen n) (has fresh n) in_it

        new : (n : ℕ) → has fresh n ≡ true → has more n ≡ true
        new n in_it = t.more_is n ∙ or_right (has seen n) (has fresh n) in_it

        still : AllByRecursion InSeen (held taken)
        still = (all_shuffled InSeen (held before) (node ∷ held taken) t.others is.waits).1

        from_waiting : (a b : ℕ) → joined a b ≡ true → ContainsAt (node ∷ held taken) a → (has more b ≡ true) ⊎ ContainsAt (held after) a
        from_waiting a b link waits = go waits.0 waits.1 waits.2
          where
            go : (k : ℕ) → k < length (node ∷ held taken) → ((d : ℕ) → get_or (node ∷ held taken) k d ≡ a) → (has more b ≡ true) ⊎ ContainsAt (held after) a
            go zero within at_k = inl (⊎_elim (old b) (λ unseen. new b (t.fresh_is b ∙ and_from (joined node b) (not (has seen b)) (ap (λ n. joined n b) (at_k 0) ∙ link) (not_from_false (has seen b) unseen))) (cases_Bool (has seen b)))
            go (suc k) within at_k = inr (subst (λ l. ContainsAt l a) (sym put.holds) (has_append_left (held taken) (members fresh) a (k, omega arith, at_k)))

-- what the calls of a turn over a table say; the row of the node is read at any default
pub turn_of : (table : List NodeSet) (from : ℕ) (before taken : Bag ℕ) (seen row fresh more : NodeSet) (node : ℕ) → length table ≡ 32 → Searching (adjacent table) from before seen → IsPermutation (held before) (node ∷ held taken) → length taken.places.now ≡ length before.places.now → ((i : ℕ) → has fresh i ≡ (has (get_or table node row) i && not (has seen i))) → ((i : ℕ) → has more i ≡ (has seen i || has fresh i)) → Turn (adjacent table) before taken seen fresh more node
turn_of table from before taken seen row fresh more node rows is others places minus union =
    let within : node < 32 = member_below seen node (taken_seen before taken seen node is others) in
    record {
      others = others;
      rows = places;
      fresh_is = λ i. minus i ∙ ap (λ s. has s i && not (has seen i)) (get_or_default table node row no_nodes (omega arith));
      more_is = union;
    }
