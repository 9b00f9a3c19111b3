-- Ranks, and keys that are equal or not. The ranks rest on the order's law and on nothing else of the keys.
use Rattle.std.proofs.Common.{◌≡◌, ℕ, zero, suc, ◌+◌, ◌-◌, ◌<◌, ◌≤◌, Bool, true, false, cond, ltb, List, [], ◌∷◌, ◌++◌, map, length, get_or, take, set, replicate, count_by, sym, refl, ap, ◌∙◌, subst, ⊎_elim, arith}
use Rattle.std.proofs.lemmas.List.{append_assoc, get_or_append_left, get_or-map, get_or-take, get_or_read, length-map, length-take-le, map_more, set_at, take_all}
use Rattle.std.proofs.lemmas.List.Sums.{count_by-le-length, sum_by-cons, sum_by-le-sum_by, sum_by_more}
use Rattle.std.proofs.lemmas.Bool.{cases_Bool, cases_eq, false≢true, le-ltb, lt-ltb}
use Rattle.values.specs.Orders.{Equality, Order}
use Rattle.std.specs.List.{Any, list_any}
use Rattle.std.proofs.lemmas.List.Folds.{Any-from_list_any, list_any_at}
use Rattle.values.specs.Ranks.{Apart, Ranking, Twice, rank_of, rank_table}

at_most : (x y : Bool) → (x ≡ true → y ≡ true) → cond x 1 0 ≤ cond y 1 0
at_most true y implied = rw (implied refl) (omega arith)
at_most false y implied = omega arith

module _ {K : Type 0} where
  some_key : (keys : List K) (i : ℕ) → i < length keys → K
  some_key [] i within = absurd (omega arith)
  some_key (key ∷ keys) i within = key

  -- ---- equal keys

  module _ {matches : K → K → Bool} (decided : Equality matches) where
    -- the key of node i stands before it already
    pub twice_before : (keys : List K) (i : ℕ) (key : K) → i < length keys → key ≡ get_or keys i key → true ≡ list_any (λ other. matches other key) (take i keys) → Twice keys
    twice_before keys i key within at_i told = again (Any-from_list_any (λ other. matches other key) (take i keys) (sym told))
      where
        again : Any (λ other. matches other key ≡ true) (take i keys) → Twice keys
        again (k, x, below, at_k, passes) =
            let before : k < i = omega (arith, length-take-le i keys (omega arith)) in
            (k, i, before, within, λ d. sym (get_or-take i keys k d before) ∙ sym (get_or_read (take i keys) k x below (sym at_k) d) ∙ (decided x key).0 passes ∙ get_or_read keys i key within at_i d)

    -- the key of node i stands nowhere before it, and those before it are apart
    pub apart_next : (keys : List K) (i : ℕ) (key : K) → i < length keys → key ≡ get_or keys i key → false ≡ list_any (λ other. matches other key) (take i keys) → Apart keys i → Apart keys (i + 1)
    apart_next keys i key within at_i told apart a b d before below e = ⊎_elim last (λ other. apart a b d before (omega arith) e) (cases_eq b i)
      where
        last : b ≡ i → ⊥
        last at_b =
            let is_key : get_or (take i keys) a d ≡ key = get_or-take i keys a d (omega arith) ∙ e ∙ ap (λ k. get_or keys k d) at_b ∙ sym (get_or_read keys i key within at_i d) in
            false≢true (told ∙ list_any_at (λ other. matches other key) (take i keys) a d (omega (arith, length-take-le i keys (omega arith))) ((decided (get_or (take i keys) a d) key).1 is_key))

  -- ---- counts

  -- what passes one test passes another
  count_le : (p q : K → Bool) (xs : List K) → ((x : K) → p x ≡ true → q x ≡ true) → count_by p xs ≤ count_by q xs
  count_le p q xs implied = sum_by-le-sum_by (λ x. cond (p x) 1 0) (λ x. cond (q x) 1 0) xs (λ x. at_most (p x) (q x) (implied x))

  -- and one element passes only the other
  count_lt : (p q : K → Bool) (xs : List K) (i : ℕ) (d : K) → ((x : K) → p x ≡ true → q x ≡ true) → i < length xs → p (get_or xs i d) ≡ false → q (get_or xs i d) ≡ true → count_by p xs < count_by q xs
  count_lt p q [] i d implied within fails passes = absurd (omega arith)
  count_lt p q (x ∷ xs) zero d implied within fails passes =
      rw (sum_by-cons (λ y. cond (p y) 1 0) x xs, sum_by-cons (λ y. cond (q y) 1 0) x xs, fails, passes)
      (omega (arith, count_le p q xs implied))
  count_lt p q (x ∷ xs) (suc i) d implied within fails passes =
      rw (sum_by-cons (λ y. cond (p y) 1 0) x xs, sum_by-cons (λ y. cond (q y) 1 0) x xs)
      (omega (arith, at_most (p x) (q x) (implied x), count_lt p q xs i d implied (omega arith) fails passes))

  -- ---- the table

  module _ (precedes : K → K → Bool) where
    pub rank_none : (key : K) → rank_of precedes [] key ≡ 0
    unfolding rank_of
    rank_none key = refl

    rank_more : (keys : List K) (i : ℕ) (other key : K) → i < length keys → other ≡ get_or keys i other → rank_of precedes (take (i + 1) keys) key ≡ rank_of precedes (take i keys) key + cond (precedes other key) 1 0
    unfolding rank_of
    rank_more keys i other key within is =
        sum_by_more (λ x. cond (precedes x key) 1 0) keys i other within ∙ ap (λ x. rank_of precedes (take i keys) key + cond (precedes x key) 1 0) (sym is)

    -- by what the test answered
    pub rank_counts : (keys : List K) (i : ℕ) (other key : K) (answer : Bool) → i < length keys → other ≡ get_or keys i other → answer ≡ precedes other key → answer ≡ true → rank_of precedes (take (i + 1) keys) key ≡ rank_of precedes (take i keys) key + 1
    rank_counts keys i other key answer within is told before =
        rank_more keys i other key within is ∙ ap (λ b. rank_of precedes (take i keys) key + cond b 1 0) (sym told ∙ before)

    pub rank_passes : (keys : List K) (i : ℕ) (other key : K) (answer : Bool) → i < length keys → other ≡ get_or keys i other → answer ≡ precedes other key → answer ≡ false → rank_of precedes (take (i + 1) keys) key ≡ rank_of precedes (take i keys) key
    rank_passes keys i other key answer within is told not_before =
        let more = rank_more keys i other key within is ∙ ap (λ b. rank_of precedes (take i keys) key + cond b 1 0) (sym told ∙ not_before) in
        omega arith

    pub rank_all : (keys : List K) (i : ℕ) (key : K) (count : ℕ) → length keys ≤ i → count ≡ rank_of precedes (take i keys) key → count ≡ rank_of precedes keys key
    rank_all keys i key count past is = is ∙ ap (λ l. rank_of precedes l key) (take_all i keys past)

    pub rank_le : (keys : List K) (key : K) → rank_of precedes keys key ≤ length keys
    unfolding rank_of
    rank_le keys key = count_by-le-length (λ other. precedes other key) keys

    -- the table after i ranks
    abbrev pub filled : List K → ℕ → List ℕ
    filled keys i = map (rank_of precedes keys) (take i keys) ++ replicate (32 - i) 0

    pub table_more : (keys : List K) (i : ℕ) (key : K) (ranks : List ℕ) (rank : ℕ) → i < length keys → i < 32 → key ≡ get_or keys i key → ranks ≡ filled keys i → rank ≡ rank_of precedes keys key → set ranks i rank ≡ filled keys (i + 1)
    table_more keys i key ranks rank within fits is so_far one =
        let f = rank_of precedes keys in
        let front = map f (take i keys) in
        let rest : List ℕ = replicate (32 - (i + 1)) 0 in
        let left : 32 - i ≡ suc (32 - (i + 1)) = omega arith in
        let long : length front ≡ i = length-map (take i keys) f ∙ length-take-le i keys (omega arith) in
        let split : ranks ≡ front ++ (0 ∷ rest) = so_far ∙ ap (λ n. front ++ replicate n 0) left in
        let longer : map f (take (i + 1) keys) ≡ front ++ (rank ∷ []) = map_more f keys i key within ∙ ap (λ r. front ++ (r ∷ [])) (ap f (sym is) ∙ sym one) in
        ap (λ l. set l i rank) split ∙ set_at front 0 rest rank i long ∙ sym (ap (λ l. l ++ rest) longer ∙ append_assoc front (rank ∷ []) rest)

    pub table_all : (keys : List K) (i : ℕ) (ranks : List ℕ) → i ≡ length keys → ranks ≡ filled keys i → ranks ≡ rank_table precedes keys
    unfolding rank_table
    table_all keys i ranks whole so_far =
        so_far ∙ ap (λ l. map (rank_of precedes keys) l ++ replicate (32 - i) 0) (take_all i keys (omega arith)) ∙ ap (λ n. map (rank_of precedes keys) keys ++ replicate (32 - n) 0) whole

    pub rank_at : (keys : List K) (i : ℕ) (d : K) → i < length keys → get_or (rank_table precedes keys) i 0 ≡ rank_of precedes keys (get_or keys i d)
    unfolding rank_table
    rank_at keys i d within =
        get_or_append_left (map (rank_of precedes keys) keys) (replicate (32 - length keys) 0) 0 i (simp length-map within) ∙ get_or-map (rank_of precedes keys) keys i d 0 within

    -- ---- what the law gives

    module _ (order : Order precedes) where
      not_self : (a : K) → precedes a a ≡ false
      not_self a = ⊎_elim (λ self. absurd ((order.one a a).2 self refl)) (λ no'. no') (cases_Bool (precedes a a))

      -- who is before has the lower rank
      lower : (keys : List K) (i j : ℕ) (d : K) → i < length keys → precedes (get_or keys i d) (get_or keys j d) ≡ true → rank_of precedes keys (get_or keys i d) < rank_of precedes keys (get_or keys j d)
      unfolding rank_of
      lower keys i j d within before =
          let a = get_or keys i d in
          let b = get_or keys j d in
          count_lt (λ x. precedes x a) (λ x. precedes x b) keys i d (λ x first. order.transitive x a b first before) within (not_self a) before

      rank_below : (keys : List K) (i : ℕ) (d : K) → i < length keys → rank_of precedes keys (get_or keys i d) < length keys
      unfolding rank_of
      rank_below keys i d within =
          let all = count_by-le-length (λ _. true) keys in
          omega (arith, count_lt (λ x. precedes x (get_or keys i d)) (λ _. true) keys i d (λ _ _. refl) within (not_self (get_or keys i d)) refl)

      agree : (keys : List K) (i j : ℕ) (d : K) → i < length keys → j < length keys → ltb (rank_of precedes keys (get_or keys i d)) (rank_of precedes keys (get_or keys j d)) ≡ precedes (get_or keys i d) (get_or keys j d)
      agree keys i j d within_i within_j = ⊎_elim before (⊎_elim after same) (order.one a b).0
        where
          a : K
          a = get_or keys i d

          b : K
          b = get_or keys j d

          before : precedes a b ≡ true → ltb (rank_of precedes keys a) (rank_of precedes keys b) ≡ precedes a b
          before first = lt-ltb _ _ (lower keys i j d within_i first) ∙ sym first

          after : precedes b a ≡ true → ltb (rank_of precedes keys a) (rank_of precedes keys b) ≡ precedes a b
          after first =
              let less = lower keys j i d within_j first in
              let not_before : precedes a b ≡ false = ⊎_elim (λ other. absurd ((order.one a b).1 other first)) (λ no'. no') (cases_Bool (precedes a b)) in
              le-ltb _ _ (omega arith) ∙ sym not_before

          same : a ≡ b → ltb (rank_of precedes keys a) (rank_of precedes keys b) ≡ precedes a b
          same e =
              let not_before : precedes a b ≡ false = ap (precedes a) (sym e) ∙ not_self a in
              le-ltb _ _ (omega (arith, ap (rank_of precedes keys) e)) ∙ sym not_before

      apart_ranks : (keys : List K) (i j : ℕ) (d : K) → i < length keys → j < length keys → (get_or keys i d ≡ get_or keys j d → ⊥) → rank_of precedes keys (get_or keys i d) ≡ rank_of precedes keys (get_or keys j d) → ⊥
      apart_ranks keys i j d within_i within_j apart e =
          ⊎_elim (λ first. omega (arith, lower keys i j d within_i first)) (⊎_elim (λ first. omega (arith, lower keys j i d within_j first)) apart) (order.one (get_or keys i d) (get_or keys j d)).0

      ranking : (keys : List K) → Ranking precedes keys (rank_table precedes keys)
      ranking keys = record {
        below = λ i within. (let d = some_key keys i within in rw (rank_at keys i d within) (rank_below keys i d within));
        ordered = λ i j d within_i within_j. rw (rank_at keys i d within_i, rank_at keys j d within_j) (agree keys i j d within_i within_j);
        different = λ apart i j before below e.
            (let d = some_key keys j below in
            let within : i < length keys = omega arith in
            apart_ranks keys i j d within below (apart i j d before below) (sym (rank_at keys i d within) ∙ e ∙ rank_at keys j d below));
      }

      pub table_ranks : (keys : List K) (ranks : List ℕ) → ranks ≡ rank_table precedes keys → Ranking precedes keys ranks
      table_ranks keys ranks is = subst (Ranking precedes keys) (sym is) (ranking keys)
