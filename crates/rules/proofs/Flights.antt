-- Messages in transit, counted by sender and receiver. Assumes nothing.
use Rattle.std.proofs.Common.{◌≡◌, ℕ, zero, suc, ◌+◌, Bool, true, false, ◌&&◌, eqb, ltb, leb, ◌⊎◌, List, [], ◌∷◌, ◌++◌, map, filter, sym, refl, ap, ◌∙◌, inl, inr, arith}
use Rattle.std.specs.List.{range_with_len}
use Rattle.std.proofs.lemmas.Bool.{cases_Bool, cases_eq}
use Rattle.std.proofs.lemmas.Bool.Decides.{nat_tests}
use Rattle.base.specs.NodeSets.{has, members, set_bits}
use Rattle.base.specs.declared.node_set.NodeSet.{NodeSet}
use Rattle.base.proofs.Members.{member_below}
use Rattle.wave.specs.Lone.{Cover, Message, message}
use Rattle.rules.specs.Sums.{one}

-- m goes from x to y
abbrev pub goes : Message → ℕ → ℕ → Bool
goes m x y = eqb m.sender x && eqb m.receiver y

-- how many messages go from x to y
unfoldable pub flight : ℕ → ℕ → List Message → ℕ
flight x y [] = 0
flight x y (m ∷ ms) = one (goes m x y) + flight x y ms

pub flight_append : (x y : ℕ) (ms ns : List Message) → flight x y (ms ++ ns) ≡ flight x y ms + flight x y ns
unfolding flight
flight_append x y [] ns = omega arith
flight_append x y (m ∷ ms) ns = omega (arith, flight_append x y ms ns)

-- one message taken out of the middle
pub flight_middle : (x y : ℕ) (before later : List Message) (m : Message) → flight x y (before ++ (m ∷ later)) ≡ one (goes m x y) + flight x y (before ++ later)
unfolding flight
flight_middle x y [] later m = refl
flight_middle x y (b ∷ before) later m = omega (arith, flight_middle x y before later m)

-- ---- what a step sends

sent_kept : (node kind : ℕ) (cover : Cover) (p : ℕ → Bool) (x y k a : ℕ) → flight x y (map (message node kind cover) (filter p (range_with_len a k))) ≡ one (eqb node x && (p y && (leb a y && ltb y (a + k))))
unfolding flight
sent_kept node kind cover p x y zero a = grind (arith, nat_tests)
sent_kept node kind cover p x y (suc k) a = go (sent_kept node kind cover p x y k (a + 1)) (cases_Bool (p a)) (cases_eq a y)
  where
    go : flight x y (map (message node kind cover) (filter p (range_with_len (a + 1) k))) ≡ one (eqb node x && (p y && (leb (a + 1) y && ltb y (a + 1 + k)))) → (p a ≡ true) ⊎ (p a ≡ false) → (a ≡ y) ⊎ (a ≡ y → ⊥) → flight x y (map (message node kind cover) (filter p (range_with_len a (suc k)))) ≡ one (eqb node x && (p y && (leb a y && ltb y (a + suc k))))
    go rest (inl e) (inl here) = let at_y : p y ≡ true = ap p (sym here) ∙ e in rw e (grind (arith, nat_tests))
    go rest (inl e) (inr other) = rw e (grind (arith, nat_tests))
    go rest (inr e) (inl here) = let at_y : p y ≡ false = ap p (sym here) ∙ e in rw e (grind (arith, nat_tests))
    go rest (inr e) (inr other) = rw e (grind (arith, nat_tests))

-- a node's messages to a set: one to each member
pub flight_sent : (node kind : ℕ) (cover : Cover) (s : NodeSet) (x y : ℕ) → flight x y (map (message node kind cover) (members s)) ≡ one (eqb node x && has s y)
unfolding set_bits
flight_sent node kind cover s x y = sent_kept node kind cover (has s) x y 32 0 ∙ go (cases_Bool (has s y))
  where
    go : (has s y ≡ true) ⊎ (has s y ≡ false) → one (eqb node x && (has s y && (leb 0 y && ltb y 32))) ≡ one (eqb node x && has s y)
    go (inl e) = let below = member_below s y e in grind (arith, nat_tests)
    go (inr e) = grind (arith, nat_tests)

-- ---- messages of kind 2 alone

abbrev pub second_goes : Message → ℕ → ℕ → Bool
second_goes m x y = goes m x y && eqb m.kind 2

-- how many messages of kind 2 go from x to y
unfoldable pub seconds : ℕ → ℕ → List Message → ℕ
seconds x y [] = 0
seconds x y (m ∷ ms) = one (second_goes m x y) + seconds x y ms

pub seconds_append : (x y : ℕ) (ms ns : List Message) → seconds x y (ms ++ ns) ≡ seconds x y ms + seconds x y ns
unfolding seconds
seconds_append x y [] ns = omega arith
seconds_append x y (m ∷ ms) ns = omega (arith, seconds_append x y ms ns)

pub seconds_middle : (x y : ℕ) (before later : List Message) (m : Message) → seconds x y (before ++ (m ∷ later)) ≡ one (second_goes m x y) + seconds x y (before ++ later)
unfolding seconds
seconds_middle x y [] later m = refl
seconds_middle x y (b ∷ before) later m = omega (arith, seconds_middle x y before later m)

none_second : (node : ℕ) (cover : Cover) (x y : ℕ) (rs : List ℕ) → seconds x y (map (message node 1 cover) rs) ≡ 0
unfolding seconds
none_second node cover x y [] = refl
none_second node cover x y (r ∷ rs) =
    let not_second : one (second_goes (message node 1 cover r) x y) ≡ 0 = grind (arith, nat_tests) in
    omega (arith, none_second node cover x y rs)

all_second : (node : ℕ) (cover : Cover) (x y : ℕ) (rs : List ℕ) → seconds x y (map (message node 2 cover) rs) ≡ flight x y (map (message node 2 cover) rs)
unfolding seconds flight
all_second node cover x y [] = refl
all_second node cover x y (r ∷ rs) =
    let so : one (second_goes (message node 2 cover r) x y) ≡ one (goes (message node 2 cover r) x y) = grind (arith, nat_tests) in
    omega (arith, all_second node cover x y rs)

pub seconds_first : (node : ℕ) (cover : Cover) (s : NodeSet) (x y : ℕ) → seconds x y (map (message node 1 cover) (members s)) ≡ 0
seconds_first node cover s x y = none_second node cover x y (members s)

pub seconds_second : (node : ℕ) (cover : Cover) (s : NodeSet) (x y : ℕ) → seconds x y (map (message node 2 cover) (members s)) ≡ one (eqb node x && has s y)
seconds_second node cover s x y = all_second node cover x y (members s) ∙ flight_sent node 2 cover s x y
