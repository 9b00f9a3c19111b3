-- What is kept for each node, and its change at one of them. Assumes nothing.
use Rattle.std.proofs.Common.{◌≡◌, ℕ, ◌+◌, ◌<◌, true, cond, ◌&&◌, eqb, List, [], ◌∷◌, ◌++◌, map, length, refl, ap, ◌∙◌, ap₂, arith, length-append}
use lib.ListN.{length-map}
use Rattle.std.specs.List.{AllByRecursion}
use Rattle.std.proofs.ByRecursion.{All-append, All-map, All-weaker}
use Rattle.std.proofs.lemmas.Bool.{and_from, eq-eqb, ne_eqb}
use Rattle.base.specs.NodeSets.{has, members, size}
use Rattle.base.proofs.Members.{members_all}
use Rattle.wave.specs.Lone.{Cover, Message, at_node, message, messages}
use Rattle.wave.specs.declared.step.Standing.TheVariants.{Follower, Starter}
use Rattle.wave.specs.declared.step.Step.{Step}
use Rattle.rules.specs.Sums.{one}
use Rattle.rules.proofs.Flights.{flight, flight_append, flight_sent, goes, seconds, seconds_append, seconds_first, seconds_second}

module _ {A : Type 0} (f : ℕ → A) (node : ℕ) (a : A) where
  pub at_here : (i : ℕ) → i ≡ node → at_node f node a i ≡ a
  at_here i e = ap (λ v. cond v a (f i)) (eq-eqb i node e)

  pub at_other : (i : ℕ) → (i ≡ node → ⊥) → at_node f node a i ≡ f i
  at_other i other = ap (λ v. cond v a (f i)) (ne_eqb i node other)

pub starter_follower : (p : ℕ) → Starter ≡ Follower p → ⊥
starter_follower p e = let z : ◌≡◌ {A = ℕ} 0 1 = cc in omega arith

-- ---- how many messages a step sends

pub messages_length : (node : ℕ) (step : Step) (cover : Cover) → length (messages node step cover) ≡ size step.first_kind + size step.second_kind
messages_length node step cover =
    length-append (map (message node 1 cover) (members step.first_kind)) (map (message node 2 cover) (members step.second_kind)) ∙ ap₂ ◌+◌ (length-map (members step.first_kind) (message node 1 cover)) (length-map (members step.second_kind) (message node 2 cover))

pub messages_flight : (node : ℕ) (step : Step) (cover : Cover) (x y : ℕ) → flight x y (messages node step cover) ≡ one (eqb node x && has step.first_kind y) + one (eqb node x && has step.second_kind y)
messages_flight node step cover x y =
    flight_append x y (map (message node 1 cover) (members step.first_kind)) (map (message node 2 cover) (members step.second_kind)) ∙ ap₂ ◌+◌ (flight_sent node 1 cover step.first_kind x y) (flight_sent node 2 cover step.second_kind x y)

-- what holds of every message that a step sends
pub messages_all : (P : Message → Type 0) (node : ℕ) (step : Step) (cover : Cover) → ((kind receiver : ℕ) → P (message node kind cover receiver)) → AllByRecursion P (messages node step cover)
messages_all P node step cover each = All-append P (map (message node 1 cover) (members step.first_kind)) (map (message node 2 cover) (members step.second_kind)) (All-map P (message node 1 cover) (members step.first_kind) (every (members step.first_kind) 1)) (All-map P (message node 2 cover) (members step.second_kind) (every (members step.second_kind) 2))
  where
    every : (xs : List ℕ) (kind : ℕ) → AllByRecursion (λ y. P (message node kind cover y)) xs
    every [] kind = tt
    every (x ∷ xs) kind = (each kind x, every xs kind)

-- what holds of the messages to the members of each set
pub messages_each : (P : Message → Type 0) (node : ℕ) (step : Step) (cover : Cover) → ((i : ℕ) → has step.first_kind i ≡ true → P (message node 1 cover i)) → ((i : ℕ) → has step.second_kind i ≡ true → P (message node 2 cover i)) → AllByRecursion P (messages node step cover)
messages_each P node step cover first second = All-append P (map (message node 1 cover) (members step.first_kind)) (map (message node 2 cover) (members step.second_kind)) (All-map P (message node 1 cover) (members step.first_kind) (All-weaker (λ i. has step.first_kind i ≡ true) (λ i. P (message node 1 cover i)) first (members step.first_kind) (members_all step.first_kind))) (All-map P (message node 2 cover) (members step.second_kind) (All-weaker (λ i. has step.second_kind i ≡ true) (λ i. P (message node 2 cover i)) second (members step.second_kind) (members_all step.second_kind)))

pub messages_seconds : (node : ℕ) (step : Step) (cover : Cover) (x y : ℕ) → seconds x y (messages node step cover) ≡ one (eqb node x && has step.second_kind y)
messages_seconds node step cover x y =
    seconds_append x y (map (message node 1 cover) (members step.first_kind)) (map (message node 2 cover) (members step.second_kind)) ∙ ap₂ ◌+◌ (seconds_first node cover step.first_kind x y) (seconds_second node cover step.second_kind x y) ∙ omega arith

-- ---- lists of messages

-- each message of a list is counted in it
pub all_fly : (ms : List Message) → AllByRecursion (λ m. 0 < flight m.sender m.receiver ms) ms
unfolding flight
all_fly [] = tt
all_fly (m ∷ ms) =
    let itself : one (goes m m.sender m.receiver) ≡ 1 = ap one (and_from _ _ (eq-eqb m.sender m.sender refl) (eq-eqb m.receiver m.receiver refl)) in
    (omega arith, All-weaker (λ k. 0 < flight k.sender k.receiver ms) (λ k. 0 < flight k.sender k.receiver (m ∷ ms)) (λ k flies. omega arith) ms (all_fly ms))

pub all_both : {X : Type 0} (P Q R : X → Type 0) → ((x : X) → P x → Q x → R x) → (xs : List X) → AllByRecursion P xs → AllByRecursion Q xs → AllByRecursion R xs
all_both P Q R joins [] ps qs = tt
all_both P Q R joins (x ∷ xs) ps qs = (joins x ps.0 qs.0, all_both P Q R joins xs ps.1 qs.1)

-- what holds of all but one, and of that one
pub all_middle : {X : Type 0} (P : X → Type 0) (before later : List X) (x : X) → AllByRecursion P (before ++ (x ∷ later)) → P x × AllByRecursion P (before ++ later)
all_middle P [] later x all = (all.0, all.1)
all_middle P (b ∷ before) later x all = let rest = all_middle P before later x all.1 in (rest.0, (all.0, rest.1))
