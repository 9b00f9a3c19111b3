-- The laws of a wave. Assumes nothing.
use Rattle.std.specs.Prelude.{◌≡◌, ℕ, ◌<◌, ◌≤◌, Bool, true, List, [], ◌∷◌, length, ◌≢◌}
use Rattle.std.specs.List.{AllByRecursion}
use Rattle.base.specs.NodeSets.{has}
use Rattle.base.specs.declared.node_set.NodeSet.{NodeSet}
use Rattle.network.specs.Paths.{adjacent}
use Rattle.network.specs.declared.network.Network.{Network}
use Rattle.wave.specs.Lone.{Arrival, Decision, Lone, Opening, Run}
use Rattle.wave.specs.declared.step.Record.{Record}
use Rattle.wave.specs.declared.step.Step.{Step}

-- the nodes of a set are neighbours of the node
abbrev pub Neighbours : Network → ℕ → NodeSet → Type 0
Neighbours n node s = (i : ℕ) → has s i ≡ true → adjacent n.neighbours node i ≡ true

-- who gets a message of the step is a neighbour
pub record Names (n : Network) (node : ℕ) (step : Step) : Type 0 where
  pub first : Neighbours n node step.first_kind
  pub second : Neighbours n node step.second_kind

-- a step names neighbours only: for every network, node, record, sender and kind
pub record NamesNeighbours (opening : Opening) (arrival : Arrival) : Type 0 where
  pub opens : (n : Network) (node : ℕ) → Names n node (opening n node)
  pub arrives : (n : Network) (node : ℕ) (known : Bool) (kept : Record) (sender kind : ℕ) → Names n node (arrival n node known kept sender kind)

-- what holds in every state of every lone run on an admitted network
abbrev pub InEveryRun : (Network → Bool) → Opening → Arrival → (Network → Lone → Type 0) → Type 0
InEveryRun admitted opening arrival P = (n : Network) (s : ℕ) → admitted n ≡ true → s < n.nodes → (l : Lone) → Run opening arrival n s l → P n l

-- the messages sent so far number at most the bound
abbrev pub WithinBound : (Network → ℕ) → Network → Lone → Type 0
WithinBound bound n l = l.sent ≤ bound n

-- where no message is left, some node has decided
abbrev pub DecidesAtRest : Network → Lone → Type 0
DecidesAtRest n l = l.transit ≡ [] → 0 < length l.decisions

-- a node that decides has all nodes in its cover at that event
abbrev pub CoversAllNodes : Network → Lone → Type 0
CoversAllNodes n l = AllByRecursion (λ d. (i : ℕ) → i < n.nodes → d.cover i ≡ true) l.decisions

-- no node decides twice
abbrev pub Apart : List Decision → Type 0
Apart [] = Unit {0}
Apart (d ∷ ds) = AllByRecursion (λ e. e.node ≢ d.node) ds × Apart ds

abbrev pub DecidesOnce : Network → Lone → Type 0
DecidesOnce n l = Apart l.decisions

-- ---- a wave that keeps all laws

pub record KeepsLaws (admitted : Network → Bool) (most : Network → ℕ) (opening : Opening) (arrival : Arrival) : Type 0 where
  pub small_bound : (n : Network) → most n ≤ 1000000
  pub names_neighbours : NamesNeighbours opening arrival
  pub within_bound : InEveryRun admitted opening arrival (WithinBound most)
  pub decides_at_rest : InEveryRun admitted opening arrival DecidesAtRest
  pub covers_all_nodes : InEveryRun admitted opening arrival CoversAllNodes
  pub decides_once : InEveryRun admitted opening arrival DecidesOnce
