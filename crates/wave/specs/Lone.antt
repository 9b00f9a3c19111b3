-- The lone run of a wave from one node: an opening, and then deliveries in any order. Assumes nothing.
use Rattle.std.specs.Prelude.{◌≡◌, ℕ, ◌+◌, Bool, false, cond, ◌||◌, List, [], ◌∷◌, ◌++◌, map, length, is_some, Some, None, Option, ◌==◌, nat_eq}
use Rattle.std.specs.Option.{unwrap_or}
use Rattle.base.specs.NodeSets.{members, no_nodes}
use Rattle.network.specs.declared.network.Network.{Network}
use Rattle.wave.specs.declared.step.Record.{Record}
use Rattle.wave.specs.declared.step.Standing.TheVariants.{Starter}
use Rattle.wave.specs.declared.step.Step.{Step}

-- what a wave does where a node starts, and where a message arrives: network, node, whether the node has
-- a record in this wave and which, the sending neighbour and the kind
abbrev pub Opening : Type 0
Opening = Network → ℕ → Step

abbrev pub Arrival : Type 0
Arrival = Network → ℕ → Bool → Record → ℕ → ℕ → Step

-- a set of nodes, by its members
abbrev pub Cover : Type 0
Cover = ℕ → Bool

-- a message under way
pub record Message : Type 0 where
  pub sender : ℕ
  pub receiver : ℕ
  pub kind : ℕ
  pub cover : Cover

-- a node that decided, and its cover at that event
pub record Decision : Type 0 where
  pub node : ℕ
  pub cover : Cover

pub record Lone : Type 0 where
  -- each node's record, or none before its first event
  pub records : ℕ → Option Record
  pub covers : ℕ → Cover
  pub transit : List Message
  -- how many messages were sent so far
  pub sent : ℕ
  -- the decisions, the newest first
  pub decisions : List Decision

-- f, but a at the node
abbrev pub at_node : {A : Type 0} → (ℕ → A) → ℕ → A → ℕ → A
at_node f node a i = cond (i == node) a (f i)

-- ---- what a step sends

abbrev pub message : ℕ → ℕ → Cover → ℕ → Message
message sender kind cover receiver = record { sender = sender; receiver = receiver; kind = kind; cover = cover }

-- kind 1 by ascending neighbour, then kind 2, each with the node's new cover
abbrev pub messages : ℕ → Step → Cover → List Message
messages node step cover = map (message node 1 cover) (members step.first_kind) ++ map (message node 2 cover) (members step.second_kind)

-- ---- events

-- a node takes a step with its new cover, where `left` is still in transit
abbrev pub stepped : Lone → List Message → ℕ → Cover → Step → Lone
stepped l left node cover step = record {
  records = at_node l.records node (Some step.kept);
  covers = at_node l.covers node cover;
  transit = left ++ messages node step cover;
  sent = l.sent + length (messages node step cover);
  decisions = cond step.decides (record { node = node; cover = cover } ∷ l.decisions) l.decisions;
}

abbrev pub nothing_yet : Lone
nothing_yet = record { records = λ _. None; covers = λ _ _. false; transit = []; sent = 0; decisions = [] }

-- what is handed in beside the word that there is no record
abbrev pub blank : Record
blank = record { standing = Starter; marked = no_nodes; token_sent = false }

abbrev pub opened : Opening → Network → ℕ → Lone
opened opening n s = stepped nothing_yet [] s (λ i. nat_eq i s) (opening n s)

-- the receiver's cover gains itself and the message's cover
abbrev pub gained : Lone → Message → Cover
gained l m i = i == m.receiver || (l.covers m.receiver i || m.cover i)

-- the step of the receiver of m
abbrev pub step_at : Arrival → Network → Lone → Message → Step
step_at arrival n l m = arrival n m.receiver (is_some (l.records m.receiver)) (unwrap_or (l.records m.receiver) blank) m.sender m.kind

-- m is delivered, and the others are left
abbrev pub delivered : Arrival → Network → Lone → List Message → Message → Lone
delivered arrival n l left m = stepped l left m.receiver (gained l m) (step_at arrival n l m)

-- the states of the lone run from s: any list of deliveries, each of any one message
pub data Run (opening : Opening) (arrival : Arrival) (n : Network) (s : ℕ) : Lone → Type 0 where
  opens : Run opening arrival n s (opened opening n s)
  delivers : {l : Lone} → Run opening arrival n s l → (before later : List Message) (m : Message) → l.transit ≡ before ++ (m ∷ later) → Run opening arrival n s (delivered arrival n l (before ++ later) m)
