-- The echo wave. Assumes nothing.
-- It runs on every network. The starter sends kind 1 to all neighbours. An arrival notes its sender. A follower's
-- first arrival sends kind 1 to all neighbours but the sender. On noting the last neighbour a follower sends kind 1
-- to the one that first reached it, and a starter decides. A starter without neighbours decides at its opening.
use Rattle.std.specs.Prelude.{ℕ, ◌*◌, Bool, true, false, not, ◌&&◌}
use Rattle.base.specs.NodeSets.{has, no_nodes}
use Rattle.base.specs.declared.node_set.NodeSet.{NodeSet}
use Rattle.network.specs.declared.network.Network.{Network}
use Rattle.wave.specs.Lone.{Arrival, Opening}
use Rattle.wave.specs.declared.step.Record.{Record}
use Rattle.wave.specs.declared.step.Standing.{Standing}
use Rattle.wave.specs.declared.step.Standing.TheVariants.{Follower, Starter}
use Rattle.wave.specs.declared.step.Step.{Step}
use Rattle.rules.specs.Joining.{joined_as}
use Rattle.rules.specs.Sets.{◌∖◌, ◌∪◌, if_so, is_empty, neighbours_of, only}

abbrev pub admitted : Network → Bool
admitted n = true

-- one message along each link either way
abbrev pub most : Network → ℕ
most n = 2 * n.links

abbrev pub opening : Opening
opening n node = record {
  kept = joined_as Starter;
  first_kind = neighbours_of n node;
  second_kind = no_nodes;
  decides = is_empty (neighbours_of n node);
}

abbrev pub is_starter : Standing → Bool
is_starter Starter = true
is_starter (Follower parent) = false

-- the one that first reached a follower
abbrev pub parent_of : Standing → NodeSet
parent_of Starter = no_nodes
parent_of (Follower parent) = only parent

-- the arrival notes the last neighbour
abbrev pub notes_last : NodeSet → NodeSet → ℕ → Bool
notes_last around noted sender = (has around sender && not (has noted sender)) && is_empty (around ∖ (noted ∪ only sender))

-- a node that stood so and had noted these notes the sender; `onward` gets the wave besides
abbrev pub noting : NodeSet → Record → ℕ → NodeSet → Step
noting around kept sender onward = record {
  kept = record { standing = kept.standing; marked = kept.marked ∪ if_so (has around sender) (only sender); token_sent = kept.token_sent };
  first_kind = onward ∪ if_so (notes_last around kept.marked sender) (around ∖ (around ∖ parent_of kept.standing));
  second_kind = no_nodes;
  decides = notes_last around kept.marked sender && is_starter kept.standing;
}

abbrev pub follower : ℕ → Record
follower sender = joined_as (Follower sender)

abbrev pub arrival : Arrival
arrival n node true kept sender kind = noting (neighbours_of n node) kept sender no_nodes
arrival n node false kept sender kind = noting (neighbours_of n node) (follower sender) sender (neighbours_of n node ∖ only sender)
