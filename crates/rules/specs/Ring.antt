-- The ring wave. Assumes nothing.
-- It runs on networks of one or two nodes and on those where each node has two neighbours. The starter sends kind 1
-- to its lowest neighbour. A follower passes each arrival on as kind 1 to its other neighbour, or back if it has one
-- only. The starter decides on arrival. A starter without neighbours decides at its opening.
use Rattle.std.specs.Prelude.{ℕ, zero, suc, Bool, true, false, cond, ◌&&◌, ◌||◌, ◌==◌, nat_le}
use Rattle.base.specs.NodeSets.{has, no_nodes, size}
use Rattle.base.specs.declared.node_set.NodeSet.{NodeSet}
use Rattle.network.specs.declared.network.Network.{Network}
use Rattle.wave.specs.Lone.{Arrival, Opening}
use Rattle.wave.specs.declared.step.Record.{Record}
use Rattle.wave.specs.declared.step.Standing.{Standing}
use Rattle.wave.specs.declared.step.Standing.TheVariants.{Follower, Starter}
use Rattle.wave.specs.declared.step.Step.{Step}
use Rattle.rules.specs.Joining.{joined_as}
use Rattle.rules.specs.Sets.{◌∖◌, if_so, is_empty, lowest_of, neighbours_of, only}

-- each of the nodes below k has two neighbours
abbrev pub two_each : Network → ℕ → Bool
two_each n zero = true
two_each n (suc k) = size (neighbours_of n k) == 2 && two_each n k

abbrev pub admitted : Network → Bool
admitted n = nat_le n.nodes 2 || two_each n n.nodes

-- one message from each node
abbrev pub most : Network → ℕ
most n = n.nodes

-- what the starter keeps
abbrev pub starter : Record
starter = joined_as Starter

abbrev pub opening : Opening
opening n node = record {
  kept = starter;
  first_kind = lowest_of (neighbours_of n node);
  second_kind = no_nodes;
  decides = is_empty (neighbours_of n node);
}

-- the other neighbour, or the sender where there is no other
abbrev pub onward : NodeSet → ℕ → NodeSet
onward around sender = cond (is_empty (around ∖ only sender)) (if_so (has around sender) (only sender)) (lowest_of (around ∖ only sender))

-- an arrival at a node with this record
abbrev pub passed : NodeSet → Record → ℕ → Standing → Step
passed around kept sender Starter = record { kept = kept; first_kind = no_nodes; second_kind = no_nodes; decides = true }
passed around kept sender (Follower parent) = record { kept = kept; first_kind = onward around sender; second_kind = no_nodes; decides = false }

abbrev pub follower : ℕ → Record
follower sender = joined_as (Follower sender)

abbrev pub arrival : Arrival
arrival n node true kept sender kind = passed (neighbours_of n node) kept sender kept.standing
arrival n node false kept sender kind = passed (neighbours_of n node) (follower sender) sender (Follower sender)
