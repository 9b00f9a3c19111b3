-- The tree wave. Assumes nothing.
-- It runs where there is one link less than there are nodes. Kind 1 is a wake, kind 2 a token. A neighbour is silent
-- until its token notes it; a wake notes nobody. At its first event, the arrival noted, a node with at most one silent
-- neighbour sends its token to that one, or to the sender if none is silent; there it wakes every neighbour except the
-- sender and the token's receiver. Later it sends an unsent token when one neighbour is left silent. It decides on
-- noting the last silent neighbour. A starter without neighbours decides at its opening.
use Rattle.std.specs.Prelude.{ℕ, ◌+◌, ◌-◌, ◌*◌, Bool, true, false, cond, not, ◌&&◌, ◌||◌, ◌==◌}
use Rattle.base.specs.NodeSets.{has, no_nodes, size}
use Rattle.base.specs.declared.node_set.NodeSet.{NodeSet}
use Rattle.network.specs.declared.network.Network.{Network}
use Rattle.wave.specs.Lone.{Arrival, Opening}
use Rattle.wave.specs.declared.step.Record.{Record}
use Rattle.wave.specs.declared.step.Standing.{Standing}
use Rattle.wave.specs.declared.step.Standing.TheVariants.{Follower, Starter}
use Rattle.wave.specs.declared.step.Step.{Step}
use Rattle.rules.specs.Sets.{◌∖◌, if_so, is_empty, neighbours_of, only}

abbrev pub admitted : Network → Bool
admitted n = n.links + 1 == n.nodes

-- a token from each node, and a wake over each link but the one by which a node was reached, the starter's over all
abbrev pub most : Network → ℕ
most n = 2 * n.nodes - 1

-- a token notes its sender
abbrev pub still_silent : NodeSet → ℕ → ℕ → NodeSet
still_silent silent sender kind = silent ∖ if_so (kind == 2) (only sender)

-- the token notes the last silent neighbour
abbrev pub notes_last : NodeSet → ℕ → ℕ → Bool
notes_last silent sender kind = (kind == 2 && has silent sender) && is_empty (still_silent silent sender kind)

-- the receiver of a token: the one silent neighbour, or `back` where none is silent; nobody while more are silent
abbrev pub token_to : NodeSet → NodeSet → NodeSet
token_to silent back = cond (is_empty silent) back (if_so (size silent == 1) silent)

-- the first event of a node, where `reached` has the sender, and these neighbours are silent
abbrev pub first_event : NodeSet → Standing → NodeSet → NodeSet → Bool → Step
first_event around standing reached silent decides = record {
  kept = record { standing = standing; marked = silent; token_sent = not (is_empty (token_to silent reached)) };
  first_kind = around ∖ reached ∖ token_to silent reached;
  second_kind = token_to silent reached;
  decides = decides;
}

abbrev pub opening : Opening
opening n node = first_event (neighbours_of n node) Starter no_nodes (neighbours_of n node) (is_empty (neighbours_of n node))

-- the sender, if it is a neighbour
abbrev pub sender_of : NodeSet → ℕ → NodeSet
sender_of around sender = around ∖ (around ∖ only sender)

-- a later event: the token goes to the last silent neighbour, if it was not sent before
abbrev pub later_token : NodeSet → Record → NodeSet → NodeSet
later_token around kept silent = if_so (not kept.token_sent && size silent == 1) (around ∖ (around ∖ silent))

abbrev pub later_event : NodeSet → Record → NodeSet → Bool → Step
later_event around kept silent decides = record {
  kept = record { standing = kept.standing; marked = silent; token_sent = kept.token_sent || not (is_empty (later_token around kept silent)) };
  first_kind = no_nodes;
  second_kind = later_token around kept silent;
  decides = decides;
}

abbrev pub arrival : Arrival
arrival n node true kept sender kind = later_event (neighbours_of n node) kept (still_silent kept.marked sender kind) (notes_last kept.marked sender kind)
arrival n node false kept sender kind = first_event (neighbours_of n node) (Follower sender) (sender_of (neighbours_of n node) sender) (still_silent (neighbours_of n node) sender kind) (notes_last (neighbours_of n node) sender kind)
