-- Sets of nodes as values, for the rules of waves. Assumes nothing.
use Rattle.std.specs.Prelude.{ℕ, Bool, cond, List, [], ◌∷◌, ◌==◌, slice_index_or}
use Rattle.base.specs.NodeSets.{members, no_nodes}
use Rattle.base.specs.declared.node_set.NodeSet.{NodeSet}
use Rattle.network.specs.declared.network.Network.{Network}
-- the set of one node, both sets' members, and the one's that are not the other's
unfoldable pub use Rattle.base.specs.NodeSets.{◌∖◌, ◌∪◌, only}

abbrev pub is_empty : NodeSet → Bool
is_empty s = s.bits == 0

-- the set, or none where the test fails
abbrev pub if_so : Bool → NodeSet → NodeSet
if_so test s = cond test s no_nodes

-- the set of the lowest member alone
abbrev pub first_of : List ℕ → NodeSet
first_of [] = no_nodes
first_of (i ∷ _) = only i

abbrev pub lowest_of : NodeSet → NodeSet
lowest_of s = first_of (members s)

abbrev pub neighbours_of : Network → ℕ → NodeSet
neighbours_of n node = slice_index_or n.neighbours node no_nodes
