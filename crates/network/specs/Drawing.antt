-- A table of neighbours on which links are drawn. Assumes nothing.
use Rattle.std.specs.Prelude.{◌≡◌, ℕ, ◌*◌, List, length}
use Rattle.base.specs.declared.node_set.NodeSet.{NodeSet}
use Rattle.network.specs.Links.{linked}
use Rattle.network.specs.Paths.{adjacent, degrees}
use Rattle.network.specs.declared.link.Link.{Link}

-- the table has exactly the links, and each of them once
pub record Drawn (table : List NodeSet) (links : List Link) : Type 0 where
  pub rows : length table ≡ 32
  pub joined : (a b : ℕ) → adjacent table a b ≡ linked links a b
  pub counted : degrees table ≡ 2 * length links
