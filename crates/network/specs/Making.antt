-- What making a network answers, and what it leaves. Assumes nothing.
use Rattle.std.specs.Prelude.{◌≡◌, ℕ, ◌<◌, ◌≤◌, Bool, true, false, ◌&&◌, List, [], length, Some, None, Ok, Err, Result, nat_le}
use Rattle.base.specs.declared.refusal.Refusal.{Refusal}
use Rattle.base.specs.declared.refusal.Refusal.TheVariants.{CountOutOfRange, NoPath}
use Rattle.network.specs.Links.{first_fault, joins, link_at, linked}
use Rattle.network.specs.Paths.{Connected, adjacent}
use Rattle.network.specs.declared.link.Link.{Link}
use Rattle.network.specs.declared.network.Network.{Network}

-- The rules for nodes and links that make a network.
pub record Lawful (nodes : ℕ) (links : List Link) : Type 0 where
  pub some : 1 ≤ nodes
  pub few : nodes ≤ 32
  pub thin : length links ≤ 96
  pub lower : (k : ℕ) → k < length links → (link_at links k).first < (link_at links k).second
  pub inside : (k : ℕ) → k < length links → (link_at links k).second < nodes
  pub once : (j k : ℕ) → j < k → k < length links → joins (link_at links j) (link_at links k).first (link_at links k).second ≡ false
  pub connected : Connected nodes (linked links)

-- ---- the refusals, in their order

abbrev pub counts_fit : ℕ → List Link → Bool
counts_fit nodes links = nat_le 1 nodes && (nat_le nodes 32 && nat_le (length links) 96)

-- the answer to a making: the first of these that applies
pub data Answered (nodes : ℕ) (links : List Link) : Result (Unit {0}) Refusal → Type 0 where
  bad_counts : counts_fit nodes links ≡ false → Answered nodes links (Err CountOutOfRange)
  bad_link : {why : Refusal} → counts_fit nodes links ≡ true → first_fault nodes [] links ≡ Some why → Answered nodes links (Err why)
  no_path : counts_fit nodes links ≡ true → first_fault nodes [] links ≡ None → (Connected nodes (linked links) → ⊥) → Answered nodes links (Err NoPath)
  lawful : counts_fit nodes links ≡ true → first_fault nodes [] links ≡ None → Connected nodes (linked links) → Answered nodes links (Ok tt)

-- ---- what is left

-- a network with exactly these nodes and links
pub record Has (network : Network) (nodes : ℕ) (links : List Link) : Type 0 where
  pub nodes_are : network.nodes ≡ nodes
  pub links_are : network.links ≡ length links
  pub joined : (a b : ℕ) → adjacent network.neighbours a b ≡ linked links a b
