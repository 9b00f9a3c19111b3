-- The rules of a network, and what makes two networks the same. Assumes nothing.
use Rattle.std.proofs.Common.{◌≡◌, ℕ, ◌*◌, ◌<◌, ◌≤◌, true, false, ◌&&◌, leb, List, [], length, get_or, take, None, Result, is_ok, sym, refl, ap, ◌∙◌, arith}
use mathlib.Core.Bool.{Bool-set}
use mathlib.Core.HLevel.{is_prop→PathP, Π_prop}
use mathlib.Core.Logic.{∥∥₁_prop}
use native.Mathlib.Bridge.{le_prop}
use native.Mathlib.Nat.{ℕ_set}
use Rattle.std.proofs.lemmas.List.{ext_get_or, get_or-take, length-take-le}
use Rattle.std.proofs.lemmas.Bool.{and_from, and_parts, both_ways, le-leb, leb-true}
use Rattle.std.proofs.lemmas.Option.{none-some}
use Rattle.std.specs.Bool.{Decides}
use Rattle.base.specs.declared.refusal.Refusal.{Refusal}
use Rattle.base.specs.NodeSets.{no_nodes}
use Rattle.base.specs.declared.node_set.NodeSet.{NodeSet}
use Rattle.base.proofs.Members.{same_members}
use Rattle.network.specs.Drawing.{Drawn}
use Rattle.network.specs.Links.{first_fault, joins, link_at, linked, no_link}
use Rattle.network.specs.Making.{Answered, Has, Lawful, bad_counts, bad_link, counts_fit, lawful, no_path}
use Rattle.network.specs.Paths.{Connected, Inside, Loopless, Symmetric, adjacent, degrees}
use Rattle.network.specs.declared.link.Link.{Link}
use Rattle.network.specs.declared.network.Network.{Network}
use Rattle.network.proofs.Faults.{Sound, linked_inside, linked_loopless, linked_none, linked_symmetric, no_fault, no_fault_at, none_linked}

-- ---- the rules, as refusals test them

pub lawful_from : (nodes : ℕ) (links : List Link) → counts_fit nodes links ≡ true → first_fault nodes [] links ≡ None → Connected nodes (linked links) → Lawful nodes links
lawful_from nodes links counts none connected = record {
  some = leb-true 1 nodes first.0;
  few = leb-true nodes 32 rest.0;
  thin = leb-true (length links) 96 rest.1;
  lower = λ k within. (sound k within).lower;
  inside = λ k within. (sound k within).inside;
  once = λ j k before within. earlier j k before within;
  connected = connected;
}
  where
    first : (leb 1 nodes ≡ true) × ((leb nodes 32 && leb (length links) 96) ≡ true)
    first = and_parts (leb 1 nodes) (leb nodes 32 && leb (length links) 96) counts

    rest : (leb nodes 32 ≡ true) × (leb (length links) 96 ≡ true)
    rest = and_parts (leb nodes 32) (leb (length links) 96) first.1

    sound : (k : ℕ) → k < length links → Sound nodes (linked (take k links)) (link_at links k)
    sound = no_fault_at nodes [] links none

    earlier : (j k : ℕ) → j < k → k < length links → joins (link_at links j) (link_at links k).first (link_at links k).second ≡ false
    earlier j k before within =
        let long = length-take-le k links (omega arith) in
        ap (λ l. joins l (link_at links k).first (link_at links k).second) (sym (get_or-take k links j no_link before)) ∙ none_linked (take k links) (link_at links k).first (link_at links k).second (sound k within).fresh j (omega arith)

pub counts_from : (nodes : ℕ) (links : List Link) → Lawful nodes links → counts_fit nodes links ≡ true
counts_from nodes links law = and_from _ _ (le-leb 1 nodes law.some) (and_from _ _ (le-leb nodes 32 law.few) (le-leb (length links) 96 law.thin))

pub none_from : (nodes : ℕ) (links : List Link) → Lawful nodes links → first_fault nodes [] links ≡ None
none_from nodes links law = no_fault nodes [] links (λ k within. record {
  lower = law.lower k within;
  inside = law.inside k within;
  fresh = linked_none (take k links) (link_at links k).first (link_at links k).second (λ j before.
      let long = length-take-le k links (omega arith) in
      let earlier : j < k = omega arith in
      ap (λ l. joins l (link_at links k).first (link_at links k).second) (get_or-take k links j no_link earlier) ∙ law.once j k earlier within);
})

-- a making that is answered as it must be accepts exactly what the rules admit
pub answered_accepted : (nodes : ℕ) (links : List Link) (r : Result (Unit {0}) Refusal) → Answered nodes links r → Decides (is_ok r) (Lawful nodes links)
answered_accepted nodes links r (bad_counts bad) = (λ e. absurd (both_ways true (sym e) refl), λ law. sym bad ∙ counts_from nodes links law)
answered_accepted nodes links r (bad_link {why} counts fault) = (λ e. absurd (both_ways true (sym e) refl), λ law. absurd (none-some why (sym (none_from nodes links law) ∙ fault)))
answered_accepted nodes links r (no_path counts none parted) = (λ e. absurd (both_ways true (sym e) refl), λ law. absurd (parted law.connected))
answered_accepted nodes links r (lawful counts none connected) = (λ _. lawful_from nodes links counts none connected, λ _. refl)

-- ---- a table on which links without a fault are drawn

module _ {table : List NodeSet} {links : List Link} (drawn : Drawn table links) where
  pub drawn_symmetric : Symmetric (adjacent table)
  drawn_symmetric a b = drawn.joined a b ∙ linked_symmetric links a b ∙ sym (drawn.joined b a)

  pub drawn_inside : (nodes : ℕ) → first_fault nodes [] links ≡ None → Inside nodes (adjacent table)
  drawn_inside nodes none a b past = drawn.joined a b ∙ linked_inside nodes links (λ k within. (no_fault_at nodes [] links none k within).lower) (λ k within. (no_fault_at nodes [] links none k within).inside) a b past

  pub drawn_loopless : (nodes : ℕ) → first_fault nodes [] links ≡ None → Loopless (adjacent table)
  drawn_loopless nodes none a = drawn.joined a a ∙ linked_loopless nodes links (λ k within. (no_fault_at nodes [] links none k within).lower) a

-- ---- the same network

-- a network is known by its nodes and by what its links join
pub same_network : (m n : Network) → m.nodes ≡ n.nodes → m.links ≡ n.links → ((a b : ℕ) → adjacent m.neighbours a b ≡ adjacent n.neighbours a b) → m ≡ n
same_network m n nodes links joined = λ i. record {
  nodes = nodes i;
  links = links i;
  neighbours = rows i;
  table = is_prop→PathP (λ j. length (rows j) ≡ 32) (λ j. ℕ_set (length (rows j)) 32) m.table n.table i;
  some = is_prop→PathP (λ j. 1 ≤ nodes j) (λ j. le_prop) m.some n.some i;
  few = is_prop→PathP (λ j. nodes j ≤ 32) (λ j. le_prop) m.few n.few i;
  thin = is_prop→PathP (λ j. links j ≤ 96) (λ j. le_prop) m.thin n.thin i;
  inside = is_prop→PathP (λ j. Inside (nodes j) (adjacent (rows j))) (λ j. Π_prop (λ a. Π_prop (λ b. Π_prop (λ past. Bool-set (adjacent (rows j) a b) false)))) m.inside n.inside i;
  symmetric = is_prop→PathP (λ j. Symmetric (adjacent (rows j))) (λ j. Π_prop (λ a. Π_prop (λ b. Bool-set (adjacent (rows j) a b) (adjacent (rows j) b a)))) m.symmetric n.symmetric i;
  loopless = is_prop→PathP (λ j. Loopless (adjacent (rows j))) (λ j. Π_prop (λ a. Bool-set (adjacent (rows j) a a) false)) m.loopless n.loopless i;
  counted = is_prop→PathP (λ j. degrees (rows j) ≡ 2 * links j) (λ j. ℕ_set (degrees (rows j)) (2 * links j)) m.counted n.counted i;
  connected = is_prop→PathP (λ j. Connected (nodes j) (adjacent (rows j))) (λ j. Π_prop (λ a. Π_prop (λ b. Π_prop (λ p. Π_prop (λ q. ∥∥₁_prop))))) m.connected n.connected i;
}
  where
    rows : m.neighbours ≡ n.neighbours
    rows = ext_get_or no_nodes m.neighbours n.neighbours (m.table ∙ sym n.table) (λ a within. same_members (get_or m.neighbours a no_nodes) (get_or n.neighbours a no_nodes) (joined a))

pub has_only : (m n : Network) (nodes : ℕ) (links : List Link) → Has m nodes links → Has n nodes links → m ≡ n
has_only m n nodes links first second = same_network m n (first.nodes_are ∙ sym second.nodes_are) (first.links_are ∙ sym second.links_are) (λ a b. first.joined a b ∙ sym (second.joined a b))
