-- The way of a ring wave: the nodes that it reached, one after the other. Assumes nothing.
use Rattle.std.proofs.Common.{◌≡◌, ℕ, ◌<◌, ◌≤◌, true, false, List, [], ◌∷◌, length, sym, refl, ap, ◌∙◌, ap₂, ⊎_elim, arith}
use Rattle.std.specs.List.{AllByRecursion}
use Rattle.std.proofs.lemmas.Bool.{both_ways, cases_eq, false≢true}
use Rattle.network.specs.Paths.{adjacent}
use Rattle.network.specs.declared.network.Network.{Network}
use Rattle.rules.specs.Ring.{admitted}
use Rattle.rules.specs.Sets.{neighbours_of}
use Rattle.rules.proofs.Lists.{Distinct, among, among_apart, among_cases, among_here, among_later, distinct_most}
use Rattle.rules.proofs.Neighbours.{Closed, joined_back, joined_below, joined_other}
use Rattle.rules.proofs.RingSteps.{Next, next_of}

-- the starter sends to its first neighbour
pub record Begins (n : Network) (start first node to : ℕ) : Type 0 where
  pub starts : node ≡ start
  pub goes : to ≡ first
  pub link : adjacent n.neighbours node to ≡ true

-- a node that the wave reaches for the first time, from the last of the earlier ones, sends on
pub record Passes (n : Network) (from : ℕ) (earlier : List ℕ) (node to : ℕ) : Type 0 where
  pub fresh : among (from ∷ earlier) node ≡ false
  pub next : Next (neighbours_of n node) from to
  pub lone : to ≡ from → n.nodes ≤ 2

-- the wave from `start` went through the earlier nodes, the newest first, and then `node`, and goes on to `to`
abbrev pub Walk : Network → ℕ → ℕ → List ℕ → ℕ → ℕ → Type 0
Walk n start first [] node to = Begins n start first node to
Walk n start first (from ∷ earlier) node to = Passes n from earlier node to × Walk n start first earlier from node

module _ (n : Network) (start first : ℕ) (start_node : start < n.nodes) where
  pub link_on : (earlier : List ℕ) (node to : ℕ) → Walk n start first earlier node to → adjacent n.neighbours node to ≡ true
  link_on [] node to w = w.link
  link_on (from ∷ earlier) node to w = w.0.next.member

  pub has_start : (earlier : List ℕ) (node to : ℕ) → Walk n start first earlier node to → among (node ∷ earlier) start ≡ true
  has_start [] node to w = among_here node [] start (sym w.starts)
  has_start (from ∷ earlier) node to w = among_later node (from ∷ earlier) start (has_start earlier from node w.1)

  has_first : (earlier : List ℕ) (node to : ℕ) → Walk n start first earlier node to → among (to ∷ (node ∷ earlier)) first ≡ true
  has_first [] node to w = among_here to (node ∷ []) first (sym w.goes)
  has_first (from ∷ earlier) node to w = among_later to (node ∷ (from ∷ earlier)) first (has_first earlier from node w.1)

  pub node_below : (earlier : List ℕ) (node to : ℕ) → Walk n start first earlier node to → node < n.nodes
  node_below [] node to w = omega (arith, w.starts)
  node_below (from ∷ earlier) node to w = joined_below n from node (link_on earlier from node w.1)

  first_link : (earlier : List ℕ) (node to : ℕ) → Walk n start first earlier node to → adjacent n.neighbours start first ≡ true
  first_link [] node to w = ap₂ (adjacent n.neighbours) (sym w.starts) (sym w.goes) ∙ w.link
  first_link (from ∷ earlier) node to w = first_link earlier from node w.1

  -- the neighbours of a node that the wave went through, but the starter, are reached with the next message
  inner : (earlier : List ℕ) (node to : ℕ) → Walk n start first earlier node to → (v i : ℕ) → among (node ∷ earlier) v ≡ true → (v ≡ start → ⊥) → adjacent n.neighbours v i ≡ true → among (to ∷ (node ∷ earlier)) i ≡ true
  inner [] node to w v i there other link = ⊎_elim (λ here. absurd (other (here ∙ w.starts))) (λ none. absurd (false≢true none)) (among_cases node [] v there)
  inner (from ∷ earlier) node to w v i there other link = ⊎_elim at_node (λ later. among_later to (node ∷ (from ∷ earlier)) i (inner earlier from node w.1 v i later other link)) (among_cases node (from ∷ earlier) v there)
    where
      at_node : v ≡ node → among (to ∷ (node ∷ (from ∷ earlier))) i ≡ true
      at_node here = ⊎_elim
          (λ back. among_later to (node ∷ (from ∷ earlier)) i (among_later node (from ∷ earlier) i (among_here from earlier i back)))
          (λ not_back. among_here to (node ∷ (from ∷ earlier)) i (w.0.next.other i (ap (λ a. adjacent n.neighbours a i) (sym here) ∙ link) not_back))
          (cases_eq i from)

  -- a node that the wave reaches again is the starter
  pub again : (earlier : List ℕ) (node to : ℕ) → Walk n start first earlier node to → among (node ∷ earlier) to ≡ true → to ≡ start
  again [] node to w there = ⊎_elim (λ here. absurd (joined_other n node to w.link (sym here))) (λ none. absurd (false≢true none)) (among_cases node [] to there)
  again (from ∷ earlier) node to w there = ⊎_elim (λ here. absurd (joined_other n node to link (sym here))) (λ later. ⊎_elim back (long earlier w.1 w.0.fresh) (among_cases from earlier to later)) (among_cases node (from ∷ earlier) to there)
    where
      link : adjacent n.neighbours node to ≡ true
      link = w.0.next.member

      back : to ≡ from → to ≡ start
      back same = omega (arith, w.0.lone same, joined_below n node to link, joined_other n node to link, node_below (from ∷ earlier) node to w, among_apart (from ∷ earlier) start node (has_start earlier from node w.1) w.0.fresh)

      long : (earlier : List ℕ) → Walk n start first earlier from node → among (from ∷ earlier) node ≡ false → among earlier to ≡ true → to ≡ start
      long [] w fresh none = absurd (false≢true none)
      long (before ∷ earlier) w fresh there = ⊎_elim (λ same. same) (λ other. absurd (both_ways (among (from ∷ (before ∷ earlier)) node) fresh (inner earlier before from w.1 to node there other (joined_back n node to link)))) (cases_eq to start)

  -- where the wave comes back from the starter's first neighbour, there are two nodes
  back_at_once : (from : ℕ) (earlier : List ℕ) (node : ℕ) → Walk n start first (from ∷ earlier) node start → first ≡ node → n.nodes ≤ 2
  back_at_once from [] node w same = w.0.lone (sym w.1.starts)
  back_at_once from (before ∷ earlier) node w same = absurd (among_apart (from ∷ (before ∷ earlier)) first node (has_first earlier before from w.1.1) w.0.fresh same)

  -- where the wave comes back, the nodes that it went through are closed under neighbours
  pub closed_again : (earlier : List ℕ) (node : ℕ) → admitted n ≡ true → Walk n start first earlier node start → Closed n (among (node ∷ earlier))
  closed_again earlier node admits w a b there link = ⊎_elim (λ is_start. at_start earlier w (ap (λ v. adjacent n.neighbours v b) (sym is_start) ∙ link)) elsewhere (cases_eq a start)
    where
      elsewhere : (a ≡ start → ⊥) → among (node ∷ earlier) b ≡ true
      elsewhere other = ⊎_elim (λ is_start. ap (among (node ∷ earlier)) is_start ∙ has_start earlier node start w) (λ in_List. in_List) (among_cases start (node ∷ earlier) b (inner earlier node start w a b there other link))

      at_start : (earlier : List ℕ) → Walk n start first earlier node start → adjacent n.neighbours start b ≡ true → among (node ∷ earlier) b ≡ true
      at_start [] w link = absurd (joined_other n node start w.link w.starts)
      at_start (from ∷ earlier) w link = ⊎_elim (among_here node (from ∷ earlier) b) not_node (cases_eq b node)
        where
          node_link : adjacent n.neighbours start node ≡ true
          node_link = joined_back n node start (link_on (from ∷ earlier) node start w)

          not_node : (b ≡ node → ⊥) → among (node ∷ (from ∷ earlier)) b ≡ true
          not_node other = ⊎_elim two_nodes is_first (cases_eq first node)
            where
              two_nodes : first ≡ node → among (node ∷ (from ∷ earlier)) b ≡ true
              two_nodes same = absurd (omega (arith, back_at_once from earlier node w same, joined_below n start b link, joined_other n start b link, joined_other n start node node_link, node_below (from ∷ earlier) node start w))

              is_first : (first ≡ node → ⊥) → among (node ∷ (from ∷ earlier)) b ≡ true
              is_first apart =
                  let next = next_of n admits start node node_link in
                  let same : b ≡ first = next.1.other b link other ∙ sym (next.1.other first (first_link earlier from node w.1) apart) in
                  ap (among (node ∷ (from ∷ earlier))) same ∙ has_first earlier from node w.1

  -- ---- how long the way is

  no_repeats : (earlier : List ℕ) (node to : ℕ) → Walk n start first earlier node to → Distinct (node ∷ earlier)
  no_repeats [] node to w = (refl, tt)
  no_repeats (from ∷ earlier) node to w = (w.0.fresh, no_repeats earlier from node w.1)

  all_below : (earlier : List ℕ) (node to : ℕ) → Walk n start first earlier node to → AllByRecursion (λ i. i < n.nodes) (node ∷ earlier)
  all_below [] node to w = (node_below [] node to w, tt)
  all_below (from ∷ earlier) node to w = (node_below (from ∷ earlier) node to w, all_below earlier from node w.1)

  -- it went through no more than all nodes
  pub walk_most : (earlier : List ℕ) (node to : ℕ) → Walk n start first earlier node to → length (node ∷ earlier) ≤ n.nodes
  walk_most earlier node to w = distinct_most n.nodes (node ∷ earlier) (no_repeats earlier node to w) (all_below earlier node to w)
