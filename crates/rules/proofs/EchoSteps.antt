-- The steps of the echo wave, by what a record says. Assumes nothing.
use Rattle.std.proofs.Common.{◌≡◌, ℕ, ◌+◌, Bool, true, false, not, ◌&&◌, ◌||◌, eqb, is_some, Some, None, Option, unwrap_or, refl, ap, ◌∙◌, ap₂, ⊎_elim}
use Rattle.std.proofs.lemmas.Bool.{both_ways, cases_Bool}
use Rattle.base.specs.NodeSets.{has, no_nodes}
use Rattle.base.specs.declared.node_set.NodeSet.{NodeSet}
use Rattle.base.proofs.Members.{member_below}
use Rattle.network.specs.declared.network.Network.{Network}
use Rattle.wave.specs.Lone.{blank}
use Rattle.wave.specs.declared.step.Record.{Record}
use Rattle.wave.specs.declared.step.Standing.{Standing}
use Rattle.wave.specs.declared.step.Standing.TheVariants.{Follower, Starter}
use Rattle.wave.specs.declared.step.Step.{Step}
use Rattle.rules.specs.Echo.{arrival, follower, is_starter, notes_last, noting, parent_of}
use Rattle.rules.specs.Sets.{◌∖◌, ◌∪◌, if_so, is_empty, neighbours_of, only}
use Rattle.rules.specs.Sums.{one}
use Rattle.rules.proofs.SetLaws.{empty_none, has_back, has_if, has_minus, has_node, has_none, has_union}

-- ---- what a record says

-- a node with this record has noted i
abbrev pub noted : Option Record → ℕ → Bool
noted None i = false
noted (Some r) i = has r.marked i

-- it has noted all neighbours
abbrev pub full : Network → ℕ → Record → Bool
full n node r = is_empty (neighbours_of n node ∖ r.marked)

-- it has sent to i what it sends at once
abbrev pub sent_at_once : Standing → ℕ → Bool
sent_at_once Starter i = true
sent_at_once (Follower parent) i = not (eqb i parent)

-- it has sent to i
abbrev pub sent_to : Network → ℕ → Option Record → ℕ → Bool
sent_to n node None i = false
sent_to n node (Some r) i = has (neighbours_of n node) i && (sent_at_once r.standing i || full n node r)

-- ---- an arrival that notes its sender

-- What a node's event changes: it notes the sender, and `first` is what it sends now.
pub record Notes (n : Network) (node : ℕ) (old : Option Record) (sender : ℕ) (new : Record) (first : NodeSet) : Type 0 where
  pub marks : (i : ℕ) → has new.marked i ≡ (noted old i || eqb i sender)
  pub sends : (i : ℕ) → one (has first i) + one (sent_to n node old i) ≡ one (sent_to n node (Some new) i)

back_of : (s : NodeSet) (st : Standing) (i : ℕ) → has (s ∖ (s ∖ parent_of st)) i ≡ (has s i && not (sent_at_once st i))
back_of s Starter i = has_minus s (s ∖ no_nodes) i ∙ ap (λ v. has s i && not v) (has_minus s no_nodes i ∙ ap (λ v. has s i && not v) (has_none i)) ∙ none (has s i)
  where
    none : (v : Bool) → (v && not (v && not false)) ≡ (v && not true)
    none true = refl
    none false = refl
back_of s (Follower parent) i = has_back s parent i ∙ twice (has s i) (eqb i parent)
  where
    twice : (v w : Bool) → (v && w) ≡ (v && not (not w))
    twice true true = refl
    twice true false = refl
    twice false w = refl

sent_later : (around at_once last : Bool) → one (last && (around && not at_once)) + one (around && (at_once || false)) ≡ one (around && (at_once || last))
sent_later true true true = refl
sent_later true true false = refl
sent_later true false true = refl
sent_later true false false = refl
sent_later false x true = refl
sent_later false x false = refl

sent_first : (around sender last : Bool) → one ((around && not sender) || (last && (around && sender))) + 0 ≡ one (around && (not sender || last))
sent_first true true true = refl
sent_first true true false = refl
sent_first true false last = refl
sent_first false x true = refl
sent_first false x false = refl

module _ (n : Network) (node sender : ℕ) (link : has (neighbours_of n node) sender ≡ true) where
  around : NodeSet
  around = neighbours_of n node

  -- the set with the sender
  grown : NodeSet → NodeSet
  grown marked = marked ∪ if_so (has around sender) (only sender)

  grown_has : (marked : NodeSet) (i : ℕ) → has (grown marked) i ≡ (has marked i || eqb i sender)
  unfolding grown around
  grown_has marked i =
      has_union marked (if_so (has around sender) (only sender)) i ∙ ap (λ v. has marked i || v) (has_if (has around sender) (only sender) i ∙ ap (λ v. v && has (only sender) i) link ∙ has_node sender i (member_below around sender link))

  -- to note one that was not noted last fills the set, and nothing was full before
  last_full : (r : Record) → has r.marked sender ≡ false → notes_last around r.marked sender ≡ is_empty (around ∖ grown r.marked)
  unfolding grown around
  last_full r absent = rw (link, absent) refl

  not_full : (r : Record) → has r.marked sender ≡ false → full n node r ≡ false
  unfolding around
  not_full r absent = ⊎_elim (λ all. absurd (both_ways (has (around ∖ r.marked) sender) (empty_none (around ∖ r.marked) all sender) (has_minus around r.marked sender ∙ rw (link, absent) refl))) (λ no'. no') (cases_Bool (full n node r))

  pub notes_known : (r : Record) → has r.marked sender ≡ false → Notes n node (Some r) sender (noting (neighbours_of n node) r sender no_nodes).kept (noting (neighbours_of n node) r sender no_nodes).first_kind
  unfolding grown around
  notes_known r absent = record {
    marks = grown_has r.marked;
    sends = λ i.
        let last = notes_last around r.marked sender in
        let first : has (no_nodes ∪ if_so last (around ∖ (around ∖ parent_of r.standing))) i ≡ (last && (has around i && not (sent_at_once r.standing i))) =
        has_union no_nodes (if_so last (around ∖ (around ∖ parent_of r.standing))) i ∙ ap (λ v. v || has (if_so last (around ∖ (around ∖ parent_of r.standing))) i) (has_none i) ∙ has_if last (around ∖ (around ∖ parent_of r.standing)) i ∙ ap (λ v. last && v) (back_of around r.standing i) in
        rw (first, not_full r absent, last_full r absent) (sent_later (has around i) (sent_at_once r.standing i) (is_empty (around ∖ grown r.marked)));
  }

  pub notes_new : Notes n node None sender (noting (neighbours_of n node) (follower sender) sender (neighbours_of n node ∖ only sender)).kept (noting (neighbours_of n node) (follower sender) sender (neighbours_of n node ∖ only sender)).first_kind
  unfolding grown around
  notes_new = record {
    marks = λ i. grown_has no_nodes i ∙ ap (λ v. v || eqb i sender) (has_none i);
    sends = λ i.
        let last = notes_last around no_nodes sender in
        let full_now : last ≡ is_empty (around ∖ grown no_nodes) = last_full (follower sender) (has_none sender) in
        let first : has (around ∖ only sender ∪ if_so last (around ∖ (around ∖ only sender))) i ≡ ((has around i && not (eqb i sender)) || (last && (has around i && eqb i sender))) =
        has_union (around ∖ only sender) (if_so last (around ∖ (around ∖ only sender))) i ∙ ap₂ ◌||◌ (has_minus around (only sender) i ∙ ap (λ v. has around i && not v) (has_node sender i (member_below around sender link))) (has_if last (around ∖ (around ∖ only sender)) i ∙ ap (λ v. last && v) (has_back around sender i)) in
        rw (first, full_now) (sent_first (has around i) (eqb i sender) (is_empty (around ∖ grown no_nodes)));
  }

-- ---- the step of an arrival, whatever the record was

abbrev pub step : Network → ℕ → Option Record → ℕ → ℕ → Step
step n node old sender kind = arrival n node (is_some old) (unwrap_or old blank) sender kind

abbrev pub standing_after : Option Record → ℕ → Standing
standing_after None sender = Follower sender
standing_after (Some r) sender = r.standing

module _ (n : Network) (node sender kind : ℕ) where
  pub step_notes : (old : Option Record) → has (neighbours_of n node) sender ≡ true → noted old sender ≡ false → Notes n node old sender (step n node old sender kind).kept (step n node old sender kind).first_kind
  step_notes None link absent = notes_new n node sender link
  step_notes (Some r) link absent = notes_known n node sender link r absent

  pub step_second : (old : Option Record) → (step n node old sender kind).second_kind ≡ no_nodes
  step_second None = refl
  step_second (Some r) = refl

  pub step_standing : (old : Option Record) → (step n node old sender kind).kept.standing ≡ standing_after old sender
  step_standing None = refl
  step_standing (Some r) = refl

  -- a node decides where it has noted all and is the starter
  pub step_decides : (old : Option Record) → has (neighbours_of n node) sender ≡ true → noted old sender ≡ false → (step n node old sender kind).decides ≡ (full n node (step n node old sender kind).kept && is_starter (standing_after old sender))
  unfolding grown around
  step_decides None link absent = ap (λ v. v && false) (last_full n node sender link (follower sender) (has_none sender))
  step_decides (Some r) link absent = ap (λ v. v && is_starter r.standing) (last_full n node sender link r absent)

  -- before it noted the sender it had not noted all
  pub was_not_full : (r : Record) → has (neighbours_of n node) sender ≡ true → noted (Some r) sender ≡ false → full n node r ≡ false
  was_not_full r link absent = not_full n node sender link r absent
