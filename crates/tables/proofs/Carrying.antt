-- A delivery from the taking out of its message on. Assumes nothing.
use Rattle.std.proofs.Common.{◌≡◌, ℕ, ◌<◌, true, ◌&&◌, ◌||◌, eqb, List, ◌++◌, length, Some, None, Ok, Err, Option, Result, sym, refl, ap, ◌∙◌, subst, ⊎_elim, arith, length-append, MatchResult}
use Rattle.std.specs.Prelude.{slice_set}
use Rattle.std.specs.List.{slice_get}
use Rattle.std.proofs.lemmas.Option.{slice_get_past}
use Rattle.std.proofs.lemmas.Bool.{and_parts, both_ways, cases_lt}
use Rattle.base.specs.Bags.{Found, Left, held, taken}
use Rattle.base.specs.declared.bag.Bag.{Bag}
use Rattle.base.specs.declared.refusal.Refusal.{Refusal}
use Rattle.base.proofs.Places.{left_more, length_held, length_taken}
use Rattle.base.proofs.Small.{none_some}
use Rattle.network.specs.Paths.{adjacent}
use Rattle.wave.specs.Lone.{Arrival}
use Rattle.tables.specs.Fates.{fate}
use Rattle.tables.specs.Messages.{messages}
use Rattle.tables.specs.declared.message.Message.{Message}
use Rattle.tables.specs.declared.standing.Fate.{Fate}
use Rattle.tables.specs.declared.standing.Fate.TheVariants.{Joins, Stays, GoesOut}
use Rattle.tables.specs.Calls.{Reached, State, event_in, planned}
use Rattle.tables.specs.Carrying.{Ready, ReadyFor}
use Rattle.tables.specs.Ledgers.{handles}
use Rattle.tables.specs.declared.stores.LentStores.{LentStores}
use Rattle.tables.specs.Events.{belongs, event_by, sends_if}
use Rattle.tables.specs.Tables.{account_of, moved, put_out_in, rank_in, standing_of}
use Rattle.tables.specs.declared.answer.Delivered.{Delivered}
use Rattle.tables.specs.declared.event.Event.{Event}
use Rattle.tables.specs.declared.tables.Tables.{Tables}
use Rattle.tables.specs.declared.tables.planning.Plan.{Plan}
use Rattle.tables.proofs.Passing.{MayDeliver, may_deliver}

-- ---- places

pub nth_within : {A : Type 0} (xs : List A) (i : ℕ) (x : A) → slice_get xs i ≡ Some x → i < length xs
nth_within xs i x is = ⊎_elim (λ less. less) (λ past. absurd (none_some x (sym (slice_get_past xs i past) ∙ is))) (cases_lt i (length xs))

pub taken_left : {A : Type 0} (before after : Bag A) (place : ℕ) (r : Result A Refusal) → Found before place r → MatchResult r (λ _. Left before after (taken (held before) place)) (λ _. after ≡ before) → place < before.count → Left before after (taken (held before) place)
taken_left before after place (Ok x) found left within = left
taken_left before after place (Err why) refused left within = absurd (omega (arith, refused.0))

module _ {T : Type 0} where
  pub receiver_node : (s : State T) (m : Message T) → belongs s.tables m ≡ true → m.receiver < s.tables.network.nodes
  receiver_node s m ours = ⊎_elim (λ less. less) (λ past. absurd (both_ways (adjacent s.tables.network.neighbours m.sender m.receiver) (s.tables.network.inside m.sender m.receiver past) (and_parts (adjacent s.tables.network.neighbours m.sender m.receiver) ((account_of s.tables m.starter).accepted && (eqb m.kind 1 || eqb m.kind 2)) ours).0)) (cases_lt m.receiver s.tables.network.nodes)

  -- what a bag holds more than it held when the others were left in it comes behind those others
  behind : (transit out last : Bag (Message T)) (others more : List (Message T)) → Left transit out others → Left out last (held out ++ more) → Left transit last (others ++ more)
  behind transit out last others more left on = subst (λ l. Left transit last (l ++ more)) left.holds (left_more transit out last others (held out ++ more) left on (omega (arith, on.count, length_held out, length-append (held out) more)))

  -- what is reached from where the message is out of the transit is reached from where it lies in it
  pub reach : (s out after : State T) (starter : ℕ) (others : List (Message T)) (o : Option (Event T)) (answer : Delivered T) → out.tables ≡ s.tables → out.own ≡ s.own → out.running ≡ s.running → Left s.transit out.transit others → Reached out starter (held out.transit) o answer after → Reached s starter others o answer after
  reach s out after starter others None answer tables_is own_is running_is left (answers, gone) = (
    answers,
    record {
      tables = gone.tables ∙ ap (λ t. put_out_in t starter) tables_is;
      transit = subst (Left s.transit after.transit) left.holds (left_more s.transit out.transit after.transit others (held out.transit) left gone.transit (omega (arith, gone.transit.count, length_held out.transit)));
      own = gone.own ∙ own_is;
      running = gone.running ∙ running_is;
    },
  )
  reach s out after starter others (Some e) answer tables_is own_is running_is left (answers, played) = (
    answers,
    record {
      tables = played.tables ∙ ap (λ t. moved t handles e) tables_is;
      transit = behind s.transit out.transit after.transit others (messages e.starter e.node e.step e.holding) left played.transit;
      own = played.own ∙ own_is;
      running = played.running ∙ ap (λ r. slice_set r e.node e.holding) running_is;
    },
  )

module _ {T : Type 0} (arrival : Arrival) (meet : T → T → T) where
  -- ---- the event of a message is its receiver's, in its wave

  event_by_at : (tables : Tables) (own running : List T) (m : Message T) (f : Fate) (e : Event T) → event_by arrival meet tables own running m f ≡ Some e → (e.node ≡ m.receiver) × (e.starter ≡ m.starter)
  event_by_at tables own running m Joins e is = (cc, cc)
  event_by_at tables own running m (Stays kept) e is = (cc, cc)
  event_by_at tables own running m GoesOut e is = absurd (none_some e is)

  pub event_at : (s : State T) (m : Message T) (e : Event T) → event_in arrival meet s m ≡ Some e → (e.node ≡ m.receiver) × (e.starter ≡ m.starter)
  event_at s m e = event_by_at s.tables s.own s.running m (fate (rank_in s.tables) (standing_of s.tables m.receiver) m.starter) e

  module _ (s : State T) (place : ℕ) (plan : Plan T) (accepted : planned arrival meet s place ≡ Ok plan) where
    may : MayDeliver arrival meet s place plan
    may = may_deliver arrival meet s place plan accepted

    within : place < s.transit.count
    within = omega (arith, nth_within (held s.transit) place plan.message may.at_hand.found, length_held s.transit)

    -- the message of an accepted plan is taken out
    pub taken_out : (out : Bag (Message T)) (r : Result (Message T) Refusal) → Found s.transit place r → MatchResult r (λ _. Left s.transit out (taken (held s.transit) place)) (λ _. out ≡ s.transit) → Left s.transit out (taken (held s.transit) place)
    taken_out out r found after = taken_left s.transit out place r found after within

    pub ready : (stores : LentStores T) → stores.running.now ≡ s.running → plan.message.starter < 32 → Left s.transit stores.transit.now (taken (held s.transit) place) → Ready stores plan
    ready stores running_is inside left = (inside, for plan.event refl)
      where
        for : (o : Option (Event T)) → plan.event ≡ o → ReadyFor stores o
        for None is = tt
        for (Some e) is =
            let at = event_at s plan.message e (sym may.at_hand.event ∙ is) in
            let node = receiver_node s plan.message may.at_hand.ours in
            let sent : sends_if plan.event ≡ sends_if (event_in arrival meet s plan.message) = ap sends_if may.at_hand.event in
            let count = length_taken (held s.transit) place in
            (omega (arith, at.0, s.tables.network.few), omega (arith, at.0, may.at_hand.each.running, ap length running_is), omega (arith, at.1), omega (arith, sent, ap sends_if is, may.enough, left.count, left.places, count, length_held s.transit, within))
