-- Every history of a run keeps the promise. Assumes nothing.
use Rattle.std.proofs.Common.{◌≡◌, ℕ, ◌+◌, ◌*◌, ◌<◌, ◌≤◌, Bool, true, false, List, [], ◌∷◌, ◌++◌, map, length, get_or, IfOk, Ok, Err, sum_by, Result, sym, refl, ap, ◌∙◌, ap₂, subst, mul-le-mul_right, arith, length-append}
use Rattle.std.specs.List.{ContainsAt, AllByRecursion}
use Rattle.std.proofs.lemmas.List.{length-map}
use Rattle.base.specs.Bags.{held, taken}
use Rattle.base.specs.declared.bag.Bag.{Bag}
use Rattle.base.specs.declared.refusal.Refusal.{Refusal}
use Rattle.base.specs.declared.refusal.Refusal.TheVariants.{NoFreePlace}
use Rattle.base.proofs.Places.{length_held, length_taken}
use Rattle.network.specs.declared.network.Network.{Network}
use Rattle.values.specs.Folds.{fold_of}
use Rattle.values.specs.Orders.{Order}
use Rattle.values.specs.Ranks.{rank_table}
use Rattle.values.specs.Semilattices.{Semilattice}
use Rattle.wave.specs.Laws.{KeepsLaws}
use Rattle.wave.specs.Lone.{Arrival, Opening, blank}
use Rattle.wave.specs.declared.step.Step.{Step}
use Rattle.rules.specs.Sums.{total}
use Rattle.rules.proofs.Totals.{total_same}
use Rattle.extinction.specs.Elections.{Election, begun, letters, made, makes}
use Rattle.extinction.specs.Promises.{Right as RightThere}
use Rattle.tables.specs.declared.standing.Fate.{Fate}
use Rattle.tables.specs.declared.standing.Fate.TheVariants.{Joins, Stays, GoesOut}
use Rattle.tables.specs.declared.verdict.Verdict.{Verdict}
use Rattle.tables.specs.Calls.{Delivers, Starts, State, event_in, free, planned, start_check, state}
use Rattle.tables.specs.Events.{event_by, sends_if}
use Rattle.election.specs.Histories.{Calls, History, Past, asks, delivers, none, nothing_said, past, said_at_delivery, said_at_start, starts}
use Rattle.tables.specs.Ledgers.{nothing_sent}
use Rattle.election.specs.Making.{Made, MakesApart, MayMake}
use Rattle.election.specs.Promises.{Keeps, Kept, Lasting, Promise, Right, Stands}
use Rattle.tables.specs.Tables.{account_of, sends}
use Rattle.tables.specs.declared.answer.Delivered.{Delivered}
use Rattle.tables.specs.declared.answer.Started.{Started}
use Rattle.tables.specs.declared.ledger.Account.{Account}
use Rattle.tables.specs.declared.message.Message.{Message}
use Rattle.tables.specs.declared.tables.Tables.{Tables}
use Rattle.election.specs.declared.run.Run.{Run}
use Rattle.tables.specs.declared.tables.planning.Plan.{Plan}
use Rattle.tables.proofs.Carrying.{nth_within}
use Rattle.election.proofs.Following.{Follows, made_follows}
use Rattle.tables.proofs.Passing.{AtHand, delivery_wants, err_same, may_deliver, may_start, not_err, start_wants}
use Rattle.election.proofs.Steps.{Plays, after_fate, delivery_follows, delivery_plays, fate_of, keeps, start_follows, start_plays}
use Rattle.election.proofs.Words.{letter_of, verdict_there}
use Rattle.election.proofs.Rows.{has_first, letters_sent, sum_total}

module _ {K T : Type 0} {admitted : Network → Bool} {most : Network → ℕ} {opening : Opening} {arrival : Arrival} (laws : KeepsLaws admitted most opening arrival) {precedes : K → K → Bool} (order : Order precedes) {meet : T → T → T} (semi : Semilattice meet) (n : Network) (keys : List K) (own : List T) (may : MayMake admitted n keys (length own)) (d : T) where
  -- the election that a past follows
  record Followed (p : Past T) : Type 0 where
    election : Election T
    plays : Plays laws order semi n keys own may d election
    follows : Follows precedes n keys own d election p

  module _ (s : State T) (is : Made admitted precedes n keys own s) where
    followed : (p : Past T) → Calls opening arrival meet (past nothing_said s) p → Followed p
    followed p none = record { election = made (λ v. get_or own v d); plays = makes; follows = made_follows precedes n keys own d s is }
    followed p (starts {p = before} calls node (Ok answer) after begins) = started (followed before calls)
      where
        started : Followed before → Followed (past (said_at_start before.log node (Ok answer)) after)
        started f =
            let begin = start_plays laws order semi n keys own may d f.election f.plays before f.follows node (may_start opening before.state node begins.accepted) in
            record { election = begun opening arrival n (λ v. get_or (rank_table precedes keys) v 0) meet (λ v. get_or own v d) f.election node; plays = begin; follows = start_follows laws order semi n keys own may d f.election f.plays before f.follows node answer after begins }
    followed p (starts {p = before} calls node (Err why) after refused) = same (followed before calls)
      where
        same : Followed before → Followed (past before.log after)
        same f = subst (λ x. Followed (past before.log x)) (sym refused.1) f
    followed p (delivers {p = before} calls place (Ok answer) after takes) = delivered (followed before calls)
      where
        delivered : Followed before → Followed (past (said_at_delivery before.log (Ok answer)) after)
        delivered f =
            let plan = takes.plan in
            let hand = (may_deliver arrival meet before.state place plan takes.accepted).at_hand in
            record {
              election = after_fate laws order semi n keys own may d f.election f.plays before f.follows place plan hand (fate_of laws order semi n keys own may d f.election f.plays before f.follows place plan hand);
              plays = delivery_plays laws order semi n keys own may d f.election f.plays before f.follows place plan hand;
              follows = delivery_follows laws order semi n keys own may d f.election f.plays before f.follows place plan hand answer after takes.reached;
            }
    followed p (delivers {p = before} calls place (Err why) after refused) = same (followed before calls)
      where
        same : Followed before → Followed (past before.log after)
        same f = subst (λ x. Followed (past before.log x)) (sym refused.1) f
    followed p (asks calls) = followed p calls

  -- ---- the parts of the promise

  module _ (p : Past T) (e : Election T) (plays : Plays laws order semi n keys own may d e) (is : Follows precedes n keys own d e p) where
    in_transit : p.state.transit.count ≡ length e.transit
    in_transit = sym (length_held p.state.transit) ∙ sym (length-map (held p.state.transit) letter_of) ∙ ap length is.transit

    -- the sum of one count of the ledger
    summed : (f : Account → ℕ) (g : ℕ → ℕ) → ((v : ℕ) → f (account_of p.state.tables v) ≡ g v) → sum_by f p.state.tables.ledger ≡ total g 32
    summed f g same = sum_total f p.state.tables.ledger nothing_sent ∙ ap (total (λ v. f (account_of p.state.tables v))) is.ledger_long ∙ total_same (λ v. f (account_of p.state.tables v)) g 32 (λ v within. same v)

    right : (v : Verdict T) → RightThere precedes keys (fold_of meet own) e (verdict_there v) → Right precedes meet keys own p.log.starters v
    right v so = record { accepted = is.named v.named so.accepted; least = λ t key has. so.least t key (is.accepted t has); shows = so.shows }

    rights : (vs : List (Verdict T)) → AllByRecursion (RightThere precedes keys (fold_of meet own) e) (map verdict_there vs) → AllByRecursion (Right precedes meet keys own p.log.starters) vs
    rights [] all = tt
    rights (v ∷ vs) (so, all) = (right v so, rights vs all)

    rests : (starters : List ℕ) → p.log.starters ≡ starters → 0 < length starters → p.state.transit.count ≡ 0 → 0 < length e.verdicts
    rests [] are some still = absurd (omega arith)
    rests (s ∷ more) are some still = (keeps laws order semi n keys own may d e plays).rest s (is.accepted s (subst (λ l. ContainsAt l s) (sym are) (has_first s more))) (empty e.transit (omega (arith, in_transit)))
      where
        empty : {A : Type 0} (xs : List A) → length xs ≡ 0 → xs ≡ []
        empty [] e = refl
        empty (x ∷ xs) e = absurd (omega arith)

    -- nodes times bound are fewer places than a bag may use
    room_small : n.nodes * most n ≤ 32000000
    room_small = omega (arith, mul-le-mul_right (most n) n.few, laws.small_bound n)

    module _ (places : n.nodes * most n ≤ length p.state.transit.places.now) where
      start_fits : (node : ℕ) → start_check opening p.state node ≡ Err NoFreePlace → ⊥
      start_fits node wants =
          let short = start_wants opening p.state node wants in
          let e₂ = begun opening arrival n (λ v. get_or (rank_table precedes keys) v 0) meet (λ v. get_or own v d) e node in
          let room = (keeps laws order semi n keys own may d e₂ (start_plays laws order semi n keys own may d e plays p is node short.0)).room in
          let sent = letters node node (opening n node) (get_or own node d) in
          let sends_same : sends (opening p.state.tables.network node) ≡ sends (opening n node) = ap (λ w. sends (opening w node)) is.network in
          omega (arith, short.1, room, room_small, in_transit, length-append e.transit sent, letters_sent node node (opening n node) (get_or own node d), sends_same)

      delivery_fits : (place : ℕ) → planned arrival meet p.state place ≡ Err NoFreePlace → ⊥
      delivery_fits place wants = let short = delivery_wants arrival meet p.state place wants in at short.0 short.1 short.2
        where
          at : (plan : Plan T) → AtHand arrival meet p.state place plan → free p.state + 1 < sends_if (event_in arrival meet p.state plan.message) → ⊥
          at plan hand short =
              let f = fate_of laws order semi n keys own may d e plays p is place plan hand in
              let room = (keeps laws order semi n keys own may d (after_fate laws order semi n keys own may d e plays p is place plan hand f) (delivery_plays laws order semi n keys own may d e plays p is place plan hand)).room in
              let m = plan.message in
              let within = nth_within (held p.state.transit) place m hand.found in
              omega (arith, short, room, room_small, grows f, length_taken (held p.state.transit) place, length_held p.state.transit, within)
            where
              adds : (h : T) (step : Network → Step) → length (map letter_of (taken (held p.state.transit) place) ++ letters plan.message.starter plan.message.receiver (step n) h) ≡ length (taken (held p.state.transit) place) + sends (step p.state.tables.network)
              adds h step = length-append (map letter_of (taken (held p.state.transit) place)) (letters plan.message.starter plan.message.receiver (step n) h) ∙ ap₂ ◌+◌ (length-map (taken (held p.state.transit) place) letter_of) (letters_sent plan.message.starter plan.message.receiver (step n) h ∙ ap (λ w. sends (step w)) (sym is.network))

              grows : (f : Fate) → length (after_fate laws order semi n keys own may d e plays p is place plan hand f).transit ≡ length (taken (held p.state.transit) place) + sends_if (event_by arrival meet p.state.tables p.state.own p.state.running plan.message f)
              grows Joins = adds (meet (get_or own plan.message.receiver d) plan.message.holding) (λ w. arrival w plan.message.receiver false blank plan.message.sender plan.message.kind)
              grows (Stays kept) = adds (meet (e.running plan.message.receiver) plan.message.holding) (λ w. arrival w plan.message.receiver true kept plan.message.sender plan.message.kind)
              grows GoesOut = omega (arith, length-map (taken (held p.state.transit) place) letter_of)

    kept : Kept admitted most opening arrival precedes meet n keys own p
    kept =
        let there = keeps laws order semi n keys own may d e plays in
        record {
          counts = omega (arith, there.counts, is.sent, is.handled, is.put_out, in_transit);
          bounded = subst (λ k. p.log.sent ≤ k * most n) (sym is.starts) (omega (arith, there.bounded, is.sent));
          ledger = record {
            sent = summed (λ a. a.sent) e.sent (λ v. ap (λ a. a.sent) (is.accounts v)) ∙ sym is.sent;
            handled = summed (λ a. a.handled) e.handled (λ v. ap (λ a. a.handled) (is.accounts v)) ∙ sym is.handled;
            put_out = summed (λ a. a.put_out) e.put_out (λ v. ap (λ a. a.put_out) (is.accounts v)) ∙ sym is.put_out;
          };
          verdicts = rights p.log.verdicts (subst (AllByRecursion (RightThere precedes keys (fold_of meet own) e)) (sym is.verdicts) there.verdicts);
          rest = λ some still. omega (arith, rests p.log.starters refl some still, ap length is.verdicts, length-map p.log.verdicts verdict_there);
          room = λ places. record { at_start = at_start places; at_delivery = at_delivery places };
        }
      where
        at_start : n.nodes * most n ≤ length p.state.transit.places.now → (node : ℕ) (r : Result (Started T) Refusal) (after : State T) → Starts opening p.state node r after → r ≡ Err NoFreePlace → ⊥
        at_start places node (Ok a) after came e = not_err NoFreePlace a (sym e)
        at_start places node (Err why) after came e = start_fits places node (came.0 ∙ ap Err (err_same e))

        at_delivery : n.nodes * most n ≤ length p.state.transit.places.now → (place : ℕ) (r : Result (Delivered T) Refusal) (after : State T) → Delivers arrival meet p.state place r after → r ≡ Err NoFreePlace → ⊥
        at_delivery places place (Ok a) after came e = not_err NoFreePlace a (sym e)
        at_delivery places place (Err why) after came e = delivery_fits places place (came.0 ∙ ap Err (err_same e))

-- ---- histories

some_holding : {T : Type 0} (own : List T) → 1 ≤ length own → T
some_holding [] some = absurd (omega arith)
some_holding (x ∷ own) some = x

-- calls after calls
on : {T : Type 0} {opening : Opening} {arrival : Arrival} {meet : T → T → T} {from : Past T} (p : Past T) → Calls opening arrival meet from p → (q : Past T) → Calls opening arrival meet p q → Calls opening arrival meet from q
on p first q none = first
on p first q (starts {p = before} later node r after came) = starts (on p first before later) node r after came
on p first q (delivers {p = before} later place r after came) = delivers (on p first before later) place r after came
on p first q (asks later) = asks (on p first q later)

module _ {K T : Type 0} {admitted : Network → Bool} {most : Network → ℕ} {opening : Opening} {arrival : Arrival} (laws : KeepsLaws admitted most opening arrival) {precedes : K → K → Bool} (order : Order precedes) {meet : T → T → T} (semi : Semilattice meet) where
  kept_in : (n : Network) (keys : List K) (own : List T) (p : Past T) → History opening arrival meet admitted precedes n keys own p → Kept admitted most opening arrival precedes meet n keys own p
  kept_in n keys own p h =
      let may = h.made.may in
      let d = some_holding own (omega (arith, may.each, n.some)) in
      let f = followed laws order semi n keys own may d h.begins h.made p h.calls in
      kept laws order semi n keys own may d p f.election f.plays f.follows

  -- every run keeps the promise, at every point of its history and ever after
  pub promised : Promise admitted most opening arrival precedes meet
  promised n keys own p h = record { history = h; always = λ q later. kept_in n keys own q (record { begins = h.begins; made = h.made; calls = on p h.calls q later }) }

  -- ---- the calls

  pub makes_keep : {W : Type 0} (n : Network) (keys : List K) (own running : List T) (transit : Bag (Message T)) (r : Result (Run W K T) Refusal) (running_after : List T) (transit_after : Bag (Message T)) → MakesApart admitted precedes n keys own running transit r running_after transit_after → IfOk r (λ run. Lasting admitted most opening arrival precedes meet n keys own (past nothing_said (state run.tables transit_after own running_after)))
  makes_keep n keys own running transit (Ok run) running_after transit_after came = let s = state run.tables transit_after own running_after in promised n keys own (past nothing_said s) (record { begins = s; made = came.0; calls = none })
  makes_keep n keys own running transit (Err why) running_after transit_after came = tt

  pub start_keeps : (s : State T) (node : ℕ) (r : Result (Started T) Refusal) (after : State T) → Starts opening s node r after → Keeps admitted most opening arrival precedes meet s (λ log. said_at_start log node r) after
  start_keeps s node r after came n keys own log h = promised n keys own (past (said_at_start log node r) after) (record { begins = h.begins; made = h.made; calls = starts h.calls node r after came })

  pub delivery_keeps : (s : State T) (place : ℕ) (r : Result (Delivered T) Refusal) (after : State T) → Delivers arrival meet s place r after → Keeps admitted most opening arrival precedes meet s (λ log. said_at_delivery log r) after
  delivery_keeps s place r after came n keys own log h = promised n keys own (past (said_at_delivery log r) after) (record { begins = h.begins; made = h.made; calls = delivers h.calls place r after came })

  pub stands : (tables : Tables) → Stands admitted most opening arrival precedes meet tables
  stands tables s is n keys own log h = promised n keys own (past log s) (record { begins = h.begins; made = h.made; calls = asks h.calls })
