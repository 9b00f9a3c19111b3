-- A start and a delivery of a run are a start and a delivery by the rules. Assumes nothing.
use Rattle.std.proofs.Common.{◌≡◌, ℕ, ◌+◌, ◌<◌, ◌≤◌, Bool, true, false, ◌&&◌, ◌||◌, eqb, List, ◌∷◌, map, length, get_or, is_some, Some, Ok, sym, refl, ap, ◌∙◌, subst, ⊎_elim, mul-le-mul_right, arith}
use Rattle.std.specs.Prelude.{option_map}
use Rattle.std.specs.List.Sorted.{IsPermutation}
use Rattle.std.proofs.lemmas.List.Sorted.{IsPermutation-map}
use Rattle.std.specs.List.{ContainsAt}
use Rattle.std.proofs.lemmas.List.{get_or_default, length-set}
use Rattle.std.proofs.lemmas.Option.{slice_get-get_or}
use Rattle.std.proofs.lemmas.Bool.{and_parts, both_ways, cases_Bool, cases_eq}
use Rattle.base.specs.Bags.{held, taken}
use Rattle.base.proofs.Places.{taken_others}
use Rattle.base.proofs.Small.{some_same}
use Rattle.network.specs.Paths.{adjacent}
use Rattle.network.specs.declared.network.Network.{Network}
use Rattle.values.specs.Folds.{fold_of}
use Rattle.values.specs.Orders.{Order}
use Rattle.values.specs.Ranks.{rank_table}
use Rattle.values.specs.Semilattices.{Semilattice}
use Rattle.wave.specs.Laws.{KeepsLaws}
use Rattle.wave.specs.Lone.{Arrival, Opening, at_node, blank}
use Rattle.wave.specs.declared.step.Step.{Step}
use Rattle.rules.specs.Sums.{total}
use Rattle.rules.proofs.Totals.{total_part}
use Rattle.extinction.specs.Elections as elections
use Rattle.extinction.specs.Elections.{Election, Elects, Letter, acted, begun, delivers, goes_out, joins, letters, makes, met_by, one_handled, one_put_out, starts, stays}
use Rattle.extinction.specs.Promises.{Kept}
use Rattle.tables.specs.declared.message.Message.{Message}
use Rattle.tables.specs.declared.standing.Fate.{Fate}
use Rattle.tables.specs.declared.standing.Fate.TheVariants.{Joins, Stays, GoesOut}
use Rattle.tables.specs.Fates.{fate}
use Rattle.extinction.proofs.Promised.{promised}
use Rattle.tables.specs.Calls.{Begun, Gone, Played, Reached, State, handled, put_out, started}
use Rattle.tables.specs.Events.{arrived, event_by, start_event}
use Rattle.election.specs.Histories.{Past, handled_now, heard, past, put_out_now, said_at_delivery, said_at_start}
use Rattle.tables.specs.Ledgers.{accepts, handles, nothing_sent, puts_out}
use Rattle.election.specs.Making.{MayMake}
use Rattle.tables.specs.Tables.{account_of, rank_in, sends, standing_of}
use Rattle.tables.specs.declared.answer.Delivered.{Delivered}
use Rattle.tables.specs.declared.answer.Started.{Started}
use Rattle.tables.specs.declared.event.Event.{Event}
use Rattle.tables.specs.declared.ledger.Account.{Account}
use Rattle.tables.specs.declared.tables.planning.Plan.{Plan}
use Rattle.tables.proofs.Carrying.{nth_within, receiver_node}
use Rattle.election.proofs.Following.{Follows, Noted, account_in, acted_follows, added_up, started_within}
use Rattle.tables.proofs.Passing.{AtHand, Sleeper, may_start}
use Rattle.election.proofs.Words.{fate_same, fate_there, joined_there, letter_of, verdict_there}
use Rattle.election.proofs.Rows.{at_other, at_same, has_cases, has_first, has_later, letters_sent, ones_more, ones_most, total_more, written}

account_same : {a a' : Bool} {b b' c c' d d' : ℕ} → a ≡ a' → b ≡ b' → c ≡ c' → d ≡ d' → ◌≡◌ {A = Account} (record { accepted = a; sent = b; handled = c; put_out = d }) (record { accepted = a'; sent = b'; handled = c'; put_out = d' })
account_same a b c d = cc

module _ {K T : Type 0} {admitted : Network → Bool} {most : Network → ℕ} {opening : Opening} {arrival : Arrival} (laws : KeepsLaws admitted most opening arrival) {precedes : K → K → Bool} (order : Order precedes) {meet : T → T → T} (semi : Semilattice meet) (n : Network) (keys : List K) (own : List T) (may : MayMake admitted n keys (length own)) (d : T) where
  abbrev pub Plays : Election T → Type 0
  Plays e = Elects opening arrival n (λ v. get_or (rank_table precedes keys) v 0) meet (λ v. get_or own v d) e

  pub keeps : (e : Election T) → Plays e → Kept precedes keys n (most n) (fold_of meet own) e
  keeps e plays = promised semi order laws n keys own d may.admits may.keyed may.distinct may.each e plays

  -- a starter is awake
  awake : (e : Election T) → Plays e → (v : ℕ) → e.started v ≡ true → is_some (e.rows v) ≡ true
  awake e makes v st = absurd (both_ways true (sym st) refl)
  awake e (starts {e = before} plays s node sleeps) v st = ⊎_elim (λ same. ap is_some (ap (at_node before.rows s _) same ∙ at_same before.rows s _)) (λ other. ap is_some (at_other before.rows s _ v other) ∙ awake before plays v (sym (at_other before.started s true v other) ∙ st)) (cases_eq v s)
  awake e (delivers {e = before} plays left m shuffled) v st = by (elections.fate (λ u. get_or (rank_table precedes keys) u 0) (before.rows m.receiver) m.starter) (awake before plays v) st
    where
      rows_at : (before.started v ≡ true → is_some (before.rows v) ≡ true) → (j : elections.Joined) → before.started v ≡ true → is_some (at_node before.rows m.receiver (Some j) v) ≡ true
      rows_at was j st = ⊎_elim (λ same. ap is_some (ap (at_node before.rows m.receiver (Some j)) same ∙ at_same before.rows m.receiver (Some j))) (λ other. ap is_some (at_other before.rows m.receiver (Some j) v other) ∙ was st) (cases_eq v m.receiver)

      by : (f : elections.Fate) → (before.started v ≡ true → is_some (before.rows v) ≡ true) → (met_by opening arrival n (λ u. get_or (rank_table precedes keys) u 0) meet (λ u. get_or own u d) before left m f).started v ≡ true → is_some ((met_by opening arrival n (λ u. get_or (rank_table precedes keys) u 0) meet (λ u. get_or own u d) before left m f).rows v) ≡ true
      by joins was st = rows_at was _ st
      by (stays kept) was st = rows_at was _ st
      by goes_out was st = was st

  -- no count of a starter comes near the most that 32 bits hold
  few_sent : (e : Election T) → Plays e → total e.sent 32 ≤ 32000000
  few_sent e plays =
      let is = keeps e plays in
      omega (arith, is.bounded, mul-le-mul_right (most n) (ones_most e.started 32), laws.small_bound n)

  few_of : (e : Election T) → Plays e → (s : ℕ) → s < 32 → (e.sent s ≤ 32000000) × (e.handled s ≤ 32000000) × (e.put_out s ≤ 32000000)
  few_of e plays s within =
      let all = few_sent e plays in
      let counts = (keeps e plays).counts in
      (omega (arith, total_part e.sent s 32 within), omega (arith, total_part e.handled s 32 within), omega (arith, total_part e.put_out s 32 within))

  -- ---- a start

  module _ (e : Election T) (plays : Plays e) (p : Past T) (is : Follows precedes n keys own d e p) where
    own_read : (node : ℕ) (other : T) → node < n.nodes → get_or p.state.own node other ≡ get_or own node d
    own_read node other within = ap (λ l. get_or l node other) is.own_is ∙ get_or_default own node other d (omega (arith, may.each))

    running_read : (node : ℕ) (other : T) → node < n.nodes → get_or p.state.running node other ≡ e.running node
    running_read node other within = get_or_default p.state.running node other d (omega (arith, is.running_long)) ∙ is.running node

    pub start_plays : (node : ℕ) → Sleeper p.state node → Plays (begun opening arrival n (λ v. get_or (rank_table precedes keys) v 0) meet (λ v. get_or own v d) e node)
    start_plays node start = starts plays node (omega (arith, start.node_is, ap (λ m. m.nodes) is.network)) (sym (is.rows node) ∙ ap (option_map joined_there) start.sleeps)

    start_event_is : (node : ℕ) (x : T) → x ≡ get_or own node d → start_event opening p.state.tables node x ≡ record { starter = node; node = node; holding = get_or own node d; step = opening n node }
    start_event_is node x x_is = let net = is.network in cc

    pub start_follows : (node : ℕ) (answer : Started T) (after : State T) → Begun opening p.state node answer after → Follows precedes n keys own d (begun opening arrival n (λ v. get_or (rank_table precedes keys) v 0) meet (λ v. get_or own v d) e node) (past (said_at_start p.log node (Ok answer)) after)
    start_follows node answer after begins =
        let start = may_start opening p.state node begins.accepted in
        let within : node < n.nodes = omega (arith, start.node_is, ap (λ m. m.nodes) is.network) in
        let ev_is = start_event_is node begins.own_holding (begins.is_own ∙ own_read node begins.own_holding within) in
        let played = subst (λ x. Played p.state accepts x (held p.state.transit) after) ev_is begins.played in
        let answers : answer ≡ started ev = begins.answers ∙ ap started ev_is in
        let asleep : e.started node ≡ false = ⊎_elim (λ st. absurd (both_ways (is_some (e.rows node)) (ap is_some (sym (is.rows node) ∙ ap (option_map joined_there) start.sleeps)) (awake e plays node st))) (λ out. out) (cases_Bool (e.started node)) in
        acted_follows precedes n keys own d e (at_node e.started node true) e.handled p accepts ev (held p.state.transit) e.transit (said_at_start p.log node (Ok answer)) after is.transit is within (omega (arith, n.few)) played (noted (omega (arith, n.few)) asleep answers (few_of e₂ (start_plays node start) node (omega (arith, n.few))).0)
      where
        ev : Event T
        ev = record { starter = node; node = node; holding = get_or own node d; step = opening n node }

        e₂ : Election T
        e₂ = begun opening arrival n (λ v. get_or (rank_table precedes keys) v 0) meet (λ v. get_or own v d) e node

        noted : node < 32 → e.started node ≡ false → answer ≡ started ev → e₂.sent node ≤ 32000000 → Noted precedes n keys own d e e₂ p accepts ev (said_at_start p.log node (Ok answer))
        noted within asleep answers few =
            let long = letters_sent node node (opening n node) (get_or own node d) in
            let grown = at_same e.sent node (e.sent node + length (letters node node (opening n node) (get_or own node d))) in
            record {
              account = account_same (sym (at_same e.started node true)) (added_up (e.sent node) (sends (opening n node)) (omega arith) ∙ ap (λ k. e.sent node + k) (sym long) ∙ sym grown) refl refl;
              others = λ v other. account_same (sym (at_other e.started node true v other)) (sym (at_other e.sent node _ v other)) refl refl;
              sent = ap (λ a. p.log.sent + a.sent) answers;
              handled = is.handled;
              put_out = refl;
              starts = omega (arith, is.starts, ones_more e.started node 32 within asleep);
              accepted = λ v has. ⊎_elim (λ same. ap (at_node e.started node true) (sym same) ∙ at_same e.started node true) (λ old. ⊎_elim (λ same. ap (at_node e.started node true) same ∙ at_same e.started node true) (λ other. at_other e.started node true v other ∙ is.accepted v old) (cases_eq v node)) (has_cases node v p.log.starters has);
              named = λ v st. ⊎_elim (λ same. subst (ContainsAt (node ∷ p.log.starters)) (sym same) (has_first node p.log.starters)) (λ other. has_later node v p.log.starters (is.named v (sym (at_other e.started node true v other) ∙ st))) (cases_eq v node);
              verdicts = ap (λ a. heard a.verdict p.log.verdicts) answers;
            }

    -- ---- a delivery

    module _ (place : ℕ) (plan : Plan T) (take : AtHand arrival meet p.state place plan) where
      abbrev m : Message T
      m = plan.message

      abbrev pub others : List (Message T)
      others = taken (held p.state.transit) place

      abbrev others_there : List (Letter T)
      others_there = map letter_of others

      abbrev pub after_fate : Fate → Election T
      after_fate f = met_by opening arrival n (λ v. get_or (rank_table precedes keys) v 0) meet (λ v. get_or own v d) e others_there (letter_of m) (fate_there f)

      -- what becomes of the message
      abbrev pub fate_of : Fate
      fate_of = fate (rank_in p.state.tables) (standing_of p.state.tables m.receiver) m.starter

      shuffled : IsPermutation e.transit (letter_of m ∷ others_there)
      shuffled =
          let within = nth_within (held p.state.transit) place m take.found in
          subst (λ l. IsPermutation l (letter_of m ∷ others_there)) is.transit (IsPermutation-map letter_of (held p.state.transit) (m ∷ others) (taken_others (held p.state.transit) place m within (some_same (sym take.found ∙ slice_get-get_or (held p.state.transit) place m within))))

      fate_is : fate_there fate_of ≡ elections.fate (λ v. get_or (rank_table precedes keys) v 0) (e.rows m.receiver) m.starter
      fate_is =
          fate_same (rank_in p.state.tables) (standing_of p.state.tables m.receiver) m.starter ∙ ap (λ t. elections.fate (λ v. get_or t v 0) (option_map joined_there (standing_of p.state.tables m.receiver)) m.starter) is.ranks ∙ ap (λ o. elections.fate (λ v. get_or (rank_table precedes keys) v 0) o m.starter) (is.rows m.receiver)

      pub delivery_plays : Plays (after_fate fate_of)
      delivery_plays = subst (λ f. Plays (met_by opening arrival n (λ v. get_or (rank_table precedes keys) v 0) meet (λ v. get_or own v d) e others_there (letter_of m) f)) (sym fate_is) (delivers plays others_there (letter_of m) shuffled)

      receiver_within : m.receiver < n.nodes
      receiver_within = omega (arith, receiver_node p.state m take.ours, ap (λ w. w.nodes) is.network)

      starter_within : m.starter < 32
      starter_within =
          let ours = and_parts (adjacent p.state.tables.network.neighbours m.sender m.receiver) ((account_of p.state.tables m.starter).accepted && (eqb m.kind 1 || eqb m.kind 2)) take.ours in
          let accepted = and_parts (account_of p.state.tables m.starter).accepted (eqb m.kind 1 || eqb m.kind 2) ours.1 in
          started_within precedes n keys own d is m.starter (sym (ap (λ a. a.accepted) (is.accounts m.starter)) ∙ accepted.0)

      module _ (answer : Delivered T) (after : State T) where
        handled_follows : (h : T) (step : Step) → Plays (acted (one_handled e m.starter) others_there m.starter m.receiver h step) → Played p.state handles (record { starter = m.starter; node = m.receiver; holding = h; step = step }) others after → answer ≡ handled (record { starter = m.starter; node = m.receiver; holding = h; step = step }) → Follows precedes n keys own d (acted (one_handled e m.starter) others_there m.starter m.receiver h step) (past (said_at_delivery p.log (Ok answer)) after)
        handled_follows h step plays_on played answers = acted_follows precedes n keys own d e e.started (at_node e.handled s (e.handled s + 1)) p handles ev others others_there (said_at_delivery p.log (Ok answer)) after refl is receiver_within starter_within played (noted (few_of e₂ plays_on s starter_within))
          where
            s : ℕ
            s = m.starter

            ev : Event T
            ev = record { starter = m.starter; node = m.receiver; holding = h; step = step }

            e₂ : Election T
            e₂ = acted (one_handled e m.starter) others_there m.starter m.receiver h step

            noted : (e₂.sent s ≤ 32000000) × (e₂.handled s ≤ 32000000) × (e₂.put_out s ≤ 32000000) → Noted precedes n keys own d e e₂ p handles ev (said_at_delivery p.log (Ok answer))
            noted few =
                let long = letters_sent s m.receiver step h in
                let grown = at_same e.sent s (e.sent s + length (letters s m.receiver step h)) in
                let one_more = at_same e.handled s (e.handled s + 1) in
                record {
                  account = account_same refl (added_up (e.sent s) (sends step) (omega (arith, few.0)) ∙ ap (λ k. e.sent s + k) (sym long) ∙ sym grown) (added_up (e.handled s) 1 (omega (arith, few.1)) ∙ sym one_more) refl;
                  others = λ v other. account_same refl (sym (at_other e.sent s _ v other)) (sym (at_other e.handled s _ v other)) refl;
                  sent = ap (λ a. p.log.sent + a.sent) answers;
                  handled = omega (arith, ap (λ a. p.log.handled + handled_now a.outcome) answers, is.handled, total_more e.handled s 32 1 starter_within);
                  put_out = omega (arith, ap (λ a. p.log.put_out + put_out_now a.outcome) answers);
                  starts = is.starts;
                  accepted = is.accepted;
                  named = is.named;
                  verdicts = ap (λ a. heard a.verdict p.log.verdicts) answers;
                }

        out_follows : Plays (one_put_out e others_there m.starter) → answer ≡ put_out → Gone p.state m.starter others after → Follows precedes n keys own d (one_put_out e others_there m.starter) (past (said_at_delivery p.log (Ok answer)) after)
        out_follows plays_on answers gone = record {
          network = ap (λ r. r.network) gone.tables ∙ is.network;
          ranks = ap (λ r. r.ranks) gone.tables ∙ is.ranks;
          rows_long = ap (λ r. length r.rows) gone.tables ∙ is.rows_long;
          ledger_long = ap (λ r. length r.ledger) gone.tables ∙ length-set p.state.tables.ledger s (puts_out (account_of p.state.tables s)) ∙ is.ledger_long;
          running_long = ap length gone.running ∙ is.running_long;
          own_is = gone.own ∙ is.own_is;
          rows = λ v. ap (λ r. option_map joined_there (standing_of r v)) gone.tables ∙ is.rows v;
          running = λ v. ap (λ t. get_or t v d) gone.running ∙ is.running v;
          transit = ap (map letter_of) gone.transit.holds;
          accounts = λ v. ap (λ r. account_of r v) gone.tables ∙ written (λ a. a) p.state.tables.ledger s (puts_out (account_of p.state.tables s)) nothing_sent (account_in e) (omega (arith, is.ledger_long, starter_within)) is.accounts v ∙ account_at v;
          sent = omega (arith, ap (λ a. p.log.sent + a.sent) answers, is.sent);
          handled = omega (arith, ap (λ a. p.log.handled + handled_now a.outcome) answers, is.handled);
          put_out = omega (arith, ap (λ a. p.log.put_out + put_out_now a.outcome) answers, is.put_out, total_more e.put_out s 32 1 starter_within);
          starts = is.starts;
          accepted = is.accepted;
          named = is.named;
          verdicts = ap (λ a. map verdict_there (heard a.verdict p.log.verdicts)) answers ∙ is.verdicts;
        }
          where
            s : ℕ
            s = m.starter

            e₂ : Election T
            e₂ = one_put_out e others_there m.starter

            account_at : (v : ℕ) → at_node (account_in e) s (puts_out (account_of p.state.tables s)) v ≡ account_in e₂ v
            account_at v = ⊎_elim (λ same. ap (at_node (account_in e) s (puts_out (account_of p.state.tables s))) same ∙ at_same (account_in e) s (puts_out (account_of p.state.tables s)) ∙ ap puts_out (is.accounts s) ∙ here ∙ ap (account_in e₂) (sym same)) (λ other. at_other (account_in e) s (puts_out (account_of p.state.tables s)) v other ∙ account_same refl refl refl (sym (at_other e.put_out s _ v other))) (cases_eq v s)
              where
                here : puts_out (account_in e s) ≡ account_in e₂ s
                here =
                    let one_more = at_same e.put_out s (e.put_out s + 1) in
                    account_same refl refl refl (added_up (e.put_out s) 1 (omega (arith, (few_of e₂ plays_on s starter_within).2, one_more)) ∙ sym one_more)

        by_fate : (f : Fate) → Plays (after_fate f) → Reached p.state m.starter others (event_by arrival meet p.state.tables p.state.own p.state.running m f) answer after → Follows precedes n keys own d (after_fate f) (past (said_at_delivery p.log (Ok answer)) after)
        by_fate Joins plays_on (answers, played) =
            let ev_is = joins_event in
            handled_follows (meet (get_or own m.receiver d) m.holding) (arrival n m.receiver false blank m.sender m.kind) plays_on (subst (λ x. Played p.state handles x others after) ev_is played) (answers ∙ ap handled ev_is)
          where
            joins_event : arrived arrival meet p.state.tables m (get_or p.state.own m.receiver m.holding) false blank ≡ record { starter = m.starter; node = m.receiver; holding = meet (get_or own m.receiver d) m.holding; step = arrival n m.receiver false blank m.sender m.kind }
            joins_event = let net = is.network in let read = own_read m.receiver m.holding receiver_within in cc
        by_fate (Stays kept) plays_on (answers, played) =
            let ev_is = stays_event in
            handled_follows (meet (e.running m.receiver) m.holding) (arrival n m.receiver true kept m.sender m.kind) plays_on (subst (λ x. Played p.state handles x others after) ev_is played) (answers ∙ ap handled ev_is)
          where
            stays_event : arrived arrival meet p.state.tables m (get_or p.state.running m.receiver m.holding) true kept ≡ record { starter = m.starter; node = m.receiver; holding = meet (e.running m.receiver) m.holding; step = arrival n m.receiver true kept m.sender m.kind }
            stays_event = let net = is.network in let read = running_read m.receiver m.holding receiver_within in cc
        by_fate GoesOut plays_on (answers, gone) = out_follows plays_on answers gone

        pub delivery_follows : Reached p.state m.starter others plan.event answer after → Follows precedes n keys own d (after_fate fate_of) (past (said_at_delivery p.log (Ok answer)) after)
        delivery_follows came = by_fate fate_of delivery_plays (subst (λ o. Reached p.state m.starter others o answer after) take.event came)
