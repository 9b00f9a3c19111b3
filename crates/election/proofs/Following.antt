-- A run and its log follow an election by the rules. Assumes nothing.
use Rattle.std.proofs.Common.{◌≡◌, ℕ, ◌+◌, ◌<◌, ◌≤◌, Bool, true, false, cond, List, ◌∷◌, ◌++◌, map, length, get_or, Some, None, sym, refl, ap, ◌∙◌, ap₂, ⊎_elim, arith}
use Rattle.std.specs.List.{ContainsAt}
use Rattle.std.specs.Prelude.{option_map}
use Rattle.std.proofs.lemmas.List.{get_or_past, length-replicate, length-set, map-append}
use Rattle.std.proofs.lemmas.Bool.{both_ways, cases_eq, cases_lt}
use Rattle.base.specs.Bags.{held}
use Rattle.network.specs.declared.network.Network.{Network}
use Rattle.values.specs.Ranks.{rank_table}
use Rattle.wave.specs.Lone.{at_node}
use Rattle.rules.specs.Sums.{total}
use Rattle.rules.proofs.Totals.{total_none}
use Rattle.extinction.specs.Elections.{Election, Letter, acted, letters, made}
use Rattle.extinction.specs.Promises.{starters}
use Rattle.tables.specs.declared.message.Message.{Message}
use Rattle.tables.specs.declared.verdict.Verdict.{Verdict}
use Rattle.tables.specs.Calls.{Played, State}
use Rattle.tables.specs.Events.{verdict_of}
use Rattle.election.specs.Histories.{Log, Past, heard, nothing_said, past}
use Rattle.tables.specs.Ledgers.{added, nothing_sent}
use Rattle.election.specs.Making.{Made}
use Rattle.tables.specs.Tables.{account_of, asleep, sends, standing_in, standing_of}
use Rattle.tables.specs.declared.event.Event.{Event}
use Rattle.tables.specs.declared.ledger.Account.{Account}
use Rattle.tables.specs.declared.row.Row.{Row}
use Rattle.tables.specs.Messages.{messages}
use Rattle.election.proofs.Words.{joined_there, letter_of, letters_of, verdict_there}
use Rattle.election.proofs.Rows.{at_other, at_same, get_or_all, letters_sent, total_more, written}

-- a count of 32 bits that does not come to its end
pub added_up : (count more : ℕ) → count + more ≤ 4294967295 → added count more ≡ count + more
added_up count more fits = omega arith

-- what the ledger has of a starter, by the election
abbrev pub account_in : {T : Type 0} → Election T → ℕ → Account
account_in e v = record { accepted = e.started v; sent = e.sent v; handled = e.handled v; put_out = e.put_out v }

module _ {K T : Type 0} (precedes : K → K → Bool) (n : Network) (keys : List K) (own : List T) (d : T) where
  pub record Follows (e : Election T) (p : Past T) : Type 0 where
    pub network : p.state.tables.network ≡ n
    pub ranks : p.state.tables.ranks ≡ rank_table precedes keys
    pub rows_long : length p.state.tables.rows ≡ 32
    pub ledger_long : length p.state.tables.ledger ≡ 32
    pub running_long : length p.state.running ≡ n.nodes
    pub own_is : p.state.own ≡ own
    pub rows : (v : ℕ) → option_map joined_there (standing_of p.state.tables v) ≡ e.rows v
    pub running : (v : ℕ) → get_or p.state.running v d ≡ e.running v
    pub transit : map letter_of (held p.state.transit) ≡ e.transit
    pub accounts : (v : ℕ) → account_of p.state.tables v ≡ account_in e v
    pub sent : p.log.sent ≡ total e.sent 32
    pub handled : p.log.handled ≡ total e.handled 32
    pub put_out : p.log.put_out ≡ total e.put_out 32
    pub starts : length p.log.starters ≡ starters e
    pub accepted : (v : ℕ) → ContainsAt p.log.starters v → e.started v ≡ true
    pub named : (v : ℕ) → e.started v ≡ true → ContainsAt p.log.starters v
    pub verdicts : map verdict_there p.log.verdicts ≡ e.verdicts

  -- an accepted starter is in the ledger
  pub started_within : {e : Election T} {p : Past T} → Follows e p → (v : ℕ) → e.started v ≡ true → v < 32
  started_within {e} {p} is v st = ⊎_elim (λ less. less) (λ past_it. absurd (both_ways (e.started v) (sym (ap (λ a. a.accepted) (is.accounts v)) ∙ ap (λ a. a.accepted) (get_or_past p.state.tables.ledger v nothing_sent (omega (arith, is.ledger_long)))) st)) (cases_lt v 32)

  -- ---- at the making

  pub made_follows : {admitted : Network → Bool} (s : State T) → Made admitted precedes n keys own s → Follows (made (λ v. get_or own v d)) (past nothing_said s)
  made_follows s is = record {
    network = is.tables.network;
    ranks = is.tables.ranks;
    rows_long = ap length is.tables.rows ∙ length-replicate 32 asleep;
    ledger_long = ap length is.tables.ledger ∙ length-replicate 32 nothing_sent;
    running_long = ap length is.running ∙ is.may.each;
    own_is = is.own_is;
    rows = λ v. ap (λ t. option_map joined_there (get_or t v asleep).joined) is.tables.rows ∙ ap (λ row. option_map joined_there row.joined) (get_or_all 32 v asleep);
    running = λ v. ap (λ t. get_or t v d) is.running;
    transit = ap (λ k. map letter_of (lib.ListN.take k s.transit.places.now)) is.transit;
    accounts = λ v. ap (λ t. get_or t v nothing_sent) is.tables.ledger ∙ get_or_all 32 v nothing_sent;
    sent = sym (total_none 32);
    handled = sym (total_none 32);
    put_out = sym (total_none 32);
    starts = sym (total_none 32);
    accepted = λ v has. absurd (omega (arith, has.1));
    named = λ v st. absurd (both_ways true (sym st) refl);
    verdicts = refl;
  }

  -- ---- at an event

  heard_as : (e : Event T) (before : List (Verdict T)) → map verdict_there (heard (verdict_of e) before) ≡ cond e.step.decides (record { node = e.node; named = e.starter; holding = e.holding } ∷ map verdict_there before) (map verdict_there before)
  heard_as e before = by e.step.decides
    where
      by : (b : Bool) → map verdict_there (heard (cond b (Some (record { node = e.node; named = e.starter; holding = e.holding })) None) before) ≡ cond b (record { node = e.node; named = e.starter; holding = e.holding } ∷ map verdict_there before) (map verdict_there before)
      by true = refl
      by false = refl

  -- the election in which a node acts, where some starters are accepted and some messages are handled besides
  abbrev pub with_counts : Election T → (ℕ → Bool) → (ℕ → ℕ) → Election T
  with_counts e started' handled' = record { rows = e.rows; running = e.running; transit = e.transit; started = started'; sent = e.sent; handled = handled'; put_out = e.put_out; verdicts = e.verdicts }

  -- what the log and the ledger say of an event
  pub record Noted (e after : Election T) (p : Past T) (counted : Account → ℕ → Account) (ev : Event T) (log : Log T) : Type 0 where
    pub account : counted (account_in e ev.starter) (sends ev.step) ≡ account_in after ev.starter
    pub others : (v : ℕ) → (v ≡ ev.starter → ⊥) → account_in e v ≡ account_in after v
    pub sent : log.sent ≡ p.log.sent + sends ev.step
    pub handled : log.handled ≡ total after.handled 32
    pub put_out : log.put_out ≡ p.log.put_out
    pub starts : length log.starters ≡ starters after
    pub accepted : (v : ℕ) → ContainsAt log.starters v → after.started v ≡ true
    pub named : (v : ℕ) → after.started v ≡ true → ContainsAt log.starters v
    pub verdicts : log.verdicts ≡ heard (verdict_of ev) p.log.verdicts

  pub acted_follows : (e : Election T) (started' : ℕ → Bool) (handled' : ℕ → ℕ) (p : Past T) (counted : Account → ℕ → Account) (ev : Event T) (left : List (Message T)) (there : List (Letter T)) (log : Log T) (after : State T) → map letter_of left ≡ there → Follows e p → ev.node < n.nodes → ev.starter < 32 → Played p.state counted ev left after → Noted e (acted (with_counts e started' handled') there ev.starter ev.node ev.holding ev.step) p counted ev log → Follows (acted (with_counts e started' handled') there ev.starter ev.node ev.holding ev.step) (past log after)
  acted_follows e started' handled' p counted ev left there log after same is node starter played noted = record {
    network = ap (λ r. r.network) played.tables ∙ is.network;
    ranks = ap (λ r. r.ranks) played.tables ∙ is.ranks;
    rows_long = ap (λ r. length r.rows) played.tables ∙ length-set p.state.tables.rows ev.node row ∙ is.rows_long;
    ledger_long = ap (λ r. length r.ledger) played.tables ∙ length-set p.state.tables.ledger ev.starter account ∙ is.ledger_long;
    running_long = ap length played.running ∙ length-set p.state.running ev.node ev.holding ∙ is.running_long;
    own_is = played.own ∙ is.own_is;
    rows = λ v. ap (λ r. option_map joined_there (standing_of r v)) played.tables ∙ written (λ r. option_map joined_there r.joined) p.state.tables.rows ev.node row asleep e.rows (omega (arith, is.rows_long, n.few)) is.rows v;
    running = λ v. ap (λ t. get_or t v d) played.running ∙ written (λ x. x) p.state.running ev.node ev.holding d e.running (omega (arith, is.running_long)) is.running v;
    transit = ap (map letter_of) played.transit.holds ∙ map-append letter_of left (messages ev.starter ev.node ev.step ev.holding) ∙ ap₂ ◌++◌ same (letters_of ev.starter ev.node ev.step ev.holding);
    accounts = λ v. ap (λ r. account_of r v) played.tables ∙ written (λ a. a) p.state.tables.ledger ev.starter account nothing_sent (account_in e) (omega (arith, is.ledger_long)) is.accounts v ∙ account_at v;
    sent = noted.sent ∙ ap (λ k. k + sends ev.step) is.sent ∙ more;
    handled = noted.handled;
    put_out = noted.put_out ∙ is.put_out;
    starts = noted.starts;
    accepted = noted.accepted;
    named = noted.named;
    verdicts = ap (map verdict_there) noted.verdicts ∙ heard_as ev p.log.verdicts ∙ ap (λ l. cond ev.step.decides (record { node = ev.node; named = ev.starter; holding = ev.holding } ∷ l) l) is.verdicts;
  }
    where
      row : Row
      row = standing_in ev.starter ev.step.kept

      account : Account
      account = counted (account_of p.state.tables ev.starter) (sends ev.step)

      account_at : (v : ℕ) → at_node (account_in e) ev.starter account v ≡ account_in (acted (with_counts e started' handled') there ev.starter ev.node ev.holding ev.step) v
      account_at v = ⊎_elim (λ here. ap (at_node (account_in e) ev.starter account) here ∙ at_same (account_in e) ev.starter account ∙ ap (λ a. counted a (sends ev.step)) (is.accounts ev.starter) ∙ noted.account ∙ ap (account_in (acted (with_counts e started' handled') there ev.starter ev.node ev.holding ev.step)) (sym here)) (λ other. at_other (account_in e) ev.starter account v other ∙ noted.others v other) (cases_eq v ev.starter)

      more : total e.sent 32 + sends ev.step ≡ total (at_node e.sent ev.starter (e.sent ev.starter + length (letters ev.starter ev.node ev.step ev.holding))) 32
      more = omega (arith, total_more e.sent ev.starter 32 (length (letters ev.starter ev.node ev.step ev.holding)) starter, letters_sent ev.starter ev.node ev.step ev.holding)
