-- What the checks that a call has passed tell. Assumes nothing.
use Rattle.std.proofs.Common.{◌≡◌, ℕ, ◌+◌, ◌<◌, ◌≤◌, Bool, true, false, cond, eqb, leb, length, Some, None, Ok, Err, Option, Result, sym, refl, ap, ◌∙◌, ⊎_elim, arith}
use Rattle.std.specs.List.{slice_get}
use Rattle.std.proofs.lemmas.List.{get_or-take}
use Rattle.std.proofs.lemmas.Option.{slice_get-get_or, slice_get_past}
use Rattle.std.proofs.lemmas.Bool.{and_parts, cases_Bool, eqb-true, leb-false, leb-true, ltb-true}
use Rattle.base.specs.Bags.{Found, held}
use Rattle.base.specs.declared.bag.Bag.{Bag}
use Rattle.base.specs.Refusals.{number_of}
use Rattle.base.specs.declared.refusal.Refusal.{Refusal}
use Rattle.base.specs.declared.refusal.Refusal.TheVariants.{ForeignMessage, NoFreePlace, NoSuchNode, NotOneEach}
use Rattle.base.proofs.Places.{length_held}
use Rattle.wave.specs.Lone.{Arrival, Opening}
use Rattle.tables.specs.declared.message.Message.{Message}
use Rattle.tables.specs.declared.standing.Joined.{Joined}
use Rattle.tables.specs.Calls.{State, each_else, event_in, free, passing, plan_for, planned, planned_for, start_check}
use Rattle.tables.specs.Checks.{Checked, asleep_else, enough_else, node_else, ours_else}
use Rattle.tables.specs.Events.{belongs, sends_if}
use Rattle.tables.specs.Tables.{sends, standing_of}
use Rattle.tables.specs.declared.tables.planning.Plan.{Plan}

-- ---- the element at a place

module _ {A : Type 0} (b : Bag A) (place : ℕ) where
  pub found_is : (x : A) → Found b place (Ok x) → slice_get (held b) place ≡ Some x
  found_is x (within, is) = slice_get-get_or (held b) place x (omega (arith, length_held b)) ∙ ap Some (get_or-take b.count b.places.now place x within ∙ sym is)

  pub found_none : b.count ≤ place → slice_get (held b) place ≡ None
  found_none past = slice_get_past (held b) place (omega (arith, length_held b))

-- ---- single checks

pub not_err : {A : Type 0} (why : Refusal) (a : A) → Err why ≡ Ok a → ⊥
not_err why a e = let z : ◌≡◌ {A = ℕ} 0 1 = cc in omega arith

pub err_same : {A : Type 0} {a b : Refusal} → ◌≡◌ {A = Result A Refusal} (Err a) (Err b) → a ≡ b
err_same e = cc

pub ok_same : {A : Type 0} {a b : A} → ◌≡◌ {A = Result A Refusal} (Ok a) (Ok b) → a ≡ b
ok_same e = cc

pub passed : {A : Type 0} (check : Checked) (later : Result A Refusal) (a : A) → passing check later ≡ Ok a → (check ≡ Ok tt) × (later ≡ Ok a)
passed (Ok tt) later a e = (refl, e)
passed (Err why) later a e = absurd (not_err why a e)

so : (test : Bool) (why : Refusal) → ◌≡◌ {A = Checked} (cond test (Ok tt) (Err why)) (Ok tt) → test ≡ true
so true why e = refl
so false why e = absurd (not_err why tt e)

sleeps : (o : Option Joined) → asleep_else o ≡ Ok tt → o ≡ None
sleeps None e = refl
sleeps (Some j) e = absurd (not_err _ tt e)

-- ---- what a refusal for want of a place tells

-- a check that gives another refusal was passed
onward : {A : Type 0} (check : Checked) (later : Result A Refusal) → (check ≡ Err NoFreePlace → ⊥) → passing check later ≡ Err NoFreePlace → (check ≡ Ok tt) × (later ≡ Err NoFreePlace)
onward (Ok tt) later other e = (refl, e)
onward (Err why) later other e = absurd (other (ap Err (err_same e)))

another : (test : Bool) (why : Refusal) → (number_of why ≡ 45 → ⊥) → ◌≡◌ {A = Checked} (cond test (Ok tt) (Err why)) (Err NoFreePlace) → ⊥
another true why other e = not_err NoFreePlace tt (sym e)
another false why other e = other (ap number_of (err_same e))

awake_another : (o : Option Joined) → asleep_else o ≡ Err NoFreePlace → ⊥
awake_another None e = not_err NoFreePlace tt (sym e)
awake_another (Some j) e = absurd (omega (arith, ap number_of (err_same e)))

wanting : (sent places : ℕ) → enough_else places sent ≡ Err NoFreePlace → places < sent
wanting sent places e = ⊎_elim (λ fits. absurd (not_err NoFreePlace tt (sym e ∙ ap (λ b. cond b (Ok tt) (Err NoFreePlace)) fits))) (λ short. leb-false sent places short) (cases_Bool (leb sent places))

-- ---- calls

module _ {T : Type 0} where
  pub record Each (s : State T) : Type 0 where
    pub own : length s.own ≡ s.tables.network.nodes
    pub running : length s.running ≡ s.tables.network.nodes

  each : (s : State T) → each_else s ≡ Ok tt → Each s
  each s e =
      let both = and_parts (eqb (length s.own) s.tables.network.nodes) (eqb (length s.running) s.tables.network.nodes) (so _ _ e) in
      record { own = eqb-true (length s.own) s.tables.network.nodes both.0; running = eqb-true (length s.running) s.tables.network.nodes both.1 }

  pub record Sleeper (s : State T) (node : ℕ) : Type 0 where
    pub node_is : node < s.tables.network.nodes
    pub sleeps : standing_of s.tables node ≡ None

  pub may_start : (opening : Opening) (s : State T) (node : ℕ) → start_check opening s node ≡ Ok tt → Sleeper s node
  may_start opening s node e =
      let one = passed _ _ tt e in
      let two = passed _ _ tt one.1 in
      let three = passed _ _ tt two.1 in
      record { node_is = ltb-true node s.tables.network.nodes (so _ _ two.0); sleeps = sleeps (standing_of s.tables node) three.0 }

  pub start_wants : (opening : Opening) (s : State T) (node : ℕ) → start_check opening s node ≡ Err NoFreePlace → Sleeper s node × (free s < sends (opening s.tables.network node))
  start_wants opening s node e =
      let one = onward (each_else s) _ (another _ NotOneEach (λ z. omega arith)) e in
      let two = onward (node_else s.tables.network.nodes node) _ (another _ NoSuchNode (λ z. omega arith)) one.1 in
      let three = onward (asleep_else (standing_of s.tables node)) _ (awake_another (standing_of s.tables node)) two.1 in
      (record { node_is = ltb-true node s.tables.network.nodes (so _ _ two.0); sleeps = sleeps (standing_of s.tables node) three.0 }, wanting (sends (opening s.tables.network node)) (free s) three.1)

  module _ (arrival : Arrival) (meet : T → T → T) where
    -- the message of the plan lies at the place and is one of this run's
    pub record AtHand (s : State T) (place : ℕ) (plan : Plan T) : Type 0 where
      pub each : Each s
      pub found : slice_get (held s.transit) place ≡ Some plan.message
      pub ours : belongs s.tables plan.message ≡ true
      pub event : plan.event ≡ event_in arrival meet s plan.message

    pub record MayDeliver (s : State T) (place : ℕ) (plan : Plan T) : Type 0 where
      pub at_hand : AtHand s place plan
      pub enough : sends_if (event_in arrival meet s plan.message) ≤ free s + 1

    pub may_deliver : (s : State T) (place : ℕ) (plan : Plan T) → planned arrival meet s place ≡ Ok plan → MayDeliver s place plan
    may_deliver s place plan e = let one = passed _ _ plan e in at (slice_get (held s.transit) place) refl one.0 one.1
      where
        at : (o : Option (Message T)) → slice_get (held s.transit) place ≡ o → each_else s ≡ Ok tt → planned_for arrival meet s o ≡ Ok plan → MayDeliver s place plan
        at None is fine e = absurd (not_err _ plan e)
        at (Some m) is fine e =
            let ours = passed _ _ plan e in
            let enough = passed _ _ plan ours.1 in
            let same = ok_same enough.1 in
            let m_is : m ≡ plan.message = ap (λ p. p.message) same in
            record {
              at_hand = record { each = each s fine; found = is ∙ ap Some m_is; ours = ap (belongs s.tables) (sym m_is) ∙ so _ _ ours.0; event = sym (ap (λ p. p.event) same) ∙ ap (event_in arrival meet s) m_is };
              enough = rw (sym m_is) (leb-true (sends_if (event_in arrival meet s m)) (free s + 1) (so _ _ enough.0));
            }

    pub delivery_wants : (s : State T) (place : ℕ) → planned arrival meet s place ≡ Err NoFreePlace → (plan : Plan T) × AtHand s place plan × (free s + 1 < sends_if (event_in arrival meet s plan.message))
    delivery_wants s place e = let one = onward (each_else s) _ (another _ NotOneEach (λ z. omega arith)) e in at (slice_get (held s.transit) place) refl one.0 one.1
      where
        at : (o : Option (Message T)) → slice_get (held s.transit) place ≡ o → each_else s ≡ Ok tt → planned_for arrival meet s o ≡ Err NoFreePlace → (plan : Plan T) × AtHand s place plan × (free s + 1 < sends_if (event_in arrival meet s plan.message))
        at None is fine e = absurd (omega (arith, ap number_of (err_same e)))
        at (Some m) is fine e =
            let ours = onward (ours_else s.tables m) _ (another _ ForeignMessage (λ z. omega arith)) e in
            (plan_for arrival meet s m, record { each = each s fine; found = is; ours = so _ _ ours.0; event = refl }, wanting (sends_if (event_in arrival meet s m)) (free s + 1) (short (enough_else (free s + 1) (sends_if (event_in arrival meet s m))) ours.1))
          where
            short : (check : Checked) → passing check (Ok (plan_for arrival meet s m)) ≡ Err NoFreePlace → check ≡ Err NoFreePlace
            short (Ok tt) e = absurd (not_err NoFreePlace (plan_for arrival meet s m) (sym e))
            short (Err why) e = ap Err (err_same e)
