-- What an event is, and what a start or a message makes of a node. Assumes nothing.
use Rattle.std.specs.Prelude.{ℕ, Bool, true, false, cond, ◌&&◌, ◌||◌, List, Some, None, Option, ◌==◌, slice_index_or}
use Rattle.network.specs.Paths.{adjacent}
use Rattle.wave.specs.Lone.{Arrival, Opening, blank}
use Rattle.wave.specs.declared.step.Record.{Record}
use Rattle.tables.specs.Fates.{fate}
use Rattle.tables.specs.declared.message.Message.{Message}
use Rattle.tables.specs.declared.standing.Fate.{Fate}
use Rattle.tables.specs.declared.standing.Fate.TheVariants.{Joins, Stays, GoesOut}
use Rattle.tables.specs.declared.verdict.Verdict.{Verdict}
use Rattle.tables.specs.Tables.{account_of, rank_in, sends, standing_of}
use Rattle.tables.specs.declared.event.Event.{Event}
use Rattle.tables.specs.declared.tables.Tables.{Tables}

module _ {T : Type 0} where
  -- a decision names the wave's starter and shows the running holding
  abbrev pub verdict_of : Event T → Option (Verdict T)
  verdict_of e = cond e.step.decides (Some (record { node = e.node; named = e.starter; holding = e.holding })) None

  abbrev pub sends_if : Option (Event T) → ℕ
  sends_if None = 0
  sends_if (Some e) = sends e.step

  -- a node with the own holding x starts
  abbrev pub start_event : Opening → Tables → ℕ → T → Event T
  start_event opening tables node x = record { starter = node; node = node; holding = x; step = opening tables.network node }

  -- a message that this run can have sent: between neighbours, of an accepted starter, of kind 1 or 2
  abbrev pub belongs : Tables → Message T → Bool
  belongs tables m = adjacent tables.network.neighbours m.sender m.receiver && ((account_of tables m.starter).accepted && (m.kind == 1 || m.kind == 2))

  module _ (arrival : Arrival) (meet : T → T → T) (tables : Tables) where
    -- the event of the receiver of m, from its holding before and its record in the wave, if it has one
    abbrev pub arrived : Message T → T → Bool → Record → Event T
    arrived m before known kept = record { starter = m.starter; node = m.receiver; holding = meet before m.holding; step = arrival tables.network m.receiver known kept m.sender m.kind }

    module _ (own running : List T) (m : Message T) where
      -- what m makes of its receiver, by its fate; nothing if it is put out
      abbrev pub event_by : Fate → Option (Event T)
      event_by Joins = Some (arrived m (slice_index_or own m.receiver m.holding) false blank)
      event_by (Stays kept) = Some (arrived m (slice_index_or running m.receiver m.holding) true kept)
      event_by GoesOut = None

      abbrev pub event_of : Option (Event T)
      event_of = event_by (fate (rank_in tables) (standing_of tables m.receiver) m.starter)
