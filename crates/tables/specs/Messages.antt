-- The messages that a step sends. Assumes nothing.
use Rattle.std.specs.Prelude.{ℕ, List, ◌++◌, map}
use Rattle.base.specs.NodeSets.{members}
use Rattle.wave.specs.declared.step.Step.{Step}
use Rattle.tables.specs.declared.message.Message.{Message}

module _ {T : Type 0} where
  abbrev pub message_to : ℕ → ℕ → ℕ → T → ℕ → Message T
  message_to starter sender kind holding receiver = record { starter = starter; sender = sender; receiver = receiver; kind = kind; holding = holding }

  -- kind 1 by ascending neighbour, then kind 2, each with the node's running holding
  abbrev pub messages : ℕ → ℕ → Step → T → List (Message T)
  messages s node step holding = map (message_to s node 1 holding) (members step.first_kind) ++ map (message_to s node 2 holding) (members step.second_kind)
