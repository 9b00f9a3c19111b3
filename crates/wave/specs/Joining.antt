-- What a node keeps when it joins a wave. Assumes nothing.
use Rattle.std.specs.Prelude.{false}
use Rattle.base.specs.NodeSets.{no_nodes}
use Rattle.wave.specs.declared.step.Record.{Record}
use Rattle.wave.specs.declared.step.Standing.{Standing}

-- nobody is marked yet, and no token was sent
abbrev pub joined_as : Standing → Record
joined_as standing = record { standing = standing; marked = no_nodes; token_sent = false }
