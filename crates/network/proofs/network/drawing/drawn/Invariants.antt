use Rattle.std.proofs.Common.{◌≡◌, ◌≤◌, [], length, take, drop}
use Rattle.network.specs.Drawing.{Drawn}
use Rattle.network.specs.Links.{first_fault}
use Rattle.network.proofs.network.drawing.drawn.Given as goal

abbrev pub invariant-loop-link : goal.invariant-loop-link
invariant-loop-link l = (l.link-index ≤ length l.links) × Drawn l.table (take l.link-index l.links) × (first_fault l.nodes (take l.link-index l.links) (drop l.link-index l.links) ≡ first_fault l.nodes [] l.links)
