-- What a node keeps when it joins a wave. Assumes nothing.
pub use Rattle.wave.specs.Joining.{joined_as}
