-- Devices as keys. Assumes nothing.
use Rattle.std.specs.Prelude.{Bool, ◌&&◌, ◌||◌, ◌==◌, nat_lt}
use Rattle.values.specs.declared.device.Device.{Device}

-- by class, then by number
abbrev pub device_before : Device → Device → Bool
device_before a b = nat_lt a.class b.class || (a.class == b.class && nat_lt a.number b.number)

abbrev pub device_matches : Device → Device → Bool
device_matches a b = a.class == b.class && a.number == b.number
