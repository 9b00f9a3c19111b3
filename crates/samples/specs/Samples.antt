-- The links of the sample networks. Assumes nothing.
use Rattle.std.specs.Prelude.{ℕ, ◌+◌, ◌/◌, ◌%◌, ◌^◌, List, [], ◌∷◌, map}
use Rattle.std.specs.List.{range_with_len}
use Rattle.network.specs.declared.link.Link.{Link}

abbrev pub link : ℕ → ℕ → Link
link a b = record { first = a; second = b }

abbrev pub path_links : List Link
path_links = link 0 1 ∷ link 1 2 ∷ []

abbrev pub triangle_links : List Link
triangle_links = link 0 1 ∷ link 1 2 ∷ link 0 2 ∷ []

-- four links of each of the nodes 0 to 23, to those 1, 2, 4 and 8 above it
abbrev pub rung : ℕ → Link
rung k = link (k / 4) (k / 4 + 2 ^ (k % 4))

abbrev pub mesh : List Link
mesh = map rung (range_with_len 0 96)
