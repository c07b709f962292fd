-- A tile's leaf tells the tile's total and whether the tile is open, that is, still to be settled. `src/leaves.rt` names the same numbers for the code.
use Rattle.std.specs.Prelude.{cond, ℕ, ◌+◌, ◌-◌, ◌*◌, ◌/◌, ltb}
use Rattle.hexes.specs.Limits.{radius_limit}
use Rattle.storage.specs.Maps.{area_of}

-- An open leaf is its total times this, and the tile's index.
abbrev pub indices : ℕ
indices = 65536

-- A closed leaf is this and its total, so that every closed leaf is above every open one: 2^64 - 2^48.
abbrev pub shut : ℕ
shut = 18446462598732840960

-- The total of a tile to which no way leads, 2^48 - 1. Its leaf is the largest number of 64 bits.
abbrev pub no_total : ℕ
no_total = 281474976710655

-- The largest total that an open leaf can tell, whatever the index, and stay below `shut`.
abbrev pub largest_total : ℕ
largest_total = 281470681743359

-- The largest map has this many tiles, and a tree over them twice as many nodes.
abbrev pub largest_area : ℕ
largest_area = area_of radius_limit

abbrev pub room : ℕ
room = 2 * largest_area

abbrev pub open_leaf : ℕ → ℕ → ℕ
open_leaf total i = total * indices + i

abbrev pub closed_leaf : ℕ → ℕ
closed_leaf total = shut + total

-- The leaf of a tile to which no way has been found.
abbrev pub unreached : ℕ
unreached = closed_leaf no_total

-- The total that a leaf tells.
unfoldable pub total_of : ℕ → ℕ
total_of x = cond (ltb x shut) (x / indices) (x - shut)

-- What a leaf adds to the measure of the work left: a tile that is lowered may open, and still adds less than before; so does a tile that is closed.
unfoldable pub weight_of : ℕ → ℕ
weight_of x = 2 * total_of x + cond (ltb x shut) 1 0
