-- Rings, edges, wedges, corner wedges and spirals, as lists of tiles in the paper's order. Direction sums are taken modulo 6, which `step_of` does.
use Rattle.std.specs.Prelude.{List, [], ◌∷◌, ◌++◌, ℕ, zero, suc, ◌+◌, ◌*◌, ◌-◌, ◌/◌, pos, ◌+ℤ◌, ◌*ℤ◌}
use Rattle.hexes.specs.Directions.{step_of}
use Rattle.hexes.specs.Tiles.{tile}
use Rattle.hexes.specs.declared.Tile.{Tile}
use Rattle.runs.specs.Lists.{gather}

-- The tile k steps along d from p.
unfoldable pub along : Tile → ℕ → ℕ → Tile
along p d k = tile (p.x +ℤ pos k *ℤ (step_of d).0) (p.y +ℤ pos k *ℤ (step_of d).1)

-- n tiles, p first, each one step along d from the one before.
abbrev pub leg : Tile → ℕ → ℕ → List Tile
leg p d n = gather (λ k. along p d k ∷ []) n

-- The directions that a ring goes along, one after the other: d+2, d+3, .. in sense 0; d+4, d+3, .. in sense 1, where five more is one less.
abbrev pub heading : ℕ → ℕ → ℕ → ℕ
heading d zero i = d + 2 + i
heading d (suc sense) i = d + 4 + 5 * i

-- Where leg i of a ring of range n starts: the first leg at p, each other where the one before leads, n steps on.
unfoldable pub corner : Tile → ℕ → ℕ → ℕ → ℕ → Tile
corner p d sense n zero = p
corner p d sense n (suc i) = along (corner p d sense n i) (heading d sense i) n

-- The ring of range n: the centre alone at range 0; else six legs of n tiles from centre + n·step(d).
unfoldable pub ring : Tile → ℕ → ℕ → ℕ → List Tile
ring c d sense zero = c ∷ []
ring c d sense (suc n) = gather (λ i. leg (corner (along c d (suc n)) d sense (suc n) i) (heading d sense i) (suc n)) 6

-- The edge of range n at vertex v, which lies between directions v and v+1: n+1 tiles, from n·step(v) along v+2 in sense 0, from n·step(v+1) along v+5 in sense 1.
unfoldable pub edge : Tile → ℕ → ℕ → ℕ → List Tile
edge c v zero n = leg (along c v n) (v + 2) (n + 1)
edge c v (suc sense) n = leg (along c (v + 1) n) (v + 5) (n + 1)

-- The corner of range n in direction d: n·step(d) followed by half of n, rounded down, steps along d+2; then, again from n·step(d), as many tiles along d+4 without the start.
unfoldable pub corner_edge : Tile → ℕ → ℕ → List Tile
corner_edge c d n = leg (along c d n) (d + 2) (n / 2 + 1) ++ leg (along (along c d n) (d + 4) 1) (d + 4) (n / 2)

-- The lists of ranges first to last, both included, one after the other: none if first is above last.
abbrev pub ranges : (ℕ → List Tile) → ℕ → ℕ → List Tile
ranges f first last = gather (λ k. f (first + k)) (last + 1 - first)

abbrev pub spiral : Tile → ℕ → ℕ → ℕ → ℕ → List Tile
spiral c first last d sense = ranges (ring c d sense) first last

abbrev pub wedge : Tile → ℕ → ℕ → ℕ → ℕ → List Tile
wedge c first last v sense = ranges (edge c v sense) first last

abbrev pub corner_wedge : Tile → ℕ → ℕ → ℕ → List Tile
corner_wedge c first last d = ranges (corner_edge c d) first last
