-- The tiles of a ring in closed form: tile k of leg i, as an offset from the centre, in both senses. In sense 1 a leg is passed from its other end.
use mathlib.Core.Path.{◌≡◌, ap, ◌∙◌}
use mathlib.Core.List.{List, [], ◌∷◌}
use Prim.Native.Nat.{ℕ, zero, suc, ◌+◌, ◌*◌, ◌-◌, ◌≤◌, ◌<◌}
use native.Mathlib.Omega.{arith}
use Rattle.hexes.specs.Tiles.{distance_of}
use Rattle.hexes.specs.declared.Tile.{Tile}
use Rattle.runs.specs.Lists.{gather}
use Rattle.rings.specs.Rings.{along, heading, corner, ring}
use Rattle.runs.proofs.Gathered.{gather_ext}
use Rattle.rings.proofs.Corners.{shifted, shifted_distance, onwards, backwards, along_same, corner_on, corner_back}
use Rattle.rings.proofs.Offsets.{offset, offset_span}

-- Leg i lies on the side that starts at the corner in direction `bearing d sense i`, and its tile k lies `past sense n k` steps past that corner.
unfoldable pub bearing : ℕ → ℕ → ℕ → ℕ
bearing d zero i = d + i
bearing d (suc sense) i = d + 5 * i + 5

unfoldable pub past : ℕ → ℕ → ℕ → ℕ
past zero n k = k
past (suc sense) n k = n - k

-- Tile k of leg i.
unfoldable pub spot : Tile → ℕ → ℕ → ℕ → ℕ → ℕ → Tile
spot c d sense n i k = shifted c (offset n (bearing d sense i) (past sense n k))

-- Each tile of each leg of a ring is at its spot.
pub leg_spot : (c : Tile) (d sense n i k : ℕ) → k < n → along (corner (along c d n) d sense n i) (heading d sense i) k ≡ spot c d sense n i k
unfolding spot bearing past
leg_spot c d zero n i k h = rw (corner_on c d n i) (along_same (along c (d + i) n) (d + 2 + i) (d + i + 2) k (omega arith) ∙ onwards c (d + i) n k)
leg_spot c d (suc sense) n i k h = rw (corner_back c d sense n i) (along_same (along c (d + 5 * i) n) (d + 4 + 5 * i) (d + 5 * i + 4) k (omega arith) ∙ backwards c (d + 5 * i) n k (omega arith))

-- So leg i is the list of its spots, and a ring is six of these lists.
unfoldable pub side : Tile → ℕ → ℕ → ℕ → ℕ → List Tile
side c d sense n i = gather (λ k. spot c d sense n i k ∷ []) n

pub ring_sides : (c : Tile) (d sense n : ℕ) → ring c d sense (suc n) ≡ gather (side c d sense (suc n)) 6
unfolding ring side
ring_sides c d sense n = gather_ext _ _ 6 (λ i l. gather_ext _ _ (suc n) (λ k h. ap (λ (t : Tile). t ∷ []) (leg_spot c d sense (suc n) i k h)))

-- A spot's distance from the centre is the range.
past_within : (sense n k : ℕ) → k < n → past sense n k ≤ n
unfolding past
past_within zero n k h = omega arith
past_within (suc sense) n k h = omega arith

pub spot_distance : (c : Tile) (d sense n i k : ℕ) → k < n → distance_of c (spot c d sense n i k) ≡ n
unfolding spot
spot_distance c d sense n i k h = shifted_distance c (offset n (bearing d sense i) (past sense n k)) ∙ offset_span n (bearing d sense i) (past sense n k) (past_within sense n k h)
