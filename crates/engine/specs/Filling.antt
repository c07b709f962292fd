-- What a table holds once the engine has filled it, and when it is left as it is.
use Rattle.std.specs.Prelude.{◌≡◌, Bool, true, false, ◌&&◌, List, ℕ, ltb, length}
use Rattle.paths.specs.Tables.{at, Right}
use Rattle.routes.specs.Ranks.{Ranks}
use Rattle.hexes.specs.Limits.{no_way}
use Rattle.storage.specs.Maps.{tiles_of}
use Rattle.storage.specs.declared.Map.{Map}
use Rattle.terrain.specs.GroundOfMap.{ground_of}
use Rattle.terrain.specs.Judging.{lengths_fit}
use Rattle.terrain.specs.LandOfMap.{land_of}

-- Both tables have an entry for each tile of a map that is fine, and the tile that is asked about, a start or an end, is one of its indices. (A map that is not fine has no tiles.)
unfoldable pub fits : Map → ℕ → ℕ → ℕ → Bool
fits map i efforts table = ltb i (tiles_of map) && lengths_fit map efforts table

-- A table that fits is filled, keeps its length, and then holds what it should; one that does not is unchanged.
pub record Fills (fit : Bool) (Holds : List ℕ → Type 0) (before after : List ℕ) : Type 0 where
  pub filled : fit ≡ true → (length after ≡ length before) × Holds after
  pub left : fit ≡ false → after ≡ before

-- The table of totals is right over the land of the map, or unchanged.
abbrev pub FillsTotals : Map → List ℕ → ℕ → ℕ → List ℕ → List ℕ → Type 0
FillsTotals map efforts start budget before = Fills (fits map start (length efforts) (length before)) (λ table. Right (land_of map efforts no_way) (at table) start budget) before

-- The table of ranks holds the rank of every tile over the ground of the map, or is unchanged. (For a barred end no tile has a route, so each entry is the mark for that.)
abbrev pub FillsRanks : Map → List ℕ → ℕ → List ℕ → List ℕ → Type 0
FillsRanks map efforts end before = Fills (fits map end (length efforts) (length before)) (λ table. Ranks (ground_of map efforts) end (at table)) before
