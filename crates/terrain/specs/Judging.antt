-- How a call is judged that takes a map, a tile of it and tables with an entry for each tile.
use Rattle.std.specs.Prelude.{Bool, ◌&&◌, ℕ, eqb}
use Rattle.hexes.specs.Answers.{Told, accepted, refused, provided}
use Rattle.hexes.specs.Refusals.{not_of_map, wrong_length}
use Rattle.hexes.specs.declared.Tile.{Tile}
use Rattle.storage.specs.Hexmod.{index, index_of}
use Rattle.storage.specs.Maps.{map_refusal, of_map, tiles_of, judged_by}
use Rattle.storage.specs.declared.Index.{Index}
use Rattle.storage.specs.declared.Map.{Map}

-- Both lengths, of the effort table and of another table, are the number of the map's tiles.
unfoldable pub lengths_fit : Map → ℕ → ℕ → Bool
lengths_fit map efforts table = eqb efforts (tiles_of map) && eqb table (tiles_of map)

-- What is told of the start: its index, or a refusal, the lowest number first: the map's own (1, 2), 5 for a start that is not of the map, 6 for a length that is not the map's.
unfoldable pub judged_start : Map → Tile → ℕ → ℕ → Told Index
judged_start map start efforts table =
    judged_by (map_refusal map) (refused (index 0)) (provided (of_map map start) (refused (index 0) not_of_map) (provided (lengths_fit map efforts table) (refused (index 0) wrong_length) (accepted (index_of map start))))

-- The refusal number of such a call, 0 if it is accepted.
abbrev pub call_refusal : Map → Tile → ℕ → ℕ → ℕ
call_refusal map start efforts table = (judged_start map start efforts table).number
