-- What a call for C answers that gives a number: that number, or minus the number of a refusal.
use Rattle.std.specs.Prelude.{ℕ, zero, suc, ℤ, pos}
use Rattle.hexes.specs.declared.Tile.{Tile}
use Rattle.storage.specs.Hexmod.{to_hexmod}
use Rattle.storage.specs.declared.Map.{Map}
use Rattle.firmware.specs.Calls.{minus}

-- The answer of a call that is refused by a number, 0 for no refusal, and else gives a value.
unfoldable pub answered : ℕ → ℕ → ℤ
answered zero value = pos value
answered (suc number) value = minus (suc number)

-- The answer of a call that gives the index of a tile.
abbrev pub index_answered : Map → Tile → ℤ
index_answered map t = answered (to_hexmod map t).number (to_hexmod map t).value.0
