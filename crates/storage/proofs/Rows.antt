-- Rows and columns: of a tile of a map neither is negative, no two tiles have the same, and the tile that the code answers has them.
use mathlib.Core.Path.{◌≡◌, refl, sym, ap, ap₂, ◌∙◌}
use mathlib.Core.Bool.{true, false}
use Prim.Native.Nat.{ℕ, ◌+◌, ◌-◌, ◌*◌, ◌≤◌, ◌<◌}
use native.Mathlib.Omega.{arith}
use lib.IntN.{ℤ, pos, negsuc, ◌+ℤ◌, ◌-ℤ◌}
use lib.Signed.{◌≤ℤ◌}
use Rattle.std.proofs.lemmas.Int.{ints}
use Rattle.hexes.specs.Answers.{accepted, refused_tile}
use Rattle.hexes.specs.Refusals.{not_of_map}
use Rattle.hexes.specs.Tiles.{tile}
use Rattle.hexes.specs.declared.Tile.{Tile}
use Rattle.storage.specs.Hexagonal.{natural, row_in, column_in, row_column, row_column_in}
use Rattle.storage.specs.Leaves.{tile_at_row}
use Rattle.storage.specs.Maps.{of_map, TheTile, of, none}
use Rattle.storage.specs.declared.Map.{Map}
use Rattle.storage.specs.declared.RowColumn.{RowColumn}
use Rattle.storage.proofs.Ending.{OneHas}
use Rattle.storage.proofs.Maps.{disc_of}
use Rattle.storage.proofs.Strips.{Disc}

-- A number that is not negative is its natural number.
pub natural_is : (z : ℤ) → pos 0 ≤ℤ z → pos (natural z) ≡ z
natural_is (pos n) h = refl
natural_is (negsuc n) h = absurd (omega (arith, ints))

module _ (map : Map) (t : Tile) (p : of_map map t ≡ true) where
  d : Disc map.radius (t.x -ℤ map.centre.x) (t.y -ℤ map.centre.y)
  d = disc_of map t p

  pub row_is : pos (row_in map t) ≡ (t.y -ℤ map.centre.y) +ℤ pos map.radius
  unfolding row_in
  row_is = natural_is _ (omega (arith, ints, d.disc_y))

  pub column_is : pos (column_in map t) ≡ ((t.x -ℤ map.centre.x) +ℤ pos map.radius) -ℤ pos (map.radius - row_in map t)
  unfolding column_in
  column_is = natural_is _ (omega (arith, ints, row_is, d.disc_x, d.disc_sum))

  -- Neither is above 2r.
  pub row_low : row_in map t ≤ 2 * map.radius
  row_low = omega (arith, ints, row_is, d.disc_y)

  pub column_low : column_in map t ≤ 2 * map.radius
  column_low = omega (arith, ints, column_is, d.disc_x)

  -- Row and column lead back to the tile.
  pub row_leads_back : tile_at_row map (row_in map t) (column_in map t) ≡ t
  row_leads_back = ap₂ tile (omega (arith, ints, column_is)) (omega (arith, ints, row_is))

pub one_row_column : (map : Map) → OneHas map (row_column_in map)
unfolding OneHas
one_row_column map s t p q e =
    sym (row_leads_back map s p)
    ∙ ap₂ (tile_at_row map) (ap (λ (v : RowColumn). v.row) e) (ap (λ (v : RowColumn). v.column) e)
    ∙ row_leads_back map t q

-- The tile of a row and column has them.
row_back : (r row : ℕ) (c : ℤ) → ((c +ℤ (pos row -ℤ pos r)) -ℤ c) +ℤ pos r ≡ pos row
row_back r row c = omega (arith, ints)

column_back : (r cut column : ℕ) (c : ℤ) → (((c +ℤ (pos (column + cut) -ℤ pos r)) -ℤ c) +ℤ pos r) -ℤ pos cut ≡ pos column
column_back r cut column c = omega (arith, ints)

module _ (map : Map) (row column : ℕ) where
  pub at_row : row_in map (tile_at_row map row column) ≡ row
  unfolding row_in
  at_row = ap natural (row_back map.radius row map.centre.y)

  pub at_column : column_in map (tile_at_row map row column) ≡ column
  unfolding column_in
  at_column = rw at_row (ap natural (column_back map.radius (map.radius - row) column map.centre.x))

-- What the way back finds and what it does not.
module _ (map : Map) (asked : RowColumn) where
  pub the_tile_at : of_map map (tile_at_row map asked.row asked.column) ≡ true → (t : Tile) → t ≡ tile_at_row map asked.row asked.column → TheTile map (row_column_in map) asked (accepted t)
  the_tile_at p t e =
      of t (ap (of_map map) e ∙ p)
      (ap₂ row_column (ap (row_in map) e ∙ at_row map asked.row asked.column) (ap (column_in map) e ∙ at_column map asked.row asked.column))

  pub no_tile_at : of_map map (tile_at_row map asked.row asked.column) ≡ false → TheTile map (row_column_in map) asked (refused_tile not_of_map)
  no_tile_at f =
      none (λ t p e.
      let back = ap₂ (tile_at_row map) (ap (λ (v : RowColumn). v.row) (sym e)) (ap (λ (v : RowColumn). v.column) (sym e)) ∙ row_leads_back map t p in
      let z : true ≡ false = sym p ∙ ap (of_map map) (sym back) ∙ f in
      let k : ◌≡◌ {A = ℕ} 0 1 = cc in
      absurd (omega arith))

  pub no_such_row : 2 * map.radius < asked.row → TheTile map (row_column_in map) asked (refused_tile not_of_map)
  no_such_row h = none (λ t p e. let f = row_low map t p in let k = ap (λ (v : RowColumn). v.row) e in absurd (omega arith))

  pub no_such_column : 2 * map.radius < asked.column → TheTile map (row_column_in map) asked (refused_tile not_of_map)
  no_such_column h = none (λ t p e. let f = column_low map t p in let k = ap (λ (v : RowColumn). v.column) e in absurd (omega arith))
