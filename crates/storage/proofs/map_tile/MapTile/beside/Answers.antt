-- `beside` meets its contract: the neighbour is off the map, or its index is the index moved by the direction's stride.
use mathlib.Core.Path.{sym, ap, ap₂, ◌∙◌}
use Prim.Native.Nat.{ℕ}
use native.Mathlib.Omega.{arith}
use lib.IntN.{ℤ, pos, ◌+ℤ◌}
use mir.Syntax.{w32}
use Rattle.std.specs.Prelude.{Some}
use Rattle.whole.specs.Euclid.{remainder}
use Rattle.whole.proofs.Machine.{read}
use Rattle.storage.specs.Hexmod.{index}
use Rattle.storage.specs.Maps.{area_of}
use Rattle.storage.specs.declared.Index.{Index}
use Rattle.storage.proofs.Back.{index_below}
use Rattle.storage.proofs.Besides.{index_moved, not_alone, stride_small, at_off, at_on}
use Rattle.storage.proofs.map_tile.MapTile.beside.Goals as goal

pub returns-then-not-stays : goal.returns-then-not-stays
returns-then-not-stays c = at_off _ _ _ (sym c.if-not-stays.ensures)

pub moved_round-requires-clause-index_lt_area : goal.moved_round-requires-clause-index_lt_area
moved_round-requires-clause-index_lt_area c = omega (arith, ap (λ (i : Index). i.0) c.requires.has, index_below c.args.self.fine.map c.args.self.tile)

-- The neighbour is of the map, so the stride is at most one turn.
pub moved_round-requires-clause-by_bound : goal.moved_round-requires-clause-by_bound
moved_round-requires-clause-by_bound c =
    let s = c.args.self in
    let on = sym c.if-not-stays.ensures in
    rw (read w32 c.stride.result c.stride.type_inv, c.stride.ensures) (stride_small _ _ (not_alone s.fine.map s.tile c.args.direction.0 s.of on))

pub returns : goal.returns
returns c =
    let s = c.args.self in
    let on = sym c.if-not-stays.ensures in
    let has = ap (λ (i : Index). i.0) c.requires.has in
    let by = read w32 c.stride.result c.stride.type_inv ∙ c.stride.ensures in
    ap (λ (i : ℕ). Some (index i))
    (c.moved_round.ensures
    ∙ ap₂ (λ (i : ℕ) (z : ℤ). remainder (pos i +ℤ z) (area_of s.fine.map.radius)) has by
    ∙ sym (index_moved s.fine.map s.tile c.args.direction.0))
    ∙ at_on _ _ _ on
