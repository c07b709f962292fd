-- `judged` meets its contract: a tile beyond the limit is refused by that, and of one within it the number decides.
use mathlib.Core.Path.{◌≡◌, sym, ◌∙◌}
use mathlib.Core.Bool.{true}
use Prim.Native.Nat.{ℕ}
use Rattle.std.specs.Prelude.{Ok, Err}
use Rattle.hexes.specs.Answers.{Answer}
use Rattle.hexes.specs.Tiles.{within_limit}
use Rattle.hexes.specs.declared.Tile.{Tile}
use Rattle.hexes.proofs.Chains.{and_no}
use Rattle.conversions.specs.Leaves.{axes_of, Chosen, JudgedAs}
use Rattle.conversions.specs.declared.exchanged.Axes.{Axes}
use Rattle.conversions.proofs.GridLaws.{to_beyond, to_unknown}
use Rattle.conversions.proofs.judged.Goals as goal

by_number : (t : Tile) (number : ℕ) (r : Answer Axes) → within_limit t ≡ true → Chosen number (axes_of number) r → JudgedAs t number r
by_number t number (Ok axes) near h = (near, h.0, h.1)
by_number t number (Err e) near h = λ chosen p. rw h.1 (to_unknown t _ p near (and_no chosen h.0))

pub returns-then-not-within_limit : goal.returns-then-not-within_limit
returns-then-not-within_limit c = λ chosen p. to_beyond _ _ _ (sym c.within_limit.ensures ∙ c.if-not-within_limit.true)

pub returns : goal.returns
returns c = by_number c.args.tile c.args.number c.try_from.result (sym c.within_limit.ensures ∙ c.if-not-within_limit.false) c.try_from.ensures
