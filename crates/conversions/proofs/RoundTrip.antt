-- There and back: a tile converts to a pair exactly if the pair leads back to that tile. A doubled pair has no tile exactly if its column and row have an odd sum, and an
-- offset pair always has one.
use mathlib.Core.Path.{◌≡◌, refl, sym, ap, ◌∙◌}
use mathlib.Core.Logic.{◌↔◌}
use mathlib.Core.Bool.{Bool, true, false, cond}
use Prim.Native.Nat.{ℕ}
use native.Mathlib.Omega.{arith}
use lib.IntN.{ℤ, ◌+ℤ◌, ◌-ℤ◌, +ℤ_comm}
use Rattle.whole.specs.Euclid.{remainder}
use Rattle.whole.proofs.Differences.{by2}
use Rattle.whole.proofs.Kit.{dif}
use Rattle.hexes.specs.Answers.{Told, accepted}
use Rattle.hexes.specs.Refusals.{odd_pair}
use Rattle.hexes.specs.Tiles.{within_limit}
use Rattle.hexes.specs.declared.Tile.{Tile}
use Rattle.conversions.specs.Grid.{known, TheTile, FromGrid, refused_pair, to_grid}
use Rattle.conversions.specs.Doubled.{doubled_of}
use Rattle.conversions.specs.Leaves.{exchanged_tile, exchanged_pair}
use Rattle.conversions.specs.Offset.{offset_of}
use Rattle.conversions.specs.declared.GridPair.{GridPair}
use Rattle.conversions.proofs.DoubledLaws.{odd_of, width_tile, width_none}
use Rattle.conversions.proofs.GridLaws.{known_two, from_known}
use Rattle.conversions.proofs.Mirror.{Mirrored, pointy_mirrors, height_mirrors}
use Rattle.conversions.proofs.OffsetLaws.{flat_tile}

-- A tile that is told converts to the pair and is within the limit; a refusal by 4 says that no tile does.
told_tile : (convert : Tile → GridPair) (asked : GridPair) (told : Told Tile) → TheTile convert asked told → told.number ≡ 0 → (convert told.value ≡ asked) × (within_limit told.value ≡ true)
told_tile convert asked told (TheTile.within t e w) z = (e, w)
told_tile convert asked told (TheTile.beyond t e w) z = absurd (omega arith)
told_tile convert asked told (TheTile.none n) z = absurd (omega arith)

told_none : (convert : Tile → GridPair) (asked : GridPair) (told : Told Tile) → TheTile convert asked told → told.number ≡ odd_pair → (t : Tile) → convert t ≡ asked → ⊥
told_none convert asked told (TheTile.within t e w) z = absurd (omega arith)
told_none convert asked told (TheTile.beyond t e w) z = absurd (omega arith)
told_none convert asked told (TheTile.none n) z = n

there : (w chosen : Bool) (convert : Tile → GridPair) (t : Tile) (asked : GridPair) → cond w (cond chosen (accepted (convert t)) (refused_pair 3)) (refused_pair 1) ≡ accepted asked → (w ≡ true) × (chosen ≡ true) × (convert t ≡ asked)
there true true convert t asked e = (refl, refl, ap (λ (told : Told GridPair). told.value) e)
there true false convert t asked e = let z : ◌≡◌ {A = ℕ} 3 0 = ap (λ (told : Told GridPair). told.number) e in absurd (omega arith)
there false chosen convert t asked e = let z : ◌≡◌ {A = ℕ} 1 0 = ap (λ (told : Told GridPair). told.number) e in absurd (omega arith)

-- For every conversion, whatever chooses it.
pub round_trip : (chosen : Bool) (convert : Tile → GridPair) (t : Tile) (asked : GridPair) → (to_grid t chosen (convert t) ≡ accepted asked) ↔ FromGrid chosen convert asked (accepted t)
unfolding to_grid
round_trip chosen convert t asked = (forth, back chosen)
  where
    forth : cond (within_limit t) (cond chosen (accepted (convert t)) (refused_pair 3)) (refused_pair 1) ≡ accepted asked → FromGrid chosen convert asked (accepted t)
    forth e = let h = there (within_limit t) chosen convert t asked e in from_known h.1 (TheTile.within t h.2 h.0)

    back : (b : Bool) → FromGrid b convert asked (accepted t) → cond (within_limit t) (cond b (accepted (convert t)) (refused_pair 3)) (refused_pair 1) ≡ accepted asked
    back true h = let f = told_tile convert asked (accepted t) (h.known_number_told refl) refl in rw (f.1, f.0)
    back false h = let z : ◌≡◌ {A = ℕ} 0 3 = ap (λ (told : Told Tile). told.number) (h.unknown_number_told refl) in absurd (omega arith)

-- Column and row have an odd sum exactly if they have an odd difference, and it does not matter which is taken from which.
gap_of_sum : (c r : ℤ) → remainder (c +ℤ r) 2 ≡ remainder (c -ℤ r) 2
gap_of_sum = by2 _ (simp dif (omega arith))

odd_width : (asked : GridPair) → (remainder (asked.column +ℤ asked.row) 2 ≡ 1) ↔ ((t : Tile) → doubled_of 0 t ≡ asked → ⊥)
odd_width asked =
    let e = gap_of_sum asked.column asked.row in (
      (λ h. width_none asked (sym e ∙ h)),
      (λ none. e ∙ odd_of (asked.column -ℤ asked.row) (λ z. none _ (width_tile asked z))),
    )

-- No tile of a grid has a pair exactly if none of its mirror has the pair exchanged.
none_mirrored : (convert mirror : Tile → GridPair) → Mirrored convert mirror → (asked : GridPair) → ((t : Tile) → convert t ≡ exchanged_pair asked → ⊥) ↔ ((t : Tile) → mirror t ≡ asked → ⊥)
unfolding Mirrored
none_mirrored convert mirror m asked = (
  (λ none t e. none (exchanged_tile t) (ap exchanged_pair (sym (m t) ∙ e))),
  (λ none t e. none (exchanged_tile t) (m (exchanged_tile t) ∙ ap exchanged_pair e)),
)

pub odd_has_no_tile : (mode : ℕ) (asked : GridPair) → known mode ≡ true → (remainder (asked.column +ℤ asked.row) 2 ≡ 1) ↔ ((t : Tile) → doubled_of mode t ≡ asked → ⊥)
odd_has_no_tile mode asked =
    let same = ap (λ (s : ℤ). remainder s 2) (+ℤ_comm asked.row asked.column) in
    let there = none_mirrored (doubled_of 0) (doubled_of 1) height_mirrors asked in
    known_two (λ m. (remainder (asked.column +ℤ asked.row) 2 ≡ 1) ↔ ((t : Tile) → doubled_of m t ≡ asked → ⊥)) (odd_width asked) (
      (λ h. there.0 ((odd_width (exchanged_pair asked)).0 (same ∙ h))),
      (λ none. sym same ∙ (odd_width (exchanged_pair asked)).1 (there.1 none)),
    )
    mode

-- Every offset pair has a tile, so the way back from an offset grid is never refused by 4.
some_tile : (mode : ℕ) (asked : GridPair) (orientation : ℕ) → known orientation ≡ true → ((t : Tile) → offset_of mode orientation t ≡ asked → ⊥) → ⊥
some_tile mode asked =
    known_two (λ o. ((t : Tile) → offset_of mode o t ≡ asked → ⊥) → ⊥) (λ none. none _ (flat_tile mode asked))
    (λ none. (none_mirrored (offset_of mode 0) (offset_of mode 1) (pointy_mirrors mode) asked).1 none _ (flat_tile mode (exchanged_pair asked)))

pub offset_never_odd : (mode orientation : ℕ) (asked : GridPair) (told : Told Tile) → known orientation ≡ true → TheTile (offset_of mode orientation) asked told → told.number ≡ odd_pair → ⊥
offset_never_odd mode orientation asked told k h e = some_tile mode asked orientation k (told_none (offset_of mode orientation) asked told h e)
