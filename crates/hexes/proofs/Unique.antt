-- Each public call's promise leaves one answer: two answers that meet it are equal.
use mathlib.Core.Path.{◌≡◌, sym, ◌∙◌}
use mathlib.Core.Bool.{Bool}
use mathlib.Core.List.{List}
use Prim.Native.Nat.{ℕ}
use Rattle.hexes.specs.Answers.{Answer, TileTells, judged_tile}
use Rattle.hexes.specs.Directions.{step_of, turned_by}
use Rattle.hexes.specs.Refusals.{number_of, refusal_text}
use Rattle.hexes.specs.Tiles.{place, neighbor_of, distance_of, within_limit}
use Rattle.hexes.specs.declared.Direction.{Direction}
use Rattle.hexes.specs.declared.Place.{Place}
use Rattle.hexes.specs.declared.Step.{Step}
use Rattle.hexes.specs.declared.Tile.{Tile}
use Rattle.hexes.specs.declared.refusal.Refusal.{Refusal}
use Rattle.hexes.proofs.Tells.{one_value, tile_tells_one}

pub step_of_unique : (d : ℕ) {r s : Step} → r ≡ step_of d → s ≡ step_of d → r ≡ s
step_of_unique d p q = p ∙ sym q

pub turned_unique : (d by : ℕ) {r s : Direction} → r ≡ turned_by d by → s ≡ turned_by d by → r ≡ s
turned_unique d by p q = p ∙ sym q

pub opposite_unique : (d : ℕ) {r s : Direction} → r ≡ turned_by d 3 → s ≡ turned_by d 3 → r ≡ s
opposite_unique d = turned_unique d 3

pub place_of_unique : (t : Tile) {r s : Place} → r ≡ place t → s ≡ place t → r ≡ s
place_of_unique t p q = p ∙ sym q

pub neighbor_unique : (t : Tile) (d : ℕ) {r s : Place} → r ≡ place (neighbor_of t d) → s ≡ place (neighbor_of t d) → r ≡ s
neighbor_unique t d p q = p ∙ sym q

pub distance_unique : (a b : Tile) {r s : ℕ} → r ≡ distance_of a b → s ≡ distance_of a b → r ≡ s
distance_unique a b p q = p ∙ sym q

pub judged_unique : (at : Place) (r s : Answer Tile) → TileTells r (λ told. told ≡ judged_tile at) → TileTells s (λ told. told ≡ judged_tile at) → r ≡ s
judged_unique at r s = tile_tells_one _ (one_value (judged_tile at)) r s

pub within_limit_unique : (t : Tile) {r s : Bool} → r ≡ within_limit t → s ≡ within_limit t → r ≡ s
within_limit_unique t p q = p ∙ sym q

pub refusal_number_unique : (e : Refusal) {r s : ℕ} → r ≡ number_of e → s ≡ number_of e → r ≡ s
refusal_number_unique e p q = p ∙ sym q

pub refusal_text_unique : (e : Refusal) {r s : List ℕ} → r ≡ refusal_text e → s ≡ refusal_text e → r ≡ s
refusal_text_unique e p q = p ∙ sym q
