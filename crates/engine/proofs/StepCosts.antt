-- The effort of a tile.
use mathlib.Core.Path.{◌≡◌, refl}
use mathlib.Core.List.{List, [], ◌∷◌}
use Prim.Native.Nat.{ℕ, zero, suc, ◌<◌}
use native.Mathlib.Nat.{not-suc-le-zero, le_of_suc-le-suc}
use lib.ListN.{length, get_or}
use Rattle.engine.specs.Steps.{effort_at}

-- The effort of a tile, by whether there is such a tile. Within the list it does not matter what stands for an entry that is missing.
pub effort_within : (E : List ℕ) (t x : ℕ) → t < length E → get_or E t x ≡ effort_at E t
effort_within [] t x h = absurd (not-suc-le-zero h)
effort_within (e ∷ E) zero x h = refl
effort_within (e ∷ E) (suc t) x h = effort_within E t x (le_of_suc-le-suc h)
