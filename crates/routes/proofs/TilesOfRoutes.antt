-- The tiles of a route: one more than its steps, the last is the end, and each is open.
use mathlib.Core.Path.{◌≡◌, refl, ap}
use mathlib.Core.List.{List, [], ◌∷◌}
use Prim.Native.Nat.{ℕ, zero, suc, ◌≤◌}
use native.Mathlib.Omega.{arith}
use lib.ListN.{length, get_or}
use Rattle.routes.specs.Grounds.{Ground, OpenTile}
use Rattle.routes.specs.Routes.{Route, there, first, tiles_of}

pub tiles_count : (G : Ground) (u : ℕ) (ds : List ℕ) → length (tiles_of G u ds) ≡ suc (length ds)
tiles_count G u [] = refl
tiles_count G u (d ∷ ds) = ap suc (tiles_count G (G.next u d) ds)

pub tiles_end : {G : Ground} {e u v : ℕ} {ds : List ℕ} → Route G e u ds v → get_or (tiles_of G u ds) (length ds) 0 ≡ e
tiles_end (there o) = refl
tiles_end (first o st r) = rw st.leads (tiles_end r)

pub tiles_open : {G : Ground} {e u v : ℕ} {ds : List ℕ} → Route G e u ds v → (k : ℕ) → k ≤ length ds → OpenTile G (get_or (tiles_of G u ds) k 0)
tiles_open (there o) zero h = o
tiles_open (there o) (suc k) h = absurd (omega arith)
tiles_open (first o st r) zero h = o
tiles_open (first o st r) (suc k) h = rw st.leads (tiles_open r k (omega arith))
