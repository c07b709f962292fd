-- Routes over a ground, and the best of them: of least cost, then of fewest steps, then by the smallest list of direction numbers.
use Rattle.std.specs.Prelude.{◌≡◌, ◌⊎◌, List, [], ◌∷◌, ℕ, ◌+◌, ◌<◌, length}
use Rattle.routes.specs.Grounds.{Ground, OpenTile, OpenStep}

-- A route to e: the tile where it starts, the direction numbers of its steps in their order, and its cost. All its tiles are open, both ends included. The cost is the sum of
-- the efforts of the tiles after the start.
pub data Route (G : Ground) (e : ℕ) : ℕ → List ℕ → ℕ → Type 0 where
  there : OpenTile G e → Route G e e [] 0
  first : {u d t w v : ℕ} {ds : List ℕ} → OpenTile G u → OpenStep G u d t w → Route G e t ds v → Route G e u (d ∷ ds) (w + v)

-- The tiles of the route from u by these directions: the list holds both ends, and is one tile if there is no step.
abbrev pub tiles_of : Ground → ℕ → List ℕ → List ℕ
tiles_of G u [] = u ∷ []
tiles_of G u (d ∷ ds) = u ∷ tiles_of G (G.next u d) ds

-- No route leads from u to e.
abbrev pub NoRoute : Ground → ℕ → ℕ → Type 0
NoRoute G e u = (ds : List ℕ) (v : ℕ) → Route G e u ds v → ⊥

-- The first list is the smaller one, compared from the front. (Only lists of one length are compared.)
abbrev pub Smaller : List ℕ → List ℕ → Type 0
Smaller [] es = ⊥
Smaller (d ∷ ds) [] = ⊥
Smaller (d ∷ ds) (k ∷ es) = (d < k) ⊎ ((d ≡ k) × Smaller ds es)

-- Cost v by the directions ds is better than cost x by es: it is less; or the same in fewer steps; or the same in as many, by the smaller list.
abbrev pub Better : ℕ → List ℕ → ℕ → List ℕ → Type 0
Better v ds x es = (v < x) ⊎ ((v ≡ x) × ((length ds < length es) ⊎ ((length ds ≡ length es) × Smaller ds es)))

-- The best route from s to e is better than every other.
pub record BestRoute (G : Ground) (s e : ℕ) (ds : List ℕ) (v : ℕ) : Type 0 where
  pub route : Route G e s ds v
  pub best : (es : List ℕ) (x : ℕ) → Route G e s es x → (ds ≡ es) ⊎ Better v ds x es
