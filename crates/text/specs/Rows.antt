-- A row that a thing is pushed to.
use Rattle.std.specs.Prelude.{◌≡◌, Bool, true, false, List, [], ◌∷◌, ◌++◌, ℕ, ◌≤◌, ◌<◌, length}

-- With room for n things the thing stands behind the others; else the row is full, and stays as it is. The answer says which.
pub record Pushed {T : Type 0} (n : ℕ) (item : T) (before : List T) (answer : Bool) (after : List T) : Type 0 where
  pub room : length before < n → (answer ≡ true) × (after ≡ before ++ item ∷ [])
  pub full : n ≤ length before → (answer ≡ false) × (after ≡ before)
