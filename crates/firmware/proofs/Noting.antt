-- When no broken index is noted: no refusal has the number of a table that is not right.
use mathlib.Core.Path.{◌≡◌, refl}
use mathlib.Core.List.{List}
use Prim.Native.Nat.{ℕ}
use Rattle.hexes.specs.Refusals.{number_of}
use Rattle.hexes.specs.declared.refusal.Refusal.{Refusal}
use Rattle.firmware.specs.Calls.{noted}

pub noted_refused : (e : Refusal) (index : ℕ) (run : List ℕ) → run ≡ noted (number_of e) index run
unfolding noted
noted_refused Refusal.BeyondLimit index run = refl
noted_refused Refusal.TooLarge index run = refl
noted_refused Refusal.UnknownNumber index run = refl
noted_refused Refusal.OddPair index run = refl
noted_refused Refusal.NotOfMap index run = refl
noted_refused Refusal.WrongLength index run = refl
noted_refused Refusal.RunTooShort index run = refl
noted_refused Refusal.NoOpenPath index run = refl
