-- Each public call's promise leaves one outcome: two outcomes that meet it are equal. (`each_byte` reads what the system gives, so nothing is promised of it but that it returns.)
use mathlib.Core.Path.{◌≡◌, sym, ◌∙◌}
use mathlib.Core.Bool.{Bool}
use mathlib.Core.List.{List, []}
use Prim.Native.Nat.{ℕ, ◌<◌, ◌≤◌}
use native.Mathlib.Decide.{dec_lt}
use native.Mathlib.Omega.{arith}
use lib.IntN.{ℤ}
use lib.ListN.{length}
use Rattle.std.specs.Prelude.{Option}
use Rattle.text.specs.Digits.{more_of, value_of}
use Rattle.text.specs.Rows.{Pushed}
use Rattle.text.specs.declared.digits.Digits.{Digits}

pub more_unique : (d : Digits) (digit : ℕ) {r s : Option Digits} → r ≡ more_of d digit → s ≡ more_of d digit → r ≡ s
more_unique d digit p q = p ∙ sym q

pub value_unique : (d : Digits) {r s : Option ℤ} → r ≡ value_of d → s ≡ value_of d → r ≡ s
value_unique d p q = p ∙ sym q

pub push_unique : {T : Type 0} (n : ℕ) (item : T) (before : List T) (r s : Bool) (x y : List T) → Pushed n item before r x → Pushed n item before s y → (r ≡ s) × (x ≡ y)
push_unique {T} n item before r s x y p q = go (dec_lt (length before) n)
  where
    go : Dec (length before < n) → (r ≡ s) × (x ≡ y)
    go (yes h) = let a = p.room h in let b = q.room h in (a.0 ∙ sym b.0, a.1 ∙ sym b.1)
    go (no h) = let l : n ≤ length before = omega arith in let a = p.full l in let b = q.full l in (a.0 ∙ sym b.0, a.1 ∙ sym b.1)

pub new_unique : {T : Type 0} {x y : List T} → x ≡ [] → y ≡ [] → x ≡ y
new_unique p q = p ∙ sym q

pub clear_unique : {T : Type 0} {x y : List T} → x ≡ [] → y ≡ [] → x ≡ y
clear_unique p q = p ∙ sym q

pub as_slice_unique : {T : Type 0} (row : List T) {x y : List T} → x ≡ row → y ≡ row → x ≡ y
as_slice_unique row p q = p ∙ sym q
