-- Laws of entries written to a run: what is written behind what was written, and two stores side by side.
use mathlib.Core.Path.{◌≡◌, refl, sym, ap, ap₂, ◌∙◌}
use mathlib.Core.List.{List, [], ◌∷◌, ◌++◌, append_assoc, append-nil}
use Prim.Native.Nat.{ℕ, ◌+◌, ◌*◌, ◌≤◌}
use native.Mathlib.Nat.{add-zero, add_assoc}
use native.Mathlib.Numerals.{add-one}
use native.Mathlib.Omega.{arith}
use lib.IntN.{ℤ}
use lib.ListN.{length, take, drop, set, length-append, take-append-drop}
use lib.Seq.{length-take-le, take_at, drop-append-add, drop-drop, sets-eq}
use Rattle.hexes.specs.declared.Tile.{Tile}
use Rattle.runs.specs.Runs.{entries, written}

pub written_none : (run : List ℤ) (at : ℕ) → written run at [] ≡ run
written_none run at = rw (add-zero, append-nil) (take-append-drop at run)

-- t behind l, which was written from `at` on.
pub written_more : (run : List ℤ) (at j : ℕ) (l t : List ℤ) → at + length l ≡ j → j ≤ length run → written (written run at l) j t ≡ written run at (l ++ t)
written_more run at j l t q h =
    let head : List ℤ = take at run ++ l in
    let rest : List ℤ = drop (at + length l) run in
    let p : length head ≡ j = length-append (take at run) l ∙ ap (λ (n : ℕ). n + length l) (length-take-le at run (omega arith)) ∙ q in
    let a : take j (head ++ rest) ≡ head = take_at head rest j p in
    let b : drop (j + length t) (head ++ rest) ≡ drop (at + length (l ++ t)) run =
    ap (λ (n : ℕ). drop (n + length t) (head ++ rest)) (sym p)
    ∙ drop-append-add head rest (length t)
    ∙ drop-drop (length t) (at + length l) run
    ∙ ap (λ (n : ℕ). drop n run) (add_assoc at (length l) (length t) ∙ ap (λ (n : ℕ). at + n) (sym (length-append l t))) in
    ap₂ (λ (u v : List ℤ). (u ++ t) ++ v) a b ∙ ap (λ (u : List ℤ). u ++ drop (at + length (l ++ t)) run) (append_assoc (take at run) l t)

pub written_two : (run : List ℤ) (at : ℕ) (x y : ℤ) → at + 2 ≤ length run → set (set run at x) (at + 1) y ≡ written run at (x ∷ y ∷ [])
written_two run at x y h = ap (λ (n : ℕ). set (set run at x) n y) (add-one at) ∙ sets-eq (x ∷ y ∷ []) run at h

-- The entries of tiles: two for each, and those of one list behind those of another.
pub length_entries : (tiles : List Tile) → length (entries tiles) ≡ 2 * length tiles
unfolding entries
length_entries [] = refl
length_entries (t ∷ tiles) = omega (arith, length_entries tiles)

pub entries_append : (l t : List Tile) → entries (l ++ t) ≡ entries l ++ entries t
unfolding entries
entries_append [] t = refl
entries_append (u ∷ l) t = ap (λ (e : List ℤ). u.x ∷ u.y ∷ e) (entries_append l t)
