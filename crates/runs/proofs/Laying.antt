-- A list of tiles laid into a run piece by piece: the law of every loop that writes.
use mathlib.Core.Path.{◌≡◌, sym, ap, ◌∙◌, subst}
use mathlib.Core.List.{List, [], ◌∷◌, ◌++◌}
use Prim.Native.Nat.{ℕ, ◌+◌, ◌*◌, ◌≤◌, ◌<◌}
use native.Mathlib.Omega.{arith}
use lib.IntN.{ℤ}
use lib.ListN.{length, length-append}
use Rattle.hexes.specs.declared.Tile.{Tile}
use Rattle.runs.specs.Laid.{Laid}
use Rattle.runs.specs.Lists.{gather}
use Rattle.runs.specs.Runs.{entries, written, Put}
use Rattle.runs.proofs.Gathered.{gather_none, gather_more, gather_room}
use Rattle.runs.proofs.Written.{written_none, written_more, length_entries, entries_append}

-- The same tiles, as another term.
pub laid_as : {entry : List ℤ} {at next : ℕ} {exit : List ℤ} {l t : List Tile} → l ≡ t → Laid entry at l next exit → Laid entry at t next exit
laid_as {entry} {at} {next} {exit} e a = subst (λ (u : List Tile). Laid entry at u next exit) e a

-- A tile that is put where there is room.
pub laid_put : (entry : List ℤ) (at : ℕ) (t u : Tile) {next : ℕ} {exit : List ℤ} → at + 2 ≤ length entry → u ≡ t → Put entry at u next exit → Laid entry at (t ∷ []) next exit
unfolding entries
laid_put entry at t u {next} {exit} h e p =
    let r = (subst (λ (v : Tile). Put entry at v next exit) e p).room h in
    record { goes = r.0; holds = r.1 }

-- Tiles l, and then tiles t behind them.
pub laid_then : (entry : List ℤ) (at : ℕ) (l t : List Tile) {j next : ℕ} {run exit : List ℤ} → j ≤ length entry → Laid entry at l j run → Laid run j t next exit → Laid entry at (l ++ t) next exit
laid_then entry at l t {j} {next} {run} {exit} h a b =
    record {
      goes = omega (arith, a.goes, b.goes, length-append l t);
      holds =
          b.holds
          ∙ ap (λ (r : List ℤ). written r j (entries t)) a.holds
          ∙ written_more entry at j (entries l) (entries t) (omega (arith, a.goes, length_entries l)) h
          ∙ ap (written entry at) (sym (entries_append l t));
    }

-- A loop that lays the n pieces of f: at its start, what a turn asks, and after a turn.
module _ (f : ℕ → List Tile) (n : ℕ) (entry : List ℤ) (at : ℕ) where
  pub laid_none : Laid entry at (gather f 0) at entry
  unfolding entries
  laid_none =
      record {
        goes = omega (arith, ap length (gather_none f));
        holds = sym (ap (λ (l : List Tile). written entry at (entries l)) (gather_none f) ∙ written_none entry at);
      }

  pub laid_room : (k : ℕ) {j : ℕ} {run : List ℤ} → k < n → at + 2 * length (gather f n) ≤ length entry → length run ≡ length entry → Laid entry at (gather f k) j run → j + 2 * length (f k) ≤ length run
  laid_room k {j} {run} h r q a = omega (arith, a.goes, gather_room f k n h)

  pub laid_turn : (k : ℕ) {j next : ℕ} {run exit : List ℤ} → k < n → at + 2 * length (gather f n) ≤ length entry → Laid entry at (gather f k) j run → Laid run j (f k) next exit → Laid entry at (gather f (k + 1)) next exit
  laid_turn k {j} h r a b = rw (gather_more f k) (laid_then entry at (gather f k) (f k) (omega (arith, a.goes, gather_room f k n h)) a b)
