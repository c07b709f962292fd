-- Laws of single visits and of passes: what they change, what they leave, and that a table that keeps the rule is left as it is.
use mathlib.Core.Path.{◌≡◌, refl, sym, ap, ◌∙◌}
use mathlib.Core.List.{List, [], ◌∷◌, ◌++◌, Memᴰ}
use Prim.Native.Nat.{ℕ, zero, suc, ◌<◌}
use native.Mathlib.Omega.{arith}
use lib.ListN.{length, set, replicate, length-set, length-replicate, get_or-replicate}
use lib.Seq.{get_or-set_same, get_or-set_other, set-get_or}
use Rattle.paths.specs.Lands.{Land}
use Rattle.paths.specs.Tables.{at}
use Rattle.paths.specs.NeighborRule.{want}
use Rattle.paths.specs.Passes.{begin, relax, pass, passes}

-- Each tile of the list is a tile of the land.
abbrev pub On : Land → List ℕ → Type 0
On G order = (t : ℕ) → Memᴰ t order → t < G.tiles

-- The table at the beginning.
module _ (G : Land) (s : ℕ) (hs : s < G.tiles) where
  pub begin_home : at (begin G s) s ≡ 0
  unfolding begin
  begin_home = get_or-set_same (replicate G.tiles G.mark) s 0 0 (omega (arith, length-replicate G.tiles G.mark))

  pub begin_else : (t : ℕ) → t < G.tiles → (t ≡ s → ⊥) → at (begin G s) t ≡ G.mark
  unfolding begin
  begin_else t h e = get_or-set_other (replicate G.tiles G.mark) s t 0 0 e ∙ get_or-replicate G.tiles t G.mark 0 h

  pub begin_length : length (begin G s) ≡ G.tiles
  unfolding begin
  begin_length = length-set (replicate G.tiles G.mark) s 0 ∙ length-replicate G.tiles G.mark

module _ (G : Land) (s b : ℕ) where
  -- A visit sets the entry of its tile and no other.
  pub relax_length : (L : List ℕ) (t : ℕ) → length (relax G s b L t) ≡ length L
  unfolding relax
  relax_length L t = length-set L t (want G (at L) s b t)

  pub relax_own : (L : List ℕ) (t : ℕ) → length L ≡ G.tiles → t < G.tiles → at (relax G s b L t) t ≡ want G (at L) s b t
  unfolding relax
  relax_own L t e h = get_or-set_same L t (want G (at L) s b t) 0 (omega arith)

  pub relax_other : (L : List ℕ) (t u : ℕ) → (u ≡ t → ⊥) → at (relax G s b L t) u ≡ at L u
  unfolding relax
  relax_other L t u h = get_or-set_other L t u (want G (at L) s b t) 0 h

  -- A tile at which the rule holds is left as it is, and a pass over such tiles changes nothing.
  pub relax_still : (L : List ℕ) (t : ℕ) → at L t ≡ want G (at L) s b t → relax G s b L t ≡ L
  unfolding relax
  relax_still L t e = ap (set L t) (sym e) ∙ set-get_or L t 0

  pub pass_still : (order L : List ℕ) → ((t : ℕ) → Memᴰ t order → at L t ≡ want G (at L) s b t) → pass G s b order L ≡ L
  unfolding pass
  pass_still [] L R = refl
  pass_still (t ∷ order) L R =
      ap (pass G s b order) (relax_still L t (R t (Memᴰ.head refl))) ∙ pass_still order L (λ u m. R u (Memᴰ.tail m))

  -- A pass over two lists joined is a pass over one and then over the other.
  pub pass_then : (order next L : List ℕ) → pass G s b (order ++ next) L ≡ pass G s b next (pass G s b order L)
  unfolding pass
  pass_then [] next L = refl
  pass_then (t ∷ order) next L = pass_then order next (relax G s b L t)

  pub pass_length : (order L : List ℕ) → length (pass G s b order L) ≡ length L
  unfolding pass
  pass_length [] L = refl
  pass_length (t ∷ order) L = pass_length order (relax G s b L t) ∙ relax_length L t

  pub passes_length : (order : List ℕ) (k : ℕ) (L : List ℕ) → length (passes G s b order k L) ≡ length L
  unfolding passes
  passes_length order zero L = refl
  passes_length order (suc k) L = pass_length order (passes G s b order k L) ∙ passes_length order k L
