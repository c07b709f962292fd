-- Looking at one step: nothing changes where the step lowers nothing; else the tile that it leads to is lowered and opened.
use mathlib.Core.Path.{◌≡◌, sym, ap, ◌∙◌}
use mathlib.Core.List.{List}
use Prim.Native.Nat.{ℕ, ◌+◌, ◌≤◌, ◌<◌}
use native.Mathlib.Decide.{ℕ_discrete}
use native.Mathlib.Omega.{arith}
use Rattle.paths.specs.Lands.{Step}
use Rattle.paths.proofs.Lowering.{going_lower, going_past}
use Rattle.std.specs.Prelude.{Option}
use Rattle.storage.specs.declared.Index.{Index}
use Rattle.engine.specs.Leaves.{indices, shut, largest_total, open_leaf, total_of, weight_of}
use Rattle.engine.specs.Settling.{leaf_of, totals, live, pend, step_of, Sets, Kept, Looked, LookedAround}
use Rattle.engine.specs.declared.trees.Tree.{Tree}
use Rattle.engine.proofs.Totals.{open_below, open_total, weight_below, weight_least}
use Rattle.engine.proofs.Heaps.{work_set}

pub kept_trans : {base : ℕ} {T T₁ T₂ : Tree} → Kept base T T₁ → Kept base T₁ T₂ → Kept base T T₂
kept_trans k j =
    record {
      tiles = j.tiles ∙ k.tiles;
      falls = omega (arith, k.falls, j.falls);
      stays = λ u is. j.stays u (ap total_of (k.stays u is) ∙ is) ∙ k.stays u is;
    }

-- One direction more, in a loop over the six.
pub around_next : (base b d : ℕ) (steps : List (Option Index × ℕ)) (T T₁ T₂ : Tree) → d < 6 → Kept base T T₁ → LookedAround base b steps d T T₁
    → Looked base b (step_of steps d).0 (step_of steps d).1 T₁ T₂ → LookedAround base b steps (d + 1) T T₂
around_next base b d steps T T₁ T₂ h k around looked G u tiles leads is s g =
    looked G u d (tiles ∙ sym k.tiles) (leads d h) (ap total_of (k.stays u is) ∙ is) s (around G u tiles leads is s g)

-- The step out of u by d has been looked at.
past : (T : Tree) (u d x e : ℕ) → pend T u d x e → ((x ≡ u) × (e ≡ d) → ⊥) → pend T u (d + 1) x e
past T u d x e p g = (p.0, λ i. next i (ℕ_discrete e d))
  where
    next : x ≡ u → Dec (e ≡ d) → d + 1 ≤ e
    next i (yes j) = absurd (g (i, j))
    next i (no j) = omega (arith, p.1 i)

module _ (base b t w : ℕ) (T : Tree) where
  -- The step lowers nothing.
  pub looked_same : (t < T.tiles → 0 < w → base + w ≤ b → totals T t ≤ base + w) → Looked base b t w T T
  looked_same low G u d tiles leads is s g = going_past G (totals T) s b (pend T u d) (pend T u (d + 1)) u d enough (past T u d) g
    where
      enough : (y v : ℕ) → Step G u d y v → totals T u < G.mark → totals T u + v ≤ b → totals T y ≤ totals T u + v
      enough y v st m l =
          let o = leads.only y v st in
          rw (o.0, is) (omega (arith, o.1, low (omega (arith, o.0, st.into)) (omega (arith, o.1, st.paid)) (omega (arith, o.1))))

  -- It lowers t.
  module _ (few : b ≤ largest_total) (ht : t < T.tiles) (hw : 0 < w) (hb : base + w ≤ b) (low : base + w < totals T t) (T' : Tree) (p : Sets t (open_leaf (base + w) t) T T') where
    index_small : t < indices
    index_small = omega (arith, T.heap.winners.few)

    total_small : base + w ≤ largest_total
    total_small = omega arith

    below : leaf_of T' t < shut
    below = omega (arith, p.own, open_below (base + w) t total_small index_small)

    own : totals T' t ≡ base + w
    own = ap total_of p.own ∙ open_total (base + w) t total_small index_small

    others : (k : ℕ) → (k ≡ t → ⊥) → totals T' k ≡ totals T k
    others k n = ap total_of (p.others k n)

    -- The tile that the step comes from is another.
    apart : (u : ℕ) → totals T u ≡ base → u ≡ t → ⊥
    apart u is e = omega (arith, ap (totals T) e)

    kept_lower : Kept base T T'
    kept_lower =
        record {
          tiles = p.tiles;
          falls = omega (arith, work_set t (open_leaf (base + w) t) T T' p ht, weight_least (leaf_of T t), weight_below (leaf_of T' t) below, own, ap weight_of p.own);
          stays = λ u is. p.others u (apart u is);
        }

    looked_lower : Looked base b t w T T'
    looked_lower G u d tiles leads is s g =
        going_past G (totals T') s b (pend T' u d) (pend T' u (d + 1)) u d enough (past T' u d)
        (going_lower G (totals T) (totals T') s b (pend T u d) (pend T' u d) u d t w (leads.opens (omega (arith, tiles)) hw)
        (omega (arith, is, g.blank t (omega (arith, tiles)))) (omega (arith, is)) (omega (arith, is)) (own ∙ omega (arith, is)) others (λ e h. ((here, below), λ i. absurd (apart u is (sym i)))) keep g)
      where
        here : t < T'.tiles
        here = omega (arith, p.tiles)

        live_still : (x e : ℕ) → live T x e → Dec (x ≡ t) → live T' x e
        live_still x e f (yes i) = rw i (here, below)
        live_still x e f (no n) = (omega (arith, f.0, p.tiles), omega (arith, f.1, p.others x n))

        keep : (x e : ℕ) → pend T u d x e → pend T' u d x e
        keep x e f = (live_still x e f.0 (ℕ_discrete x t), f.1)

        enough : (y v : ℕ) → Step G u d y v → totals T' u < G.mark → totals T' u + v ≤ b → totals T' y ≤ totals T' u + v
        enough y v st m l = let o = leads.only y v st in rw o.0 (omega (arith, o.1, own, others u (apart u is), is))

    pub lowered : Kept base T T' × Looked base b t w T T'
    lowered = (kept_lower, looked_lower)
