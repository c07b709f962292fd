-- A turn whole: the steps out of the tile at the root have been looked at, and it is closed. The start of all turns, and their end.
use mathlib.Core.Path.{◌≡◌, sym, ap, subst, ◌∙◌}
use mathlib.Core.List.{List}
use Prim.Native.Nat.{ℕ, ◌≤◌, ◌<◌}
use native.Mathlib.Decide.{ℕ_discrete}
use native.Mathlib.Omega.{arith}
use lib.ListN.{get_or}
use Rattle.paths.specs.Lands.{Land}
use Rattle.paths.specs.Tables.{Right}
use Rattle.paths.specs.Engines.{Going}
use Rattle.paths.proofs.Settling.{settled_right}
use Rattle.paths.proofs.Lowering.{going_begin, going_less, going_settled}
use Rattle.std.specs.Prelude.{Option}
use Rattle.storage.specs.declared.Index.{Index}
use Rattle.engine.specs.Leaves.{shut, unreached, open_leaf, closed_leaf, total_of}
use Rattle.engine.specs.Settling.{Leads, leaf_of, totals, Blank, Sets, live, pend, work, Goes, Kept, LookedAround}
use Rattle.engine.specs.Steps.{Steps}
use Rattle.engine.specs.Turns.{Paved, Turned, Finished, Settles}
use Rattle.engine.specs.declared.trees.Tree.{Tree}
use Rattle.engine.proofs.Totals.{total_above, open_total, closed_total, weight_below, weight_above}
use Rattle.engine.proofs.Heaps.{work_set, root_shut, Open}

-- What holds of a table holds of one with the same entries.
going_like : (G : Land) (T T' : ℕ → ℕ) (s b : ℕ) (P : ℕ → ℕ → Type 0) → ((t : ℕ) → T' t ≡ T t) → Going G T s b P → Going G T' s b P
going_like G T T' s b P same = subst (λ (F : ℕ → ℕ). Going G F s b P) (sym (λ i. λ (t : ℕ). same t i))

-- From T, the looking led to T₁ and the closing to T₂.
module _ (u base : ℕ) (T T₁ T₂ : Tree) (o : Open T u base) (k : Kept base T T₁) (p : Sets u (closed_leaf base) T₁ T₂) where
  is_still : totals T₁ u ≡ base
  is_still = ap total_of (k.stays u o.is) ∙ o.is

  -- Closing changes no total.
  same : (t : ℕ) → totals T₂ t ≡ totals T₁ t
  same t = go (ℕ_discrete t u)
    where
      go : Dec (t ≡ u) → totals T₂ t ≡ totals T₁ t
      go (yes e) = rw e (ap total_of p.own ∙ closed_total base ∙ sym is_still)
      go (no n) = ap total_of (p.others t n)

  work_closed : work T₂ < work T
  work_closed =
      omega (
        arith,
        k.falls,
        work_set u (closed_leaf base) T₁ T₂ p (omega (arith, o.on, k.tiles)),
        weight_below (leaf_of T₁ u) (omega (arith, k.stays u o.is, o.low)),
        is_still,
        weight_above (closed_leaf base) (omega arith),
        closed_total base,
      )

  goes_closed : (G : Land) (b : ℕ) → Goes G b T T₁ (pend T u 0) (pend T₁ u 6) → Goes G b T T₂ (live T) (live T₂)
  goes_closed G b around s g =
      going_like G (totals T₁) (totals T₂) s b (live T₂) same
      (going_less G (totals T₁) s b (pend T₁ u 6) (live T₂) left (around s (going_less G (totals T) s b (live T) (pend T u 0) (λ x d h l. (l, λ e. omega arith)) g)))
    where
      left : (x d : ℕ) → d < 6 → pend T₁ u 6 x d → live T₂ x d
      left x d h q = (omega (arith, q.0.0, p.tiles), omega (arith, q.0.1, p.others x (λ e. omega (arith, q.1 e, h))))

  pub turned : (to cost : ℕ → ℕ → ℕ) (b : ℕ) (steps : List (Option Index × ℕ)) → Steps (to u) (cost u) steps → LookedAround base b steps 6 T T₁ → Turned to cost b T T₂
  turned to cost b steps out around =
      record {
        tiles = p.tiles ∙ k.tiles;
        falls = work_closed;
        goes = λ G paved. goes_closed G b (around G u paved.tiles (λ d h. subst (λ (step : ℕ × ℕ). Leads G u d step.0 step.1) (sym (out.each d h)) (paved.leads u d o.on h)) o.is);
      }

-- A land that is paved for some tiles is so for as many.
pub paved_over : {G : Land} {a a' : ℕ} {to cost : ℕ → ℕ → ℕ} → a ≡ a' → Paved G a to cost → Paved G a' to cost
paved_over {G} {a} {a'} {to} {cost} e = subst (λ (n : ℕ). Paved G n to cost) e

-- The start: no tile is reached but s, which is open.
going_begun : (s : ℕ) (T T' : Tree) → s < T.tiles → Blank T → Sets s (open_leaf 0 s) T T'
    → (to cost : ℕ → ℕ → ℕ) (b : ℕ) (G : Land) → Paved G T.tiles to cost → Going G (totals T') s b (live T')
going_begun s T T' hs blank p to cost b G paved =
    going_begin G (totals T') s b (live T') (ap total_of p.own ∙ open_total 0 s (omega arith) (omega (arith, T.heap.winners.few)))
    (λ t h n. ap total_of (p.others t n ∙ blank t (omega (arith, paved.tiles))) ∙ total_above unreached (omega arith) ∙ sym paved.mark)
    (λ d h. (omega (arith, p.tiles), omega (arith, p.own, T.heap.winners.few)))

-- The end: the root is closed.
pub going_done : (G : Land) (s b : ℕ) (T : Tree) → shut ≤ get_or T.nodes 1 0 → Going G (totals T) s b (live T) → Right G (totals T) s b
going_done G s b T l g = settled_right G (totals T) s b (going_settled G (totals T) s b (live T) (root_shut T l) g)

-- All of it: from a blank tree with one open tile to one that tells the least sums.
pub settled : (a s b : ℕ) (to cost : ℕ → ℕ → ℕ) (T T₁ T₂ : Tree) → T.tiles ≡ a → s < a → Blank T → Sets s (open_leaf 0 s) T T₁ → Finished to cost b T₁ T₂ → Settles to cost a b s T₂
settled a s b to cost T T₁ T₂ size hs blank p f G paved =
    let over = paved_over (sym size) paved in
    f.right G s (paved_over (sym p.tiles) over) (going_begun s T T₁ (omega arith) blank p to cost b G over)
