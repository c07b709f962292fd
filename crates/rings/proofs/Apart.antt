-- No two spots of a ring are the same tile: two directions are turned until one of them is direction 0, and there the six sides are compared.
use mathlib.Core.Path.{◌≡◌, sym, ap, ap₂, ◌∙◌}
use Prim.Native.Nat.{ℕ, zero, suc, ◌+◌, ◌-◌, ◌%◌, ◌≤◌, ◌<◌}
use native.Mathlib.Omega.{arith}
use lib.IntN.{ℤ, neg_ℤ, ◌+ℤ◌}
use Rattle.whole.proofs.Differences.{by3, by4}
use Rattle.whole.proofs.Kit.{dif}
use Rattle.hexes.specs.Directions.{step, step_of, sixth_turn}
use Rattle.hexes.specs.declared.Step.{Step}
use Rattle.hexes.specs.declared.Tile.{Tile}
use Rattle.rings.proofs.Offsets.{offset, offset_same, offset_turned}
use Rattle.rings.proofs.Corners.{shifted}
use Rattle.rings.proofs.Spots.{bearing, past, spot}

-- Equal tiles lie at equal offsets.
taken : (p a b : ℤ) → p +ℤ a ≡ p +ℤ b → a ≡ b
taken = by3 _ (simp dif (omega arith))

same_offset : (c : Tile) (s u : Step) → shifted c s ≡ shifted c u → s ≡ u
unfolding shifted
same_offset c s u e = ap₂ step (taken c.x s.0 u.0 (ap (λ (t : Tile). t.x) e)) (taken c.y s.1 u.1 (ap (λ (t : Tile). t.y) e))

-- Turning back: what is equal after a turn was equal before it.
turned_back : (x y u v : ℤ) → x +ℤ y ≡ u +ℤ v → neg_ℤ x ≡ neg_ℤ u → (x ≡ u) × (y ≡ v)
turned_back = by4 _ (simp dif (omega arith))

unturned : (s u : Step) → sixth_turn s ≡ sixth_turn u → s ≡ u
unturned s u e = let b = turned_back s.0 s.1 u.0 u.1 (ap (λ (t : Step). t.0) e) (ap (λ (t : Step). t.1) e) in ap₂ step b.0 b.1

-- So two directions are compared as direction 0 and their difference.
to_first : (n e r k l : ℕ) → offset n e k ≡ offset n (e + r) l → offset n 0 k ≡ offset n r l
to_first n zero r k l q = q ∙ offset_same n (0 + r) r l (omega arith)
to_first n (suc e) r k l q =
    let before = offset_turned n e k ∙ offset_same n (e + 1) (suc e) k (omega arith) in
    let after = offset_same n (suc e + r) (e + r + 1) l (omega arith) ∙ sym (offset_turned n (e + r) l) in
    to_first n e r k l (unturned (offset n e k) (offset n (e + r) l) (before ∙ q ∙ after))

-- The side of direction 0 shares nothing with another, if both are without their last offset (first is 0) or both without their first (first is 1).
sides : (n k l first r : ℕ) → 0 < r → r < 6 → first ≤ 1 → first ≤ k → k < n + first → first ≤ l → l < n + first → (offset n 0 k).0 ≡ (offset n r l).0 → (offset n 0 k).1 ≡ (offset n r l).1 → ⊥
unfolding offset step_of
sides n k l first zero p = absurd (omega arith)
sides n k l first (suc zero) p = simp dif (omega arith)
sides n k l first (suc (suc zero)) p = simp dif (omega arith)
sides n k l first (suc (suc (suc zero))) p = simp dif (omega arith)
sides n k l first (suc (suc (suc (suc zero)))) p = simp dif (omega arith)
sides n k l first (suc (suc (suc (suc (suc zero))))) p = simp dif (omega arith)
sides n k l first (suc (suc (suc (suc (suc (suc r)))))) p = λ q. absurd (omega arith)

-- Within one side, equal offsets are equally far along.
one_side : (n k l : ℕ) → (offset n 0 k).1 ≡ (offset n 0 l).1 → k ≡ l
unfolding offset step_of
one_side n k l = simp dif (omega arith)

-- The least that a tile of a leg is past the start of its side: 0, or 1 in sense 1, where a leg leaves out the start and has the end.
first : ℕ → ℕ
first zero = 0
first (suc sense) = 1

past_bounds : (sense n k : ℕ) → k < n → (first sense ≤ 1) × (first sense ≤ past sense n k) × (past sense n k < n + first sense)
unfolding past first
past_bounds zero n k h = omega arith
past_bounds (suc sense) n k h = omega arith

past_one : (sense n k l : ℕ) → k < n → l < n → past sense n k ≡ past sense n l → k ≡ l
unfolding past
past_one zero n k l p q e = e
past_one (suc sense) n k l p q e = omega arith

-- By how many sixths the side of one leg is turned from that of another: 1 to 5.
record Turn (a b : ℕ) : Type 0 where
  by : ℕ
  some : 0 < by
  less : by < 6
  leads : (a + by) % 6 ≡ b % 6

turn : (d sense i j : ℕ) → i < j → j < 6 → Turn (bearing d sense i) (bearing d sense j)
unfolding bearing
turn d zero i j h l = record { by = j - i; some = omega arith; less = omega arith; leads = omega arith }
turn d (suc sense) i j h l = record { by = 6 + i - j; some = omega arith; less = omega arith; leads = omega arith }

-- So the tiles of one leg differ, and so do those of two legs.
pub spots_of_leg : (c : Tile) (d sense n i k l : ℕ) → k < n → l < n → spot c d sense n i k ≡ spot c d sense n i l → k ≡ l
unfolding spot
spots_of_leg c d sense n i k l p q e =
    let a = bearing d sense i in
    let s = same_offset c (offset n a (past sense n k)) (offset n a (past sense n l)) e in
    let z = to_first n a 0 (past sense n k) (past sense n l) (s ∙ offset_same n a (a + 0) (past sense n l) (omega arith)) in
    past_one sense n k l p q (one_side n (past sense n k) (past sense n l) (ap (λ (t : Step). t.1) z))

pub spots_of_legs : (c : Tile) (d sense n i j k l : ℕ) → i < j → j < 6 → k < n → l < n → spot c d sense n i k ≡ spot c d sense n j l → ⊥
unfolding spot
spots_of_legs c d sense n i j k l h m p q e =
    let a = bearing d sense i in
    let b = bearing d sense j in
    let t = turn d sense i j h m in
    let s = same_offset c (offset n a (past sense n k)) (offset n b (past sense n l)) e in
    let z = to_first n a t.by (past sense n k) (past sense n l) (s ∙ offset_same n b (a + t.by) (past sense n l) (sym t.leads)) in
    let u = past_bounds sense n k p in
    let v = past_bounds sense n l q in
    sides n (past sense n k) (past sense n l) (first sense) t.by t.some t.less u.0 u.1 u.2 v.1 v.2 (ap (λ (w : Step). w.0) z) (ap (λ (w : Step). w.1) z)
