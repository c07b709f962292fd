-- Laws of the judgement: which refusal each test leads to, and what is known once all are passed.
use mathlib.Core.Path.{◌≡◌}
use mathlib.Core.Bool.{true, false, ◌&&◌}
use Prim.Native.Nat.{ℕ, ◌≤◌, ◌<◌}
use borrow.Author.Tests.{le-leb, lt-leb, leb-true}
use lib.Dec.{leb}
use Rattle.hexes.specs.Limits.{range_limit}
use Rattle.hexes.specs.Refusals.{beyond_limit, too_large, unknown_number}
use Rattle.hexes.specs.Tiles.{within_limit}
use Rattle.hexes.specs.declared.Tile.{Tile}
use Rattle.hexes.proofs.Chains.{passed, both, and_no}
use Rattle.hexes.proofs.Limit.{within_is}
use Rattle.rings.specs.Judged.{refusal_of}
use Rattle.rings.specs.Leaves.{Near, centre_reach}

module _ (c : Tile) (first last d s : ℕ) where
  pub far_away : within_limit c ≡ false → beyond_limit ≡ refusal_of c first last d s
  unfolding refusal_of
  far_away w = rw w

  pub first_too_large : within_limit c ≡ true → range_limit < first → too_large ≡ refusal_of c first last d s
  unfolding refusal_of
  first_too_large w h = rw (w, lt-leb first range_limit h)

  pub last_too_large : within_limit c ≡ true → range_limit < last → too_large ≡ refusal_of c first last d s
  unfolding refusal_of
  last_too_large w h = rw (w, and_no (leb first range_limit) (lt-leb last range_limit h))

  -- Past the ranges.
  module _ (w : within_limit c ≡ true) (f : first ≤ range_limit) (l : last ≤ range_limit) where
    pub direction_unknown : 5 < d → unknown_number ≡ refusal_of c first last d s
    unfolding refusal_of
    direction_unknown h = rw (w, le-leb first range_limit f, le-leb last range_limit l, lt-leb d 5 h)

    pub sense_unknown : 1 < s → unknown_number ≡ refusal_of c first last d s
    unfolding refusal_of
    sense_unknown h = rw (w, le-leb first range_limit f, le-leb last range_limit l, and_no (leb d 5) (lt-leb s 1 h))

    pub not_refused : d ≤ 5 → s ≤ 1 → 0 ≡ refusal_of c first last d s
    unfolding refusal_of
    not_refused h k = rw (w, le-leb first range_limit f, le-leb last range_limit l, le-leb d 5 h, le-leb s 1 k)

-- What holds where nothing is refused.
pub record Fine (c : Tile) (first last d s : ℕ) : Type 0 where
  pub near : Near c centre_reach
  pub fine_first : first ≤ range_limit
  pub fine_last : last ≤ range_limit
  pub fine_direction : d ≤ 5
  pub fine_sense : s ≤ 1

pub fine : (c : Tile) (first last d s : ℕ) → refusal_of c first last d s ≡ 0 → Fine c first last d s
unfolding refusal_of
fine c first last d s e =
    let a = passed (within_limit c) 0 _ e in
    let b = passed (leb first range_limit && leb last range_limit) 1 _ a.1 in
    let r = both _ _ b.0 in
    let g = passed (leb d 5 && leb s 1) 2 0 b.1 in
    let h = both _ _ g.0 in
    let l = within_is c a.0 in
    record {
      near = record { near_x = l.0; near_y = l.1 };
      fine_first = leb-true _ _ r.0;
      fine_last = leb-true _ _ r.1;
      fine_direction = leb-true _ _ h.0;
      fine_sense = leb-true _ _ h.1;
    }
