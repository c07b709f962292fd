-- Laws of the way down the ranks: from a tile that has a rank a step leads to one that has a smaller one, and what is written so far and what is left make up the whole way.
use mathlib.Core.Path.{◌≡◌, refl, sym, ap, ◌∙◌, subst}
use mathlib.Core.List.{List, [], ◌∷◌, ◌++◌, append_assoc}
use Prim.Native.Nat.{ℕ, suc, ◌+◌, ◌*◌, ◌%◌, ◌≤◌, ◌<◌}
use native.Mathlib.Omega.{arith}
use lib.IntN.{ℤ}
use lib.ListN.{length, get_or, length-append}
use borrow.Author.Tests.{ltb-true}
use Rattle.paths.specs.Lands.{Land}
use Rattle.paths.specs.Tables.{at}
use Rattle.routes.specs.Descents.{Taken, Descent}
use Rattle.routes.specs.Grounds.{Ground, OpenTile}
use Rattle.routes.specs.Ranks.{multiplier, no_rank, RankOf, near, far, Ranks}
use Rattle.routes.specs.Turned.{turned}
use Rattle.routes.proofs.Descending.{taken, taken_falls, descent_over, descent_next}
use Rattle.routes.proofs.DownIsBest.{down_best}
use Rattle.routes.proofs.RankTables.{ranks_sums}
use Rattle.routes.proofs.Turning.{route_start, route_end}
use Rattle.hexes.specs.Limits.{barred}
use Rattle.hexes.specs.declared.Tile.{Tile}
use Rattle.runs.specs.Laid.{Laid}
use Rattle.runs.specs.Runs.{entries, Put}
use Rattle.runs.proofs.Laying.{laid_as, laid_put, laid_then}
use Rattle.runs.proofs.Written.{written_none}
use Rattle.storage.specs.Leaves.{near_in, tile_at_index}
use Rattle.storage.specs.Maps.{area_of}
use Rattle.storage.specs.declared.Map.{Map}
use Rattle.storage.proofs.Maps.{fine}
use Rattle.terrain.specs.GroundOfMap.{ground_of}
use Rattle.terrain.proofs.RoutesOfMap.{ground_fits}
use Rattle.pathfinding.specs.Ways.{Ranked, tiles_down}

-- The land whose least sums from the end are the ranks.
abbrev land_down : Map → List ℕ → Land
land_down m efforts = turned (ground_of m efforts) multiplier

-- The way has one tile more than steps.
pub tiles_down_count : (m : Map) (efforts : List ℕ) (start : ℕ) (ds : List ℕ) → length (tiles_down m efforts start ds) ≡ suc (length ds)
tiles_down_count m efforts start [] = refl
tiles_down_count m efforts start (d ∷ ds) = ap suc (tiles_down_count m efforts (near_in m start d) ds)

module _ (m : Map) (efforts ranks : List ℕ) (end : ℕ) (K : Ranks (ground_of m efforts) end (at ranks)) where
  abbrev G : Ground
  G = ground_of m efforts

  -- A tile that has a rank is open, and so is the end.
  both_open : (u : ℕ) → u < area_of m.radius → get_or ranks u 0 < no_rank → OpenTile G u × OpenTile G end
  both_open u h l = go (K.each u h)
    where
      go : RankOf G end u (at ranks u) → OpenTile G u × OpenTile G end
      go (near a b q) = (route_start a.route, route_end a.route)
      go (far c q) = absurd (omega arith)

  pub open_effort : (u : ℕ) → u < area_of m.radius → get_or ranks u 0 < no_rank → get_or efforts u 0 < barred
  open_effort u h l = ltb-true (get_or efforts u 0) barred (both_open u h l).0.is_open

  -- Away from the end a step leads down.
  module _ (u : ℕ) (r : Ranked m efforts ranks u) (away : u ≡ end → ⊥) where
    pub to_take : (d : ℕ) × Taken (land_down m efforts) (at ranks) u d
    to_take =
        let o = both_open u r.on r.has in
        taken (land_down m efforts) (at ranks) end no_rank o.1.on (ranks_sums (ground_fits m (fine m r.fine).small efforts) o.1 K) u r.on r.has away

    pub goes_down : (v : ℕ) → ((d : ℕ) → Taken (land_down m efforts) (at ranks) u d → v ≡ near_in m u d) → Ranked m efforts ranks v × (get_or ranks v 0 < get_or ranks u 0)
    goes_down v f =
        let t = to_take in
        let e = f t.0 t.1 in
        let q = taken_falls (land_down m efforts) (at ranks) u t.0 r.on r.has t.1 in
        let on : v < area_of m.radius = rw e q.step.on in
        let less : get_or ranks v 0 < get_or ranks u 0 = rw e q.falls in
        let has : get_or ranks v 0 < no_rank = omega (arith, r.has) in (
          record {
            fine = r.fine;
            efforts_length = r.efforts_length;
            ranks_length = r.ranks_length;
            on = on;
            is_open = open_effort v on has;
            has = has;
          },
          less,
        )

  -- The rank tells how many tiles the way has.
  pub way_length : (start : ℕ) → Ranked m efforts ranks start → (ds : List ℕ) → Descent (land_down m efforts) (at ranks) end start ds → length (tiles_down m efforts start ds) ≡ get_or ranks start 0 % multiplier + 1
  way_length start r ds D = omega (arith, tiles_down_count m efforts start ds, (down_best (ground_fits m (fine m r.fine).small efforts) K r.on r.has D).steps)

-- What is written and what is left, over the turns.
module _ (m : Map) (efforts ranks : List ℕ) (end : ℕ) where
  -- What is written so far, and the way that is left.
  pub record Left (entry : List ℤ) (start : ℕ) (ds : List ℕ) (u place : ℕ) (run : List ℤ) : Type 0 where
    pub done : List Tile
    pub rest : List ℕ
    pub way : Descent (land_down m efforts) (at ranks) end u rest
    pub all : tiles_down m efforts start ds ≡ done ++ tiles_down m efforts u rest
    pub laid : Laid entry 0 done place run

  pub left_all : (entry : List ℤ) (start : ℕ) (ds : List ℕ) → Descent (land_down m efforts) (at ranks) end start ds → Left entry start ds start 0 entry
  unfolding entries
  left_all entry start ds D = record { done = []; rest = ds; way = D; all = refl; laid = record { goes = omega arith; holds = sym (written_none entry 0) } }

  module _ (entry : List ℤ) (start : ℕ) (ds : List ℕ) (room : 2 * length (tiles_down m efforts start ds) ≤ length entry) (u place : ℕ) (run : List ℤ) (same : length run ≡ length entry) (l : Left entry start ds u place run) where
    -- There is room for the tile at u, which comes next.
    pub next_room : place + 2 ≤ length run
    next_room =
        omega
        (arith, same, room, ap length l.all, length-append l.done (tiles_down m efforts u l.rest), l.laid.goes, tiles_down_count m efforts u l.rest)

    pub left_next : (u ≡ end → ⊥) → (d v next : ℕ) → Taken (land_down m efforts) (at ranks) u d → v ≡ near_in m u d → (tile : Tile) → tile ≡ tile_at_index m u → (exit : List ℤ) → Put run place tile next exit → Left entry start ds v next exit
    left_next away d v next t e tile et exit p =
        let k = descent_next away t l.way in
        let tail = tiles_down m efforts (near_in m u d) k.0 in
        record {
          done = l.done ++ tile_at_index m u ∷ [];
          rest = k.0;
          way = subst (λ (w : ℕ). Descent (land_down m efforts) (at ranks) end w k.0) (sym e) k.2;
          all =
              l.all
              ∙ ap (λ (r : List ℕ). l.done ++ tiles_down m efforts u r) k.1
              ∙ sym (append_assoc l.done (tile_at_index m u ∷ []) tail)
              ∙ ap (λ (w : ℕ). (l.done ++ tile_at_index m u ∷ []) ++ tiles_down m efforts w k.0) (sym e);
          laid = laid_then entry 0 l.done (tile_at_index m u ∷ []) (omega (arith, next_room)) l.laid (laid_put run place (tile_at_index m u) tile next_room et p);
        }

    pub left_last : u ≡ end → (next : ℕ) → (tile : Tile) → tile ≡ tile_at_index m u → (exit : List ℤ) → Put run place tile next exit → Laid entry 0 (tiles_down m efforts start ds) next exit
    left_last e next tile et exit p =
        laid_as (sym (l.all ∙ ap (λ (r : List ℕ). l.done ++ tiles_down m efforts u r) (descent_over e l.way)))
        (laid_then entry 0 l.done (tile_at_index m u ∷ []) (omega (arith, next_room)) l.laid (laid_put run place (tile_at_index m u) tile next_room et p))
