-- What is written to a table that fits, and how far it has been.
use Rattle.std.specs.Prelude.{◌≡◌, cond, List, ℕ, ◌<◌, ltb, length, get_or}
use Rattle.routes.specs.Ranks.{no_rank}
use Rattle.storage.specs.Maps.{map_refusal, area_of}
use Rattle.storage.specs.declared.Map.{Map}
use Rattle.engine.specs.Leaves.{no_total}
use Rattle.engine.specs.Settling.{totals}
use Rattle.engine.specs.Turns.{Settles}
use Rattle.engine.specs.declared.trees.Tree.{Tree}

-- What is known of a map, a tile that is asked about, and the lengths of two tables that fit.
pub record Fits (map : Map) (start efforts table : ℕ) : Type 0 where
  pub map_fine : map_refusal map ≡ 0
  pub efforts_length : efforts ≡ area_of map.radius
  pub table_length : table ≡ area_of map.radius
  pub on : start < area_of map.radius

-- A total as a rank: where no way leads, ranks have a mark of their own.
unfoldable pub rank_of : ℕ → ℕ
rank_of total = cond (ltb total no_total) total no_rank

-- The first k entries of a table over a tiles are written. (Each is there, so it does not matter what stands for one that is missing.)
pub record Written {A : Type 0} (a : ℕ) (entry : ℕ → A) (k : ℕ) (table : List A) : Type 0 where
  pub size : length table ≡ a
  pub below : (t : ℕ) (x : A) → t < k → get_or table t x ≡ entry t

-- The leaves of a tree tell the least sums from s within the budget, and in the table stand the entries for all of them.
pub record Filled {A : Type 0} (entry_of : ℕ → A) (to cost : ℕ → ℕ → ℕ) (a b s : ℕ) (table : List A) : Type 0 where
  pub tree : Tree
  pub settles : Settles to cost a b s tree
  pub written : Written a (λ t. entry_of (totals tree t)) a table
