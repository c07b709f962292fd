-- Each public call's promise leaves one answer: two answers that meet it are equal.
use mathlib.Core.Path.{◌≡◌, sym, ◌∙◌}
use mathlib.Core.Bool.{Bool}
use Prim.Native.Nat.{ℕ}
use Rattle.hexes.specs.Answers.{Answer}
use Rattle.hexes.specs.declared.Tile.{Tile}
use Rattle.hexes.proofs.Tells.{one_value}
use Rattle.storage.specs.Hexmod.{IndexTells}
use Rattle.storage.specs.declared.Index.{Index}
use Rattle.storage.specs.declared.Map.{Map}
use Rattle.storage.proofs.Unique.{index_tells_one}
use Rattle.terrain.specs.Judging.{lengths_fit, judged_start}
use Rattle.terrain.specs.LandOfMap.{price_of}

pub lengths_fit_unique : (map : Map) (efforts table : ℕ) {r s : Bool} → r ≡ lengths_fit map efforts table → s ≡ lengths_fit map efforts table → r ≡ s
lengths_fit_unique map efforts table p q = p ∙ sym q

pub price_of_unique : (effort : ℕ) {r s : ℕ} → r ≡ price_of effort → s ≡ price_of effort → r ≡ s
price_of_unique effort p q = p ∙ sym q

pub judge_unique : (map : Map) (start : Tile) (efforts table : ℕ) (r s : Answer Index) → IndexTells r (λ told. told ≡ judged_start map start efforts table) → IndexTells s (λ told. told ≡ judged_start map start efforts table) → r ≡ s
judge_unique map start efforts table = index_tells_one _ (one_value (judged_start map start efforts table))
