-- `refusal_of` meets its contract: a map that is judged has no refusal, and one that is not has that of the judgement.
use mathlib.Core.Path.{◌≡◌, sym, ap, ◌∙◌}
use Rattle.std.specs.Prelude.{Result, Ok, Err, MatchResult}
use Rattle.std.specs.Result.{result_err}
use Rattle.hexes.specs.Refusals.{number_of, number_given}
use Rattle.hexes.specs.declared.refusal.Refusal.{Refusal}
use Rattle.storage.specs.Maps.{map_refusal}
use Rattle.storage.specs.declared.Map.{Map}
use Rattle.storage.specs.declared.fine.FineMap.{FineMap}
use Rattle.storage.proofs.Maps.{fine_of}
use Rattle.storage.proofs.refusal_of.Goals as goal

of_judgement : (map : Map) (r : Result FineMap Refusal) → MatchResult r (λ f. f.map ≡ map) (λ e. number_of e ≡ map_refusal map) → number_given (result_err r) ≡ map_refusal map
of_judgement map (Ok f) h = sym (fine_of f map h)
of_judgement map (Err e) h = h

pub returns : goal.returns
returns c = ap number_given c.err.ensures.value ∙ of_judgement c.args.map c.try_from.result c.try_from.ensures
