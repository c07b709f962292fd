-- `step_of` meets its contract: the table in the code is the list in the definition.
use mathlib.Core.Path.{refl}
use Rattle.hexes.specs.Directions.{step_of}
use Rattle.hexes.proofs.step_of.Goals as goal

pub returns : goal.returns
unfolding step_of
returns c = refl
