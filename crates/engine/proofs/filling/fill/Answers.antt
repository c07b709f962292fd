-- `fill` meets its contract: the start is the one open tile at first, in the end no tile is open, and the entries for what the leaves tell are written.
use native.Mathlib.Omega.{arith}
use Rattle.engine.specs.Steps.{to_of, cost_of}
use Rattle.engine.proofs.Closing.{settled}
use Rattle.engine.proofs.Paving.{few}
use Rattle.engine.proofs.filling.fill.Goals as goal

pub blank-tree-requires-clause-few : goal.blank-tree-requires-clause-few
blank-tree-requires-clause-few g c = few _ _ c.args.land.now.of_map

pub write-requires : goal.write-requires
write-requires g c = omega (arith, c.requires.size, c.turns.ensures.tiles, c.lower.ensures.tiles, c.blank-tree.ensures.tiles)

pub returns : goal.returns
returns g c =
    let land = c.args.land.now in
    record {
      tree = c.turns.new.tree;
      settles = settled _ _ _ (to_of land.table land.map) (cost_of land.table land.map land.efforts.now) c.blank-tree.result c.lower.new.self c.turns.new.tree c.blank-tree.ensures.tiles c.requires.start_in_bounds c.blank-tree.ensures.blank c.lower.ensures c.turns.ensures;
      written = rw c.requires.size at c.write.ensures;
    }
