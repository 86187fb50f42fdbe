-- The walk over the edges and the ladder of comparisons are one rule.
use mathlib.Core.Path.{refl}
use Rattle.model.specs.Board.{class_of}
use Rattle.model.specs.Ladder.{ladder}
use Rattle.model.specs.Promises.{WalkIsTheLadder}

pub walk_is_the_ladder : WalkIsTheLadder
unfolding class_of ladder
walk_is_the_ladder ohms = refl
