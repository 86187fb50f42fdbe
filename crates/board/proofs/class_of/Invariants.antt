use lib.ListN.{drop}
use mathlib.Core.Path.{◌≡◌}
use Rattle.model.specs.Board.{edges, walk, class_of}
use Rattle.board.proofs.class_of.Given as goal

-- the class is the one that a walk over the edges from the next on gives
abbrev pub invariant-loop-below : goal.invariant-loop-below
invariant-loop-below l = walk (drop l.below-index edges) l.ohms ≡ class_of l.ohms
