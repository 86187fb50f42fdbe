use mathlib.Core.Path.{refl, sym, ◌∙◌}
use Rattle.model.specs.Board.{edges, class_of}
use Rattle.board.proofs.Walk.{goes_on}
use Rattle.board.proofs.class_of.Goals as goal

pub loop-below-init : goal.loop-below-init
unfolding class_of
loop-below-init c = refl

pub loop-below-preserved : goal.loop-below-preserved
loop-below-preserved c = sym (goes_on edges c.loop-below.below-index c.args.ohms _ c.loop-below-test.true c.if-ohms-below.false) ∙ c.loop-below.invariant
