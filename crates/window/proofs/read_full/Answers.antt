use Rattle.window.proofs.Moving.{reads_more}
use Rattle.window.proofs.read_full.Goals as goal

pub loop-done-preserved : goal.loop-done-preserved
loop-done-preserved g c =
    reads_more _ _ _ c.loop-done.buffer _ c.loop-done.done c.in-Ok.n _ c.loop-done.invariant.0 c.loop-done.invariant.1 c.in-Ok.ensures.bound.0 c.in-Ok.ensures.bytes.0
