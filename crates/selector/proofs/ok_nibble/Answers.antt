use Rattle.std.proofs.Common.{rules}
use Rattle.model.specs.Reads.{ok_nibble}
use Rattle.selector.proofs.ByMask.{exactly}
use Rattle.selector.proofs.ok_nibble.Goals as goal

pub returns : goal.returns
unfolding ok_nibble
returns c = exactly _ (λ bay. bay.ok) (λ bay answer k. search rules) _ _ c.mask_of.ensures
