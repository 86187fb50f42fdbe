use Rattle.std.proofs.Common.{rules, arith}
use Rattle.words.proofs.Masks.{four_lt}
use Rattle.selector.specs.ByMask.{low_nibble}
use Rattle.selector.proofs.ByMask.{exactly}
use Rattle.selector.proofs.low_nibble.Goals as goal

pub returns : goal.returns
unfolding low_nibble
returns c =
    let m = c.mask_of.ensures in
    let small = four_lt m.first m.second m.third m.fourth in
    (exactly _ (λ bay. bay.low) (λ bay answer k. search rules) _ _ m, rw m.is (omega (arith, small)))
