use Rattle.selector.proofs.ByMask.{candidates}
use Rattle.selector.proofs.candidate_nibble.Goals as goal

pub returns : goal.returns
returns c =
    simp (c.low_nibble.ensures.0, c.ok_nibble.ensures, c.present_nibble.ensures, candidates)
