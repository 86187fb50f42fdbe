use lib.Bits.{and_mask}
use Rattle.words.proofs.Masks.{lowest}
use Rattle.words.proofs.first_in.Goals as goal

pub returns : goal.returns
returns c = simp (and_mask c.args.mask 4) (lowest c.args.mask)
