use Rattle.spelling.specs.Text.{text}
use Rattle.pieces.proofs.Moves.{tried_as}
use Rattle.complaints.proofs.Said.{subject_put}
use Rattle.complaints.proofs.put_subject.Goals as goal

pub returns : goal.returns
unfolding text
returns c =
    subject_put _ _ _ _ _ _ _ _ c.text.ensures c.decimal.ensures c.text-2.ensures (tried_as _ _ _ _ c.name_of.ensures c.text-3.ensures) c.text-4.ensures c.requires
