use Rattle.spelling.specs.Text.{text}
use Rattle.pieces.proofs.Moves.{there}
use Rattle.notation.specs.Complaints.{found}
use Rattle.complaints.proofs.Showing.{found_word}
use Rattle.complaints.proofs.put_found.Goals as goal

pub returns-in-Length : goal.returns-in-Length
unfolding text found
returns-in-Length c = rw c.in-Length.is (there _ _ _ c.text.ensures (rw c.in-Length.is at c.requires))

pub put_word-requires : goal.put_word-requires
put_word-requires c = rw c.find-from.ensures.is (rw (found_word _ _ c.in_default.not-Length) at c.requires)

pub returns-in_default : goal.returns-in_default
returns-in_default c = rw (found_word _ _ c.in_default.not-Length, ← c.find-from.ensures.is) c.put_word.ensures
