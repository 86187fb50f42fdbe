use Rattle.spelling.specs.Text.{text}
use Rattle.pieces.proofs.Moves.{there}
use Rattle.notation.specs.Complaints.{expected}
use Rattle.complaints.proofs.Showing.{byte_expected, word_expected, long_expected}
use Rattle.complaints.proofs.put_expected.Goals as goal

pub put_number-requires : goal.put_number-requires
put_number-requires c = rw (byte_expected _ c.in-Bay.is) at c.requires

pub put_number-requires-in-Word : goal.put_number-requires-in-Word
put_number-requires-in-Word c = rw (word_expected _ c.in-Word.is) at c.requires

pub put_number-requires-in-Ohms : goal.put_number-requires-in-Ohms
put_number-requires-in-Ohms c = rw (long_expected _ c.in-Ohms.is) at c.requires

pub put_number-requires-in-Present : goal.put_number-requires-in-Present
unfolding expected
put_number-requires-in-Present c = rw c.in-Present.is at c.requires

pub returns-in-Opening : goal.returns-in-Opening
unfolding expected text
returns-in-Opening c =
    rw c.in-Opening.is (there _ _ _ c.text.ensures (rw c.in-Opening.is at c.requires))

pub returns-in-Bay : goal.returns-in-Bay
returns-in-Bay c = rw (byte_expected _ c.in-Bay.is) c.put_number.ensures

pub returns-in-Word : goal.returns-in-Word
returns-in-Word c = rw (word_expected _ c.in-Word.is) c.put_number-in-Word.ensures

pub returns-in-Ohms : goal.returns-in-Ohms
returns-in-Ohms c = rw (long_expected _ c.in-Ohms.is) c.put_number-in-Ohms.ensures

pub returns-in-Present : goal.returns-in-Present
unfolding expected
returns-in-Present c = rw c.in-Present.is c.put_number-in-Present.ensures

pub returns-in-Rest : goal.returns-in-Rest
unfolding expected text
returns-in-Rest c =
    rw c.in-Rest.is (there _ _ _ c.text-in-Rest.ensures (rw c.in-Rest.is at c.requires))

pub returns-in-Length : goal.returns-in-Length
unfolding expected text
returns-in-Length c =
    rw c.in-Length.is (there _ _ _ c.text-in-Length.ensures (rw c.in-Length.is at c.requires))
