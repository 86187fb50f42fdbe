use native.Mathlib.Omega.{arith}
use Rattle.spelling.specs.Text.{text}
use Rattle.pieces.proofs.Moves.{both}
use Rattle.notation.specs.Complaints.{number_up_to}
use Rattle.complaints.proofs.put_number.Goals as goal

pub returns : goal.returns
unfolding number_up_to text
returns c = both _ _ _ _ _ c.text.ensures c.decimal.ensures (omega arith)
