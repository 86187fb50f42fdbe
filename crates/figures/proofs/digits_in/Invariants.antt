use Rattle.figures.proofs.Digits.{Spelled}
use Rattle.figures.proofs.digits_in.Given as goal

abbrev pub invariant-loop-b : goal.invariant-loop-b
invariant-loop-b l = Spelled l.base l.text l.b-index l.value
