use Rattle.std.proofs.Common.{sym}
use Rattle.figures.specs.Figures.{figure_of}
use Rattle.figures.proofs.Digits.{figure_got, figure_lacks}
use Rattle.figures.proofs.figure_in.Goals as goal

pub returns-in_err-value : goal.returns-in_err-value
unfolding figure_of
returns-in_err-value c = rw c.from_residual.ensures (figure_lacks _ _ (sym c.in_err-value.ensures))

pub returns : goal.returns
unfolding figure_of
returns c = rw c.word_of.ensures (figure_got _ _ _ (sym c.in_ok-value.ensures))
