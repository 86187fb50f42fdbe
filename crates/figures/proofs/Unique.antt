-- No two outcomes fit the contract of a public function.
use mathlib.Core.Path.{◌≡◌, sym, ◌∙◌}
use Rattle.model.proofs.Outcomes.{OneOutcome, NoTwoOutcomes}
use Rattle.figures.proofs.number_in.Kinds as number_in_kinds
use Rattle.figures.proofs.number_in.Reads as number_in_reads
use Rattle.figures.proofs.figure_in.Kinds as figure_in_kinds
use Rattle.figures.proofs.figure_in.Reads as figure_in_reads
use Rattle.figures.proofs.no_figure.Kinds as no_figure_kinds
use Rattle.figures.proofs.no_figure.Reads as no_figure_reads

-- the text is lent to be read, so the answer is all
pub number_in_one : NoTwoOutcomes 1 number_in_kinds.ps number_in_kinds.r number_in_reads.Post (λ κs x y s t. x ≡ y)
number_in_one κs a x y s t p q = p ∙ sym q

pub figure_in_one : NoTwoOutcomes 1 figure_in_kinds.ps figure_in_kinds.r figure_in_reads.Post (λ κs x y s t. x ≡ y)
figure_in_one κs a x y s t p q = p ∙ sym q

pub no_figure_one : OneOutcome no_figure_kinds.ps no_figure_kinds.r no_figure_reads.Post
no_figure_one κs a x y s t p q = p ∙ sym q
