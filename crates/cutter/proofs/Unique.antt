-- No two outcomes fit the contract of a public function. The text is lent to be read, so the answer is all.
use mathlib.Core.Path.{◌≡◌, sym, ◌∙◌}
use Rattle.model.proofs.Outcomes.{NoTwoOutcomes}
use Rattle.cutter.proofs.line_in.Kinds as line_in_kinds
use Rattle.cutter.proofs.line_in.Reads as line_in_reads
use Rattle.cutter.proofs.word_from.Kinds as word_from_kinds
use Rattle.cutter.proofs.word_from.Reads as word_from_reads

pub line_in_one : NoTwoOutcomes 1 line_in_kinds.ps line_in_kinds.r line_in_reads.Post (λ κs x y s t. x ≡ y)
line_in_one κs a x y s t p q = p ∙ sym q

pub word_from_one : NoTwoOutcomes 1 word_from_kinds.ps word_from_kinds.r word_from_reads.Post (λ κs x y s t. x ≡ y)
word_from_one κs a x y s t p q = p ∙ sym q
