-- No two outcomes fit the contract of the one function here.
use mathlib.Core.Path.{sym, ◌∙◌}
use Rattle.model.proofs.Outcomes.{OneOutcome}
use Rattle.refusals.proofs.number.Kinds as number_kinds
use Rattle.refusals.proofs.number.Reads as number_reads

pub number_one : OneOutcome number_kinds.ps number_kinds.r number_reads.Post
number_one κs a x y s t p q = p ∙ sym q
