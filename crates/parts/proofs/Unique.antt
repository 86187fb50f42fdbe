-- No two answers fit the contract of `is_enough`.
use mathlib.Core.Path.{sym, ◌∙◌}
use Rattle.model.proofs.Outcomes.{OneOutcome}
use Rattle.parts.proofs.is_enough.Kinds as is_enough_kinds
use Rattle.parts.proofs.is_enough.Reads as is_enough_reads

pub is_enough_one : OneOutcome is_enough_kinds.ps is_enough_kinds.r is_enough_reads.Post
is_enough_one κs a x y s t p q = p ∙ sym q
