-- No two outcomes fit the contract of a function that the crates above may call.
use mathlib.Core.Path.{sym, ◌∙◌}
use Rattle.model.proofs.Outcomes.{OneOutcome}
use Rattle.model.proofs.Numbers.{steps_apart}
use Rattle.actions.proofs.decide.Kinds as decide_kinds
use Rattle.actions.proofs.decide.Reads as decide_reads
use Rattle.actions.proofs.refuse.Kinds as refuse_kinds
use Rattle.actions.proofs.refuse.Reads as refuse_reads
use Rattle.actions.proofs.perform.Kinds as perform_kinds
use Rattle.actions.proofs.perform.Reads as perform_reads
use Rattle.actions.proofs.finish.Kinds as finish_kinds
use Rattle.actions.proofs.finish.Reads as finish_reads
use Rattle.actions.proofs.is_accepted.Kinds as is_accepted_kinds
use Rattle.actions.proofs.is_accepted.Reads as is_accepted_reads

pub decide_one : OneOutcome decide_kinds.ps decide_kinds.r decide_reads.Post
decide_one κs a x y s t p q = p ∙ sym q

pub refuse_one : OneOutcome refuse_kinds.ps refuse_kinds.r refuse_reads.Post
refuse_one κs a x y s t p q = p ∙ sym q

pub perform_one : OneOutcome perform_kinds.ps perform_kinds.r perform_reads.Post
perform_one κs a x y s t p q = steps_apart x y (p ∙ sym q)

pub finish_one : OneOutcome finish_kinds.ps finish_kinds.r finish_reads.Post
finish_one κs a x y s t p q = steps_apart x y (p ∙ sym q)

pub is_accepted_one : OneOutcome is_accepted_kinds.ps is_accepted_kinds.r is_accepted_reads.Post
is_accepted_one κs a x y s t p q = p ∙ sym q
