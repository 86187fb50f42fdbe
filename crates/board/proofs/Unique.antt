-- No two outcomes fit the contract of a function that the crates above may call.
use mathlib.Core.Path.{sym, ◌∙◌}
use Rattle.model.proofs.Outcomes.{OneOutcome}
use Rattle.board.proofs.limit.Kinds as limit_kinds
use Rattle.board.proofs.limit.Reads as limit_reads
use Rattle.board.proofs.class_of.Kinds as class_of_kinds
use Rattle.board.proofs.class_of.Reads as class_of_reads
use Rattle.board.proofs.class_read.Kinds as class_read_kinds
use Rattle.board.proofs.class_read.Reads as class_read_reads
use Rattle.board.proofs.is_allowed.Kinds as is_allowed_kinds
use Rattle.board.proofs.is_allowed.Reads as is_allowed_reads
use Rattle.board.proofs.class_bits.Kinds as class_bits_kinds
use Rattle.board.proofs.class_bits.Reads as class_bits_reads

pub limit_one : OneOutcome limit_kinds.ps limit_kinds.r limit_reads.Post
limit_one κs a x y s t p q = p ∙ sym q

pub class_of_one : OneOutcome class_of_kinds.ps class_of_kinds.r class_of_reads.Post
class_of_one κs a x y s t p q = p ∙ sym q

pub class_read_one : OneOutcome class_read_kinds.ps class_read_kinds.r class_read_reads.Post
class_read_one κs a x y s t p q = p ∙ sym q

pub is_allowed_one : OneOutcome is_allowed_kinds.ps is_allowed_kinds.r is_allowed_reads.Post
is_allowed_one κs a x y s t p q = p ∙ sym q

pub class_bits_one : OneOutcome class_bits_kinds.ps class_bits_kinds.r class_bits_reads.Post
class_bits_one κs a x y s t p q = p.0 ∙ sym q.0
