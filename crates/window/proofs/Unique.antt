-- No two windows fit the contracts of `unread` and `passed`. What `refill` reads no contract can say.
use mathlib.Core.Path.{sym, ◌∙◌}
use Rattle.model.proofs.Outcomes.{OneOutcome}
use Rattle.window.proofs.unread.Kinds as unread_kinds
use Rattle.window.proofs.unread.Reads as unread_reads
use Rattle.window.proofs.passed.Kinds as passed_kinds
use Rattle.window.proofs.passed.Reads as passed_reads

pub unread_one : OneOutcome unread_kinds.ps unread_kinds.r unread_reads.Post
unread_one κs a x y s t p q = p ∙ sym q

pub passed_one : OneOutcome passed_kinds.ps passed_kinds.r passed_reads.Post
passed_one κs a x y s t p q = p ∙ sym q
