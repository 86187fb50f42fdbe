-- No two outcomes fit the contract of a function that the crates above may call.
use mathlib.Core.Path.{sym, ◌∙◌}
use Rattle.model.proofs.Outcomes.{OneOutcome}
use Rattle.bays.proofs.insert.Kinds as insert_kinds
use Rattle.bays.proofs.insert.Reads as insert_reads
use Rattle.bays.proofs.remove.Kinds as remove_kinds
use Rattle.bays.proofs.remove.Reads as remove_reads
use Rattle.bays.proofs.read_signal.Kinds as read_signal_kinds
use Rattle.bays.proofs.read_signal.Reads as read_signal_reads
use Rattle.bays.proofs.read_terminal.Kinds as read_terminal_kinds
use Rattle.bays.proofs.read_terminal.Reads as read_terminal_reads
use Rattle.bays.proofs.set_ac.Kinds as set_ac_kinds
use Rattle.bays.proofs.set_ac.Reads as set_ac_reads

pub insert_one : OneOutcome insert_kinds.ps insert_kinds.r insert_reads.Post
insert_one κs a x y s t p q = p ∙ sym q

pub remove_one : OneOutcome remove_kinds.ps remove_kinds.r remove_reads.Post
remove_one κs a x y s t p q = p ∙ sym q

pub read_signal_one : OneOutcome read_signal_kinds.ps read_signal_kinds.r read_signal_reads.Post
read_signal_one κs a x y s t p q = p ∙ sym q

pub read_terminal_one : OneOutcome read_terminal_kinds.ps read_terminal_kinds.r read_terminal_reads.Post
read_terminal_one κs a x y s t p q = p ∙ sym q

pub set_ac_one : OneOutcome set_ac_kinds.ps set_ac_kinds.r set_ac_reads.Post
set_ac_one κs a x y s t p q = p ∙ sym q
