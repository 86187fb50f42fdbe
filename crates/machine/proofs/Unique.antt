-- No two outcomes fit the contract of a function that the crates above may call.
use mathlib.Core.Path.{sym, ◌∙◌}
use Rattle.model.proofs.Outcomes.{OneOutcome}
use Rattle.machine.proofs.is_good_setup.Kinds as is_good_setup_kinds
use Rattle.machine.proofs.is_good_setup.Reads as is_good_setup_reads
use Rattle.machine.proofs.is_supported.Kinds as is_supported_kinds
use Rattle.machine.proofs.is_supported.Reads as is_supported_reads
use Rattle.machine.proofs.is_one_bay.Kinds as is_one_bay_kinds
use Rattle.machine.proofs.is_one_bay.Reads as is_one_bay_reads
use Rattle.machine.proofs.is_bad.Kinds as is_bad_kinds
use Rattle.machine.proofs.is_bad.Reads as is_bad_reads
use Rattle.machine.proofs.empty_bay.Kinds as empty_bay_kinds
use Rattle.machine.proofs.empty_bay.Reads as empty_bay_reads
use Rattle.machine.proofs.named_bay.Kinds as named_bay_kinds
use Rattle.machine.proofs.named_bay.Reads as named_bay_reads
use Rattle.machine.proofs.present_nibble.Kinds as present_nibble_kinds
use Rattle.machine.proofs.present_nibble.Reads as present_nibble_reads
use Rattle.machine.proofs.is_present.Kinds as is_present_kinds
use Rattle.machine.proofs.is_present.Reads as is_present_reads
use Rattle.machine.proofs.with_bays.Kinds as with_bays_kinds
use Rattle.machine.proofs.with_bays.Reads as with_bays_reads
use Rattle.machine.proofs.with_charger.Kinds as with_charger_kinds
use Rattle.machine.proofs.with_charger.Reads as with_charger_reads
use Rattle.machine.proofs.with_notice.Kinds as with_notice_kinds
use Rattle.machine.proofs.with_notice.Reads as with_notice_reads

pub is_good_setup_one : OneOutcome is_good_setup_kinds.ps is_good_setup_kinds.r is_good_setup_reads.Post
is_good_setup_one κs a x y s t p q = p ∙ sym q

pub is_supported_one : OneOutcome is_supported_kinds.ps is_supported_kinds.r is_supported_reads.Post
is_supported_one κs a x y s t p q = p ∙ sym q

pub is_one_bay_one : OneOutcome is_one_bay_kinds.ps is_one_bay_kinds.r is_one_bay_reads.Post
is_one_bay_one κs a x y s t p q = p ∙ sym q

pub is_bad_one : OneOutcome is_bad_kinds.ps is_bad_kinds.r is_bad_reads.Post
is_bad_one κs a x y s t p q = p ∙ sym q

pub empty_bay_one : OneOutcome empty_bay_kinds.ps empty_bay_kinds.r empty_bay_reads.Post
empty_bay_one κs a x y s t p q = p ∙ sym q

pub named_bay_one : OneOutcome named_bay_kinds.ps named_bay_kinds.r named_bay_reads.Post
named_bay_one κs a x y s t p q = p ∙ sym q

pub present_nibble_one : OneOutcome present_nibble_kinds.ps present_nibble_kinds.r present_nibble_reads.Post
present_nibble_one κs a x y s t p q = p ∙ sym q

pub is_present_one : OneOutcome is_present_kinds.ps is_present_kinds.r is_present_reads.Post
is_present_one κs a x y s t p q = p ∙ sym q

pub with_bays_one : OneOutcome with_bays_kinds.ps with_bays_kinds.r with_bays_reads.Post
with_bays_one κs a x y s t p q = p ∙ sym q

pub with_charger_one : OneOutcome with_charger_kinds.ps with_charger_kinds.r with_charger_reads.Post
with_charger_one κs a x y s t p q = p ∙ sym q

pub with_notice_one : OneOutcome with_notice_kinds.ps with_notice_kinds.r with_notice_reads.Post
with_notice_one κs a x y s t p q = p ∙ sym q
