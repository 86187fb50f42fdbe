-- No two outcomes fit the contract of a function that the crates above may call.
use mathlib.Core.Path.{◌≡◌, sym, ◌∙◌}
use denote.RattleType.{RattleType}
use denote.Param.Laws.{Laws, IsCopy}
use mir.Syntax.{Dict}
use Rattle.std.specs.declared.clone.Clone.{Ghosts}
use Rattle.model.proofs.Outcomes.{OneOutcome, NoTwoOutcomes}
use Rattle.words.proofs.bit.Kinds as bit_kinds
use Rattle.words.proofs.bit.Reads as bit_reads
use Rattle.words.proofs.nibble.Kinds as nibble_kinds
use Rattle.words.proofs.nibble.Reads as nibble_reads
use Rattle.words.proofs.put_nibbles.Kinds as put_nibbles_kinds
use Rattle.words.proofs.put_nibbles.Reads as put_nibbles_reads
use Rattle.words.proofs.is_alarm.Kinds as is_alarm_kinds
use Rattle.words.proofs.is_alarm.Reads as is_alarm_reads
use Rattle.words.proofs.is_named.Kinds as is_named_kinds
use Rattle.words.proofs.is_named.Reads as is_named_reads
use Rattle.words.proofs.bay_number.Kinds as bay_number_kinds
use Rattle.words.proofs.bay_number.Reads as bay_number_reads
use Rattle.words.proofs.names.Kinds as names_kinds
use Rattle.words.proofs.names.Reads as names_reads
use Rattle.words.proofs.choose.Kinds as choose_kinds
use Rattle.words.proofs.choose.Reads as choose_reads
use Rattle.words.proofs.flag.Kinds as flag_kinds
use Rattle.words.proofs.flag.Reads as flag_reads
use Rattle.words.proofs.mask.Kinds as mask_kinds
use Rattle.words.proofs.mask.Reads as mask_reads
use Rattle.words.proofs.first_in.Kinds as first_in_kinds
use Rattle.words.proofs.first_in.Reads as first_in_reads
use Rattle.words.proofs.is_one_of.Kinds as is_one_of_kinds
use Rattle.words.proofs.is_one_of.Reads as is_one_of_reads
use Rattle.words.proofs.is_among.Kinds as is_among_kinds
use Rattle.words.proofs.is_among.Reads as is_among_reads

pub bit_one : OneOutcome bit_kinds.ps bit_kinds.r bit_reads.Post
bit_one κs a x y s t p q = p ∙ sym q

pub nibble_one : OneOutcome nibble_kinds.ps nibble_kinds.r nibble_reads.Post
nibble_one κs a x y s t p q = p.0 ∙ sym q.0

pub put_nibbles_one : OneOutcome put_nibbles_kinds.ps put_nibbles_kinds.r put_nibbles_reads.Post
put_nibbles_one κs a x y s t p q = p ∙ sym q

pub is_alarm_one : OneOutcome is_alarm_kinds.ps is_alarm_kinds.r is_alarm_reads.Post
is_alarm_one κs a x y s t p q = p ∙ sym q

pub is_named_one : OneOutcome is_named_kinds.ps is_named_kinds.r is_named_reads.Post
is_named_one κs a x y s t p q = p ∙ sym q

pub bay_number_one : OneOutcome bay_number_kinds.ps bay_number_kinds.r bay_number_reads.Post
bay_number_one κs a x y s t p q = p ∙ sym q

pub names_one : OneOutcome names_kinds.ps names_kinds.r names_reads.Post
names_one κs a x y s t p q = p ∙ sym q

pub flag_one : OneOutcome flag_kinds.ps flag_kinds.r flag_reads.Post
flag_one κs a x y s t p q = p.0 ∙ sym q.0

pub mask_one : OneOutcome mask_kinds.ps mask_kinds.r mask_reads.Post
mask_one κs a x y s t p q = p.0 ∙ sym q.0

pub first_in_one : OneOutcome first_in_kinds.ps first_in_kinds.r first_in_reads.Post
first_in_one κs a x y s t p q = p ∙ sym q

pub is_one_of_one : OneOutcome is_one_of_kinds.ps is_one_of_kinds.r is_one_of_reads.Post
is_one_of_one κs a x y s t p q = p ∙ sym q

pub is_among_one : OneOutcome is_among_kinds.ps is_among_kinds.r is_among_reads.Post
is_among_one κs a x y s t p q = p ∙ sym q

pub choose_one : (T : RattleType) (laws : Laws T) (copies : IsCopy T) (clone : Ghosts T.Denot) (picked : Dict)
    → NoTwoOutcomes 1 (choose_kinds.ps T laws copies) (choose_kinds.r T laws copies) (choose_reads.Post T laws copies clone picked) (λ κs x y s t. x ≡ y)
choose_one T laws copies clone picked κs a x y s t p q = p ∙ sym q
