-- No two outcomes fit the contract of a function that the crates above may call.
use mathlib.Core.Path.{sym, ◌∙◌}
use Rattle.model.proofs.Outcomes.{OneOutcome}
use Rattle.selector.proofs.settle.Kinds as settle_kinds
use Rattle.selector.proofs.settle.Reads as settle_reads
use Rattle.selector.proofs.is_state_formed.Kinds as is_state_formed_kinds
use Rattle.selector.proofs.is_state_formed.Reads as is_state_formed_reads
use Rattle.selector.proofs.is_presets_formed.Kinds as is_presets_formed_kinds
use Rattle.selector.proofs.is_presets_formed.Reads as is_presets_formed_reads
use Rattle.selector.proofs.is_smb_elsewhere.Kinds as is_smb_elsewhere_kinds
use Rattle.selector.proofs.is_smb_elsewhere.Reads as is_smb_elsewhere_reads
use Rattle.selector.proofs.is_not_usable.Kinds as is_not_usable_kinds
use Rattle.selector.proofs.is_not_usable.Reads as is_not_usable_reads
use Rattle.selector.proofs.is_same_bay.Kinds as is_same_bay_kinds
use Rattle.selector.proofs.is_same_bay.Reads as is_same_bay_reads
use Rattle.selector.proofs.set_state.Kinds as set_state_kinds
use Rattle.selector.proofs.set_state.Reads as set_state_reads
use Rattle.selector.proofs.set_presets.Kinds as set_presets_kinds
use Rattle.selector.proofs.set_presets.Reads as set_presets_reads
use Rattle.selector.proofs.state_word.Kinds as state_word_kinds
use Rattle.selector.proofs.state_word.Reads as state_word_reads
use Rattle.selector.proofs.presets_word.Kinds as presets_word_kinds
use Rattle.selector.proofs.presets_word.Reads as presets_word_reads
use Rattle.selector.proofs.info_word.Kinds as info_word_kinds
use Rattle.selector.proofs.info_word.Reads as info_word_reads

pub settle_one : OneOutcome settle_kinds.ps settle_kinds.r settle_reads.Post
settle_one κs a x y s t p q = p ∙ sym q

pub is_state_formed_one : OneOutcome is_state_formed_kinds.ps is_state_formed_kinds.r is_state_formed_reads.Post
is_state_formed_one κs a x y s t p q = p ∙ sym q

pub is_presets_formed_one : OneOutcome is_presets_formed_kinds.ps is_presets_formed_kinds.r is_presets_formed_reads.Post
is_presets_formed_one κs a x y s t p q = p ∙ sym q

pub is_smb_elsewhere_one : OneOutcome is_smb_elsewhere_kinds.ps is_smb_elsewhere_kinds.r is_smb_elsewhere_reads.Post
is_smb_elsewhere_one κs a x y s t p q = p ∙ sym q

pub is_not_usable_one : OneOutcome is_not_usable_kinds.ps is_not_usable_kinds.r is_not_usable_reads.Post
is_not_usable_one κs a x y s t p q = p ∙ sym q

pub is_same_bay_one : OneOutcome is_same_bay_kinds.ps is_same_bay_kinds.r is_same_bay_reads.Post
is_same_bay_one κs a x y s t p q = p ∙ sym q

pub set_state_one : OneOutcome set_state_kinds.ps set_state_kinds.r set_state_reads.Post
set_state_one κs a x y s t p q = p ∙ sym q

pub set_presets_one : OneOutcome set_presets_kinds.ps set_presets_kinds.r set_presets_reads.Post
set_presets_one κs a x y s t p q = p ∙ sym q

pub state_word_one : OneOutcome state_word_kinds.ps state_word_kinds.r state_word_reads.Post
state_word_one κs a x y s t p q = p ∙ sym q

pub presets_word_one : OneOutcome presets_word_kinds.ps presets_word_kinds.r presets_word_reads.Post
presets_word_one κs a x y s t p q = p ∙ sym q

pub info_word_one : OneOutcome info_word_kinds.ps info_word_kinds.r info_word_reads.Post
info_word_one κs a x y s t p q = p ∙ sym q
