-- No two outcomes fit the contract of a function that the crates above may call.
use mathlib.Core.Path.{sym, ◌∙◌}
use Rattle.model.proofs.Outcomes.{OneOutcome}
use Rattle.charger.proofs.fresh_if.Kinds as fresh_if_kinds
use Rattle.charger.proofs.fresh_if.Reads as fresh_if_reads
use Rattle.charger.proofs.arrive_if.Kinds as arrive_if_kinds
use Rattle.charger.proofs.arrive_if.Reads as arrive_if_reads
use Rattle.charger.proofs.set_current.Kinds as set_current_kinds
use Rattle.charger.proofs.set_current.Reads as set_current_reads
use Rattle.charger.proofs.set_voltage.Kinds as set_voltage_kinds
use Rattle.charger.proofs.set_voltage.Reads as set_voltage_reads
use Rattle.charger.proofs.set_alarm.Kinds as set_alarm_kinds
use Rattle.charger.proofs.set_alarm.Reads as set_alarm_reads
use Rattle.charger.proofs.set_mode.Kinds as set_mode_kinds
use Rattle.charger.proofs.set_mode.Reads as set_mode_reads
use Rattle.charger.proofs.tick.Kinds as tick_kinds
use Rattle.charger.proofs.tick.Reads as tick_reads
use Rattle.charger.proofs.output_of.Kinds as output_of_kinds
use Rattle.charger.proofs.output_of.Reads as output_of_reads
use Rattle.charger.proofs.status_word.Kinds as status_word_kinds
use Rattle.charger.proofs.status_word.Reads as status_word_reads

pub fresh_if_one : OneOutcome fresh_if_kinds.ps fresh_if_kinds.r fresh_if_reads.Post
fresh_if_one κs a x y s t p q = p ∙ sym q

pub arrive_if_one : OneOutcome arrive_if_kinds.ps arrive_if_kinds.r arrive_if_reads.Post
arrive_if_one κs a x y s t p q = p ∙ sym q

pub set_current_one : OneOutcome set_current_kinds.ps set_current_kinds.r set_current_reads.Post
set_current_one κs a x y s t p q = p ∙ sym q

pub set_voltage_one : OneOutcome set_voltage_kinds.ps set_voltage_kinds.r set_voltage_reads.Post
set_voltage_one κs a x y s t p q = p ∙ sym q

pub set_alarm_one : OneOutcome set_alarm_kinds.ps set_alarm_kinds.r set_alarm_reads.Post
set_alarm_one κs a x y s t p q = p ∙ sym q

pub set_mode_one : OneOutcome set_mode_kinds.ps set_mode_kinds.r set_mode_reads.Post
set_mode_one κs a x y s t p q = p ∙ sym q

pub tick_one : OneOutcome tick_kinds.ps tick_kinds.r tick_reads.Post
tick_one κs a x y s t p q = p ∙ sym q

pub output_of_one : OneOutcome output_of_kinds.ps output_of_kinds.r output_of_reads.Post
output_of_one κs a x y s t p q = p ∙ sym q

pub status_word_one : OneOutcome status_word_kinds.ps status_word_kinds.r status_word_reads.Post
status_word_one κs a x y s t p q = p ∙ sym q
