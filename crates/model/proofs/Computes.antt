-- Every rule that a run computes by, opened under one name: `unfolding computes` opens what the lines below name.
use Rattle.model.specs.Words.{bit, nibble, named, bay_number, names, alarming}
use Rattle.model.specs.Board.{limited, class_of, allows, allows_to_wake}
use Rattle.model.specs.Events.{bay_writes, host_writes_charger, host_writes_selector, host_reads_charger, host_reads_selector, by_address, kind_of, word_of, bay_of, from_bay, kind_number, is, is_at, at_bay, swaps, swaps_at, says_present, resets, zeroes, asks, alarms, connects}
use Rattle.model.specs.Bays.{bay_at, bay_named, candidate, present_after, ok_after, low_after, reading_after, bay_after, all_ok_written, bays_after}
use Rattle.model.specs.SelectorRules.{ac_after, ac_arrives, ac_goes, written, smb_after, power_after, drops_charge, charge_after, next_after, notice_after}
use Rattle.model.specs.ChargerRules.{fresh, request_after, age_after, mark_after, rewrites_both, hold_after, inhibit_after, wake_age_after, spent_after}
use Rattle.model.specs.Machines.{power_on, act}
use Rattle.model.specs.Settling.{kept_smb, kept_power, unpowered, first_by_letter, takes_over, settled_power, settled_smb, power_changed, settle}
use Rattle.model.specs.Reads.{ready, charging, waking, output, above_largest, signal_bits, status_word, flowing, shown_power, present_nibble, state_shown, ok_nibble, may_follow, shown_next, presets_shown, info_shown, is_read, word_shown}
use Rattle.model.specs.Refusals.{supports, one_bay, good_limit, good_wake, good_setup, stray_nibble, over_age, stray_bay, stray_bays, bad_machine, unsupported_bay, not_charging_bay, formed, state_formed, bad_nibble, smb_elsewhere, not_usable, same_bay, wrong_presence, fault, refusal}
use Rattle.model.specs.Step.{reply, outcome, step_spec}
use Rattle.model.specs.Runs.{run_from, run}

words : Unit {0}
unfolding bit nibble named bay_number names alarming
words = tt

board : Unit {0}
unfolding limited class_of allows allows_to_wake
board = tt

events : Unit {0}
unfolding bay_writes host_writes_charger host_writes_selector host_reads_charger host_reads_selector by_address kind_of word_of bay_of from_bay kind_number is is_at at_bay swaps swaps_at says_present resets zeroes asks alarms connects
events = tt

bays : Unit {0}
unfolding bay_at bay_named candidate present_after ok_after low_after reading_after bay_after all_ok_written bays_after
bays = tt

selector_rules : Unit {0}
unfolding ac_after ac_arrives ac_goes written smb_after power_after drops_charge charge_after next_after notice_after
selector_rules = tt

charger_rules : Unit {0}
unfolding fresh request_after age_after mark_after rewrites_both hold_after inhibit_after wake_age_after spent_after
charger_rules = tt

machines : Unit {0}
unfolding power_on act
machines = tt

settling : Unit {0}
unfolding kept_smb kept_power unpowered first_by_letter takes_over settled_power settled_smb power_changed settle
settling = tt

reads : Unit {0}
unfolding ready charging waking output above_largest signal_bits status_word flowing shown_power present_nibble state_shown ok_nibble may_follow shown_next presets_shown info_shown is_read word_shown
reads = tt

refusals : Unit {0}
unfolding supports one_bay good_limit good_wake good_setup stray_nibble over_age stray_bay stray_bays bad_machine unsupported_bay not_charging_bay formed state_formed bad_nibble smb_elsewhere not_usable same_bay wrong_presence fault refusal
refusals = tt

step : Unit {0}
unfolding reply outcome step_spec
step = tt

runs : Unit {0}
unfolding run_from run
runs = tt

unfoldable pub computes : Unit {0}
unfolding words board events bays selector_rules charger_rules machines settling reads refusals step runs
computes = tt
