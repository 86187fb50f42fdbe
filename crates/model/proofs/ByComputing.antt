-- P1 to P12, the worked runs and the facts of a run, computed from power-on by the rules.
use mathlib.Core.Path.{refl}
use native.Mathlib.Omega.{arith}
use Rattle.model.specs.Facts.{hear, accepted, latest, since, some, ticks, ac_present, holds_pack, pack_at, disconnects, connected, reading, uninhibited, fresh_start, since_fresh, asked, ticks_since, held, ac_arrival, since_wake}
use Rattle.model.specs.Machines.{program_setup, four_bay_setup}
use Rattle.model.specs.Runs.{said_from, history}
use Rattle.model.specs.Table.{seen, table, timers, all_seen, all_values}
use Rattle.model.specs.Handed.{good_ones, bad_ones, all_bad, every_one}
use Rattle.model.specs.WakeAtWork.{wake_setup, wake_table, wake_timers, wake_arrivals, wake_at_work}
use Rattle.model.specs.Worked.{row_of, rerun, listing, status_words, signal_at_work, charger_at_work, selector_at_work, four_bays_at_work}
use Rattle.model.specs.Promises.{FactsCanHold, WakingCanHold, TableHolds, TimersHold, EdgesHold, WakeTimersHold, Comes}
use Rattle.model.proofs.Computes.{computes}

pub table_holds : TableHolds
unfolding computes seen table all_seen all_values
table_holds = refl

pub timers_hold : TimersHold
unfolding computes seen timers all_seen all_values
timers_hold = refl

pub edges_hold : EdgesHold
unfolding computes good_ones bad_ones all_bad every_one
edges_hold = (refl, refl)

pub listing_comes : Comes program_setup listing
unfolding computes row_of rerun listing
listing_comes = refl

pub status_comes : Comes program_setup status_words
unfolding computes row_of rerun status_words
status_comes = refl

pub signal_comes : Comes program_setup signal_at_work
unfolding computes row_of rerun signal_at_work
signal_comes = refl

pub charger_comes : Comes program_setup charger_at_work
unfolding computes row_of rerun charger_at_work
charger_comes = refl

pub selector_comes : Comes program_setup selector_at_work
unfolding computes row_of rerun selector_at_work
selector_comes = refl

pub four_bays_come : Comes four_bay_setup four_bays_at_work
unfolding computes row_of rerun four_bays_at_work
four_bays_come = refl

pub wake_timers_hold : WakeTimersHold
unfolding computes seen wake_table wake_timers wake_arrivals all_seen all_values
wake_timers_hold = (refl, refl, refl)

pub wake_comes : Comes wake_setup wake_at_work
unfolding computes row_of rerun wake_at_work
wake_comes = refl

pub facts_can_hold : FactsCanHold
unfolding computes history said_from hear accepted latest since some ticks ac_present holds_pack pack_at disconnects connected reading uninhibited fresh_start since_fresh asked ticks_since held
facts_can_hold =
    record {
      ac = refl;
      pack = refl;
      signal_allows = refl;
      not_inhibited = refl;
      current_asked = omega arith;
      voltage_asked = omega arith;
      in_time = (omega arith, omega arith);
      not_held = refl;
    }

pub waking_can_hold : WakingCanHold
unfolding computes history said_from hear accepted latest since some ticks ac_present holds_pack pack_at disconnects connected reading uninhibited fresh_start since_fresh held ac_arrival since_wake
waking_can_hold =
    record {
      ac = refl;
      pack = refl;
      signal_allows = refl;
      not_inhibited = refl;
      not_held = refl;
      switched_on = omega arith;
      unasked = refl;
      in_time = omega arith;
    }
