-- Every promise of `specs/Promises.antt`, proved: a line each, with the file that has the argument.
use Rattle.model.specs.Promises.{OutputIsTold, FlowsExactly, NeverTwo, CutToTheLimits, WakePairFlows, ExactlyEight, FactsCanHold, WakingCanHold, CountedFrom, RunsOut, RunsOutWhateverComes, WakeRunsOut, RefusalChangesNothing, BadMachineFirst, PowerOnIsGood, StepsStayGood, AlwaysGood, Never15, TicksAndAcHeard, RefusalsApart, AnswersApart, StepsApart, KindsApart, SupplyKept, SettledOnce, AllSettled, WalkIsTheLadder, TableHolds, TimersHold, EdgesHold, WakeTimersHold, WorkedRunsHold}
use Rattle.model.proofs.Demand3
use Rattle.model.proofs.Exactly
use Rattle.model.proofs.Origin
use Rattle.model.proofs.Passes
use Rattle.model.proofs.Good
use Rattle.model.proofs.Heard
use Rattle.model.proofs.Later
use Rattle.model.proofs.Numbers
use Rattle.model.proofs.Candidates
use Rattle.model.proofs.Settled
use Rattle.model.proofs.Ladder
use Rattle.model.proofs.ByComputing

pub output_is_told : OutputIsTold
output_is_told = Demand3.output_is_told

pub flows_exactly : FlowsExactly
flows_exactly = Exactly.flows_exactly

pub never_two : NeverTwo
never_two = Exactly.never_two

pub cut_to_the_limits : CutToTheLimits
cut_to_the_limits = Exactly.cut_to_the_limits

pub wake_pair_flows : WakePairFlows
wake_pair_flows = Exactly.wake_pair_flows

pub exactly_eight : ExactlyEight
exactly_eight = Exactly.exactly_eight

pub facts_can_hold : FactsCanHold
facts_can_hold = ByComputing.facts_can_hold

pub waking_can_hold : WakingCanHold
waking_can_hold = ByComputing.waking_can_hold

pub counted_from : CountedFrom
counted_from = Origin.counted_from

pub runs_out : RunsOut
runs_out = Exactly.runs_out

pub runs_out_whatever_comes : RunsOutWhateverComes
runs_out_whatever_comes = Later.runs_out_whatever_comes

pub wake_runs_out : WakeRunsOut
wake_runs_out = Exactly.wake_runs_out

pub refusal_changes_nothing : RefusalChangesNothing
refusal_changes_nothing = Passes.refusal_changes_nothing

pub bad_machine_first : BadMachineFirst
bad_machine_first = Passes.bad_machine_first

pub power_on_is_good : PowerOnIsGood
power_on_is_good = Good.power_on_is_good

pub steps_stay_good : StepsStayGood
steps_stay_good = Good.steps_stay_good

pub always_good : AlwaysGood
always_good = Good.always_good

pub never_15 : Never15
never_15 = Heard.never_15

pub ticks_and_ac_heard : TicksAndAcHeard
ticks_and_ac_heard = Heard.ticks_and_ac_heard

pub refusals_apart : RefusalsApart
refusals_apart = Numbers.refusals_apart

pub answers_apart : AnswersApart
answers_apart = Numbers.answers_apart

pub steps_apart : StepsApart
steps_apart = Numbers.steps_apart

pub kinds_apart : KindsApart
kinds_apart = Numbers.kinds_apart

pub supply_kept : SupplyKept
supply_kept = Candidates.supply_kept

pub settled_once : SettledOnce
settled_once = Settled.settled_once

pub all_settled : AllSettled
all_settled = Settled.all_settled

pub walk_is_the_ladder : WalkIsTheLadder
walk_is_the_ladder = Ladder.walk_is_the_ladder

pub table_holds : TableHolds
table_holds = ByComputing.table_holds

pub timers_hold : TimersHold
timers_hold = ByComputing.timers_hold

pub edges_hold : EdgesHold
edges_hold = ByComputing.edges_hold

pub wake_timers_hold : WakeTimersHold
wake_timers_hold = ByComputing.wake_timers_hold

pub worked_runs_hold : WorkedRunsHold
worked_runs_hold = (ByComputing.listing_comes, ByComputing.status_comes, ByComputing.signal_comes, ByComputing.charger_comes, ByComputing.selector_comes, ByComputing.four_bays_come, ByComputing.wake_comes)
