-- What is promised of the model, statement by statement. `proofs/Theorems.antt` proves each under its own name.
use Rattle.std.specs.Prelude.{ℕ, ◌≤◌, ◌<◌, ◌≡◌, ◌↔◌, ◌⊎◌, Bool, true, false, List, [], ◌∷◌, ◌++◌}
use Rattle.model.specs.declared.Setup.{Setup}
use Rattle.model.specs.declared.Event.{Event}
use Rattle.model.specs.declared.Event.TheVariants.{BayWord, Ac, Tick}
use Rattle.model.specs.declared.Machine.{Machine}
use Rattle.model.specs.declared.Answer.{Answer}
use Rattle.model.specs.declared.Stepped.{Stepped}
use Rattle.model.specs.declared.Refusal.{Refusal}
use Rattle.model.specs.Numbers.{number_of, done, refused, said}
use Rattle.model.specs.Board.{no_output, class_of}
use Rattle.model.specs.Events.{Kind, current_word, voltage_word, kind_number, is}
use Rattle.model.specs.Bays.{bay_at, candidate}
use Rattle.model.specs.Machines.{program_setup, four_bay_setup, power_on}
use Rattle.model.specs.Settling.{settle}
use Rattle.model.specs.Reads.{output}
use Rattle.model.specs.Refusals.{good_setup, bad_machine}
use Rattle.model.specs.Step.{told, step_spec, power_on_spec}
use Rattle.model.specs.Facts.{Past, some, ticks, ticks_since, Eight, requested, since_wake, Waking, output_told}
use Rattle.model.specs.Runs.{run, past, heard_from}
use Rattle.model.specs.Origin.{Counted}
use Rattle.model.specs.Table.{charge, table, aged, timers, all_seen, all_values}
use Rattle.model.specs.Handed.{good_ones, bad_ones, all_bad, every_one}
use Rattle.model.specs.Ladder.{ladder}
use Rattle.model.specs.WakeAtWork.{wake_setup, flat, dark, wake_table, wake_aged, wake_timers, wake_arrivals, wake_at_work}
use Rattle.model.specs.Worked.{Row, rerun, listing, status_words, signal_at_work, charger_at_work, selector_at_work, four_bays_at_work}

-- DEMAND 3, for every setup and every list of events from power-on, refused ones included

-- the output is the one that the facts tell
abbrev pub OutputIsTold : Type 0
OutputIsTold = (s : Setup) (es : List Event) → output (run s es) ≡ output_told s (past s es)

-- it is not zero exactly when all eight facts hold, or those of the wake pair
abbrev pub FlowsExactly : Type 0
FlowsExactly = (s : Setup) (es : List Event) → (output (run s es) ≡ no_output → ⊥) ↔ (Eight s (past s es) ⊎ Waking s (past s es))

-- never both, whatever the past
abbrev pub NeverTwo : Type 0
NeverTwo = (s : Setup) (h : Past) → Eight s h → Waking s h → ⊥

-- under the eight it equals the two requests cut to the limits
abbrev pub CutToTheLimits : Type 0
CutToTheLimits = (s : Setup) (es : List Event) → Eight s (past s es) → output (run s es) ≡ requested s (past s es)

-- under those of the wake pair it is that pair
abbrev pub WakePairFlows : Type 0
WakePairFlows = (s : Setup) (es : List Event) → Waking s (past s es) → output (run s es) ≡ s.wake

-- so with wake-up switched off it is not zero exactly when all eight facts hold
abbrev pub ExactlyEight : Type 0
ExactlyEight = (s : Setup) (es : List Event) → s.wake.milliamps ≡ 0 → (output (run s es) ≡ no_output → ⊥) ↔ Eight s (past s es)

-- the eight can hold: they do of a run that charges 1500 mA, after a word that asks 0 was refused
abbrev pub FactsCanHold : Type 0
FactsCanHold = Eight program_setup (past program_setup (charge 10000 1500 ++ BayWord 1 0x14 0 ∷ []))

-- those of the wake pair can: they do of a run in which nothing was asked, after a word of the neighbour was refused
abbrev pub WakingCanHold : Type 0
WakingCanHold = Waking wake_setup (past wake_setup (flat 10000 ++ BayWord 1 0x14 1500 ∷ []))

-- every counted request came from the host, or from the pack now in the charging bay, after it was put in and connected
abbrev pub CountedFrom : Type 0
CountedFrom = (s : Setup) (es : List Event) → Eight s (past s es) → Counted current_word (past s es) × Counted voltage_word (past s es)

-- 175 ticks after the latest accepted current word, or voltage word, the output is zero, whatever else came, unless the wake pair flows
abbrev pub RunsOut : Type 0
RunsOut =
    (s : Setup) (es : List Event) →
    (175 ≤ ticks_since current_word (past s es)) ⊎ (175 ≤ ticks_since voltage_word (past s es)) →
    (Waking s (past s es) → ⊥) → output (run s es) ≡ no_output

-- the same of the list itself: after any events, once 175 ticks came among later ones of which no current word, or no voltage
-- word, was accepted
abbrev pub RunsOutWhateverComes : Type 0
RunsOutWhateverComes =
    (s : Setup) (es later : List Event) → 175 ≤ ticks later →
    (some (is current_word) (heard_from (run s es) later) ≡ false) ⊎ (some (is voltage_word) (heard_from (run s es) later) ≡ false) →
    (Waking s (past s (es ++ later)) → ⊥) → output (run s (es ++ later)) ≡ no_output

-- 175 ticks after the later of the latest fresh start and the latest AC arrival it is zero, unless the requested pair flows
abbrev pub WakeRunsOut : Type 0
WakeRunsOut = (s : Setup) (es : List Event) → 175 ≤ ticks (since_wake (past s es)) → (Eight s (past s es) → ⊥) → output (run s es) ≡ no_output

-- REFUSALS

-- a refusal leaves the machine as it stood, whichever it is
abbrev pub RefusalChangesNothing : Type 0
RefusalChangesNothing = (m : Machine) (e : Event) (n : ℕ) → (step_spec m e).answer ≡ refused n → (step_spec m e).machine ≡ m

-- 15 comes first: of a bad machine every event is refused with it
abbrev pub BadMachineFirst : Type 0
BadMachineFirst = (m : Machine) (e : Event) → bad_machine m ≡ true → (step_spec m e).answer ≡ refused 15

-- what power-on hands back is a machine that 15 accepts, also where the setup is refused
abbrev pub PowerOnIsGood : Type 0
PowerOnIsGood = (s : Setup) → bad_machine (power_on_spec s).machine ≡ false

-- no step leads from a machine that 15 accepts to one that it refuses
abbrev pub StepsStayGood : Type 0
StepsStayGood = (m : Machine) (e : Event) → bad_machine m ≡ false → bad_machine (step_spec m e).machine ≡ false

-- from power-on of a good setup every machine is one that 15 accepts
abbrev pub AlwaysGood : Type 0
AlwaysGood = (s : Setup) → good_setup s ≡ true → (es : List Event) → bad_machine (run s es) ≡ false

-- so 15 is never given
abbrev pub Never15 : Type 0
Never15 = (s : Setup) → good_setup s ≡ true → (es : List Event) (e : Event) → (step_spec (run s es) e).answer ≡ refused 15 → ⊥

-- so no tick and no AC event of such a run is refused: facts (a) and (g) see all of them
abbrev pub TicksAndAcHeard : Type 0
TicksAndAcHeard =
    (s : Setup) → good_setup s ≡ true → (es : List Event) →
    ((step_spec (run s es) Tick).answer ≡ done) × ((p : Bool) → (step_spec (run s es) (Ac p)).answer ≡ done)

-- no two refusals have one number
abbrev pub RefusalsApart : Type 0
RefusalsApart = (r q : Refusal) → number_of r ≡ number_of q → r ≡ q

-- no two answers have one value
abbrev pub AnswersApart : Type 0
AnswersApart = (x y : Answer) → said x ≡ said y → x ≡ y

-- no two steps are told alike
abbrev pub StepsApart : Type 0
StepsApart = (r q : Stepped) → told r ≡ told q → r ≡ q

-- no two kinds of event have one number
abbrev pub KindsApart : Type 0
KindsApart = (k j : Kind) → kind_number k ≡ kind_number j → k ≡ j

-- SUPPLY

-- with AC absent POWER_BY is without a bay exactly when no candidate exists
abbrev pub SupplyKept : Type 0
SupplyKept =
    (s : Setup) (es : List Event) → (run s es).ac ≡ false →
    ((run s es).selector.power ≡ 0) ↔ ((b : ℕ) → b < 4 → candidate (bay_at (run s es).bays b) ≡ false)

-- whatever the machine, the three steps once more change nothing
abbrev pub SettledOnce : Type 0
SettledOnce = (m : Machine) → settle (settle m) ≡ settle m

-- every machine of a run is settled
abbrev pub AllSettled : Type 0
AllSettled = (s : Setup) (es : List Event) → settle (run s es) ≡ run s es

-- THE OHM RANGES

-- at every reading the walk over the edges gives the class that the ladder of comparisons gives
abbrev pub WalkIsTheLadder : Type 0
WalkIsTheLadder = (ohms : ℕ) → class_of ohms ≡ ladder ohms

-- COMPUTED

-- P1 to P12, and 499 and 500 ohms, one table
abbrev pub TableHolds : Type 0
TableHolds = all_seen (power_on program_setup) table ≡ all_values table

-- each request's own timer
abbrev pub TimersHold : Type 0
TimersHold = all_seen aged timers ≡ all_values timers

-- 15, and 1 for the setups, up to each edge and past it
abbrev pub EdgesHold : Type 0
EdgesHold = (all_bad good_ones ≡ every_one false good_ones) × (all_bad bad_ones ≡ every_one true bad_ones)

-- the worked rows are what comes of their events
abbrev pub Comes : Setup → List Row → Type 0
Comes s rows = rerun (power_on s) rows ≡ rows

-- when wake-up ends, and from when its ticks count
abbrev pub WakeTimersHold : Type 0
WakeTimersHold =
    (all_seen (power_on wake_setup) wake_table ≡ all_values wake_table)
    × (all_seen (wake_aged (flat 10000)) wake_timers ≡ all_values wake_timers)
    × (all_seen (wake_aged dark) wake_arrivals ≡ all_values wake_arrivals)

-- the paper's listing, its status words, the safety signal's edges, the charger and the selector at work, a board with four bays, and wake-up
abbrev pub WorkedRunsHold : Type 0
WorkedRunsHold =
    Comes program_setup listing
    × Comes program_setup status_words
    × Comes program_setup signal_at_work
    × Comes program_setup charger_at_work
    × Comes program_setup selector_at_work
    × Comes four_bay_setup four_bays_at_work
    × Comes wake_setup wake_at_work
