-- An event on a machine that is held from event to event: what it comes to, and what is known of the machine after it.
use Rattle.std.specs.Prelude.{Bool, true, false, not, ◌&&◌, ◌||◌, ltb, eqb, if◌then◌else◌}
use Rattle.model.specs.declared.Setup.{Setup}
use Rattle.model.specs.declared.Wake.{Wake}
use Rattle.model.specs.declared.Charger.{Charger}
use Rattle.model.specs.declared.Machine.{Machine}
use Rattle.model.specs.declared.Event.{Event}
use Rattle.model.specs.declared.Event.TheVariants.{HostWrite, HostRead, BayWord, Insertion, Removal, Signal, Terminal, Ac, Tick}
use Rattle.model.specs.Numbers.{said}
use Rattle.model.specs.Step.{Told}
use Rattle.actions.specs.declared.Action.{Action}
use Rattle.actions.specs.declared.Action.TheVariants.{SetCurrent, SetVoltage, SetAlarm, SetMode, SetState, SetPresets, ReadSpec, ReadStatus, ReadState, ReadPresets, ReadInfo, Insert, Remove, TakeSignal, TakeTerminal, SetAc, Age, Refuse}
use Rattle.actions.specs.Meaning.{meant_by, accepts, finished}
use Rattle.actions.specs.Decision.{decided}
use Rattle.steady.specs.declared.Followed.{Followed}

-- the event is a tick
abbrev pub is_tick : Event → Bool
is_tick (HostWrite a c w) = false
is_tick (HostRead a c) = false
is_tick (BayWord b c w) = false
is_tick (Insertion b) = false
is_tick (Removal b) = false
is_tick (Signal b ohms) = false
is_tick (Terminal b millivolts) = false
is_tick (Ac present) = false
is_tick Tick = true

-- the action can touch what a machine settles by: its bays, its nibbles, AC
abbrev pub unsettles : Action → Bool
unsettles (SetCurrent w) = false
unsettles (SetVoltage w) = false
unsettles (SetAlarm w) = false
unsettles (SetMode w) = false
unsettles (SetState w) = true
unsettles (SetPresets w) = true
unsettles ReadSpec = false
unsettles ReadStatus = false
unsettles ReadState = false
unsettles ReadPresets = false
unsettles ReadInfo = false
unsettles (Insert b) = true
unsettles (Remove b) = true
unsettles (TakeSignal b ohms) = true
unsettles (TakeTerminal b millivolts) = true
unsettles (SetAc present) = true
unsettles Age = false
unsettles (Refuse why) = false

-- the same truth
unfoldable pub same : Bool → Bool → Bool
same a b = if a then b else not b

-- so is wake-up to the output: it is switched off, or as much spent and as much over
unfoldable pub same_wake : Setup → Wake → Wake → Bool
same_wake s a b = eqb s.wake.milliamps 0 || same a.spent b.spent && same (ltb a.age 175) (ltb b.age 175)

-- two chargers are the same to the output: requests, hold and inhibit state, wake-up
unfoldable pub alike : Setup → Charger → Charger → Bool
alike s a b =
    eqb a.current.word b.current.word
    && eqb a.voltage.word b.voltage.word
    && same a.hold b.hold
    && same a.inhibit b.inhibit
    && same_wake s a.wake b.wake

-- an action done: a machine that has settled settles anew only where the action can unsettle it
unfoldable pub done_by : Machine → Action → Bool → Told
done_by m a steady = if steady && not (unsettles a) then meant_by m a else finished (meant_by m a)

-- enough for the output to be the one before: the action touches the charger and the notice alone, and nothing of the charger that the
-- output shows; or it is refused
unfoldable pub quiet_by : Machine → Action → Told → Bool
quiet_by m a t = if unsettles a then not (accepts t.answer) else alike m.setup m.charger t.machine.charger

-- what an event came to: answer and machine, whether the machine is known to have settled, and its output to be the one before
pub record Shown : Type 0 where
  pub told : Told
  pub steady : Bool
  pub quiet : Bool

-- the paper's value of what `follow` answers
unfoldable pub shown : Followed → Shown
shown r = record { told = record { answer = said r.answer; machine = r.machine }; steady = r.steady; quiet = r.quiet }

-- the same by the definitions above: steady says that m has settled
unfoldable pub shown_by : Machine → Action → Bool → Told → Shown
shown_by m a steady t = record { told = t; steady = steady || accepts t.answer; quiet = steady && quiet_by m a t }

-- what `follow` answers
unfoldable pub follow_spec : Machine → Event → Bool → Shown
follow_spec m e steady = shown_by m (decided m e) steady (done_by m (decided m e) steady)
