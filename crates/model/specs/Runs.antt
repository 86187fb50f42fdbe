-- A list of events, from power-on: the machine after them, and what was said, the latest first.
use Rattle.std.specs.Prelude.{List, [], ◌∷◌}
use Rattle.model.specs.declared.Event.{Event}
use Rattle.model.specs.declared.Machine.{Machine}
use Rattle.model.specs.declared.Setup.{Setup}
use Rattle.model.specs.Machines.{power_on}
use Rattle.model.specs.Step.{step_spec}
use Rattle.model.specs.Facts.{Entry, Past, accepted}

-- the machine after the events, and after each the next
unfoldable pub run_from : Machine → List Event → Machine
run_from m [] = m
run_from m (e ∷ es) = run_from (step_spec m e).machine es

-- the entries h so far, and those of the events on top
unfoldable pub said_from : Machine → List Entry → List Event → List Entry
said_from m h [] = h
said_from m h (e ∷ es) = said_from (step_spec m e).machine (record { event = e; answer = (step_spec m e).answer } ∷ h) es

-- the machine after a list of events from power-on
unfoldable pub run : Setup → List Event → Machine
run s es = run_from (power_on s) es

-- what was said of them
unfoldable pub history : Setup → List Event → List Entry
history s es = said_from (power_on s) [] es

-- the accepted events of a run, the latest first
abbrev pub past : Setup → List Event → Past
past s es = accepted (history s es)

-- the accepted ones of a list of events that goes on from the machine m
abbrev pub heard_from : Machine → List Event → Past
heard_from m es = accepted (said_from m [] es)
