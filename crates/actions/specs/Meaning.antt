-- What an event means before the machine settles, what an action does, and how a step ends.
use Rattle.std.specs.Prelude.{ℕ, zero, suc, Bool, true, false, if◌then◌else◌}
use Rattle.model.specs.declared.Machine.{Machine}
use Rattle.model.specs.declared.Event.{Event}
use Rattle.model.specs.declared.Event.TheVariants.{HostWrite, Insertion, Removal, Signal, Terminal, Ac, Tick}
use Rattle.model.specs.Numbers.{Said, done, word, refused, number_of}
use Rattle.model.specs.Machines.{act, with_notice}
use Rattle.model.specs.Settling.{settle}
use Rattle.model.specs.Reads.{status_word, state_shown, presets_shown, info_shown}
use Rattle.model.specs.Refusals.{fault}
use Rattle.model.specs.Step.{Told, reply}
use Rattle.actions.specs.declared.Action.{Action}
use Rattle.actions.specs.declared.Action.TheVariants.{SetCurrent, SetVoltage, SetAlarm, SetMode, SetState, SetPresets, ReadSpec, ReadStatus, ReadState, ReadPresets, ReadInfo, Insert, Remove, TakeSignal, TakeTerminal, SetAc, Age, Refuse}

-- done, with that machine
abbrev pub done_with : Machine → Told
done_with m = record { answer = done; machine = m }

-- that word shown, with that machine
abbrev pub shown_with : ℕ → Machine → Told
shown_with w m = record { answer = word w; machine = m }

-- refused by that number, with that machine
abbrev pub refused_with : ℕ → Machine → Told
refused_with n m = record { answer = refused n; machine = m }

-- by the refusal's number, 0 for none; an accepted event acts, and the machine is not settled yet
unfoldable pub unsettled : ℕ → Machine → Event → Told
unsettled zero m e = record { answer = reply m e; machine = act m e }
unsettled (suc n) m e = refused_with (suc n) m

-- an event on a machine that 15 does not refuse, before the machine settles
unfoldable pub meant : Machine → Event → Told
meant m e = unsettled (fault m e) m e

-- an action, before the machine settles
unfoldable pub meant_by : Machine → Action → Told
meant_by m (SetCurrent w) = done_with (act m (HostWrite 0x12 0x14 w))
meant_by m (SetVoltage w) = done_with (act m (HostWrite 0x12 0x15 w))
meant_by m (SetAlarm w) = done_with (act m (HostWrite 0x12 0x16 w))
meant_by m (SetMode w) = done_with (act m (HostWrite 0x12 0x12 w))
meant_by m (SetState w) = meant m (HostWrite 0x14 0x01 w)
meant_by m (SetPresets w) = meant m (HostWrite 0x14 0x02 w)
meant_by m ReadSpec = shown_with 0x0002 m
meant_by m ReadStatus = shown_with (status_word m) m
meant_by m ReadState = shown_with (state_shown m) (with_notice m false)
meant_by m ReadPresets = shown_with (presets_shown m) m
meant_by m ReadInfo = shown_with (info_shown m) m
meant_by m (Insert b) = done_with (act m (Insertion b))
meant_by m (Remove b) = done_with (act m (Removal b))
meant_by m (TakeSignal b ohms) = done_with (act m (Signal b ohms))
meant_by m (TakeTerminal b millivolts) = done_with (act m (Terminal b millivolts))
meant_by m (SetAc present) = done_with (act m (Ac present))
meant_by m Age = done_with (act m Tick)
meant_by m (Refuse why) = refused_with (number_of why) m

-- the answer is no refusal
abbrev pub accepts : Said → Bool
accepts done = true
accepts (word w) = true
accepts (refused n) = false

-- an accepted event lets the machine settle, a refused one leaves it as it stood
unfoldable pub finished : Told → Told
finished t = if accepts t.answer then record { answer = t.answer; machine = settle t.machine } else t
