-- The code's decisions: over sender, address and code, and over what is needed of a bay.
use Rattle.std.specs.Prelude.{ℕ, Bool, true, false, not, ◌&&◌, eqb, if◌then◌else◌}
use Rattle.model.specs.declared.Machine.{Machine}
use Rattle.model.specs.declared.Event.{Event}
use Rattle.model.specs.declared.Event.TheVariants.{HostWrite, HostRead, BayWord, Insertion, Removal, Signal, Terminal, Ac, Tick}
use Rattle.model.specs.declared.Refusal.TheVariants.{NoSuchWord, NotChargingBay, UnsupportedBay, WrongPresence}
use Rattle.model.specs.Words.{names}
use Rattle.model.specs.Refusals.{supports}
use Rattle.machine.specs.ByNumber.{bay_in}
use Rattle.actions.specs.declared.Sender.{Sender}
use Rattle.actions.specs.declared.Sender.TheVariants.{HostWrites, HostReads, ChargeBay, OtherBay}
use Rattle.actions.specs.declared.Action.{Action}
use Rattle.actions.specs.declared.Action.TheVariants.{SetCurrent, SetVoltage, SetAlarm, SetMode, SetState, SetPresets, ReadSpec, ReadStatus, ReadState, ReadPresets, ReadInfo, Insert, Remove, TakeSignal, TakeTerminal, SetAc, Age, Refuse}

-- what a word is to do, by its sender, address and code
unfoldable pub chosen : Sender → ℕ → ℕ → ℕ → Action
chosen HostWrites a c w =
    if eqb a 0x12 && eqb c 0x12 then SetMode w
    else if eqb a 0x12 && eqb c 0x14 then SetCurrent w
    else if eqb a 0x12 && eqb c 0x15 then SetVoltage w
    else if eqb a 0x12 && eqb c 0x16 then SetAlarm w
    else if eqb a 0x14 && eqb c 0x01 then SetState w
    else if eqb a 0x14 && eqb c 0x02 then SetPresets w
    else Refuse NoSuchWord
chosen HostReads a c w =
    if eqb a 0x12 && eqb c 0x11 then ReadSpec
    else if eqb a 0x12 && eqb c 0x13 then ReadStatus
    else if eqb a 0x14 && eqb c 0x01 then ReadState
    else if eqb a 0x14 && eqb c 0x02 then ReadPresets
    else if eqb a 0x14 && eqb c 0x04 then ReadInfo
    else Refuse NoSuchWord
chosen ChargeBay a c w =
    if eqb a 0x12 && eqb c 0x14 then SetCurrent w
    else if eqb a 0x12 && eqb c 0x15 then SetVoltage w
    else if eqb a 0x12 && eqb c 0x16 then SetAlarm w
    else Refuse NoSuchWord
chosen OtherBay a c w =
    if eqb a 0x12 && eqb c 0x14 then Refuse NotChargingBay
    else if eqb a 0x12 && eqb c 0x15 then Refuse NotChargingBay
    else if eqb a 0x12 && eqb c 0x16 then Refuse NotChargingBay
    else Refuse NoSuchWord

-- a bay as a sender
unfoldable pub sender_at : Machine → ℕ → Sender
sender_at m b = if (bay_in m.bays b).present && names m.selector.charge b then ChargeBay else OtherBay

-- a bay's word: 2 where the bay is not supported
unfoldable pub word_from_bay : Machine → ℕ → ℕ → ℕ → Action
word_from_bay m b c w = if supports m.setup b then chosen (sender_at m b) 0x12 c w else Refuse UnsupportedBay

-- an action at a bay that has to hold a pack, or has to be empty: 2 where the bay is not supported, 9 where it is the other
unfoldable pub action_at_bay : Machine → ℕ → Bool → Action → Action
action_at_bay m b full a =
    if supports m.setup b then
    if (if full then (bay_in m.bays b).present else not (bay_in m.bays b).present) then a
    else Refuse WrongPresence
    else Refuse UnsupportedBay

-- what an event comes to; 5 to 8 are tried where a word of the selector is taken
abbrev pub decided : Machine → Event → Action
decided m (HostWrite address code w) = chosen HostWrites address code w
decided m (HostRead address code) = chosen HostReads address code 0
decided m (BayWord b code w) = word_from_bay m b code w
decided m (Insertion b) = action_at_bay m b false (Insert b)
decided m (Removal b) = action_at_bay m b true (Remove b)
decided m (Signal b ohms) = action_at_bay m b true (TakeSignal b ohms)
decided m (Terminal b millivolts) = action_at_bay m b true (TakeTerminal b millivolts)
decided m (Ac present) = SetAc present
decided m Tick = Age
