-- Wake-up at work: runs of a setup with a wake pair, worked out event by event, and the ticks at which it ends.
use Rattle.std.specs.Prelude.{ℕ, true, false, List, [], ◌∷◌, ◌++◌, replicate}
use Rattle.model.specs.declared.Setup.{Setup}
use Rattle.model.specs.declared.Machine.{Machine}
use Rattle.model.specs.declared.Event.{Event}
use Rattle.model.specs.declared.Event.TheVariants.{HostWrite, HostRead, BayWord, Insertion, Removal, Signal, Ac, Tick}
use Rattle.model.specs.Numbers.{done, word, refused}
use Rattle.model.specs.Machines.{setup_of, with_charger}
use Rattle.model.specs.Runs.{run}
use Rattle.model.specs.Table.{Case, current}
use Rattle.model.specs.Worked.{Row, row}

-- the program's board, with a wake pair of 100 mA and 12000 mV
abbrev pub wake_setup : Setup
wake_setup = setup_of 3 3000 2000 18000 16800 9000 10500 100 12000

-- AC; a pack in bay 0 with that safety signal; bay 0 connected: nothing is asked
abbrev pub flat : ℕ → List Event
flat ohms = Ac true ∷ Insertion 0 ∷ Signal 0 ohms ∷ HostWrite 0x14 0x01 0xFF1F ∷ []

-- packs in both bays, the second one connected while AC is absent
abbrev pub dark : List Event
dark = Insertion 0 ∷ Insertion 1 ∷ Signal 1 10000 ∷ HostWrite 0x14 0x01 0xFF2F ∷ []

-- 174 ticks after the connection it flows, at the 175th it ends
unfoldable pub wake_table : List Case
wake_table =
    record { events = flat 10000 ++ replicate 174 Tick; look = current; value = 100 }
    ∷ record { events = flat 10000 ++ replicate 175 Tick; look = current; value = 0 }
    ∷ []

-- the machine after the events, with a wake age of 174
abbrev pub wake_aged : List Event → Machine
wake_aged es =
    let m = run wake_setup es in
    let c = m.charger in
    with_charger m
    (record {
      current = c.current;
      voltage = c.voltage;
      hold = c.hold;
      inhibit = c.inhibit;
      wake = record { age = 174; spent = c.wake.spent };
    })

-- from `wake_aged (flat 10000)` on: what starts it anew
unfoldable pub wake_timers : List Case
wake_timers =
    record { events = Tick ∷ []; look = current; value = 0 }
    -- not a reading, nor AC said again, nor the connected bay named again, nor an alarm
    ∷ record { events = Signal 0 20000 ∷ Tick ∷ []; look = current; value = 0 }
    ∷ record { events = Ac true ∷ Tick ∷ []; look = current; value = 0 }
    ∷ record { events = HostWrite 0x14 0x01 0xFF1F ∷ Tick ∷ []; look = current; value = 0 }
    ∷ record { events = BayWord 0 0x16 0x4000 ∷ Tick ∷ BayWord 0 0x16 0 ∷ []; look = current; value = 0 }
    -- but POR_RESET, another pack, AC gone and back
    ∷ record { events = HostWrite 0x12 0x12 0x0004 ∷ Tick ∷ []; look = current; value = 100 }
    ∷ record { events = Removal 0 ∷ Insertion 0 ∷ Signal 0 10000 ∷ Tick ∷ []; look = current; value = 100 }
    ∷ record { events = Tick ∷ Ac false ∷ Ac true ∷ []; look = current; value = 100 }
    ∷ []

-- from `wake_aged dark` on: AC that comes late starts it anew
unfoldable pub wake_arrivals : List Case
wake_arrivals = record { events = Ac true ∷ Tick ∷ []; look = current; value = 100 } ∷ []

-- what lets the wake pair flow, what stops it, and what starts it again
unfoldable pub wake_at_work : List Row
wake_at_work =
    row (Insertion 0) done 0 0 1
    ∷ row (Signal 0 10000) done 0 0 1
    ∷ row (Ac true) done 0 0 1
    ∷ row (HostWrite 0x14 0x01 0xFF1F) done 100 12000 1
    -- POWER_BY reads inverted; the status word shows nothing of it
    ∷ row (HostRead 0x14 0x01) (word 0x1F11) 100 12000 0
    ∷ row (HostRead 0x12 0x13) (word 0xC010) 100 12000 0
    -- a refused word does not count
    ∷ row (BayWord 1 0x14 1500) (refused 4) 100 12000 0
    -- under range and hot, hot; plain, cold; over range
    ∷ row (Signal 0 499) done 0 0 0
    ∷ row (Signal 0 500) done 0 0 0
    ∷ row (Signal 0 2999) done 0 0 0
    ∷ row (Signal 0 3000) done 100 12000 0
    ∷ row (Signal 0 100000) done 100 12000 0
    ∷ row (Signal 0 100001) done 0 0 0
    ∷ row (Signal 0 10000) done 100 12000 0
    -- while inhibited it does not flow
    ∷ row (HostWrite 0x12 0x12 0x0001) done 0 0 0
    ∷ row (HostWrite 0x12 0x12 0x0000) done 100 12000 0
    -- nor in an alarm hold, which a clear alarm lifts
    ∷ row (BayWord 0 0x16 0x4000) done 0 0 0
    ∷ row (BayWord 0 0x16 0x0FFF) done 100 12000 0
    -- a current word ends it; with a voltage word the requested pair flows
    ∷ row (BayWord 0 0x14 1500) done 0 0 0
    ∷ row (BayWord 0 0x15 16800) done 1500 16800 0
    -- a bit-3 zeroing ends that, and the wake pair does not follow; POR_RESET is a fresh start
    ∷ row (HostWrite 0x12 0x12 0x0008) done 0 0 0
    ∷ row (HostWrite 0x12 0x12 0x0004) done 100 12000 0
    -- a word of 0 ends it too; a pack put in is unread, and wakes once it is read
    ∷ row (BayWord 0 0x14 0) done 0 0 0
    ∷ row (Removal 0) done 0 0 1
    ∷ row (Insertion 0) done 0 0 1
    ∷ row (Signal 0 10000) done 100 12000 1
    -- a voltage word of 0; AC gone and back
    ∷ row (HostWrite 0x12 0x15 0) done 0 0 1
    ∷ row (Ac false) done 0 0 1
    ∷ row (Ac true) done 100 12000 1
    -- a bit-3 zeroing without a request
    ∷ row (HostWrite 0x12 0x12 0x0008) done 0 0 1
    -- a word that came without AC counts when AC arrives, which is no fresh start
    ∷ row (Ac false) done 0 0 1
    ∷ row (HostWrite 0x12 0x14 1500) done 0 0 1
    ∷ row (Ac true) done 0 0 1
    -- another bay connected is a fresh start; the same one named again is none
    ∷ row (Insertion 1) done 0 0 1
    ∷ row (Signal 1 50000) done 0 0 1
    ∷ row (HostWrite 0x14 0x01 0xFF2F) done 100 12000 1
    ∷ row (BayWord 1 0x15 16800) done 0 0 1
    ∷ row (HostWrite 0x14 0x01 0xFF2F) done 0 0 1
    -- a Presets word connects none
    ∷ row (HostWrite 0x14 0x01 0xFF1F) done 100 12000 1
    ∷ row (HostWrite 0x14 0x02 0x0002) done 0 0 1
    ∷ []
