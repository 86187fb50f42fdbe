-- Worked runs from power-on: each event with its answer, and the output in mA and mV and the notice after it.
use Rattle.std.specs.Prelude.{ℕ, true, false, List, [], ◌∷◌}
use Rattle.model.specs.declared.Machine.{Machine}
use Rattle.model.specs.declared.Event.{Event}
use Rattle.model.specs.declared.Event.TheVariants.{HostWrite, HostRead, BayWord, Insertion, Removal, Signal, Terminal, Ac}
use Rattle.model.specs.Numbers.{Said, done, word, refused}
use Rattle.model.specs.Words.{on}
use Rattle.model.specs.Reads.{output}
use Rattle.model.specs.Step.{step_spec}

-- an event, its answer, and the output and the notice after it
pub record Row : Type 0 where
  pub event : Event
  pub answer : Said
  pub milliamps : ℕ
  pub millivolts : ℕ
  pub notice : ℕ

-- a row, in the order of the listing
abbrev pub row : Event → Said → ℕ → ℕ → ℕ → Row
row e a ma mv n = record { event = e; answer = a; milliamps = ma; millivolts = mv; notice = n }

-- the row of an answer to e and the machine after it
unfoldable pub row_of : Event → Said → Machine → Row
row_of e a m = row e a (output m).milliamps (output m).millivolts (on 0 m.notice)

-- the events of the rows, run from the machine m: the rows that come of it
unfoldable pub rerun : Machine → List Row → List Row
rerun m [] = []
rerun m (r ∷ rs) =
    row_of r.event (step_spec m r.event).answer (step_spec m r.event).machine ∷ rerun (step_spec m r.event).machine rs

-- the paper's listing
unfoldable pub listing : List Row
listing =
    row (Ac true) done 0 0 1
    ∷ row (Insertion 0) done 0 0 1
    ∷ row (Signal 0 10000) done 0 0 1
    ∷ row (HostWrite 0x14 0x01 0xFF1F) done 0 0 1
    ∷ row (BayWord 0 0x15 16800) done 0 0 1
    ∷ row (BayWord 0 0x14 1500) done 1500 16800 1
    ∷ row (HostRead 0x14 0x01) (word 0x0F11) 1500 16800 0
    ∷ row (BayWord 0 0x16 0x4000) done 0 0 0
    ∷ row (BayWord 1 0x14 1500) (refused 4) 0 0 0
    ∷ []

-- its charger words, with ChargerStatus at power-on, after its line 6 and after its line 8
unfoldable pub status_words : List Row
status_words =
    row (HostRead 0x12 0x13) (word 0x0310) 0 0 0
    ∷ row (Ac true) done 0 0 1
    ∷ row (Insertion 0) done 0 0 1
    ∷ row (Signal 0 10000) done 0 0 1
    ∷ row (HostWrite 0x14 0x01 0xFF1F) done 0 0 1
    ∷ row (BayWord 0 0x15 16800) done 0 0 1
    ∷ row (BayWord 0 0x14 1500) done 1500 16800 1
    ∷ row (HostRead 0x12 0x13) (word 0xC010) 1500 16800 1
    ∷ row (BayWord 0 0x16 0x4000) done 0 0 1
    ∷ row (HostRead 0x12 0x13) (word 0xD010) 0 0 1
    ∷ []

-- a pack that asks, over the edges of its safety signal: the output, and the status bits OR, COLD, HOT and UR
unfoldable pub signal_at_work : List Row
signal_at_work =
    row (Ac true) done 0 0 1
    ∷ row (Insertion 0) done 0 0 1
    ∷ row (HostWrite 0x14 0x01 0xFF1F) done 0 0 1
    ∷ row (BayWord 0 0x14 1500) done 0 0 1
    ∷ row (BayWord 0 0x15 16800) done 0 0 1
    -- unread counts as over range
    ∷ row (HostRead 0x12 0x13) (word 0xC310) 0 0 1
    -- HOT and UR, and charging all the same
    ∷ row (Signal 0 0) done 1500 16800 1
    ∷ row (HostRead 0x12 0x13) (word 0xCC10) 1500 16800 1
    ∷ row (Signal 0 499) done 1500 16800 1
    ∷ row (HostRead 0x12 0x13) (word 0xCC10) 1500 16800 1
    -- HOT
    ∷ row (Signal 0 500) done 0 0 1
    ∷ row (HostRead 0x12 0x13) (word 0xC410) 0 0 1
    ∷ row (Signal 0 2999) done 0 0 1
    ∷ row (HostRead 0x12 0x13) (word 0xC410) 0 0 1
    -- plain
    ∷ row (Signal 0 3000) done 1500 16800 1
    ∷ row (HostRead 0x12 0x13) (word 0xC010) 1500 16800 1
    ∷ row (Signal 0 30000) done 1500 16800 1
    ∷ row (HostRead 0x12 0x13) (word 0xC010) 1500 16800 1
    -- COLD
    ∷ row (Signal 0 30001) done 1500 16800 1
    ∷ row (HostRead 0x12 0x13) (word 0xC210) 1500 16800 1
    ∷ row (Signal 0 100000) done 1500 16800 1
    ∷ row (HostRead 0x12 0x13) (word 0xC210) 1500 16800 1
    -- OR and COLD
    ∷ row (Signal 0 100001) done 0 0 1
    ∷ row (HostRead 0x12 0x13) (word 0xC310) 0 0 1
    ∷ []

-- the charger at work on two packs
unfoldable pub charger_at_work : List Row
charger_at_work =
    row (Ac true) done 0 0 1
    ∷ row (Insertion 0) done 0 0 1
    ∷ row (Signal 0 10000) done 0 0 1
    ∷ row (Insertion 1) done 0 0 1
    ∷ row (Signal 1 50000) done 0 0 1
    ∷ row (HostWrite 0x14 0x01 0xFF1F) done 0 0 1
    ∷ row (BayWord 0 0x14 1500) done 0 0 1
    ∷ row (BayWord 0 0x15 16800) done 1500 16800 1
    -- CHARGE moves from A to B: the requests are not kept, and A's pack is not heard
    ∷ row (HostWrite 0x14 0x01 0xFF2F) done 0 0 1
    ∷ row (BayWord 0 0x14 1500) (refused 4) 0 0 1
    ∷ row (HostWrite 0x12 0x15 18001) done 0 0 1
    -- 65535 gives the safe value, and counts as above the largest
    ∷ row (HostWrite 0x12 0x14 65535) done 2000 18000 1
    ∷ row (HostRead 0x12 0x13) (word 0xC2D0) 2000 18000 1
    ∷ row (HostWrite 0x12 0x15 65535) done 2000 16800 1
    -- each status bit compares its own request with its own largest
    ∷ row (HostWrite 0x12 0x14 3001) done 3000 16800 1
    ∷ row (HostWrite 0x12 0x15 16800) done 3000 16800 1
    ∷ row (HostRead 0x12 0x13) (word 0xC250) 3000 16800 1
    -- naming the connected bay again leaves its pack connected from before
    ∷ row (HostWrite 0x14 0x01 0xFF2F) done 3000 16800 1
    -- an alarm: both words rewritten, zeros too, lift the hold
    ∷ row (BayWord 1 0x16 0x1000) done 0 0 1
    ∷ row (BayWord 1 0x14 0) done 0 0 1
    ∷ row (BayWord 1 0x14 1500) done 0 0 1
    ∷ row (BayWord 1 0x15 16800) done 1500 16800 1
    -- an AlarmWarning with none of the bits lifts it too
    ∷ row (BayWord 1 0x16 0x8000) done 0 0 1
    ∷ row (BayWord 1 0x16 0x0FFF) done 1500 16800 1
    -- bit 3 of ChargerMode zeroes both requests, whatever other bits are set; bit 0 inhibits until a word with bit 0 clear or POR_RESET
    ∷ row (HostWrite 0x12 0x12 0xFFFA) done 0 0 1
    ∷ row (BayWord 1 0x14 1500) done 0 0 1
    ∷ row (BayWord 1 0x15 16800) done 1500 16800 1
    ∷ row (HostWrite 0x12 0x12 0x0001) done 0 0 1
    ∷ row (HostRead 0x12 0x13) (word 0xC211) 0 0 1
    ∷ row (HostWrite 0x12 0x12 0x0000) done 1500 16800 1
    ∷ row (HostWrite 0x12 0x12 0x000D) done 0 0 1
    ∷ row (HostRead 0x12 0x13) (word 0xC210) 0 0 1
    -- AC going is a fresh start; AC arriving is none: words sent without AC begin to charge
    ∷ row (HostWrite 0x12 0x14 1500) done 0 0 1
    ∷ row (HostWrite 0x12 0x15 16800) done 1500 16800 1
    ∷ row (Ac false) done 0 0 1
    ∷ row (HostWrite 0x12 0x14 1400) done 0 0 1
    ∷ row (HostWrite 0x12 0x15 16700) done 0 0 1
    ∷ row (Ac true) done 1400 16700 1
    -- a pack is pulled and put back at the CHARGE bay: it stays connected, with nothing asked and nothing read
    ∷ row (Removal 1) done 0 0 1
    ∷ row (Insertion 1) done 0 0 1
    ∷ row (BayWord 1 0x14 1500) done 0 0 1
    ∷ row (BayWord 1 0x15 16800) done 0 0 1
    ∷ row (Signal 1 3000) done 1500 16800 1
    -- a Presets word without its OK bit connects none
    ∷ row (HostWrite 0x14 0x02 0x0001) done 0 0 1
    ∷ row (BayWord 1 0x14 1500) (refused 4) 0 0 1
    -- zeros rewrite too, and lift the hold
    ∷ row (HostWrite 0x14 0x01 0xFF1F) done 0 0 1
    ∷ row (HostWrite 0x12 0x16 0x4000) done 0 0 1
    ∷ row (HostWrite 0x12 0x14 0) done 0 0 1
    ∷ row (HostRead 0x12 0x13) (word 0xD010) 0 0 1
    ∷ row (HostWrite 0x12 0x15 0) done 0 0 1
    ∷ row (HostRead 0x12 0x13) (word 0xC010) 0 0 1
    -- a request at its largest is not above it
    ∷ row (HostWrite 0x12 0x14 3000) done 0 0 1
    ∷ row (HostWrite 0x12 0x15 18000) done 3000 18000 1
    ∷ row (HostRead 0x12 0x13) (word 0xC010) 3000 18000 1
    -- a pack pulled elsewhere is no fresh start; of ChargerMode's other bits none counts, bit 3 alone zeroes
    ∷ row (Removal 1) done 3000 18000 1
    ∷ row (HostWrite 0x12 0x12 0xFFF2) done 3000 18000 1
    ∷ row (HostWrite 0x12 0x12 0x0008) done 0 0 1
    -- a fresh start lifts the hold
    ∷ row (HostWrite 0x12 0x16 0x8000) done 0 0 1
    ∷ row (HostWrite 0x12 0x12 0x0004) done 0 0 1
    ∷ row (HostRead 0x12 0x13) (word 0xC010) 0 0 1
    -- an empty CHARGE bay reads as over range and cold, and is not heard
    ∷ row (Removal 0) done 0 0 1
    ∷ row (HostRead 0x12 0x13) (word 0x8310) 0 0 1
    ∷ row (BayWord 0 0x14 1500) (refused 4) 0 0 1
    ∷ []

-- the selector at work on two packs
unfoldable pub selector_at_work : List Row
selector_at_work =
    -- AC comes and goes with no pack in: each change sets the notice, a repeated event does nothing
    row (Ac true) done 0 0 1
    ∷ row (HostRead 0x14 0x01) (word 0x0000) 0 0 0
    ∷ row (Ac true) done 0 0 0
    ∷ row (Ac false) done 0 0 1
    ∷ row (HostRead 0x14 0x01) (word 0x0000) 0 0 0
    ∷ row (Ac false) done 0 0 0
    -- the first pack powers the system, and SMB follows
    ∷ row (Insertion 0) done 0 0 1
    ∷ row (HostRead 0x14 0x01) (word 0x1101) 0 0 0
    -- there is nothing to use next until a second pack is in
    ∷ row (HostRead 0x14 0x02) (word 0x0001) 0 0 0
    ∷ row (Insertion 1) done 0 0 1
    ∷ row (HostRead 0x14 0x02) (word 0x0023) 0 0 1
    -- AC arriving takes the load; POWER_BY and CHARGE may both be 0, but not on one bay
    ∷ row (Ac true) done 0 0 1
    ∷ row (HostWrite 0x14 0x01 0xF00F) done 0 0 1
    ∷ row (HostWrite 0x14 0x01 0xFF1F) done 0 0 1
    ∷ row (HostWrite 0x14 0x01 0x11FF) (refused 8) 0 0 1
    -- AC going leaves them on one
    ∷ row (Ac false) done 0 0 1
    ∷ row (HostRead 0x14 0x01) (word 0x1113) 0 0 0
    -- an SMB-only word is accepted all the same; CHARGE on that bay again is not
    ∷ row (HostWrite 0x14 0x01 0x1FFF) done 0 0 0
    ∷ row (HostWrite 0x14 0x01 0xFF1F) (refused 8) 0 0 0
    ∷ row (HostWrite 0x14 0x01 0x10FF) (refused 7) 0 0 0
    ∷ row (HostWrite 0x14 0x01 0x21FF) (refused 6) 0 0 0
    ∷ row (HostWrite 0x14 0x01 0x31FF) (refused 5) 0 0 0
    -- no bay OK: CHARGE and POWER_BY fall to 0, SMB stays with its pack
    ∷ row (HostWrite 0x14 0x02 0x0020) done 0 0 1
    ∷ row (HostRead 0x14 0x01) (word 0x1003) 0 0 0
    -- a bay that is not OK is present all the same: SMB may go there, and its terminal voltage does not make it OK
    ∷ row (HostWrite 0x14 0x01 0x2FFF) done 0 0 0
    ∷ row (Insertion 1) (refused 9) 0 0 0
    ∷ row (Terminal 1 12000) done 0 0 0
    ∷ row (HostRead 0x14 0x02) (word 0x0000) 0 0 0
    -- 0xF in OK_TO_USE is no mask: both bays are OK again, and the wanted bay is taken
    ∷ row (HostWrite 0x14 0x02 0x002F) done 0 0 1
    ∷ row (HostRead 0x14 0x01) (word 0x2203) 0 0 0
    ∷ row (HostRead 0x14 0x02) (word 0x0013) 0 0 0
    -- below low the bay is left; between low and restart nothing changes; at restart it may follow again
    ∷ row (Terminal 1 9000) done 0 0 0
    ∷ row (Terminal 1 8999) done 0 0 1
    ∷ row (HostRead 0x14 0x01) (word 0x1103) 0 0 0
    ∷ row (Terminal 1 10499) done 0 0 0
    ∷ row (HostRead 0x14 0x02) (word 0x0003) 0 0 0
    ∷ row (Terminal 1 10500) done 0 0 0
    ∷ row (HostRead 0x14 0x02) (word 0x0023) 0 0 0
    -- the power bay's pack is pulled
    ∷ row (Removal 0) done 0 0 1
    ∷ row (HostRead 0x14 0x01) (word 0x2202) 0 0 0
    -- 9: insertion of a present bay; removal, ohms or terminal voltage of an absent one
    ∷ row (Insertion 1) (refused 9) 0 0 0
    ∷ row (Removal 0) (refused 9) 0 0 0
    ∷ row (Signal 0 10000) (refused 9) 0 0 0
    ∷ row (Terminal 0 12000) (refused 9) 0 0 0
    -- USE_NEXT names two bays
    ∷ row (HostWrite 0x14 0x02 0x0033) (refused 5) 0 0 0
    -- the order: 2 before 3 and 9, 3 before 4, 6 before 7, 7 before 8
    ∷ row (BayWord 2 0x12 0) (refused 2) 0 0 0
    ∷ row (Removal 2) (refused 2) 0 0 0
    ∷ row (BayWord 0 0x12 0) (refused 3) 0 0 0
    ∷ row (BayWord 0 0x14 1500) (refused 4) 0 0 0
    ∷ row (HostWrite 0x14 0x01 0x21FF) (refused 6) 0 0 0
    ∷ row (HostWrite 0x14 0x01 0x1F2F) (refused 7) 0 0 0
    ∷ row (HostWrite 0x14 0x01 0xFF2F) (refused 8) 0 0 0
    -- what always reads the same
    ∷ row (HostRead 0x14 0x03) (refused 3) 0 0 0
    ∷ row (HostRead 0x12 0x11) (word 0x0002) 0 0 0
    ∷ row (HostRead 0x14 0x04) (word 0x0113) 0 0 0
    -- each nibble is judged, but PRESENT is not; SMB 0xF is not the power bay; the top byte of Presets is ignored
    ∷ row (HostWrite 0x14 0x01 0xFCFF) (refused 5) 0 0 0
    ∷ row (HostWrite 0x14 0x01 0xFF5F) (refused 5) 0 0 0
    ∷ row (HostWrite 0x14 0x01 0xF2FF) (refused 6) 0 0 0
    ∷ row (HostWrite 0x14 0x01 0xFFF5) done 0 0 0
    ∷ row (HostWrite 0x14 0x02 0xFF20) done 0 0 1
    ∷ row (HostWrite 0x14 0x01 0x22FF) (refused 7) 0 0 1
    ∷ []

-- the bays C and D, on a board with four
unfoldable pub four_bays_at_work : List Row
four_bays_at_work =
    -- C powers the system and D is next; the host turns them round
    row (Insertion 2) done 0 0 1
    ∷ row (HostRead 0x14 0x01) (word 0x4404) 0 0 0
    ∷ row (Insertion 3) done 0 0 1
    ∷ row (HostRead 0x14 0x02) (word 0x008C) 0 0 1
    ∷ row (HostWrite 0x14 0x01 0x88FF) done 0 0 1
    ∷ row (HostRead 0x14 0x01) (word 0x880C) 0 0 0
    ∷ row (HostRead 0x14 0x02) (word 0x004C) 0 0 0
    ∷ row (HostWrite 0x14 0x02 0x004C) done 0 0 0
    -- D falls low: C takes over, and D may be charged but not give power
    ∷ row (Terminal 3 8999) done 0 0 1
    ∷ row (HostRead 0x14 0x01) (word 0x440C) 0 0 0
    ∷ row (HostWrite 0x14 0x01 0x88FF) (refused 7) 0 0 0
    ∷ row (HostWrite 0x14 0x01 0xFF8F) done 0 0 0
    ∷ row (BayWord 2 0x14 1500) (refused 4) 0 0 0
    ∷ row (BayWord 3 0x14 1500) done 0 0 0
    ∷ row (BayWord 3 0x15 16800) done 0 0 0
    ∷ row (Signal 3 10000) done 0 0 0
    -- POWER_BY is inverted in all four bits while D charges, whether it is 0 or C
    ∷ row (Ac true) done 1500 16800 1
    ∷ row (HostRead 0x14 0x01) (word 0x4F8C) 1500 16800 0
    ∷ row (HostWrite 0x14 0x01 0x44FF) done 1500 16800 0
    ∷ row (HostRead 0x14 0x01) (word 0x4B8C) 1500 16800 0
    -- C is no longer OK: POWER_BY falls to 0, which is an automatic change too
    ∷ row (HostWrite 0x14 0x02 0x0048) done 1500 16800 1
    ∷ row (HostRead 0x14 0x02) (word 0x0008) 1500 16800 1
    ∷ row (HostRead 0x14 0x01) (word 0x4F8C) 1500 16800 0
    -- D is no longer OK: it is not charged, and can't be connected
    ∷ row (HostWrite 0x14 0x02 0x0044) done 0 0 0
    ∷ row (HostWrite 0x14 0x01 0xFF8F) (refused 7) 0 0 0
    -- all four bays are in; then C, with which SMB spoke, is pulled
    ∷ row (Insertion 0) done 0 0 1
    ∷ row (Insertion 1) done 0 0 1
    ∷ row (HostRead 0x14 0x01) (word 0x400F) 0 0 0
    ∷ row (HostRead 0x14 0x02) (word 0x0047) 0 0 0
    ∷ row (Removal 2) done 0 0 1
    ∷ row (HostRead 0x14 0x01) (word 0x000B) 0 0 0
    -- the wanted bay is empty: the first by letter is taken
    ∷ row (Ac false) done 0 0 1
    ∷ row (HostRead 0x14 0x01) (word 0x110B) 0 0 0
    -- A and then B are pulled: only D is left, no longer low
    ∷ row (HostWrite 0x14 0x02 0x004F) done 0 0 0
    ∷ row (Terminal 3 10500) done 0 0 0
    ∷ row (Removal 0) done 0 0 1
    ∷ row (HostRead 0x14 0x01) (word 0x220A) 0 0 0
    ∷ row (Removal 1) done 0 0 1
    ∷ row (HostRead 0x14 0x01) (word 0x8808) 0 0 0
    -- a board with four bays says so
    ∷ row (HostRead 0x14 0x04) (word 0x011F) 0 0 0
    ∷ []
