-- What an event is: its kind, and the bay and the word that it carries.
use Rattle.std.specs.Prelude.{ℕ, Bool, true, false, not, ◌&&◌, ◌||◌, eqb, if◌then◌else◌}
use Rattle.model.specs.declared.Event.{Event}
use Rattle.model.specs.declared.Event.TheVariants.{HostWrite, HostRead, BayWord, Insertion, Removal, Signal, Terminal, Ac, Tick}
use Rattle.model.specs.Words.{bit, names, alarming, charge_in}

-- words written to the charger, to the selector; reads; events at a bay; AC and a tick; where address and code don't exist
-- for that sender and direction, no such word
pub data Kind : Type 0 where
  current_word voltage_word alarm_word mode_word : Kind
  state_word presets_word : Kind
  spec_read status_read state_read presets_read info_read : Kind
  insertion removal signal terminal : Kind
  ac_event tick : Kind
  no_such_word : Kind

-- a bay writes 0x14, 0x15, 0x16 to the charger only
unfoldable pub bay_writes : ℕ → Kind
bay_writes code =
    if eqb code 0x14 then current_word
    else if eqb code 0x15 then voltage_word
    else if eqb code 0x16 then alarm_word
    else no_such_word

-- the host writes 0x12, 0x14, 0x15, 0x16 to the charger
unfoldable pub host_writes_charger : ℕ → Kind
host_writes_charger code = if eqb code 0x12 then mode_word else bay_writes code

-- the host writes 0x01 and 0x02 to the selector
unfoldable pub host_writes_selector : ℕ → Kind
host_writes_selector code =
    if eqb code 0x01 then state_word
    else if eqb code 0x02 then presets_word
    else no_such_word

-- the host reads 0x11 and 0x13 of the charger
unfoldable pub host_reads_charger : ℕ → Kind
host_reads_charger code =
    if eqb code 0x11 then spec_read
    else if eqb code 0x13 then status_read
    else no_such_word

-- the host reads 0x01, 0x02 and 0x04 of the selector
unfoldable pub host_reads_selector : ℕ → Kind
host_reads_selector code =
    if eqb code 0x01 then state_read
    else if eqb code 0x02 then presets_read
    else if eqb code 0x04 then info_read
    else no_such_word

-- addresses: charger 0x12, selector 0x14
unfoldable pub by_address : ℕ → Kind → Kind → Kind
by_address address charger selector =
    if eqb address 0x12 then charger
    else if eqb address 0x14 then selector
    else no_such_word

-- the kind of an event
unfoldable pub kind_of : Event → Kind
kind_of (HostWrite address code w) = by_address address (host_writes_charger code) (host_writes_selector code)
kind_of (HostRead address code) = by_address address (host_reads_charger code) (host_reads_selector code)
kind_of (BayWord b code w) = bay_writes code
kind_of (Insertion b) = insertion
kind_of (Removal b) = removal
kind_of (Signal b ohms) = signal
kind_of (Terminal b millivolts) = terminal
kind_of (Ac present) = ac_event
kind_of Tick = tick

-- the word, the ohms or the millivolts that the event carries; AC present is 1
unfoldable pub word_of : Event → ℕ
word_of (HostWrite address code w) = w
word_of (HostRead address code) = 0
word_of (BayWord b code w) = w
word_of (Insertion b) = 0
word_of (Removal b) = 0
word_of (Signal b ohms) = ohms
word_of (Terminal b millivolts) = millivolts
word_of (Ac present) = if present then 1 else 0
word_of Tick = 0

-- the bay that the event names, where it names one
unfoldable pub bay_of : Event → ℕ
bay_of (HostWrite address code w) = 0
bay_of (HostRead address code) = 0
bay_of (BayWord b code w) = b
bay_of (Insertion b) = b
bay_of (Removal b) = b
bay_of (Signal b ohms) = b
bay_of (Terminal b millivolts) = b
bay_of (Ac present) = 0
bay_of Tick = 0

-- a word that a bay sent
unfoldable pub from_bay : Event → Bool
from_bay (HostWrite address code w) = false
from_bay (HostRead address code) = false
from_bay (BayWord b code w) = true
from_bay (Insertion b) = false
from_bay (Removal b) = false
from_bay (Signal b ohms) = false
from_bay (Terminal b millivolts) = false
from_bay (Ac present) = false
from_bay Tick = false

-- each kind's own number, by which two kinds are compared
unfoldable pub kind_number : Kind → ℕ
kind_number current_word = 1
kind_number voltage_word = 2
kind_number alarm_word = 3
kind_number mode_word = 4
kind_number state_word = 5
kind_number presets_word = 6
kind_number spec_read = 7
kind_number status_read = 8
kind_number state_read = 9
kind_number presets_read = 10
kind_number info_read = 11
kind_number insertion = 12
kind_number removal = 13
kind_number signal = 14
kind_number terminal = 15
kind_number ac_event = 16
kind_number tick = 17
kind_number no_such_word = 18

-- the event is of that kind
unfoldable pub is : Kind → Event → Bool
is k e = eqb (kind_number (kind_of e)) (kind_number k)

-- it is of that kind, at bay b
unfoldable pub is_at : Kind → ℕ → Event → Bool
is_at k b e = is k e && eqb (bay_of e) b

-- it happens at a bay
unfoldable pub at_bay : Event → Bool
at_bay e = is insertion e || is removal e || is signal e || is terminal e

-- a pack is put in or pulled
unfoldable pub swaps : Event → Bool
swaps e = is insertion e || is removal e

-- it is put in or pulled at the bay that the nibble n names
unfoldable pub swaps_at : ℕ → Event → Bool
swaps_at n e = swaps e && names n (bay_of e)

-- AC is said to be present
unfoldable pub says_present : Event → Bool
says_present e = eqb (word_of e) 1

-- ChargerMode with bit 2, POR_RESET: the rest of the word is ignored
unfoldable pub resets : Event → Bool
resets e = is mode_word e && bit 2 (word_of e)

-- ChargerMode without it: bit 3 sets both requests to 0
unfoldable pub zeroes : Event → Bool
zeroes e = is mode_word e && not (bit 2 (word_of e)) && bit 3 (word_of e)

-- a current word, a voltage word or a bit-3 zeroing: each ends wake-up until the next fresh start
unfoldable pub asks : Event → Bool
asks e = is current_word e || is voltage_word e || zeroes e

-- an AlarmWarning word that puts on the alarm hold
unfoldable pub alarms : Event → Bool
alarms e = is alarm_word e && alarming (word_of e)

-- a SelectorState word whose CHARGE nibble is not 0xF
unfoldable pub connects : Event → Bool
connects e = is state_word e && not (eqb (charge_in (word_of e)) 15)
