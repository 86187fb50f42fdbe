-- What the machine shows: its output, and the words that the host reads.
use Rattle.std.specs.Prelude.{Option, ℕ, ◌+◌, ◌^◌, Bool, true, not, ◌&&◌, ◌||◌, List, ltb, eqb, if◌then◌else◌}
use Rattle.model.specs.declared.Limit.{Limit}
use Rattle.model.specs.declared.Bay.{Bay}
use Rattle.model.specs.declared.Machine.{Machine}
use Rattle.model.specs.declared.Output.{Output}
use Rattle.model.specs.declared.Event.{Event}
use Rattle.model.specs.Words.{on, nibble, nibbles, inverted}
use Rattle.model.specs.Board.{limited, no_output, class_read, allows, allows_to_wake, class_bits}
use Rattle.model.specs.Events.{spec_read, status_read, state_read, presets_read, info_read, is}
use Rattle.model.specs.Bays.{bay_at, bay_named, candidate}

-- the CHARGE bay; an empty one when it is none
abbrev pub charge_bay : Machine → Bay
charge_bay m = bay_named m.bays m.selector.charge

-- AC and the CHARGE bay are present, its signal allows what is to flow, there is no inhibit or hold
unfoldable pub ready : (Option ℕ → Bool) → Machine → Bool
ready allowing m =
    m.ac
    && (charge_bay m).present
    && allowing (charge_bay m).reading
    && not m.charger.inhibit
    && not m.charger.hold

-- ready for requested charge, and neither request is 0
unfoldable pub charging : Machine → Bool
charging m =
    ready allows m
    && not (eqb m.charger.current.word 0)
    && not (eqb m.charger.voltage.word 0)

-- ready for wake-up, which is switched on and not spent, and its 175th tick is still to come
unfoldable pub waking : Machine → Bool
waking m =
    ready allows_to_wake m && not (eqb m.setup.wake.milliamps 0)
    && not m.charger.wake.spent
    && ltb m.charger.wake.age 175

-- both limited values while charging; the wake pair while waking; otherwise 0 mA and 0 mV
unfoldable pub output : Machine → Output
output m =
    if charging m then
    record {
      milliamps = limited m.setup.current m.charger.current.word;
      millivolts = limited m.setup.voltage m.charger.voltage.word;
    }
    else if waking m then m.setup.wake
    else no_output

-- 0x13 ChargerStatus

-- a request above the largest value, 65535 too
unfoldable pub above_largest : Limit → ℕ → Bool
above_largest l request = ltb l.largest request || eqb request 65535

-- 8 OR, 9 COLD, 10 HOT, 11 UR of the CHARGE bay; 8 and 9 when it is none or absent
unfoldable pub signal_bits : Bay → ℕ
signal_bits bay = if bay.present then class_bits (class_read bay.reading) else 2 ^ 8 + 2 ^ 9

-- 0 inhibit; 4 always 1; 6 current and 7 voltage request above largest; 8 to 11 signal; 12 alarm hold; 14 CHARGE bay present; 15 AC
unfoldable pub status_word : Machine → ℕ
status_word m =
    on 0 m.charger.inhibit
    + on 4 true
    + on 6 (above_largest m.setup.current m.charger.current.word)
    + on 7 (above_largest m.setup.voltage m.charger.voltage.word)
    + signal_bits (charge_bay m)
    + on 12 m.charger.hold
    + on 14 (charge_bay m).present
    + on 15 m.ac

-- 0x01 SelectorState

-- the charge output is non-zero
unfoldable pub flowing : Output → Bool
flowing o = not (eqb o.milliamps 0) || not (eqb o.millivolts 0)

-- POWER_BY is inverted while the charge output is non-zero
unfoldable pub shown_power : Machine → ℕ
shown_power m = if flowing (output m) then inverted m.selector.power else m.selector.power

-- PRESENT: a bit for each bay
unfoldable pub present_nibble : List Bay → ℕ
present_nibble bays = on 0 (bay_at bays 0).present + on 1 (bay_at bays 1).present + on 2 (bay_at bays 2).present + on 3 (bay_at bays 3).present

-- SMB, POWER_BY, CHARGE, PRESENT
unfoldable pub state_shown : Machine → ℕ
state_shown m = nibbles m.selector.smb (shown_power m) m.selector.charge (present_nibble m.bays)

-- 0x02 SelectorPresets

-- OK_TO_USE: a bit for each bay
unfoldable pub ok_nibble : List Bay → ℕ
ok_nibble bays = on 0 (bay_at bays 0).ok + on 1 (bay_at bays 1).ok + on 2 (bay_at bays 2).ok + on 3 (bay_at bays 3).ok

-- the nibble names a candidate other than the power bay
unfoldable pub may_follow : Machine → ℕ → Bool
may_follow m n = candidate (bay_named m.bays n) && not (eqb n m.selector.power)

-- the wanted bay if it is such a candidate, else the first such candidate by letter, else 0
unfoldable pub shown_next : Machine → ℕ
shown_next m =
    if may_follow m m.selector.next then m.selector.next
    else if may_follow m 1 then 1
    else if may_follow m 2 then 2
    else if may_follow m 4 then 4
    else if may_follow m 8 then 8
    else 0

-- the top byte reads 0
unfoldable pub presets_shown : Machine → ℕ
presets_shown m = nibbles 0 0 (shown_next m) (ok_nibble m.bays)

-- 0x04 SelectorInfo reads 0x0110 plus the supported nibble
unfoldable pub info_shown : Machine → ℕ
info_shown m = 0x0110 + nibble 0 m.setup.supported

-- a read that exists
unfoldable pub is_read : Event → Bool
is_read e = is spec_read e || is status_read e || is state_read e || is presets_read e || is info_read e

-- the word that a read answers; 0x11 ChargerSpecInfo is always 0x0002
unfoldable pub word_shown : Machine → Event → ℕ
word_shown m e =
    if is spec_read e then 0x0002
    else if is status_read e then status_word m
    else if is state_read e then state_shown m
    else if is presets_read e then presets_shown m
    else info_shown m
