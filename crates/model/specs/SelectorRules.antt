-- AC, the selector's four nibbles and the notice after an accepted event, before the machine settles.
use Rattle.std.specs.Prelude.{ℕ, Bool, true, false, not, ◌&&◌, eqb, if◌then◌else◌}
use Rattle.model.specs.declared.Machine.{Machine}
use Rattle.model.specs.declared.Event.{Event}
use Rattle.model.specs.Words.{bay_number, smb_in, power_in, charge_in, next_in, ok_in}
use Rattle.model.specs.Events.{state_word, presets_word, state_read, ac_event, is, swaps, says_present, connects, word_of}
use Rattle.model.specs.Bays.{bay_named}

-- AC as the latest AC event says
unfoldable pub ac_after : Machine → Event → Bool
ac_after m e = if is ac_event e then says_present e else m.ac

-- AC goes from absent to present
unfoldable pub ac_arrives : Machine → Event → Bool
ac_arrives m e = is ac_event e && not m.ac && says_present e

-- AC goes from present to absent; an AC event that repeats the standing value does neither
unfoldable pub ac_goes : Machine → Event → Bool
ac_goes m e = is ac_event e && m.ac && not (says_present e)

-- a nibble of a SelectorState word over the one that stands: 0xF means unchanged
unfoldable pub written : ℕ → ℕ → ℕ
written n standing = if eqb n 15 then standing else n

-- SMB as written
unfoldable pub smb_after : Machine → Event → ℕ
smb_after m e =
    if is state_word e then written (smb_in (word_of e)) m.selector.smb
    else m.selector.smb

-- AC arriving sets POWER_BY 0
unfoldable pub power_after : Machine → Event → ℕ
power_after m e =
    if is state_word e then written (power_in (word_of e)) m.selector.power
    else if ac_arrives m e then 0
    else m.selector.power

-- the CHARGE bay is present, and a Presets word has its OK bit 0
unfoldable pub drops_charge : Machine → Event → Bool
drops_charge m e =
    is presets_word e
    && (bay_named m.bays m.selector.charge).present
    && not (ok_in (bay_number m.selector.charge) (word_of e))

-- CHARGE stays through removal and insertion
unfoldable pub charge_after : Machine → Event → ℕ
charge_after m e =
    if connects e then charge_in (word_of e)
    else if drops_charge m e then 0
    else m.selector.charge

-- USE_NEXT as last written
unfoldable pub next_after : Machine → Event → ℕ
next_after m e = if is presets_word e then next_in (word_of e) else m.selector.next

-- set by insertion, removal and AC change; a read of SelectorState clears it
unfoldable pub notice_after : Machine → Event → Bool
notice_after m e =
    if swaps e then true
    else if ac_arrives m e then true
    else if ac_goes m e then true
    else if is state_read e then false
    else m.notice
