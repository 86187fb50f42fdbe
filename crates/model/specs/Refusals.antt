-- What is refused, and by which number: each condition by itself, then the numbers in the paper's order.
use Rattle.std.specs.Prelude.{Option, None, Some, ℕ, Bool, true, false, not, ◌&&◌, ◌||◌, List, ltb, leb, eqb, if◌then◌else◌}
use Rattle.model.specs.declared.Limit.{Limit}
use Rattle.model.specs.declared.Setup.{Setup}
use Rattle.model.specs.declared.Bay.{Bay}
use Rattle.model.specs.declared.Machine.{Machine}
use Rattle.model.specs.declared.Event.{Event}
use Rattle.model.specs.Words.{bit, named, bay_number, names, smb_in, power_in, charge_in, next_in}
use Rattle.model.specs.Events.{state_word, presets_word, insertion, removal, signal, terminal, no_such_word, is, at_bay, word_of, bay_of, from_bay}
use Rattle.model.specs.Bays.{bay_at, bay_named, candidate}
use Rattle.model.specs.SelectorRules.{written}

-- bay b is one of the four, and supported
unfoldable pub supports : Setup → ℕ → Bool
supports s b = ltb b 4 && bit b s.supported

-- 0 or one supported bay
unfoldable pub one_bay : Setup → ℕ → Bool
one_bay s n = eqb n 0 || named n && supports s (bay_number n)

-- 1: setup outside the ranges

-- 1 <= safe <= largest <= 65534
unfoldable pub good_limit : Limit → Bool
good_limit l = leb 1 l.safe && leb l.safe l.largest && leb l.largest 65534

-- wake current 0 to 100 and at most the safe current; wake voltage from 1 to the safe voltage
unfoldable pub good_wake : Setup → Bool
good_wake s =
    leb s.wake.milliamps 100
    && leb s.wake.milliamps s.current.safe
    && leb 1 s.wake.millivolts
    && leb s.wake.millivolts s.voltage.safe

-- supported bays 1, 3, 7 or 15; both limits; 0 < low < restart <= 65535; the wake pair
unfoldable pub good_setup : Setup → Bool
good_setup s =
    (eqb s.supported 1 || eqb s.supported 3 || eqb s.supported 7 || eqb s.supported 15)
    && good_limit s.current
    && good_limit s.voltage
    && (ltb 0 s.low && ltb s.low s.restart && leb s.restart 65535)
    && good_wake s

-- 15: a machine handed in

-- an SMB, POWER_BY, CHARGE or USE_NEXT nibble that is neither 0 nor one supported bay
unfoldable pub stray_nibble : Machine → Bool
stray_nibble m =
    not (one_bay m.setup m.selector.smb)
    || not (one_bay m.setup m.selector.power)
    || not (one_bay m.setup m.selector.charge)
    || not (one_bay m.setup m.selector.next)

-- an age above 175
unfoldable pub over_age : Machine → Bool
over_age m = ltb 175 m.charger.current.age || ltb 175 m.charger.voltage.age || ltb 175 m.charger.wake.age

-- there is a reading
abbrev pub was_read : Option ℕ → Bool
was_read None = false
was_read (Some ohms) = true

-- presence of an unsupported bay, or an OK mark, low mark or reading at an absent one
unfoldable pub stray_bay : Setup → ℕ → Bay → Bool
stray_bay s b bay =
    bay.present && not (supports s b)
    || not bay.present && (bay.ok || bay.low || was_read bay.reading)

-- one of the four bays is such a bay
unfoldable pub stray_bays : Setup → List Bay → Bool
stray_bays s bays = stray_bay s 0 (bay_at bays 0) || stray_bay s 1 (bay_at bays 1) || stray_bay s 2 (bay_at bays 2) || stray_bay s 3 (bay_at bays 3)

-- any of these, or a setup that 1 refuses
unfoldable pub bad_machine : Machine → Bool
bad_machine m = not (good_setup m.setup) || stray_nibble m || over_age m || stray_bays m.setup m.bays

-- 2: event names an unsupported bay
unfoldable pub unsupported_bay : Setup → Event → Bool
unsupported_bay s e = (from_bay e || at_bay e) && not (supports s (bay_of e))

-- 3: address and code don't exist for that sender and direction
abbrev pub unknown_word : Event → Bool
unknown_word e = is no_such_word e

-- 4: bay word from a bay that is absent or not the CHARGE bay
unfoldable pub not_charging_bay : Machine → Event → Bool
not_charging_bay m e = from_bay e && (not (bay_at m.bays (bay_of e)).present || not (names m.selector.charge (bay_of e)))

-- 5: a nibble of the wrong form

-- 0xF, 0 or one supported bay
unfoldable pub formed : Setup → ℕ → Bool
formed s n = eqb n 15 || one_bay s n

-- SelectorState: each nibble, but PRESENT is ignored
unfoldable pub state_formed : Setup → ℕ → Bool
state_formed s w = formed s (smb_in w) && formed s (power_in w) && formed s (charge_in w)

-- SelectorPresets: USE_NEXT is 0 or one supported bay
unfoldable pub bad_nibble : Setup → Event → Bool
bad_nibble s e =
    is state_word e && not (state_formed s (word_of e))
    || is presets_word e && not (one_bay s (next_in (word_of e)))

-- a nibble of a well-formed SelectorState word names a bay
abbrev pub names_bay : ℕ → Bool
names_bay n = not (eqb n 0) && not (eqb n 15)

-- 6: POWER_BY names a bay and SMB in that word isn't the same
unfoldable pub smb_elsewhere : ℕ → Bool
smb_elsewhere w = names_bay (power_in w) && not (eqb (smb_in w) (power_in w))

-- 7: a named bay or AC isn't usable: SMB present; POWER_BY present, OK to use, not low; CHARGE present, OK to use; POWER_BY 0 needs AC
unfoldable pub not_usable : Machine → ℕ → Bool
not_usable m w =
    names_bay (smb_in w) && not (bay_named m.bays (smb_in w)).present
    || names_bay (power_in w) && not (candidate (bay_named m.bays (power_in w)))
    || names_bay (charge_in w) && not ((bay_named m.bays (charge_in w)).present && (bay_named m.bays (charge_in w)).ok)
    || eqb (power_in w) 0 && not m.ac

-- POWER_BY as the word would leave it
abbrev pub power_written : Machine → ℕ → ℕ
power_written m w = written (power_in w) m.selector.power

-- CHARGE as the word would leave it
abbrev pub charge_written : Machine → ℕ → ℕ
charge_written m w = written (charge_in w) m.selector.charge

-- 8: POWER_BY or CHARGE was written and both would name one bay
unfoldable pub same_bay : Machine → ℕ → Bool
same_bay m w =
    (not (eqb (power_in w) 15) || not (eqb (charge_in w) 15))
    && not (eqb (power_written m w) 0)
    && eqb (power_written m w) (charge_written m w)

-- 9: insertion of a present bay; removal, ohms or terminal voltage of an absent one
unfoldable pub wrong_presence : Machine → Event → Bool
wrong_presence m e =
    is insertion e && (bay_at m.bays (bay_of e)).present
    || (is removal e || is signal e || is terminal e) && not (bay_at m.bays (bay_of e)).present

-- the number of the first of 2 to 9 whose condition holds, 0 for none
unfoldable pub fault : Machine → Event → ℕ
fault m e =
    if unsupported_bay m.setup e then 2
    else if unknown_word e then 3
    else if not_charging_bay m e then 4
    else if bad_nibble m.setup e then 5
    else if is state_word e && smb_elsewhere (word_of e) then 6
    else if is state_word e && not_usable m (word_of e) then 7
    else if is state_word e && same_bay m (word_of e) then 8
    else if wrong_presence m e then 9
    else 0

-- 15 comes before them
unfoldable pub refusal : Machine → Event → ℕ
refusal m e = if bad_machine m then 15 else fault m e
