-- The four bays: the one that a nibble names, what a candidate is, and what an event leaves in each.
use Rattle.std.specs.Prelude.{Option, None, Some, ℕ, Bool, true, false, not, ◌&&◌, List, [], ◌∷◌, ltb, leb, eqb, get_or, if◌then◌else◌}
use Rattle.model.specs.declared.Setup.{Setup}
use Rattle.model.specs.declared.Bay.{Bay}
use Rattle.model.specs.declared.Event.{Event}
use Rattle.model.specs.Words.{named, bay_number, ok_in}
use Rattle.model.specs.Events.{presets_word, insertion, removal, signal, terminal, is, at_bay, word_of, bay_of}

-- an empty bay
abbrev pub empty_bay : Bay
empty_bay = record { present = false; ok = false; low = false; reading = None }

-- bay number b
unfoldable pub bay_at : List Bay → ℕ → Bay
bay_at bays b = get_or bays b empty_bay

-- the bay that a nibble names; an empty one where it names none
unfoldable pub bay_named : List Bay → ℕ → Bay
bay_named bays n = if named n then bay_at bays (bay_number n) else empty_bay

-- a candidate is present, OK and not low
unfoldable pub candidate : Bay → Bool
candidate bay = bay.present && bay.ok && not bay.low

-- The bay at which an event happens, after it. A pack that is put in starts OK, not low and unread.

-- insertion brings a pack, removal takes it
unfoldable pub present_after : Event → Bay → Bool
present_after e bay =
    if is insertion e then true
    else if is removal e then false
    else bay.present

-- insertion sets OK; removal clears OK, low and reading
unfoldable pub ok_after : Event → Bay → Bool
ok_after e bay =
    if is insertion e then true
    else if is removal e then false
    else bay.ok

-- terminal voltage below low sets the low mark, at or above restart clears it, between changes nothing
unfoldable pub low_after : Setup → Event → Bay → Bool
low_after s e bay =
    if is insertion e then false
    else if is removal e then false
    else if is terminal e && ltb (word_of e) s.low then true
    else if is terminal e && leb s.restart (word_of e) then false
    else bay.low

-- a reading counts since insertion
unfoldable pub reading_after : Event → Bay → Option ℕ
reading_after e bay =
    if is insertion e then None
    else if is removal e then None
    else if is signal e then Some (word_of e)
    else bay.reading

-- the four together
unfoldable pub bay_after : Setup → Event → Bay → Bay
bay_after s e bay = record { present = present_after e bay; ok = ok_after e bay; low = low_after s e bay; reading = reading_after e bay }

-- bay b after the Presets word w; OK bits of absent bays stay 0
abbrev pub ok_written : ℕ → ℕ → Bay → Bay
ok_written w b bay = record { present = bay.present; ok = bay.present && ok_in b w; low = bay.low; reading = bay.reading }

-- four bays, each by its number
abbrev pub four_bays : (ℕ → Bay) → List Bay
four_bays bay = bay 0 ∷ bay 1 ∷ bay 2 ∷ bay 3 ∷ []

-- SelectorPresets writes the OK mark of every bay
unfoldable pub all_ok_written : ℕ → List Bay → List Bay
all_ok_written w bays = four_bays (λ b. ok_written w b (bay_at bays b))

-- an event at a bay changes that bay alone
unfoldable pub bays_after : Setup → List Bay → Event → List Bay
bays_after s bays e =
    if at_bay e then four_bays (λ b. if eqb (bay_of e) b then bay_after s e (bay_at bays b) else bay_at bays b)
    else if is presets_word e then all_ok_written (word_of e) bays
    else bays
