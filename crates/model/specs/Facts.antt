-- The eight facts, and those of the wake pair, told from the events and their answers alone. No register is named here.
use Rattle.std.specs.Prelude.{Option, None, Some, ℕ, suc, ◌<◌, ◌≡◌, Bool, true, false, not, ◌&&◌, ◌||◌, List, [], ◌∷◌, ltb, eqb, if◌then◌else◌}
use Rattle.model.specs.declared.Setup.{Setup}
use Rattle.model.specs.declared.Event.{Event}
use Rattle.model.specs.declared.Output.{Output}
use Rattle.model.specs.Numbers.{Said, done, word, refused}
use Rattle.model.specs.Words.{bit, named, bay_number, alarming, charge_in, ok_in}
use Rattle.model.specs.Board.{limited, no_output, allows, allows_to_wake}
use Rattle.model.specs.Events.{Kind, current_word, voltage_word, alarm_word, mode_word, presets_word, insertion, removal, signal, ac_event, tick, is, is_at, word_of, swaps_at, says_present, connects, resets, zeroes, asks}

-- an event and its answer
pub record Entry : Type 0 where
  pub event : Event
  pub answer : Said

-- the accepted events, the latest first
abbrev pub Past : Type 0
Past = List Event

-- a refused event is not heard
unfoldable pub hear : Event → Said → Past → Past
hear e done h = e ∷ h
hear e (word w) h = e ∷ h
hear e (refused n) h = h

-- the accepted ones of a list of entries
unfoldable pub accepted : List Entry → Past
accepted [] = []
accepted (x ∷ xs) = hear x.event x.answer (accepted xs)

-- the word of the latest event that p picks, 0 if there is none
unfoldable pub latest : (Event → Bool) → Past → ℕ
latest p [] = 0
latest p (e ∷ h) = if p e then word_of e else latest p h

-- the events since the latest one that p picks
unfoldable pub since : (Event → Bool) → Past → Past
since p [] = []
since p (e ∷ h) = if p e then [] else e ∷ since p h

-- p picks one of the events
unfoldable pub some : (Event → Bool) → Past → Bool
some p [] = false
some p (e ∷ h) = p e || some p h

-- how many ticks there are
unfoldable pub ticks : Past → ℕ
ticks [] = 0
ticks (e ∷ h) = if is tick e then suc (ticks h) else ticks h

-- the latest AC event says present
unfoldable pub ac_present : Past → Bool
ac_present [] = false
ac_present (e ∷ h) = if is ac_event e then says_present e else ac_present h

-- bay b holds a pack: of its insertions and removals, the latest is an insertion
unfoldable pub holds_pack : ℕ → Past → Bool
holds_pack b [] = false
holds_pack b (e ∷ h) =
    if is_at insertion b e then true
    else if is_at removal b e then false
    else holds_pack b h

-- the nibble names a bay, and that bay holds a pack
unfoldable pub pack_at : ℕ → Past → Bool
pack_at n h = named n && holds_pack (bay_number n) h

-- a Presets word connects none: the bay connected so far holds a pack, and the word has its OK bit 0
unfoldable pub disconnects : Event → ℕ → Past → Bool
disconnects e sofar h = is presets_word e && pack_at sofar h && not (ok_in (bay_number sofar) (word_of e))

-- the latest connection, as a nibble: CHARGE not 0xF in a SelectorState word, or none by a Presets word; before any, none
unfoldable pub connected : Past → ℕ
connected [] = 0
connected (e ∷ h) =
    if connects e then charge_in (word_of e)
    else if disconnects e (connected h) h then 0
    else connected h

-- the latest reading of bay b since insertion
unfoldable pub reading : ℕ → Past → Option ℕ
reading b [] = None
reading b (e ∷ h) =
    if is_at insertion b e then None
    else if is_at removal b e then None
    else if is_at signal b e then Some (word_of e)
    else reading b h

-- the latest ChargerMode word had bit 0 clear or bit 2 set, or there was none
unfoldable pub uninhibited : Past → Bool
uninhibited h = not (bit 0 (latest (is mode_word) h)) || bit 2 (latest (is mode_word) h)

-- e, after the past h, is a fresh start: POR_RESET, AC from present to absent, another connection, a pack put in or pulled at the connected bay
unfoldable pub fresh_start : Event → Past → Bool
fresh_start e h =
    resets e
    || is ac_event e && ac_present h && not (says_present e)
    || not (eqb (connected (e ∷ h)) (connected h))
    || swaps_at (connected h) e

-- the events since the latest fresh start, power-on if there was none
unfoldable pub since_fresh : Past → Past
since_fresh [] = []
since_fresh (e ∷ h) = if fresh_start e h then [] else e ∷ since_fresh h

-- the latest word of kind k since the latest fresh start and since the latest bit-3 zeroing, 0 if there is none
unfoldable pub asked : Kind → Past → ℕ
asked k h = latest (is k) (since zeroes (since_fresh h))

-- the ticks since the latest word of kind k
unfoldable pub ticks_since : Kind → Past → ℕ
ticks_since k h = ticks (since (is k) h)

-- the events h leave an alarm hold: the latest AlarmWarning put it on, and since then there was not both a current and a voltage word
unfoldable pub held : Past → Bool
held h =
    alarming (latest (is alarm_word) h)
    && not (some (is current_word) (since (is alarm_word) h) && some (is voltage_word) (since (is alarm_word) h))

-- the eight facts, of a setup and a past
pub record Eight (s : Setup) (h : Past) : Type 0 where
  -- (a) the latest AC event says present
  pub ac : ac_present h ≡ true
  -- (b) the latest accepted connection names a bay and that bay holds a pack
  pub pack : pack_at (connected h) h ≡ true
  -- (c) its latest reading since insertion allows requested charge
  pub signal_allows : allows (reading (bay_number (connected h)) h) ≡ true
  -- (d) the latest accepted ChargerMode word had bit 0 clear or bit 2 set, or there was none
  pub not_inhibited : uninhibited h ≡ true
  -- (e) a current word was accepted since the latest fresh start and since the latest bit-3 zeroing, and the latest is non-zero
  pub current_asked : asked current_word h ≡ 0 → ⊥
  -- (f) a voltage word likewise
  pub voltage_asked : asked voltage_word h ≡ 0 → ⊥
  -- (g) fewer than 175 ticks followed each
  pub in_time : (ticks_since current_word h < 175) × (ticks_since voltage_word h < 175)
  -- (h) no alarm hold by the words since the fresh start
  pub not_held : held (since_fresh h) ≡ false

-- the same as one test
unfoldable pub eight_hold : Setup → Past → Bool
eight_hold s h =
    ac_present h
    && pack_at (connected h) h
    && allows (reading (bay_number (connected h)) h)
    && uninhibited h
    && not (eqb (asked current_word h) 0)
    && not (eqb (asked voltage_word h) 0)
    && (ltb (ticks_since current_word h) 175 && ltb (ticks_since voltage_word h) 175)
    && not (held (since_fresh h))

-- the two requests cut to the limits
unfoldable pub requested : Setup → Past → Output
requested s h = record { milliamps = limited s.current (asked current_word h); millivolts = limited s.voltage (asked voltage_word h) }

-- WAKE-UP

-- e, after the past h, is an AC arrival: AC from absent to present
unfoldable pub ac_arrival : Event → Past → Bool
ac_arrival e h = is ac_event e && not (ac_present h) && says_present e

-- the events since the later of the latest fresh start and the latest AC arrival
unfoldable pub since_wake : Past → Past
since_wake [] = []
since_wake (e ∷ h) = if fresh_start e h || ac_arrival e h then [] else e ∷ since_wake h

-- the facts of the wake pair, of a setup and a past
pub record Waking (s : Setup) (h : Past) : Type 0 where
  -- (a) to (d) and (h), as above, but that the reading of (c) has to allow wake-up
  pub ac : ac_present h ≡ true
  pub pack : pack_at (connected h) h ≡ true
  pub signal_allows : allows_to_wake (reading (bay_number (connected h)) h) ≡ true
  pub not_inhibited : uninhibited h ≡ true
  pub not_held : held (since_fresh h) ≡ false
  -- the wake current is not 0, which switches it off
  pub switched_on : s.wake.milliamps ≡ 0 → ⊥
  -- no current word, voltage word or bit-3 zeroing was accepted since the latest fresh start
  pub unasked : some asks (since_fresh h) ≡ false
  -- fewer than 175 ticks followed the later of the latest fresh start and the latest AC arrival
  pub in_time : ticks (since_wake h) < 175

-- the same as one test
unfoldable pub wake_holds : Setup → Past → Bool
wake_holds s h =
    ac_present h
    && pack_at (connected h) h
    && allows_to_wake (reading (bay_number (connected h)) h)
    && uninhibited h
    && not (held (since_fresh h))
    && not (eqb s.wake.milliamps 0)
    && not (some asks (since_fresh h))
    && ltb (ticks (since_wake h)) 175

-- the output that the facts tell: the requested pair, the wake pair or zero
unfoldable pub output_told : Setup → Past → Output
output_told s h =
    if eight_hold s h then requested s h
    else if wake_holds s h then s.wake
    else no_output
