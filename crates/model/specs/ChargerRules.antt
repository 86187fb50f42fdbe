-- The charger's registers after an accepted event.
use Rattle.std.specs.Prelude.{ℕ, ◌+◌, Bool, true, false, not, ◌&&◌, ◌||◌, ltb, eqb, if◌then◌else◌}
use Rattle.model.specs.declared.Request.{Request}
use Rattle.model.specs.declared.Wake.{Wake}
use Rattle.model.specs.declared.Charger.{Charger}
use Rattle.model.specs.declared.Machine.{Machine}
use Rattle.model.specs.declared.Event.{Event}
use Rattle.model.specs.Words.{bit}
use Rattle.model.specs.Events.{Kind, current_word, voltage_word, alarm_word, mode_word, tick, is, swaps_at, resets, zeroes, asks, alarms, word_of}
use Rattle.model.specs.SelectorRules.{ac_goes, charge_after}

-- fresh start: POR_RESET; AC goes from present to absent; the CHARGE nibble changes value; a pack is put in or pulled at the CHARGE bay
unfoldable pub fresh : Machine → Event → Bool
fresh m e =
    resets e
    || ac_goes m e
    || not (eqb (charge_after m e) m.selector.charge)
    || swaps_at m.selector.charge e

-- A request, by the kind k of the words that set it. `start`: the event is a fresh start, which clears request, age and mark.

-- a tick adds 1 to each age below 175
abbrev pub older : ℕ → ℕ
older age = if ltb age 175 then age + 1 else age

-- a word sets its request, bit 3 of ChargerMode zeroes both; a request whose age is 175 after a tick becomes 0
unfoldable pub request_after : Bool → Kind → Event → Request → ℕ
request_after start k e r =
    if start then 0
    else if zeroes e then 0
    else if is k e then word_of e
    else if is tick e && eqb (older r.age) 175 then 0
    else r.word

-- a word makes the age of its request 0
unfoldable pub age_after : Bool → Kind → Event → Request → ℕ
age_after start k e r =
    if start then 0
    else if is k e then 0
    else if is tick e then older r.age
    else r.age

-- an alarm clears both rewrite marks; each word, zeros too, sets its own
unfoldable pub mark_after : Bool → Kind → Event → Request → Bool
mark_after start k e r =
    if start then false
    else if alarms e then false
    else if is k e then true
    else r.mark

-- the three together
abbrev pub cell_after : Bool → Kind → Event → Request → Request
cell_after start k e r = record { word = request_after start k e r; age = age_after start k e r; mark = mark_after start k e r }

-- a current or voltage word that leaves both rewrite marks set
unfoldable pub rewrites_both : Charger → Event → Bool
rewrites_both c e =
    (is current_word e || is voltage_word e)
    && (is current_word e || c.current.mark)
    && (is voltage_word e || c.voltage.mark)

-- an alarm puts on the alarm hold; an AlarmWarning with none of the bits lifts it, and so does a word that leaves both marks set
unfoldable pub hold_after : Bool → Charger → Event → Bool
hold_after start c e =
    if start then false
    else if alarms e then true
    else if is alarm_word e then false
    else if rewrites_both c e then false
    else c.hold

-- POR_RESET: inhibit 0; otherwise bit 0 of ChargerMode becomes the inhibit state
unfoldable pub inhibit_after : Charger → Event → Bool
inhibit_after c e =
    if resets e then false
    else if is mode_word e then bit 0 (word_of e)
    else c.inhibit

-- Wake-up. `arrives`: AC goes from absent to present.

-- its age counts the ticks from the later of the latest fresh start and the latest AC arrival, up to 175
unfoldable pub wake_age_after : Bool → Bool → Event → Wake → ℕ
wake_age_after start arrives e w =
    if start || arrives then 0
    else if is tick e then older w.age
    else w.age

-- a current word, a voltage word or a bit-3 zeroing spends it, until a fresh start
unfoldable pub spent_after : Bool → Event → Wake → Bool
spent_after start e w =
    if start then false
    else if asks e then true
    else w.spent

-- the two together
abbrev pub wake_after : Bool → Bool → Event → Wake → Wake
wake_after start arrives e w = record { age = wake_age_after start arrives e w; spent = spent_after start e w }

-- all of the charger
abbrev pub charger_after : Bool → Bool → Charger → Event → Charger
charger_after start arrives c e =
    record {
      current = cell_after start current_word e c.current;
      voltage = cell_after start voltage_word e c.voltage;
      hold = hold_after start c e;
      inhibit = inhibit_after c e;
      wake = wake_after start arrives e c.wake;
    }
