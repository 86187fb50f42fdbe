-- What each word, a tick, a fresh start and AC arriving do to the charger: the model's rules read by event, as proofs/ByEvent.antt shows.
use Rattle.std.specs.Prelude.{ℕ, Bool, true, false, eqb, if◌then◌else◌}
use Rattle.model.specs.declared.Request.{Request}
use Rattle.model.specs.declared.Wake.{Wake}
use Rattle.model.specs.declared.Charger.{Charger}
use Rattle.model.specs.Words.{bit, alarming}
use Rattle.model.specs.ChargerRules.{older}

-- a request, cleared where the event is a fresh start
abbrev pub dropped_if : Bool → Request → Request
dropped_if start r = record { word = if start then 0 else r.word; age = if start then 0 else r.age; mark = if start then false else r.mark }

-- wake-up, begun anew where the event is a fresh start
abbrev pub begun_if : Bool → Wake → Wake
begun_if start w = record { age = if start then 0 else w.age; spent = if start then false else w.spent }

-- wake-up, spent where something was asked
abbrev pub spent_if : Bool → Wake → Wake
spent_if asked w = record { age = w.age; spent = if asked then true else w.spent }

-- a charger, cleared where the event is a fresh start; the inhibit state stays
unfoldable pub fresh_if : Bool → Charger → Charger
fresh_if start c =
    record {
      current = dropped_if start c.current;
      voltage = dropped_if start c.voltage;
      hold = if start then false else c.hold;
      inhibit = c.inhibit;
      wake = begun_if start c.wake;
    }

-- a charger, its wake-up counted anew where AC arrives
unfoldable pub arrived_if : Bool → Charger → Charger
arrived_if arrives c =
    record {
      current = c.current;
      voltage = c.voltage;
      hold = c.hold;
      inhibit = c.inhibit;
      wake = record { age = if arrives then 0 else c.wake.age; spent = c.wake.spent };
    }

-- 0x14, 0x15: a request that was just written
abbrev pub just_asked : ℕ → Request
just_asked w = record { word = w; age = 0; mark = true }

-- 0x14, 0x15: the charger but for the request itself: the hold is lifted if the other was rewritten too
abbrev pub asked_beside : Request → Charger → Charger
asked_beside other c =
    record {
      current = c.current;
      voltage = c.voltage;
      hold = if other.mark then false else c.hold;
      inhibit = c.inhibit;
      wake = spent_if true c.wake;
    }

-- 0x14: the hold is lifted if the voltage was rewritten too
unfoldable pub current_set : Charger → ℕ → Charger
current_set c w =
    record {
      current = just_asked w;
      voltage = c.voltage;
      hold = if c.voltage.mark then false else c.hold;
      inhibit = c.inhibit;
      wake = spent_if true c.wake;
    }

-- 0x15: the hold is lifted if the current was rewritten too
unfoldable pub voltage_set : Charger → ℕ → Charger
voltage_set c w =
    record {
      current = c.current;
      voltage = just_asked w;
      hold = if c.current.mark then false else c.hold;
      inhibit = c.inhibit;
      wake = spent_if true c.wake;
    }

-- 0x16: an alarm clears a rewrite mark
abbrev pub remarked : Bool → Request → Request
remarked alarm r = record { word = r.word; age = r.age; mark = if alarm then false else r.mark }

-- 0x16: and puts on the hold, which a word that is no alarm lifts
unfoldable pub alarm_set : Charger → ℕ → Charger
alarm_set c w =
    record {
      current = remarked (alarming w) c.current;
      voltage = remarked (alarming w) c.voltage;
      hold = alarming w;
      inhibit = c.inhibit;
      wake = c.wake;
    }

-- a tick, to one request
unfoldable pub aged : Request → Request
aged r = record { word = if eqb (older r.age) 175 then 0 else r.word; age = older r.age; mark = r.mark }

-- a tick
unfoldable pub ticked : Charger → Charger
ticked c =
    record {
      current = aged c.current;
      voltage = aged c.voltage;
      hold = c.hold;
      inhibit = c.inhibit;
      wake = record { age = older c.wake.age; spent = c.wake.spent };
    }

-- 0x12: bit 3 sets a request to 0
abbrev pub zeroed : Bool → Request → Request
zeroed on r = record { word = if on then 0 else r.word; age = r.age; mark = r.mark }

-- 0x12: POR_RESET first
unfoldable pub mode_set : Charger → ℕ → Charger
mode_set c w =
    record {
      current = dropped_if (bit 2 w) (zeroed (bit 3 w) c.current);
      voltage = dropped_if (bit 2 w) (zeroed (bit 3 w) c.voltage);
      hold = if bit 2 w then false else c.hold;
      inhibit = if bit 2 w then false else bit 0 w;
      wake = begun_if (bit 2 w) (spent_if (bit 3 w) c.wake);
    }
