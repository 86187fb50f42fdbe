-- Whole machines: at power-on, after an accepted event, and with one part anew. No other file writes a machine or a setup out field by field.
use Rattle.std.specs.Prelude.{ℕ, Bool, false, List, [], ◌∷◌}
use Rattle.model.specs.declared.Setup.{Setup}
use Rattle.model.specs.declared.Bay.{Bay}
use Rattle.model.specs.declared.Request.{Request}
use Rattle.model.specs.declared.Wake.{Wake}
use Rattle.model.specs.declared.Charger.{Charger}
use Rattle.model.specs.declared.Selector.{Selector}
use Rattle.model.specs.declared.Machine.{Machine}
use Rattle.model.specs.declared.Event.{Event}
use Rattle.model.specs.Bays.{empty_bay, bays_after}
use Rattle.model.specs.SelectorRules.{ac_after, ac_arrives, smb_after, power_after, charge_after, next_after, notice_after}
use Rattle.model.specs.ChargerRules.{fresh, charger_after}

-- a setup: supported bays; current and voltage, each largest and safe; low and restart level; wake current and wake voltage
abbrev pub setup_of : ℕ → ℕ → ℕ → ℕ → ℕ → ℕ → ℕ → ℕ → ℕ → Setup
setup_of supported most_milliamps safe_milliamps most_millivolts safe_millivolts low restart wake_milliamps wake_millivolts =
    record {
      supported = supported;
      current = record { largest = most_milliamps; safe = safe_milliamps };
      voltage = record { largest = most_millivolts; safe = safe_millivolts };
      low = low;
      restart = restart;
      wake = record { milliamps = wake_milliamps; millivolts = wake_millivolts };
    }

-- the program's setup: bays 3, current 3000/2000, voltage 18000/16800 (largest/safe), 9000, 10500, wake 0 and 16800
abbrev pub program_setup : Setup
program_setup = setup_of 3 3000 2000 18000 16800 9000 10500 0 16800

-- the same board with all four bays
abbrev pub four_bay_setup : Setup
four_bay_setup = setup_of 15 3000 2000 18000 16800 9000 10500 0 16800

-- a request that was not made
abbrev pub no_request : Request
no_request = record { word = 0; age = 0; mark = false }

-- wake-up that has just begun
abbrev pub wake_begun : Wake
wake_begun = record { age = 0; spent = false }

-- AC absent, all bays empty, all nibbles, requests, ages and marks 0, notice 0, charging not inhibited
unfoldable pub power_on : Setup → Machine
power_on s =
    record {
      setup = s;
      bays = empty_bay ∷ empty_bay ∷ empty_bay ∷ empty_bay ∷ [];
      charger = record { current = no_request; voltage = no_request; hold = false; inhibit = false; wake = wake_begun };
      selector = record { smb = 0; power = 0; charge = 0; next = 0 };
      ac = false;
      notice = false;
    }

-- every register after an accepted event, before the machine settles
unfoldable pub act : Machine → Event → Machine
act m e =
    record {
      setup = m.setup;
      bays = bays_after m.setup m.bays e;
      charger = charger_after (fresh m e) (ac_arrives m e) m.charger e;
      selector = record { smb = smb_after m e; power = power_after m e; charge = charge_after m e; next = next_after m e };
      ac = ac_after m e;
      notice = notice_after m e;
    }

-- the machine with its bays anew
abbrev pub with_bays : Machine → List Bay → Machine
with_bays m x = record { setup = m.setup; bays = x; charger = m.charger; selector = m.selector; ac = m.ac; notice = m.notice }

-- the machine with its charger anew
abbrev pub with_charger : Machine → Charger → Machine
with_charger m x = record { setup = m.setup; bays = m.bays; charger = x; selector = m.selector; ac = m.ac; notice = m.notice }

-- the machine with its selector anew
abbrev pub with_selector : Machine → Selector → Machine
with_selector m x = record { setup = m.setup; bays = m.bays; charger = m.charger; selector = x; ac = m.ac; notice = m.notice }

-- the machine with AC anew
abbrev pub with_ac : Machine → Bool → Machine
with_ac m x = record { setup = m.setup; bays = m.bays; charger = m.charger; selector = m.selector; ac = x; notice = m.notice }

-- the machine with its notice anew
abbrev pub with_notice : Machine → Bool → Machine
with_notice m x = record { setup = m.setup; bays = m.bays; charger = m.charger; selector = m.selector; ac = m.ac; notice = x }
