-- What happens at a bay, and to AC: the model's rules read by event, as proofs/ByEvent.antt shows.
use Rattle.std.specs.Prelude.{None, Some, ℕ, Bool, true, false, not, ◌&&◌, ◌||◌, List, ltb, leb, eqb, if◌then◌else◌}
use Rattle.model.specs.declared.Setup.{Setup}
use Rattle.model.specs.declared.Bay.{Bay}
use Rattle.model.specs.declared.Machine.{Machine}
use Rattle.model.specs.Words.{names}
use Rattle.model.specs.Bays.{bay_at, four_bays}
use Rattle.model.specs.Machines.{with_bays, with_charger, with_selector, with_ac, with_notice}
use Rattle.charger.specs.ByEvent.{fresh_if, arrived_if}

-- a pack that was just put in
abbrev pub new_pack : Bay
new_pack = record { present = true; ok = true; low = false; reading = None }

-- another bay at number b, the rest as they are
unfoldable pub with_bay : List Bay → ℕ → Bay → List Bay
with_bay bays b bay = four_bays (λ k. if eqb b k then bay else bay_at bays k)

-- a pack put in or pulled: a fresh start at the CHARGE bay
unfoldable pub swapped : Machine → ℕ → Bay → Machine
swapped m b bay = with_notice (with_charger (with_bays m (with_bay m.bays b bay)) (fresh_if (names m.selector.charge b) m.charger)) true

-- a bay after a signal was read, here or at another
abbrev pub signal_read : Bool → Bay → ℕ → Bay
signal_read here bay ohms = record { present = bay.present; ok = bay.ok; low = bay.low; reading = if here then Some ohms else bay.reading }

-- a signal read at bay b, the rest as they are
unfoldable pub with_signal : List Bay → ℕ → ℕ → List Bay
with_signal bays b ohms = four_bays (λ k. signal_read (eqb b k) (bay_at bays k) ohms)

-- a bay after a terminal voltage was read, here or at another
abbrev pub terminal_read : Bool → Setup → Bay → ℕ → Bay
terminal_read here s bay v =
    record {
      present = bay.present;
      ok = bay.ok;
      low = if here && ltb v s.low then true else if here && leb s.restart v then false else bay.low;
      reading = bay.reading;
    }

-- a terminal voltage read at bay b, the rest as they are
unfoldable pub with_terminal : Setup → List Bay → ℕ → ℕ → List Bay
with_terminal s bays b v = four_bays (λ k. terminal_read (eqb b k) s (bay_at bays k) v)

-- AC goes: a fresh start; AC arrives: wake-up counts anew, POWER_BY 0; either sets the notice
unfoldable pub ac_set : Machine → Bool → Machine
ac_set m present =
    with_notice
    (with_ac
    (with_selector (with_charger m (arrived_if (not m.ac && present) (fresh_if (m.ac && not present) m.charger)))
    (record { smb = m.selector.smb; power = if not m.ac && present then 0 else m.selector.power; charge = m.selector.charge; next = m.selector.next }))
    present)
    (not m.ac && present || m.ac && not present || m.notice)
