-- What the selector's two words do: the model's rules read by event, as proofs/ByEvent.antt shows.
use Rattle.std.specs.Prelude.{ℕ, not, ◌&&◌, eqb, if◌then◌else◌}
use Rattle.model.specs.declared.Charger.{Charger}
use Rattle.model.specs.declared.Machine.{Machine}
use Rattle.model.specs.Words.{bay_number, smb_in, power_in, charge_in, next_in, ok_in}
use Rattle.model.specs.Bays.{all_ok_written}
use Rattle.model.specs.SelectorRules.{written}
use Rattle.model.specs.Machines.{with_bays, with_charger, with_selector}
use Rattle.model.specs.Reads.{charge_bay}
use Rattle.charger.specs.ByEvent.{fresh_if}

-- another CHARGE nibble is a fresh start
abbrev pub moved_to : Machine → ℕ → Charger
moved_to m charge = fresh_if (not (eqb charge m.selector.charge)) m.charger

-- SelectorState
unfoldable pub state_set : Machine → ℕ → Machine
state_set m w =
    with_selector (with_charger m (moved_to m (written (charge_in w) m.selector.charge)))
    (record {
      smb = written (smb_in w) m.selector.smb;
      power = written (power_in w) m.selector.power;
      charge = written (charge_in w) m.selector.charge;
      next = m.selector.next;
    })

-- SelectorPresets: CHARGE is given up where its bay is present and its OK bit is 0
unfoldable pub kept_charge : Machine → ℕ → ℕ
kept_charge m w = if (charge_bay m).present && not (ok_in (bay_number m.selector.charge) w) then 0 else m.selector.charge

-- SelectorPresets
unfoldable pub presets_set : Machine → ℕ → Machine
presets_set m w =
    with_selector (with_charger (with_bays m (all_ok_written w m.bays)) (moved_to m (kept_charge m w)))
    (record { smb = m.selector.smb; power = m.selector.power; charge = kept_charge m w; next = next_in w })
