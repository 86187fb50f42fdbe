-- The model's rules, by register, at one event of each of the charger's kinds.
use Prim.Native.Nat.{ℕ}
use mathlib.Core.Path.{◌≡◌, refl}
use mathlib.Core.Bool.{Bool, true, false, cond, and-true}
use Rattle.model.specs.declared.Charger.{Charger}
use Rattle.model.specs.declared.Machine.{Machine}
use Rattle.model.specs.declared.Event.TheVariants.{HostWrite, Tick}
use Rattle.model.specs.Words.{bit}
use Rattle.model.specs.ChargerRules.{rewrites_both}
use Rattle.model.specs.Machines.{with_charger, act}
use Rattle.model.proofs.Bools.{eqb_self}
use Rattle.model.proofs.Computes.{computes}
use Rattle.charger.specs.ByEvent.{current_set, voltage_set, alarm_set, aged, ticked, mode_set}

as_test : (b : Bool) → cond b true false ≡ b
as_test true = refl
as_test false = refl

pub on_current : (m : Machine) (w : ℕ) → act m (HostWrite 0x12 0x14 w) ≡ with_charger m (current_set m.charger w)
unfolding computes current_set
on_current m w = simp eqb_self

rewrites_voltage : (c : Charger) (w : ℕ) → rewrites_both c (HostWrite 0x12 0x15 w) ≡ c.current.mark
unfolding computes
rewrites_voltage c w = and-true c.current.mark

pub on_voltage : (m : Machine) (w : ℕ) → act m (HostWrite 0x12 0x15 w) ≡ with_charger m (voltage_set m.charger w)
unfolding computes voltage_set
on_voltage m w = simp (eqb_self, rewrites_voltage)

pub on_alarm : (m : Machine) (w : ℕ) → act m (HostWrite 0x12 0x16 w) ≡ with_charger m (alarm_set m.charger w)
unfolding computes alarm_set
on_alarm m w = simp (eqb_self, as_test)

pub on_mode : (m : Machine) (w : ℕ) → act m (HostWrite 0x12 0x12 w) ≡ with_charger m (mode_set m.charger w)
unfolding computes mode_set
on_mode m w = go (bit 2 w) refl
  where
    go : (t : Bool) → bit 2 w ≡ t → act m (HostWrite 0x12 0x12 w) ≡ with_charger m (mode_set m.charger w)
    go true q = simp (q, eqb_self)
    go false q = simp (q, eqb_self)

pub on_tick : (m : Machine) → act m Tick ≡ with_charger m (ticked m.charger)
unfolding computes aged ticked
on_tick m = simp eqb_self
