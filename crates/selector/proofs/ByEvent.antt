-- The model's rules, by register, at the selector's two words.
use Prim.Native.Nat.{ℕ}
use mathlib.Core.Path.{◌≡◌, refl}
use mathlib.Core.Bool.{Bool, true, false, not, cond, or-false}
use lib.Dec.{eqb}
use Rattle.model.specs.declared.Machine.{Machine}
use Rattle.model.specs.declared.Event.TheVariants.{HostWrite}
use Rattle.model.specs.Words.{charge_in}
use Rattle.model.specs.SelectorRules.{written, charge_after}
use Rattle.model.specs.Machines.{act}
use Rattle.model.proofs.Computes.{computes}
use Rattle.charger.specs.ByEvent.{fresh_if}
use Rattle.selector.specs.ByEvent.{state_set, kept_charge, presets_set}

-- two ways round
cond_not : {A : Type 0} (b : Bool) (x y : A) → cond (not b) x y ≡ cond b y x
cond_not true x y = refl
cond_not false x y = refl

charge_state : (m : Machine) (w : ℕ) → charge_after m (HostWrite 0x14 0x01 w) ≡ written (charge_in w) m.selector.charge
unfolding computes
charge_state m w = cond_not (eqb (charge_in w) 15) (charge_in w) m.selector.charge

charge_presets : (m : Machine) (w : ℕ) → charge_after m (HostWrite 0x14 0x02 w) ≡ kept_charge m w
unfolding computes kept_charge
charge_presets m w = refl

pub on_state : (m : Machine) (w : ℕ) → act m (HostWrite 0x14 0x01 w) ≡ state_set m w
unfolding computes state_set fresh_if
on_state m w = simp (charge_state, or-false)

pub on_presets : (m : Machine) (w : ℕ) → act m (HostWrite 0x14 0x02 w) ≡ presets_set m w
unfolding computes presets_set fresh_if
on_presets m w = simp (charge_presets, or-false)
