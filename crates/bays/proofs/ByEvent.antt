-- The model's rules, by register, at what happens at a bay and to AC.
use Prim.Native.Nat.{ℕ}
use mathlib.Core.Path.{◌≡◌, refl}
use mathlib.Core.Bool.{Bool, true, false, not, cond, ◌&&◌, ◌||◌, or-false}
use lib.Dec.{eqb}
use Rattle.model.specs.declared.Bay.{Bay}
use Rattle.model.specs.declared.Setup.{Setup}
use Rattle.model.specs.declared.Machine.{Machine}
use Rattle.model.specs.declared.Event.TheVariants.{Insertion, Removal, Signal, Terminal, Ac}
use Rattle.model.specs.Bays.{empty_bay, bay_at, bay_after, four_bays, bays_after}
use Rattle.model.specs.Events.{kind_of, kind_number, is, at_bay, swaps, swaps_at, says_present, resets, connects}
use Rattle.model.specs.SelectorRules.{ac_after, ac_arrives, ac_goes, smb_after, power_after, drops_charge, charge_after, next_after, notice_after}
use Rattle.model.specs.ChargerRules.{fresh}
use Rattle.model.specs.Machines.{with_bays, act}
use Rattle.model.proofs.Bools.{eqb_self}
use Rattle.model.proofs.Computes.{computes}
use Rattle.charger.proofs.Afresh.{fresh_or_arrived}
use Rattle.charger.specs.ByEvent.{fresh_if}
use Rattle.bays.specs.ByEvent.{new_pack, with_bay, swapped, signal_read, terminal_read, ac_set}

-- a pack put in or pulled

pub on_insertion : (m : Machine) (b : ℕ) → act m (Insertion b) ≡ swapped m b new_pack
unfolding computes swapped with_bay fresh_if
on_insertion m b = simp (eqb_self, or-false)

pub on_removal : (m : Machine) (b : ℕ) → act m (Removal b) ≡ swapped m b empty_bay
unfolding computes swapped with_bay fresh_if
on_removal m b = simp (eqb_self, or-false)

-- a pack's signal and terminal voltage

-- each bay, by whether the event is here

signal_here : (here : Bool) (s : Setup) (b ohms : ℕ) (bay : Bay) → cond here (bay_after s (Signal b ohms) bay) bay ≡ signal_read here bay ohms
unfolding computes
signal_here true s b ohms bay = refl
signal_here false s b ohms bay = refl

terminal_here : (here : Bool) (s : Setup) (b v : ℕ) (bay : Bay) → cond here (bay_after s (Terminal b v) bay) bay ≡ terminal_read here s bay v
unfolding computes
terminal_here true s b v bay = refl
terminal_here false s b v bay = refl

pub on_signal : (m : Machine) (b ohms : ℕ) →
    act m (Signal b ohms) ≡ with_bays m (four_bays (λ k. signal_read (eqb b k) (bay_at m.bays k) ohms))
unfolding computes
on_signal m b ohms = simp (eqb_self, signal_here)

pub on_terminal : (m : Machine) (b v : ℕ) →
    act m (Terminal b v) ≡ with_bays m (four_bays (λ k. terminal_read (eqb b k) m.setup (bay_at m.bays k) v))
unfolding computes
on_terminal m b v = simp (eqb_self, terminal_here)

-- AC

says : (p : Bool) → says_present (Ac p) ≡ p
unfolding computes
says true = refl
says false = refl

goes : (m : Machine) (p : Bool) → ac_goes m (Ac p) ≡ (m.ac && not p)
unfolding ac_goes is kind_of kind_number
goes m p = rw (says p)

arrives : (m : Machine) (p : Bool) → ac_arrives m (Ac p) ≡ (not m.ac && p)
unfolding ac_arrives is kind_of kind_number
arrives m p = rw (says p)

fresh_ac : (m : Machine) (p : Bool) → fresh m (Ac p) ≡ (m.ac && not p)
unfolding fresh resets charge_after connects drops_charge swaps_at swaps is kind_of kind_number
fresh_ac m p = simp (goes, eqb_self, or-false)

either : (a b n : Bool) → cond a true (cond b true n) ≡ (a || b || n)
either true b n = refl
either false true n = refl
either false false n = refl

notice_ac : (m : Machine) (p : Bool) → notice_after m (Ac p) ≡ (not m.ac && p || m.ac && not p || m.notice)
unfolding notice_after swaps is kind_of kind_number
notice_ac m p = simp (arrives, goes, either)

pub on_ac : (m : Machine) (p : Bool) → act m (Ac p) ≡ ac_set m p
unfolding act bays_after at_bay ac_after smb_after power_after charge_after connects drops_charge next_after is kind_of kind_number ac_set
on_ac m p = simp (fresh_ac, fresh_or_arrived (Ac p) (refl, refl, refl, refl, refl), arrives, notice_ac, says)
