-- Demand 3: the output of a run is told from what was said alone.
use Prim.Native.Nat.{ℕ, min}
use mathlib.Core.Path.{◌≡◌, refl}
use mathlib.Core.Bool.{Bool, true, false, not, cond, ◌&&◌, and-true, and-false, and_comm, not-not}
use mathlib.Core.List.{List}
use lib.Dec.{ltb, eqb}
use borrow.Author.Tests.{ltb-true, ltb-false, lt-ltb, le-ltb, eqb-false, ne_eqb, not-true}
use native.Mathlib.Omega.{arith}
use Rattle.model.specs.declared.Setup.{Setup}
use Rattle.model.specs.declared.Event.{Event}
use Rattle.model.specs.declared.Machine.{Machine}
use Rattle.model.specs.Board.{allows, allows_to_wake}
use Rattle.model.specs.Reads.{ready, charging, waking, output}
use Rattle.model.specs.Facts.{Past, ac_present, connected, Eight, requested, eight_hold, Waking, wake_holds, output_told}
use Rattle.model.specs.Promises.{OutputIsTold}
use Rattle.model.specs.Runs.{run, past}
use Rattle.model.proofs.Bools.{and_l, and_r, and_swap}
use Rattle.model.proofs.Bays.{present_at, signal_at}
use Rattle.model.proofs.Induction.{along}
use Rattle.model.proofs.Registers.{Agrees, agrees_step, agrees_power_on}

-- the machine of a run agrees with the run's past
pub agrees : (s : Setup) (es : List Event) → Agrees s (run s es) (past s es)
agrees s = along (Agrees s) (λ m e h p a. agrees_step s m e h a) s (agrees_power_on s)

-- the eight, one by one and as one test

pub eight : (s : Setup) (h : Past) → eight_hold s h ≡ true → Eight s h
unfolding eight_hold
eight s h q =
    record {
      ac = search (and_l, and_r) depth 9;
      pack = search (and_l, and_r) depth 9;
      signal_allows = search (and_l, and_r) depth 9;
      not_inhibited = search (and_l, and_r) depth 9;
      current_asked = eqb-false _ _ (not-true _ (search (and_l, and_r) depth 9));
      voltage_asked = eqb-false _ _ (not-true _ (search (and_l, and_r) depth 9));
      in_time = (ltb-true _ _ (search (and_l, and_r) depth 9), ltb-true _ _ (search (and_l, and_r) depth 9));
      not_held = not-true _ (search (and_l, and_r) depth 9);
    }

pub eight⁻¹ : (s : Setup) (h : Past) → Eight s h → eight_hold s h ≡ true
unfolding eight_hold
eight⁻¹ s h x =
    simp (x.ac, x.pack, x.signal_allows, x.not_inhibited, x.not_held, ne_eqb _ 0 x.current_asked, ne_eqb _ 0 x.voltage_asked, lt-ltb _ _ x.in_time.0, lt-ltb _ _ x.in_time.1)

-- those of the wake pair likewise

pub wake : (s : Setup) (h : Past) → wake_holds s h ≡ true → Waking s h
unfolding wake_holds
wake s h q =
    record {
      ac = search (and_l, and_r) depth 9;
      pack = search (and_l, and_r) depth 9;
      signal_allows = search (and_l, and_r) depth 9;
      not_inhibited = search (and_l, and_r) depth 9;
      not_held = not-true _ (search (and_l, and_r) depth 9);
      switched_on = eqb-false _ _ (not-true _ (search (and_l, and_r) depth 9));
      unasked = not-true _ (search (and_l, and_r) depth 9);
      in_time = ltb-true _ _ (search (and_l, and_r) depth 9);
    }

pub wake⁻¹ : (s : Setup) (h : Past) → Waking s h → wake_holds s h ≡ true
unfolding wake_holds
wake⁻¹ s h x =
    simp (x.ac, x.pack, x.signal_allows, x.not_inhibited, x.not_held, ne_eqb _ 0 x.switched_on, x.unasked, lt-ltb _ _ x.in_time)

-- the output of a machine that agrees with a past

still : (t : Bool) (w : ℕ) → not (eqb (cond t w 0) 0) ≡ (not (eqb w 0) && t)
still true w = rw and-true
still false w = rw and-false

charging_is : (s : Setup) (m : Machine) (h : Past) → Agrees s m h → charging m ≡ eight_hold s h
unfolding ready charging eight_hold
charging_is s m h a =
    rw (a.ac_is, a.charge_is, present_at m.bays (connected h) h a.bays_are, signal_at allows m.bays (connected h) h (ac_present h) a.bays_are)
    (simp (a.inhibit_is, not-not, a.hold_is, a.current_is.request_is, a.voltage_is.request_is, still, and_comm, and_swap))

-- an age counts no further than 175
young : (ticks : ℕ) → ltb (min ticks 175) 175 ≡ ltb ticks 175
young ticks = go (ltb ticks 175) refl
  where
    go : (b : Bool) → ltb ticks 175 ≡ b → ltb (min ticks 175) 175 ≡ b
    go true q = lt-ltb (min ticks 175) 175 (omega (arith, ltb-true ticks 175 q))
    go false q = le-ltb (min ticks 175) 175 (omega (arith, ltb-false ticks 175 q))

waking_is : (s : Setup) (m : Machine) (h : Past) → Agrees s m h → waking m ≡ wake_holds s h
unfolding ready waking wake_holds
waking_is s m h a =
    rw (a.ac_is, a.charge_is, present_at m.bays (connected h) h a.bays_are, signal_at allows_to_wake m.bays (connected h) h (ac_present h) a.bays_are)
    (simp (a.inhibit_is, not-not, a.hold_is, a.setup_is, a.spent_is, a.wake_age_is, young))

under : {A : Type 0} (c : Bool) (x y z : A) → (c ≡ true → x ≡ y) → cond c x z ≡ cond c y z
under true x y z f = f refl
under false x y z f = refl

pub output_is : (s : Setup) (m : Machine) (h : Past) → Agrees s m h → output m ≡ output_told s h
unfolding output output_told requested
output_is s m h a =
    rw (charging_is s m h a, waking_is s m h a, a.setup_is, a.current_is.request_is, a.voltage_is.request_is)
    (under (eight_hold s h) _ _ _ (λ q. rw (lt-ltb _ 175 (eight s h q).in_time.0, lt-ltb _ 175 (eight s h q).in_time.1)))

pub output_is_told : OutputIsTold
output_is_told s es = output_is s (run s es) (past s es) (agrees s es)
