-- A machine agrees with a past: each register that the output reads holds what the past says. Every event keeps it so.
use Prim.Native.Nat.{ℕ, suc, min}
use mathlib.Core.Path.{◌≡◌, refl, sym}
use mathlib.Core.Bool.{Bool, true, false, not, cond, ◌&&◌, ◌||◌}
use mathlib.Core.List.{[], ◌∷◌}
use Rattle.model.specs.declared.Setup.{Setup}
use Rattle.model.specs.declared.Event.{Event}
use Rattle.model.specs.declared.Machine.{Machine}
use Rattle.model.specs.declared.Request.{Request}
use Rattle.model.specs.Words.{bit, nibble, alarming}
use Rattle.model.specs.Events.{Kind, current_word, voltage_word, mode_word, tick, is, word_of, resets, zeroes, asks}
use Rattle.model.specs.SelectorRules.{ac_after, ac_arrives, ac_goes, drops_charge, charge_after}
use Rattle.model.specs.ChargerRules.{fresh, older, request_after, age_after, mark_after, rewrites_both, hold_after, inhibit_after, wake_age_after, spent_after}
use Rattle.model.specs.Machines.{power_on, act}
use Rattle.model.specs.Settling.{settle}
use Rattle.model.specs.Facts.{Past, latest, since, some, ticks, ac_present, disconnects, connected, uninhibited, fresh_start, since_fresh, asked, ticks_since, held, ac_arrival, since_wake}
use Rattle.model.proofs.Cell.{Cell, older_is, cell_step, cell_zero}
use Rattle.model.proofs.Hold.{marked, marked_step, held_step}
use Rattle.model.proofs.Bays.{BaysAgree, bays_step, present_at, bays_power_on}

pub record Agrees (s : Setup) (m : Machine) (h : Past) : Type 0 where
  pub setup_is : m.setup ≡ s
  pub bays_are : BaysAgree m.bays h
  pub ac_is : m.ac ≡ ac_present h
  pub inhibit_is : m.charger.inhibit ≡ not (uninhibited h)
  pub charge_is : m.selector.charge ≡ connected h
  pub current_is : Cell m.charger.current.word m.charger.current.age (asked current_word h) (ticks_since current_word h)
  pub voltage_is : Cell m.charger.voltage.word m.charger.voltage.age (asked voltage_word h) (ticks_since voltage_word h)
  pub current_mark_is : m.charger.current.mark ≡ marked current_word (since_fresh h)
  pub voltage_mark_is : m.charger.voltage.mark ≡ marked voltage_word (since_fresh h)
  pub hold_is : m.charger.hold ≡ held (since_fresh h)
  pub wake_age_is : m.charger.wake.age ≡ min (ticks (since_wake h)) 175
  pub spent_is : m.charger.wake.spent ≡ some asks (since_fresh h)

-- how the past's words go on by one event

pub asked_step : (k : Kind) (e : Event) (h : Past) →
    asked k (e ∷ h) ≡ cond (fresh_start e h) 0 (cond (zeroes e) 0 (cond (is k e) (word_of e) (asked k h)))
unfolding asked latest since since_fresh
asked_step k e h = go (fresh_start e h) (zeroes e) refl
  where
    go : (f z : Bool) → zeroes e ≡ z →
        latest (is k) (since zeroes (cond f [] (e ∷ since_fresh h))) ≡ cond f 0 (cond z 0 (cond (is k e) (word_of e) (asked k h)))
    go true z q = refl
    go false true q = rw q
    go false false q = rw q

-- ticks counted anew from an event, or on to it: start says which
ticks_on : (start : Bool) (e : Event) (h : Past) → ticks (cond start [] (e ∷ h)) ≡ cond start 0 (cond (is tick e) (suc (ticks h)) (ticks h))
unfolding ticks
ticks_on true e h = refl
ticks_on false e h = refl

ticks_step : (k : Kind) (e : Event) (h : Past) →
    ticks_since k (e ∷ h) ≡ cond (is k e) 0 (cond (is tick e) (suc (ticks_since k h)) (ticks_since k h))
unfolding ticks_since since
ticks_step k e h = ticks_on (is k e) e (since (is k) h)

-- the age of wake-up
wake_law : (start t : Bool) (age n : ℕ) → age ≡ min n 175 → cond start 0 (cond t (older age) age) ≡ min (cond start 0 (cond t (suc n) n)) 175
wake_law true t age n q = refl
wake_law false true age n q = older_is age n q
wake_law false false age n q = q

-- a ChargerMode word, or none: t says which
inhibit_law : (t : Bool) (w old : ℕ) (inhibit : Bool) → inhibit ≡ not (not (bit 0 old) || bit 2 old) →
    cond (t && bit 2 w) false (cond t (bit 0 w) inhibit) ≡ not (not (bit 0 (cond t w old)) || bit 2 (cond t w old))
inhibit_law true w old inhibit q = go (bit 0 w) (bit 2 w)
  where
    go : (x y : Bool) → cond y false x ≡ not (not x || y)
    go true true = refl
    go true false = refl
    go false true = refl
    go false false = refl
inhibit_law false w old inhibit q = q

module _ (s : Setup) (m : Machine) (e : Event) (h : Past) (a : Agrees s m h) where
  ac_step : ac_after m e ≡ ac_present (e ∷ h)
  unfolding ac_after ac_present
  ac_step = rw a.ac_is

  inhibit_step : inhibit_after m.charger e ≡ not (uninhibited (e ∷ h))
  unfolding inhibit_after resets uninhibited latest
  inhibit_step = inhibit_law (is mode_word e) (word_of e) (latest (is mode_word) h) m.charger.inhibit a.inhibit_is

  charge_step : charge_after m e ≡ connected (e ∷ h)
  unfolding charge_after drops_charge connected disconnects
  charge_step = simp (a.charge_is, present_at m.bays (connected h) h a.bays_are)

  fresh_is : fresh m e ≡ fresh_start e h
  unfolding fresh ac_goes fresh_start
  fresh_is = simp (charge_step, a.charge_is, a.ac_is)

  cell : (k : Kind) (r : Request) → Cell r.word r.age (asked k h) (ticks_since k h) →
      Cell (request_after (fresh m e) k e r) (age_after (fresh m e) k e r) (asked k (e ∷ h)) (ticks_since k (e ∷ h))
  cell k r c = rw (asked_step, ticks_step, fresh_is) (cell_step (fresh_start e h) k e r c)

  mark : (k : Kind) (r : Request) → r.mark ≡ marked k (since_fresh h) → mark_after (fresh m e) k e r ≡ marked k (since_fresh (e ∷ h))
  unfolding mark_after
  mark k r q = simp (marked_step, fresh_is, q)

  hold_step : hold_after (fresh m e) m.charger e ≡ held (since_fresh (e ∷ h))
  unfolding hold_after rewrites_both
  hold_step = rw (held_step, fresh_is, a.hold_is, a.current_mark_is, a.voltage_mark_is)

  wake_age_step : wake_age_after (fresh m e) (ac_arrives m e) e m.charger.wake ≡ min (ticks (since_wake (e ∷ h))) 175
  unfolding wake_age_after ac_arrives ac_arrival since_wake
  wake_age_step = rw (fresh_is, a.ac_is, ticks_on (fresh_start e h || ac_arrival e h) e (since_wake h)) (wake_law (fresh_start e h || ac_arrival e h) (is tick e) _ _ a.wake_age_is)

  spent_step : spent_after (fresh m e) e m.charger.wake ≡ some asks (since_fresh (e ∷ h))
  unfolding spent_after since_fresh some
  spent_step = rw (fresh_is, a.spent_is) (go (fresh_start e h) (asks e) refl)
    where
      go : (f t : Bool) → asks e ≡ t → cond f false (cond t true (some asks (since_fresh h))) ≡ some asks (cond f [] (e ∷ since_fresh h))
      go true t q = refl
      go false true q = sym (rw q)
      go false false q = sym (rw q)

  pub agrees_step : Agrees s (settle (act m e)) (e ∷ h)
  unfolding settle act
  agrees_step =
      record {
        setup_is = a.setup_is;
        bays_are = bays_step m e h a.bays_are;
        ac_is = ac_step;
        inhibit_is = inhibit_step;
        charge_is = charge_step;
        current_is = cell current_word m.charger.current a.current_is;
        voltage_is = cell voltage_word m.charger.voltage a.voltage_is;
        current_mark_is = mark current_word m.charger.current a.current_mark_is;
        voltage_mark_is = mark voltage_word m.charger.voltage a.voltage_mark_is;
        hold_is = hold_step;
        wake_age_is = wake_age_step;
        spent_is = spent_step;
      }

pub agrees_power_on : (s : Setup) → Agrees s (power_on s) []
unfolding power_on ac_present latest uninhibited connected asked since_fresh ticks_since since ticks some held bit alarming nibble since_wake
agrees_power_on s =
    record {
      setup_is = refl;
      bays_are = bays_power_on s;
      ac_is = refl;
      inhibit_is = refl;
      charge_is = refl;
      current_is = cell_zero;
      voltage_is = cell_zero;
      current_mark_is = refl;
      voltage_mark_is = refl;
      hold_is = refl;
      wake_age_is = refl;
      spent_is = refl;
    }
