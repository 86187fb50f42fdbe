-- An event that is neither a word of the charger nor a tick: the charger starts afresh, or stays but for wake-up where AC arrives.
use Prim.Native.Nat.{ℕ}
use mathlib.Core.Path.{◌≡◌, refl}
use mathlib.Core.Bool.{Bool, true, false, cond, ◌||◌}
use Rattle.model.specs.declared.Charger.{Charger}
use Rattle.model.specs.declared.Event.{Event}
use Rattle.model.specs.Events.{current_word, voltage_word, alarm_word, mode_word, tick, is, resets, zeroes, asks, alarms}
use Rattle.model.specs.ChargerRules.{request_after, age_after, mark_after, rewrites_both, hold_after, inhibit_after, wake_age_after, spent_after, charger_after}
use Rattle.charger.specs.ByEvent.{fresh_if, arrived_if}

abbrev pub Quiet : Event → Type 0
Quiet e = (is current_word e ≡ false) × (is voltage_word e ≡ false) × (is alarm_word e ≡ false) × (is mode_word e ≡ false) × (is tick e ≡ false)

pub fresh_or_arrived : (e : Event) → Quiet e → (start arrives : Bool) (c : Charger) → charger_after start arrives c e ≡ arrived_if arrives (fresh_if start c)
unfolding request_after age_after mark_after rewrites_both hold_after inhibit_after wake_age_after spent_after resets zeroes asks alarms fresh_if arrived_if
fresh_or_arrived e q start arrives c = simp (q.0, q.1, q.2, q.3, q.4, either start arrives c.wake.age)
  where
    either : (x y : Bool) (age : ℕ) → cond (x || y) 0 age ≡ cond y 0 (cond x 0 age)
    either true true age = refl
    either true false age = refl
    either false y age = refl
