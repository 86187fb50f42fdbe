-- What an accepted event has passed: each condition of the refusals, by name. And what a refusal leaves.
use Prim.Native.Nat.{ℕ, zero, suc}
use mathlib.Core.Path.{◌≡◌, refl}
use mathlib.Core.Bool.{Bool, true, false, cond, ◌&&◌}
use native.Mathlib.Omega.{arith}
use Rattle.model.specs.declared.Event.{Event}
use Rattle.model.specs.declared.Machine.{Machine}
use Rattle.model.specs.Numbers.{done, word, refused}
use Rattle.model.specs.Events.{state_word, no_such_word, is, word_of}
use Rattle.model.specs.Reads.{is_read, word_shown}
use Rattle.model.specs.Refusals.{bad_machine, unsupported_bay, not_charging_bay, bad_nibble, smb_elsewhere, not_usable, same_bay, wrong_presence, fault, refusal}
use Rattle.model.specs.Step.{reply, outcome, step_spec}
use Rattle.model.specs.Promises.{RefusalChangesNothing, BadMachineFirst}

pub bad_machine_first : BadMachineFirst
unfolding step_spec outcome refusal
bad_machine_first m e h = rw h

pub record Passes (m : Machine) (e : Event) : Type 0 where
  pub good : bad_machine m ≡ false
  pub supported : unsupported_bay m.setup e ≡ false
  pub known : is no_such_word e ≡ false
  pub charging_bay : not_charging_bay m e ≡ false
  pub formed : bad_nibble m.setup e ≡ false
  pub smb_there : (is state_word e && smb_elsewhere (word_of e)) ≡ false
  pub usable : (is state_word e && not_usable m (word_of e)) ≡ false
  pub apart : (is state_word e && same_bay m (word_of e)) ≡ false
  pub right_presence : wrong_presence m e ≡ false

-- one rung of the ladder
pass : (t : Bool) (n rest : ℕ) → cond t (suc n) rest ≡ 0 → (t ≡ false) × (rest ≡ 0)
pass true n rest q = absurd (omega arith)
pass false n rest q = (refl, q)

pub passes : (m : Machine) (e : Event) → refusal m e ≡ 0 → Passes m e
unfolding refusal fault
passes m e q =
    let p15 = pass _ 14 _ q in
    let p2 = pass _ 1 _ p15.1 in
    let p3 = pass _ 2 _ p2.1 in
    let p4 = pass _ 3 _ p3.1 in
    let p5 = pass _ 4 _ p4.1 in
    let p6 = pass _ 5 _ p5.1 in
    let p7 = pass _ 6 _ p6.1 in
    let p8 = pass _ 7 _ p7.1 in
    let p9 = pass _ 8 _ p8.1 in
    record {
      good = p15.0;
      supported = p2.0;
      known = p3.0;
      charging_bay = p4.0;
      formed = p5.0;
      smb_there = p6.0;
      usable = p7.0;
      apart = p8.0;
      right_presence = p9.0;
    }

-- an accepted event's answer is no refusal
pub reply_accepts : (m : Machine) (e : Event) (n : ℕ) → reply m e ≡ refused n → ⊥
unfolding reply
reply_accepts m e n = go (is_read e) (word_shown m e)
  where
    go : (t : Bool) (w : ℕ) → cond t (word w) done ≡ refused n → ⊥
    go true w q = let z : ◌≡◌ {A = ℕ} 0 1 = cc in omega arith
    go false w q = let z : ◌≡◌ {A = ℕ} 0 1 = cc in omega arith

pub refusal_changes_nothing : RefusalChangesNothing
unfolding step_spec outcome
refusal_changes_nothing m e n = go (refusal m e)
  where
    go : (k : ℕ) → (outcome k m e).answer ≡ refused n → (outcome k m e).machine ≡ m
    go zero q = absurd (reply_accepts m e n q)
    go (suc k) q = refl
