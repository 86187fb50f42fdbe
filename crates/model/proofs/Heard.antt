-- From power-on of a good setup 15 is never given, and no tick and no AC event is refused.
use Prim.Native.Nat.{ℕ, zero, suc, ◌≤◌}
use mathlib.Core.Path.{◌≡◌}
use mathlib.Core.Bool.{false, ◌&&◌}
use native.Mathlib.Omega.{arith}
use Rattle.model.specs.declared.Event.{Event}
use Rattle.model.specs.declared.Machine.{Machine}
use Rattle.model.specs.Numbers.{refused}
use Rattle.model.specs.Events.{state_word, kind_number, kind_of, is, at_bay, from_bay, word_of}
use Rattle.model.specs.Reads.{is_read}
use Rattle.model.specs.Refusals.{bad_machine, unsupported_bay, unknown_word, not_charging_bay, bad_nibble, smb_elsewhere, not_usable, same_bay, wrong_presence, fault, refusal}
use Rattle.model.specs.Step.{reply, outcome, step_spec}
use Rattle.model.specs.Runs.{run}
use Rattle.model.specs.Promises.{Never15, TicksAndAcHeard}
use Rattle.model.proofs.Bools.{choose}
use Rattle.model.proofs.Passes.{reply_accepts}
use Rattle.model.proofs.Good.{always_good}

-- 15 is not among the numbers 2 to 9
abbrev Small : ℕ → Type 0
Small n = n ≤ 9

fault_small : (m : Machine) (e : Event) → Small (fault m e)
unfolding fault
fault_small m e =
    choose Small (unsupported_bay m.setup e) 2 _ (λ _. omega arith)
    (λ _. choose Small (unknown_word e) 3 _ (λ _. omega arith)
    (λ _. choose Small (not_charging_bay m e) 4 _ (λ _. omega arith)
    (λ _. choose Small (bad_nibble m.setup e) 5 _ (λ _. omega arith)
    (λ _. choose Small (is state_word e && smb_elsewhere (word_of e)) 6 _ (λ _. omega arith)
    (λ _. choose Small (is state_word e && not_usable m (word_of e)) 7 _ (λ _. omega arith)
    (λ _. choose Small (is state_word e && same_bay m (word_of e)) 8 _ (λ _. omega arith)
    (λ _. choose Small (wrong_presence m e) 9 0 (λ _. omega arith) (λ _. omega arith))))))))

not_15 : (m : Machine) (e : Event) → bad_machine m ≡ false → (step_spec m e).answer ≡ refused 15 → ⊥
unfolding step_spec refusal outcome
not_15 m e g = rw g (go (fault m e) (fault_small m e))
  where
    go : (n : ℕ) → n ≤ 9 → (outcome n m e).answer ≡ refused 15 → ⊥
    go zero l q = reply_accepts m e 15 q
    go (suc n) l q = let z : suc n ≡ 15 = cc in omega arith

pub never_15 : Never15
never_15 s g es e = not_15 (run s es) e (always_good s g es)

-- a tick and an AC event have no cause of refusal but 15
pub ticks_and_ac_heard : TicksAndAcHeard
unfolding step_spec outcome refusal fault unsupported_bay not_charging_bay bad_nibble wrong_presence at_bay from_bay is kind_number kind_of reply is_read
ticks_and_ac_heard s g es = (simp (always_good s g es), λ p. simp (always_good s g es))
