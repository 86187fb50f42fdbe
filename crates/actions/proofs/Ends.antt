-- How a step ends: an accepted event settles the machine, a refused one leaves it as it stood.
use Prim.Native.Nat.{ℕ, zero, suc}
use mathlib.Core.Path.{◌≡◌, refl, sym, ap, ◌∙◌}
use mathlib.Core.Bool.{Bool, true, false, cond}
use Rattle.model.specs.declared.Machine.{Machine}
use Rattle.model.specs.declared.Event.{Event}
use Rattle.model.specs.Numbers.{done, word}
use Rattle.model.specs.Reads.{is_read, word_shown}
use Rattle.model.specs.Refusals.{bad_machine, fault, refusal}
use Rattle.model.specs.Step.{reply, outcome, step_spec}
use Rattle.actions.specs.Meaning.{unsettled, meant, meant_by, accepts, finished}
use Rattle.actions.specs.Decision.{decided}
use Rattle.actions.proofs.Decides.{decides}

-- an accepted event's answer is no refusal
pub replies : (m : Machine) (e : Event) → accepts (reply m e) ≡ true
unfolding reply
replies m e = go (is_read e)
  where
    go : (t : Bool) → accepts (cond t (word (word_shown m e)) done) ≡ true
    go true = refl
    go false = refl

-- so the step of the model is what the event means, finished
pub finishes : (m : Machine) (e : Event) → finished (meant m e) ≡ outcome (fault m e) m e
unfolding meant unsettled finished outcome
finishes m e = go (fault m e)
  where
    go : (n : ℕ) → finished (unsettled n m e) ≡ outcome n m e
    go zero = rw (replies m e)
    go (suc n) = refl

-- of a machine that 15 accepts it is what the event comes to, done and finished
pub of_good : (m : Machine) (e : Event) → bad_machine m ≡ false → finished (meant_by m (decided m e)) ≡ step_spec m e
unfolding step_spec refusal
of_good m e q = ap finished (decides m e) ∙ finishes m e ∙ sym (rw q)
