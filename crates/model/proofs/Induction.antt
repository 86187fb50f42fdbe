-- What every accepted event keeps, holds along every list of events from power-on: the one induction over runs.
use Prim.Native.Nat.{ℕ, zero, suc}
use mathlib.Core.Path.{◌≡◌, refl}
use mathlib.Core.Bool.{Bool, true, false, cond}
use mathlib.Core.List.{List, [], ◌∷◌}
use Rattle.model.specs.declared.Setup.{Setup}
use Rattle.model.specs.declared.Event.{Event}
use Rattle.model.specs.declared.Machine.{Machine}
use Rattle.model.specs.Numbers.{done, word}
use Rattle.model.specs.Machines.{power_on, act}
use Rattle.model.specs.Settling.{settle}
use Rattle.model.specs.Reads.{is_read, word_shown}
use Rattle.model.specs.Refusals.{refusal}
use Rattle.model.specs.Step.{step_spec, outcome, reply}
use Rattle.model.specs.Facts.{Past, Entry, hear, accepted}
use Rattle.model.specs.Runs.{run_from, said_from, run, history, past}
use Rattle.model.proofs.Passes.{Passes, passes}

-- P, of a machine and its past, is kept by every event that passes the refusals
abbrev pub Kept : (Machine → Past → Type 0) → Type 0
Kept P = (m : Machine) (e : Event) (h : Past) → Passes m e → P m h → P (settle (act m e)) (e ∷ h)

-- an accepted event is heard
heard : (m : Machine) (e : Event) (h : Past) → hear e (reply m e) h ≡ e ∷ h
unfolding hear reply
heard m e h = go (is_read e)
  where
    go : (t : Bool) → hear e (cond t (word (word_shown m e)) done) h ≡ e ∷ h
    go true = refl
    go false = refl

module _ (P : Machine → Past → Type 0) (kept : Kept P) where
  one : (n : ℕ) (m : Machine) (e : Event) (h : Past) → refusal m e ≡ n → P m h → P (outcome n m e).machine (hear e (outcome n m e).answer h)
  unfolding outcome hear
  one zero m e h q a = rw heard (kept m e h (passes m e q) a)
  one (suc n) m e h q a = a

  from : (es : List Event) (m : Machine) (xs : List Entry) → P m (accepted xs) → P (run_from m es) (accepted (said_from m xs es))
  unfolding run_from said_from accepted step_spec
  from [] m xs a = a
  from (e ∷ es) m xs a = from es _ _ (one (refusal m e) m e (accepted xs) refl a)

  pub along : (s : Setup) → P (power_on s) [] → (es : List Event) → P (run s es) (past s es)
  unfolding run history accepted
  along s a es = from es (power_on s) [] a
