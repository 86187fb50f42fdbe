-- What is told: the answer and the machine after an event, and after power-on.
use Rattle.std.specs.Prelude.{ℕ, zero, suc, if◌then◌else◌}
use Rattle.model.specs.declared.Setup.{Setup}
use Rattle.model.specs.declared.Machine.{Machine}
use Rattle.model.specs.declared.Event.{Event}
use Rattle.model.specs.declared.Stepped.{Stepped}
use Rattle.model.specs.Numbers.{Said, done, word, refused, said}
use Rattle.model.specs.Machines.{program_setup, power_on, act}
use Rattle.model.specs.Settling.{settle}
use Rattle.model.specs.Reads.{is_read, word_shown}
use Rattle.model.specs.Refusals.{good_setup, refusal}

-- an answer in the paper's value, beside the machine after it
pub record Told : Type 0 where
  pub answer : Said
  pub machine : Machine

-- a step in the paper's value
unfoldable pub told : Stepped → Told
told r = record { answer = said r.answer; machine = r.machine }

-- an accepted read answers the word that the machine showed before it; any other accepted event is done
unfoldable pub reply : Machine → Event → Said
reply m e = if is_read e then word (word_shown m e) else done

-- by the refusal's number, 0 for none; a refusal leaves the machine as it stood
unfoldable pub outcome : ℕ → Machine → Event → Told
outcome zero m e = record { answer = reply m e; machine = settle (act m e) }
outcome (suc n) m e = record { answer = refused (suc n); machine = m }

-- the step of any machine at any event
unfoldable pub step_spec : Machine → Event → Told
step_spec m e = outcome (refusal m e) m e

-- a machine from a setup; a refused setup hands back, beside 1, the power-on machine of the program's setup
unfoldable pub power_on_spec : Setup → Told
power_on_spec s =
    if good_setup s then record { answer = done; machine = power_on s }
    else record { answer = refused 1; machine = power_on program_setup }
