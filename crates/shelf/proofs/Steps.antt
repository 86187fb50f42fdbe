-- The model's step of a machine that 15 refuses.
use mathlib.Core.Path.{◌≡◌, sym}
use mathlib.Core.Bool.{true}
use Rattle.model.specs.declared.Machine.{Machine}
use Rattle.model.specs.declared.Event.{Event}
use Rattle.model.specs.Refusals.{bad_machine, refusal}
use Rattle.model.specs.Step.{outcome, step_spec}
use Rattle.actions.specs.Meaning.{refused_with}

pub of_bad : (m : Machine) (e : Event) → bad_machine m ≡ true → refused_with 15 m ≡ step_spec m e
unfolding step_spec refusal outcome
of_bad m e q = sym (rw q)
