-- What is promised of an event that is followed, statement by statement. `proofs/Theorems.antt` proves each under its own name.
use Rattle.std.specs.Prelude.{◌≡◌, Bool, true, false}
use Rattle.model.specs.declared.Machine.{Machine}
use Rattle.model.specs.declared.Event.{Event}
use Rattle.model.specs.Reads.{output}
use Rattle.model.specs.Refusals.{bad_machine}
use Rattle.model.specs.Settling.{settle}
use Rattle.model.specs.Step.{step_spec}
use Rattle.steady.specs.Following.{follow_spec}

-- WHAT A RUN MAKES NEEDLESS

-- a machine that 15 accepts, and that has settled if it is said to be steady
abbrev pub Held : Machine → Bool → Type 0
Held m steady = (bad_machine m ≡ false) × (steady ≡ true → settle m ≡ m)

-- of such a machine the event comes to just what the step says
abbrev pub FollowsTheStep : Type 0
FollowsTheStep = (m : Machine) (e : Event) (steady : Bool) → Held m steady → (follow_spec m e steady).told ≡ step_spec m e

-- and the machine after it is such a machine again
abbrev pub StaysHeld : Type 0
StaysHeld = (m : Machine) (e : Event) (steady : Bool) → Held m steady → Held (follow_spec m e steady).told.machine (follow_spec m e steady).steady

-- where it is quiet the output is the one before
abbrev pub QuietKeepsTheOutput : Type 0
QuietKeepsTheOutput =
    (m : Machine) (e : Event) (steady : Bool) → Held m steady → (follow_spec m e steady).quiet ≡ true → output (follow_spec m e steady).told.machine ≡ output m
