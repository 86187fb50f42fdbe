-- No two outcomes fit the contract of a function of the face.
use mathlib.Core.Path.{◌≡◌, refl, sym, ◌∙◌, ap}
use Rattle.model.proofs.Outcomes.{OneOutcome}
use Rattle.model.proofs.Numbers.{apart, refusal_at, refusal_back, steps_apart}
use Rattle.std.specs.Prelude.{Result, Ok, Err}
use Rattle.model.specs.declared.Refusal.{Refusal}
use Rattle.shelf.specs.declared.Drive.{Drive}
use Rattle.shelf.specs.Outputs.{Shown, drive, refused, shown}
use Rattle.shelf.proofs.program_setup.Kinds as program_setup_kinds
use Rattle.shelf.proofs.program_setup.Reads as program_setup_reads
use Rattle.shelf.proofs.power_on.Kinds as power_on_kinds
use Rattle.shelf.proofs.power_on.Reads as power_on_reads
use Rattle.shelf.proofs.step.Kinds as step_kinds
use Rattle.shelf.proofs.step.Reads as step_reads
use Rattle.shelf.proofs.charge.Kinds as charge_kinds
use Rattle.shelf.proofs.charge.Reads as charge_reads

pub program_setup_one : OneOutcome program_setup_kinds.ps program_setup_kinds.r program_setup_reads.Post
program_setup_one κs a x y s t p q = p ∙ sym q

pub power_on_one : OneOutcome power_on_kinds.ps power_on_kinds.r power_on_reads.Post
power_on_one κs a x y s t p q = steps_apart x y (p ∙ sym q)

pub step_one : OneOutcome step_kinds.ps step_kinds.r step_reads.Post
step_one κs a x y s t p q = steps_apart x y (p ∙ sym q)

-- no two outputs are shown alike
outputs_of : Shown → Result Drive Refusal
outputs_of (drive milliamps millivolts notice) = Ok (record { milliamps = milliamps; millivolts = millivolts; notice = notice })
outputs_of (refused n) = Err (refusal_at n)

outputs_back : (r : Result Drive Refusal) → outputs_of (shown r) ≡ r
unfolding outputs_of
outputs_back (Ok d) = refl
outputs_back (Err why) = ap Err (refusal_back why)

pub charge_one : OneOutcome charge_kinds.ps charge_kinds.r charge_reads.Post
charge_one κs a x y s t p q = apart shown outputs_of outputs_back x y (p ∙ sym q)
