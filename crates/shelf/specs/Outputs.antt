-- What the board is told: an output pair and the notice, or a refusal with its number.
use Rattle.std.specs.Prelude.{Result, Ok, Err, ℕ, Bool, if◌then◌else◌}
use Rattle.model.specs.declared.Machine.{Machine}
use Rattle.model.specs.Numbers.{number_of}
use Rattle.model.specs.Reads.{output}
use Rattle.model.specs.Refusals.{bad_machine}
use Rattle.model.specs.declared.Refusal.{Refusal}
use Rattle.shelf.specs.declared.Drive.{Drive}

-- mA, mV and notice, or the number of a refusal
pub data Shown : Type 0 where
  drive : ℕ → ℕ → Bool → Shown
  refused : ℕ → Shown

-- the paper's value of what `charge` answers
abbrev pub shown : Result Drive Refusal → Shown
shown (Ok d) = drive d.milliamps d.millivolts d.notice
shown (Err why) = refused (number_of why)

-- the output and the notice of a machine; 15 for a machine that breaks a bound
unfoldable pub charge_spec : Machine → Shown
charge_spec m = if bad_machine m then refused 15 else drive (output m).milliamps (output m).millivolts m.notice
