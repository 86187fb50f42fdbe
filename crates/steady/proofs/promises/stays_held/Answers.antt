use Rattle.steady.proofs.Theorems as theorem
use Rattle.steady.proofs.promises.stays_held.Goals as goal

pub returns : goal.returns
returns c = theorem.stays_held
