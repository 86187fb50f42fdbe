use Rattle.model.proofs.Theorems as theorem
use Rattle.model.proofs.promises.never_two.Goals as goal

pub returns : goal.returns
returns c = theorem.never_two
