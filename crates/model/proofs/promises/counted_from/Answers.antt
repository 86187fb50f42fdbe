use Rattle.model.proofs.Theorems as theorem
use Rattle.model.proofs.promises.counted_from.Goals as goal

pub returns : goal.returns
returns c = theorem.counted_from
