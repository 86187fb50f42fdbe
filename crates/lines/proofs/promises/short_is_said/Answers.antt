use Rattle.lines.proofs.Theorems as theorem
use Rattle.lines.proofs.promises.short_is_said.Goals as goal

pub returns : goal.returns
returns c = theorem.short_is_said
