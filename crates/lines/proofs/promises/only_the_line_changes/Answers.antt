use Rattle.lines.proofs.Theorems as theorem
use Rattle.lines.proofs.promises.only_the_line_changes.Goals as goal

pub returns : goal.returns
returns c = theorem.only_the_line_changes
