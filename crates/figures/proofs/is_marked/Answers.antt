use mathlib.Core.Path.{◌∙◌}
use Rattle.figures.proofs.Digits.{begins}
use Rattle.figures.proofs.is_marked.Goals as goal

pub returns : goal.returns
returns c = c.starts_with.ensures.value ∙ begins _
