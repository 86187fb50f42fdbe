use Rattle.model.proofs.Theorems as theorem
use Rattle.model.proofs.promises.ticks_and_ac_heard.Goals as goal

pub returns : goal.returns
returns c = theorem.ticks_and_ac_heard
