use Rattle.listing.proofs.Theorems as theorem
use Rattle.listing.proofs.promises.tests_stay_in_the_run.Goals as goal

pub returns : goal.returns
returns c = theorem.tests_stay_in_the_run
