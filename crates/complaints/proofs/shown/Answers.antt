use Rattle.std.specs.Prelude.{if◌then◌else◌}
use mathlib.Core.Path.{sym, ap}
use mathlib.Core.Bool.{Bool}
use Rattle.notation.specs.Complaints.{shown}
use Rattle.complaints.proofs.shown.Goals as goal

pub returns-then-b : goal.returns-then-b
unfolding shown
returns-then-b c = sym (ap (λ (t : Bool). if t then c.args.b else 63) c.if-b.true)

pub returns-else-b : goal.returns-else-b
unfolding shown
returns-else-b c = sym (ap (λ (t : Bool). if t then c.args.b else 63) c.if-b.false)
