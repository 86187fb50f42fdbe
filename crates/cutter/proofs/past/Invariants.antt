use mathlib.Core.Path.{◌≡◌}
use Rattle.cutter.proofs.Passing.{Reaches}
use Rattle.cutter.proofs.past.Given as goal

abbrev pub invariant-loop-place : goal.invariant-loop-place
invariant-loop-place g l = (l.behind ≡ l.place) × Reaches (λ b answer. g.F.Fn.post l.passes (b, tt) answer) l.line l.at l.place
