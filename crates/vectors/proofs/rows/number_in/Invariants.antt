use Rattle.std.proofs.Common.{◌≤◌}
use Rattle.vectors.proofs.rows.number_in.Given as goal

abbrev pub invariant-loop-b : goal.invariant-loop-b
invariant-loop-b l = (2 ≤ l.radix) × (l.radix ≤ 36)
