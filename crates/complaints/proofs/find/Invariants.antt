use Prim.Native.Nat.{◌≤◌, ◌-◌}
use mathlib.Core.Path.{◌≡◌}
use mathlib.Core.List.{[]}
use lib.ListN.{length, get_or, drop}
use Rattle.notation.specs.Words.{words_of}
use Rattle.complaints.proofs.find.Given as goal

abbrev pub invariant-loop : goal.invariant-loop
invariant-loop l = (l.at ≤ length l.line) × (get_or (words_of l.line) l.number [] ≡ get_or (words_of (drop l.at l.line)) (l.number - l.counter) [])
