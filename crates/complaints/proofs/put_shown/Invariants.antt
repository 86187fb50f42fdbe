use Prim.Native.Nat.{◌≤◌}
use mathlib.Core.Path.{◌≡◌}
use lib.ListN.{length, take}
use Rattle.layout.specs.Writing.{put}
use Rattle.notation.specs.Complaints.{all_shown}
use Rattle.complaints.proofs.put_shown.Given as goal

abbrev pub invariant-loop-i : goal.invariant-loop-i
invariant-loop-i l =
    (l.i ≤ length l.t) × (l.said.out.ghost_name ≡ l.fn.said.out.ghost_name) × (l.said.place ≡ l.fn.said.place) × (l.said.out.now ≡ put l.fn.said.out.now l.fn.said.place (take l.i (all_shown l.t)))
