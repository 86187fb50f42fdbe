use Rattle.std.proofs.Common.{◌≤◌, ◌-◌, length, drop, length-drop, sym, arith}
use lib.Seq.{length-take-le}
use Rattle.layout.proofs.Theorems.{taken_is_there}
use Rattle.rounds.proofs.go_round.Goals.{In-Ok}
use Rattle.rounds.proofs.go_round.Goals as goal

-- what is known of the record that was read
there : (c : In-Ok) → (4 ≤ c.in-Ok.taken) × (c.in-Ok.taken ≤ 9) × (c.in-Ok.taken ≤ length c.loop-rest.rest.now)
there c = rw (← c.in-Ok.taken-is) (taken_is_there _ _ _ (sym c.in-Ok.ensures))

pub overflow_cast-sum : goal.overflow_cast-sum
overflow_cast-sum c = let t = there (goal.at.overflow_cast-sum c).In-Ok in omega arith

pub slice_bounds-rest-count : goal.slice_bounds-rest-count
slice_bounds-rest-count c = let t = there (goal.at.slice_bounds-rest-count c).In-Ok in omega arith

pub slice_bounds-rest-start : goal.slice_bounds-rest-start
slice_bounds-rest-start c = let t = there (goal.at.slice_bounds-rest-start c).In-Ok in omega arith

pub loop-rest-smaller : goal.loop-rest-smaller
loop-rest-smaller c =
    let t = there (goal.at.loop-rest-smaller c).In-Ok in
    let d = length-drop c.in-Ok.taken c.loop-rest.rest.now in
    let e = length-take-le (length c.loop-rest.rest.now - c.in-Ok.taken) (drop c.in-Ok.taken c.loop-rest.rest.now) (omega arith) in
    omega arith
