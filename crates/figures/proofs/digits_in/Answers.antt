use Rattle.std.proofs.Common.{arith}
use Rattle.figures.proofs.Digits.{starts, goes_on, stops, ends}
use Rattle.figures.proofs.digits_in.Goals as goal

pub loop-b-init : goal.loop-b-init
loop-b-init c = starts _ _

pub returns-then-base-d : goal.returns-then-base-d
returns-then-base-d c = stops _ _ _ _ c.loop-b.invariant c.loop-b-test.true (rw (← c.digit_in-d.ensures) c.if-base-d.true)

pub loop-b-preserved : goal.loop-b-preserved
loop-b-preserved c =
    let d = c.digit_in-d.ensures in
    goes_on _ _ _ _ c.loop-b.invariant (omega arith) c.loop-b-test.true (rw (← d) c.if-base-d.false) _ (rw (← d) c.with_digit-value.ensures)

pub returns-then-is_empty : goal.returns-then-is_empty
returns-then-is_empty c = ends _ _ _ _ c.loop-b.invariant c.loop-b-test.false _ c.if-is_empty.ensures

pub returns-else-is_empty : goal.returns-else-is_empty
returns-else-is_empty c = ends _ _ _ _ c.loop-b.invariant c.loop-b-test.false _ c.if-is_empty.ensures
