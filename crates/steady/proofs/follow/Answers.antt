use Rattle.steady.proofs.Ends.{ticks, keeps, settles}
use Rattle.steady.proofs.follow.Goals as goal

pub returns-then-steady-is_tick : goal.returns-then-steady-is_tick
returns-then-steady-is_tick c =
    let a = c.args in
    ticks a.m a.e a.steady c.tick-machine.result c.is_alike.result (rw (← c.is_tick.ensures) c.if-steady-is_tick.true) c.tick-machine.ensures c.is_alike.ensures

pub returns-then-steady-unsettles : goal.returns-then-steady-unsettles
returns-then-steady-unsettles c =
    let a = c.args in
    keeps a.m a.e a.steady c.decide-action.result c.perform-done.result c.unsettles.result c.decide-action.ensures c.perform-done.ensures c.unsettles.ensures
    c.if-steady-unsettles.true c.is_alike-then-steady-unsettles.result c.is_alike-then-steady-unsettles.ensures

pub returns : goal.returns
returns c =
    let a = c.args in
    settles a.m a.e a.steady c.decide-action.result c.perform-done.result c.unsettles.result c.decide-action.ensures c.perform-done.ensures c.unsettles.ensures
    c.if-steady-unsettles.false c.finish-answer.result c.is_accepted-accepted.result c.finish-answer.ensures c.is_accepted-accepted.ensures
