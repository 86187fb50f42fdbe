use Rattle.std.proofs.lemmas.Result.{err_from_is_err_and}
use Rattle.window.proofs.Moving.{same, size, rests_there, stays, reads_on, hand_read, streams_on, streams_still, grows_still, grows_read}
use Rattle.window.proofs.refill.Goals as goal

pub returns-then-rests-clause-refilled : goal.returns-then-rests-clause-refilled
returns-then-rests-clause-refilled g c = rests_there _ _ _ _ _ c.min-to.ensures c.min-from.ensures

pub returns-then-rests-clause-streams : goal.returns-then-rests-clause-streams
returns-then-rests-clause-streams g c = streams_still _ _ _ (same _ c.args.wanted c.args.at _ _ c.min-to.ensures c.min-from.ensures)

pub returns-then-rests-clause-grows : goal.returns-then-rests-clause-grows
returns-then-rests-clause-grows g c = λ w.
    let e = c.min-to.ensures in
    let b = c.min-from.ensures in
    grows_still _ _ _ _ _ _ (same _ c.args.wanted c.args.at _ _ e b) (size _ c.args.wanted c.args.at _ _ e b) w c.if-rests.true

pub returns-in_err-got-clause-failed : goal.returns-in_err-got-clause-failed
returns-in_err-got-clause-failed g c =
    let p = err_from_is_err_and c.from_residual.result c.from_residual.ensures.1 in
    rw p.1
    (stays _ _ _ _ _ c.min-to.ensures c.min-from.ensures c.if-rests.false _ c.copy_within.ensures.after c.read.new.buf, c.in_err-got.ensures.bytes)

pub returns-clause-refilled : goal.returns-clause-refilled
returns-clause-refilled g c =
    reads_on _ _ _ _ _ c.min-to.ensures c.min-from.ensures c.if-rests.false _ c.copy_within.ensures.after _ _ _ c.in_ok-got.ensures.bound.0 _

pub returns-clause-streams : goal.returns-clause-streams
returns-clause-streams g c =
    streams_on _ _ _ _ _ c.in_ok-got.ensures.bytes.0
    (hand_read _ c.args.wanted c.args.at _ _ c.min-to.ensures c.min-from.ensures c.if-rests.false _ c.copy_within.ensures.after _ _ _ c.in_ok-got.ensures.bound.0)

pub returns-clause-grows : goal.returns-clause-grows
returns-clause-grows g c = λ w.
    grows_read _ _ _ _ _
    (hand_read _ c.args.wanted c.args.at _ _ c.min-to.ensures c.min-from.ensures c.if-rests.false _ c.copy_within.ensures.after _ _ _ c.in_ok-got.ensures.bound.0)
    c.in_ok-got.ensures.bound.0
