use Prim.Native.Nat.{◌+◌, ◌-◌}
use native.Mathlib.Omega.{arith}
use mathlib.Core.Path.{◌≡◌}
use Rattle.cutter.proofs.Words.{cut_inside}
use Rattle.complaints.proofs.Finding.{looks_on, finds_it, finds_none}
use Rattle.complaints.proofs.find.Goals as goal

pub returns-then-w : goal.returns-then-w
returns-then-w c = let v = c.loop.invariant in finds_none _ _ _ c.word_from-w.ensures v.0 _ _ v.1 c.if-w.true

pub loop-preserved : goal.loop-preserved
loop-preserved c =
    let v = c.loop.invariant in
    let e : c.args.number - (c.loop.counter + 1) ≡ c.args.number - c.loop.counter - 1 = omega arith in
    rw e ((cut_inside _ _ _ c.word_from-w.ensures v.0).1, looks_on _ _ _ c.word_from-w.ensures v.0 _ _ v.1 (omega arith))

pub returns : goal.returns
returns c = let v = c.loop.invariant in finds_it _ _ _ c.word_from.ensures v.0 _ _ v.1 (omega arith)
