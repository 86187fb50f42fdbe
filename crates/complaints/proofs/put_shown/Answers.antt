use native.Mathlib.Omega.{arith}
use Rattle.pieces.proofs.Put.{text_turn, text_done, text_long}
use Rattle.notation.specs.Complaints.{all_shown}
use Rattle.notation.proofs.Complaints.{shown_long}
use Rattle.complaints.proofs.Showing.{shown_at}
use Rattle.complaints.proofs.put_shown.Goals as goal

pub loop-i-preserved : goal.loop-i-preserved
loop-i-preserved c =
    let z = c.args in
    let v = c.loop-i.invariant in
    let n = shown_long z.t.now in
    let d = shown_at z.t.now c.loop-i.i (omega arith) in
    (omega arith, v.1, v.2, rw (c.shown.ensures, d, v.2) (text_turn z.said.now.out.now _ (all_shown z.t.now) _ c.loop-i.i v.3 (omega arith) (omega arith)))

pub returns : goal.returns
returns c =
    let z = c.args in
    let v = c.loop-i.invariant in
    let n = shown_long z.t.now in
    record {
      same = v.1;
      place = omega (arith, v.2);
      bytes = text_done z.said.now.out.now _ (all_shown z.t.now) _ c.loop-i.i v.3 (omega arith);
      long = text_long z.said.now.out.now _ (all_shown z.t.now) _ c.loop-i.i v.3 (omega arith) (omega arith);
    }
