use native.Mathlib.Omega.{arith}
use mathlib.Core.Path.{sym, ◌∙◌}
use borrow.Author.Tests.{eqb-true, eqb-false}
use Prim.Native.Nat.{◌<◌}
use lib.ListN.{length, take}
use lib.Seq.{length-take-le}
use Rattle.spelling.specs.Text.{text}
use Rattle.pieces.proofs.Moves.{there, next}
use Rattle.notation.proofs.Complaints.{shown_long}
use Rattle.complaints.proofs.Showing.{none_found, part_found, part_long, all_found, all_long}
use Rattle.complaints.proofs.put_word.Goals as goal

pub returns-then-is_empty : goal.returns-then-is_empty
unfolding text
returns-then-is_empty c =
    let e = none_found c.args.word.now (eqb-true _ _ (sym c.is_empty.ensures ∙ c.if-is_empty.true)) in
    rw e (there _ _ _ c.text.ensures (rw e at c.requires))

pub slice_bounds-put_shown-end : goal.slice_bounds-put_shown-end
slice_bounds-put_shown-end c =
    let h : 32 < length c.args.word.now = c.if-word-gt-SHOWN.true in
    sym (length-take-le 32 c.args.word.now (omega arith))

pub put_shown-requires : goal.put_shown-requires
put_shown-requires c =
    let n = part_long c.args.word.now c.if-word-gt-SHOWN.true in
    omega arith

pub returns-then-word-gt-SHOWN : goal.returns-then-word-gt-SHOWN
unfolding text
returns-then-word-gt-SHOWN c =
    let w = c.args.word.now in
    let n = part_long w c.if-word-gt-SHOWN.true in
    let s = shown_long (take 32 w) in
    rw (part_found w c.if-word-gt-SHOWN.true) (next _ _ _ _ _ c.put_shown.ensures c.text-then-word-gt-SHOWN.ensures (omega arith))

pub put_shown-requires-else-word-gt-SHOWN : goal.put_shown-requires-else-word-gt-SHOWN
put_shown-requires-else-word-gt-SHOWN c =
    let n = all_long c.args.word.now (eqb-false _ _ (sym c.is_empty.ensures ∙ c.if-is_empty.false)) c.if-word-gt-SHOWN.false in
    omega arith

pub returns-else-word-gt-SHOWN : goal.returns-else-word-gt-SHOWN
returns-else-word-gt-SHOWN c =
    rw (all_found c.args.word.now (eqb-false _ _ (sym c.is_empty.ensures ∙ c.if-is_empty.false)) c.if-word-gt-SHOWN.false) c.put_shown-else-word-gt-SHOWN.ensures
