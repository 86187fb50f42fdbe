use native.Mathlib.Omega.{arith}
use Rattle.std.proofs.Common.{rules}
use mathlib.Core.Path.{◌∙◌}
use Rattle.spelling.specs.Text.{text}
use Rattle.pieces.proofs.Room.{with_fit}
use Rattle.pieces.proofs.Moves.{there}
use Rattle.complaints.proofs.Said.{parts_fit, complaint_put}
use Rattle.complaints.proofs.complain.Goals as goal

pub put_subject-requires : goal.put_subject-requires
put_subject-requires c =
    let z = c.args in
    let h = with_fit _ _ _ c.in_ok-room_for.ensures.room in
    let s = parts_fit z.number z.line.now z.field z.word in
    omega arith

pub put_expected-requires : goal.put_expected-requires
put_expected-requires c =
    let z = c.args in
    let h = with_fit _ _ _ c.in_ok-room_for.ensures.room in
    let s = parts_fit z.number z.line.now z.field z.word in
    let e = c.put_subject.ensures in
    omega (arith, e.place, e.long)

pub put_found-requires : goal.put_found-requires
unfolding text
put_found-requires c =
    let z = c.args in
    let h = with_fit _ _ _ c.in_ok-room_for.ensures.room in
    let s = parts_fit z.number z.line.now z.field z.word in
    let e = c.put_subject.ensures in
    let f = c.put_expected.ensures in
    let g = there _ _ _ c.text.ensures (omega (arith, e.place, e.long, f.place, f.long)) in
    omega (arith, e.place, e.long, f.place, f.long, g.place, g.long)

pub returns : goal.returns
unfolding text
returns c =
    let t = complaint_put _ _ _ _ _ _ _ _ _ _ c.put_subject.ensures c.put_expected.ensures c.text.ensures c.put_found.ensures c.text-2.ensures c.in_ok-room_for.ensures.room in
    let s = c.text-2.ensures.same ∙ c.put_found.ensures.same ∙ c.text.ensures.same ∙ c.put_expected.ensures.same ∙ c.put_subject.ensures.same in
    record { value = t.0; after = search (rules, s, t.1) }
