use Rattle.std.proofs.Common.{rules, arith, ◌≤◌, ◌-◌, ◌+◌, ◌^◌, Some, length, refl, ◌∙◌, sym, IfSome, length-take-le}
use mathlib.Core.Logic.{inl, inr, ⊎_elim}
use Rattle.window.specs.Windows.{between, at_hand}
use Rattle.window.proofs.Moving.{length_between}
use Rattle.making.specs.Making.{EndsAt}
use Rattle.std.specs.Io.KnownBytes.{Appends}
use Rattle.making.proofs.Onward.{starts, passes, fewer, all_used, reads_on, goes_on, ends_there, over, breaks, progressed, used_up, known, if_ended, not_ended, behind_inside, left_there, settles, holds}
use Rattle.making.proofs.run.Goals as goal

pub loop-init : goal.loop-init
loop-init g c = record { long = refl; onward = starts _ _ _ _ _ c.unread-at.ensures }

pub returns-in-Err-write_whole-clause-err : goal.returns-in-Err-write_whole-clause-err
unfolding between
returns-in-Err-write_whole-clause-err g c =
    let gr = c.in-Ok.ensures.grows (settles _ _ _ _ c.loop.invariant.long c.SETTLING.ensures c.SETTLING-in-loop.ensures c.if-is_short.false) in
    let o = reads_on c.loop.invariant.onward (g.R.Read.remaining c.refill.new.file) (at_hand c.refill.new.buffer c.in-Ok.next) c.in-Ok.next.last c.in-Ok.ensures.streams c.in-Ok.ensures.ends gr.no_less in
    breaks o c.part-end.ensures.same (g.W.Write.contents c.write_whole.new.output) c.in-Err-write_whole.ensures.err

pub returns-in-Err-write_whole-clause-end : goal.returns-in-Err-write_whole-clause-end
unfolding between
returns-in-Err-write_whole-clause-end g c =
    let gr = c.in-Ok.ensures.grows (settles _ _ _ _ c.loop.invariant.long c.SETTLING.ensures c.SETTLING-in-loop.ensures c.if-is_short.false) in
    let o = reads_on c.loop.invariant.onward (g.R.Read.remaining c.refill.new.file) (at_hand c.refill.new.buffer c.in-Ok.next) c.in-Ok.next.last c.in-Ok.ensures.streams c.in-Ok.ensures.ends gr.no_less in
    if_ended _ _ _ _ _ c.ended_at-end.ensures (λ f q. left_there (g.R.Read.remaining c.args.input.now) (g.R.Read.remaining c.refill.new.file) (λ xs. g.M.Maker.ends c.args.start xs f c.part-end.result.state) c.refill.new.buffer c.in-Ok.next _ _ c.passed-at.ensures (ends_there o c.part-end.ensures.same f q))

pub returns-in-Err-write_whole-clause-there : goal.returns-in-Err-write_whole-clause-there
unfolding between
returns-in-Err-write_whole-clause-there g c =
    if_ended _ _ _ _ _ c.ended_at-end.ensures
    (λ f q. behind_inside c.in-Ok.next _ _ _ c.passed-at.ensures c.in-Ok.ensures.refilled.ordered c.in-Ok.ensures.refilled.inside)

pub returns-in-Some-clause-ok : goal.returns-in-Some-clause-ok
unfolding between
returns-in-Some-clause-ok g c =
    let gr = c.in-Ok.ensures.grows (settles _ _ _ _ c.loop.invariant.long c.SETTLING.ensures c.SETTLING-in-loop.ensures c.if-is_short.false) in
    let o = reads_on c.loop.invariant.onward (g.R.Read.remaining c.refill.new.file) (at_hand c.refill.new.buffer c.in-Ok.next) c.in-Ok.next.last c.in-Ok.ensures.streams c.in-Ok.ensures.ends gr.no_less in
    if_ended _ _ _ (Some c.in-Some.end) (λ _. IfSome (g.R.Read.remaining c.args.input.now)
    (λ bytes. Appends (g.W.Write.contents c.args.output.now) (g.W.Write.contents c.write_whole.new.output) (g.M.Maker.text c.args.start bytes))) (sym c.in-Some.is ∙ c.ended_at-end.ensures)
    (λ f q. over o c.part-end.ensures.same f (g.W.Write.contents c.write_whole.new.output) q c.in-Ok-write_whole.ensures.ok)

pub returns-in-Some-clause-end : goal.returns-in-Some-clause-end
unfolding between
returns-in-Some-clause-end g c =
    let gr = c.in-Ok.ensures.grows (settles _ _ _ _ c.loop.invariant.long c.SETTLING.ensures c.SETTLING-in-loop.ensures c.if-is_short.false) in
    let o = reads_on c.loop.invariant.onward (g.R.Read.remaining c.refill.new.file) (at_hand c.refill.new.buffer c.in-Ok.next) c.in-Ok.next.last c.in-Ok.ensures.streams c.in-Ok.ensures.ends gr.no_less in
    if_ended _ _ _ (Some c.in-Some.end) (λ d. IfSome (g.R.Read.remaining c.args.input.now)
    (λ bytes. EndsAt (g.M.Maker.ends c.args.start bytes d.outcome d.state) (at_hand c.refill.new.buffer d.at) (g.R.Read.remaining c.refill.new.file))) (sym c.in-Some.is ∙ c.ended_at-end.ensures)
    (λ f q. left_there (g.R.Read.remaining c.args.input.now) (g.R.Read.remaining c.refill.new.file) (λ xs. g.M.Maker.ends c.args.start xs f c.part-end.result.state) c.refill.new.buffer c.in-Ok.next _ _ c.passed-at.ensures (ends_there o c.part-end.ensures.same f q))

pub returns-in-Some-clause-there : goal.returns-in-Some-clause-there
unfolding between
returns-in-Some-clause-there g c =
    if_ended _ _ _ (Some c.in-Some.end) (λ d. (d.at.from ≤ d.at.to) × (d.at.to ≤ length c.refill.new.buffer)) (sym c.in-Some.is ∙ c.ended_at-end.ensures)
    (λ f q. behind_inside c.in-Ok.next _ _ _ c.passed-at.ensures c.in-Ok.ensures.refilled.ordered c.in-Ok.ensures.refilled.inside)

pub returns-then-is_stuck-clause-too_long : goal.returns-then-is_stuck-clause-too_long
unfolding between
returns-then-is_stuck-clause-too_long g c =
    let gr = c.in-Ok.ensures.grows (settles _ _ _ _ c.loop.invariant.long c.SETTLING.ensures c.SETTLING-in-loop.ensures c.if-is_short.false) in
    let o = reads_on c.loop.invariant.onward (g.R.Read.remaining c.refill.new.file) (at_hand c.refill.new.buffer c.in-Ok.next) c.in-Ok.next.last c.in-Ok.ensures.streams c.in-Ok.ensures.ends gr.no_less in
    let s = c.is_stuck-is_stuck.ensures.stuck c.if-is_stuck.true in
    let f = c.SETTLING-in-loop-2.ensures in
    let m : g.M.Maker.MOST ≤ length c.loop.out = holds _ _ _ _ c.loop.auto.out c.MOST.ensures c.if-is_short.false in
    let left = length_between c.refill.new.buffer c.in-Ok.next.from c.in-Ok.next.to c.in-Ok.ensures.refilled.ordered c.in-Ok.ensures.refilled.inside in
    let p = c.part-end.ensures.gets_on.progress m (⊎_elim (λ a. inl (omega arith)) (λ b. inr b) s.0) (not_ended _ _ _ (sym c.ended_at-end.ensures ∙ c.in-None.is)) in
    λ z. known _ (λ bytes. 2 ^ 64 ≤ g.M.Maker.used c.args.start + length bytes) _ (λ bytes h. inl h) (all_used o (used_up _ _ _ _ p s.1 s.2))

pub loop-preserved : goal.loop-preserved
unfolding between
loop-preserved g c =
    let gr = c.in-Ok.ensures.grows (settles _ _ _ _ c.loop.invariant.long c.SETTLING.ensures c.SETTLING-in-loop.ensures c.if-is_short.false) in
    let o = reads_on c.loop.invariant.onward (g.R.Read.remaining c.refill.new.file) (at_hand c.refill.new.buffer c.in-Ok.next) c.in-Ok.next.last c.in-Ok.ensures.streams c.in-Ok.ensures.ends gr.no_less in
    let part = c.part-end in
    let z = not_ended _ _ _ (sym c.ended_at-end.ensures ∙ c.in-None.is) in
    let p = goes_on o part.ensures.same (g.W.Write.contents c.write_whole.new.output) z c.in-Ok-write_whole.ensures.ok part.ensures.inside.0 (part.ensures.gets_on.counted z) in
    let k = length-take-le part.result.place part.new.out part.ensures.inside.1 in
    let left = length_between c.refill.new.buffer c.in-Ok.next.from c.in-Ok.next.to c.in-Ok.ensures.refilled.ordered c.in-Ok.ensures.refilled.inside in
    let more = progressed _ (c.in-Ok.next.to - c.in-Ok.next.from) (length (at_hand c.loop.window c.loop.at)) (length (at_hand c.refill.new.buffer c.in-Ok.next)) part.result.taken part.result.place c.in-Ok.next.last gr.more (sym left)
    (λ h. c.is_stuck-is_stuck.ensures.free c.if-is_stuck.false (⊎_elim (λ a. inl (let f = c.SETTLING-in-loop-2.ensures in omega arith)) (λ b. inr b) h)) in
    record { long = search rules; onward = passes _ c.in-Ok.next _ _ (fewer p (c.loop.counter + 1) (omega arith)) c.passed-at.ensures }
