use mathlib.Core.Path.{refl, sym, ◌∙◌}
use Rattle.cutter.specs.Cuts.{PastBy}
use Rattle.cutter.proofs.Passing.{Reaches, goes_on, stops_here, ends_here}
use Rattle.cutter.proofs.past.Goals.{else-loop-place-test, then-loop-place-test+then-not-passes}
use Rattle.cutter.proofs.past.Goals as goal

pub loop-place-init : goal.loop-place-init
unfolding Reaches
loop-place-init g c = (refl, λ test tells. refl)

pub loop-place-preserved : goal.loop-place-preserved
unfolding Reaches
loop-place-preserved g c = (
  refl,
  λ test tells.
      c.loop-place.invariant.1 test tells ∙ goes_on test _ _ c.loop-place-test.true (sym (tells _ _ c.passes.ensures) ∙ c.if-not-passes.false),
)

pub returns : goal.returns
unfolding PastBy Reaches
returns g c = λ test tells.
    c.loop-place.invariant.0 ∙ sym (c.loop-place.invariant.1 test tells ∙ elim c.loop-place-test.branch [
      | else-loop-place-test w ↦ ends_here test _ _ w.loop-place-test.false
      | then-loop-place-test+then-not-passes w ↦ stops_here test _ _ w.loop-place-test.true (sym (tells _ _ w.passes.ensures) ∙ w.if-not-passes.true)
    ])
