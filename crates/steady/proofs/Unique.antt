-- No two outcomes fit the contract of `follow`.
use mathlib.Core.Path.{◌≡◌, sym, ◌∙◌, ap}
use Rattle.model.proofs.Outcomes.{OneOutcome}
use Rattle.model.proofs.Numbers.{answers_apart}
use Rattle.steady.specs.declared.Followed.{Followed}
use Rattle.steady.specs.Following.{Shown, shown}
use Rattle.steady.proofs.follow.Kinds as follow_kinds
use Rattle.steady.proofs.follow.Reads as follow_reads

-- no two of them are shown alike
followed_apart : (x y : Followed) → shown x ≡ shown y → x ≡ y
unfolding shown
followed_apart x y p =
    let answer = answers_apart x.answer y.answer (ap (λ (s : Shown). s.told.answer) p) in
    λ i. record { answer = answer i; machine = (p i).told.machine; steady = (p i).steady; quiet = (p i).quiet }

pub follow_one : OneOutcome follow_kinds.ps follow_kinds.r follow_reads.Post
follow_one κs a x y s t p q = followed_apart x y (p ∙ sym q)
