use Rattle.std.proofs.Common.{rules, refl}
use Rattle.notation.specs.Words.{blank}
use Rattle.cutter.specs.Cuts.{PastBy, plain, first_word}
use Rattle.cutter.proofs.word_from.Goals as goal

pub returns : goal.returns
unfolding PastBy first_word
returns c = rw (c.past.ensures plain (λ b answer k. search rules), c.past-from.ensures blank (λ b answer k. search rules)) refl
