-- What is promised of arguments. `proofs/Refused.antt` proves it.
use Rattle.std.specs.Prelude.{ℕ, ◌≡◌}
use Rattle.model.specs.declared.Setup.{Setup}
use Rattle.model.specs.Machines.{setup_of}
use Rattle.model.specs.Refusals.{good_setup}
use Rattle.figures.specs.Figures.{word_for}

-- 0 stands for a number above 65535 in each place of a setup but that of the wake current, where 0 is good: there it is 65535
abbrev pub argued : ℕ → ℕ → ℕ → ℕ → ℕ → ℕ → ℕ → ℕ → ℕ → Setup
argued a b c d e f g h i =
    setup_of (word_for 0 a) (word_for 0 b) (word_for 0 c) (word_for 0 d) (word_for 0 e) (word_for 0 f) (word_for 0 g) (word_for 65535 h) (word_for 0 i)

-- a setup of any nine numbers is refused exactly where the setup of their words is: a number above 65535 is refused in every place
abbrev pub LargeNumbersRefused : Type 0
LargeNumbersRefused = (a b c d e f g h i : ℕ) → good_setup (argued a b c d e f g h i) ≡ good_setup (setup_of a b c d e f g h i)
