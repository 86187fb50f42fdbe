-- Where lines and words begin and end, a step on the way: what the code's functions promise.
use Rattle.std.specs.Prelude.{◌≡◌, ℕ, ◌+◌, Bool, not, List, [], ◌∷◌, length, drop, if◌then◌else◌}
use Rattle.notation.specs.Words.{line_feed, line_in, size_in, blank, stops}
use Rattle.cutter.specs.declared.Line.{Line}
use Rattle.cutter.specs.declared.Word.{Word}

-- the first line of a text
unfoldable pub first_line : List ℕ → Line
first_line s = record { size = length (line_in s); taken = size_in s }

-- how many bytes in front pass a test
unfoldable pub passing : (ℕ → Bool) → List ℕ → ℕ
passing test [] = 0
passing test (b ∷ s) = if test b then 1 + passing test s else 0

-- the place behind them, from another on
unfoldable pub past : (ℕ → Bool) → List ℕ → ℕ → ℕ
past test s at = at + passing test (drop at s)

-- the same, by what a test may answer of each byte
unfoldable pub PastBy : (ℕ → Bool → Type 0) → List ℕ → ℕ → ℕ → Type 0
PastBy answers s at place = (test : ℕ → Bool) → ((b : ℕ) (answer : Bool) → answers b answer → answer ≡ test b) → place ≡ past test s at

-- a byte of a word, and one of a line
abbrev pub plain : ℕ → Bool
plain b = not (stops b)

abbrev pub unbroken : ℕ → Bool
unbroken b = not (line_feed b)

-- the first word of a line from a place on
unfoldable pub first_word : List ℕ → ℕ → Word
first_word s at = record { from = past blank s at; to = past plain s (past blank s at) }
