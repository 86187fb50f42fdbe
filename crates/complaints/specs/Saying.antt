-- What is said of a wrong line, a step on the way: what the code's own functions promise.
use Rattle.std.specs.Prelude.{ℕ, ◌-◌, ◌≤◌, ◌≡◌, List, [], ◌++◌, length, get_or, take, drop}
use Rattle.spelling.specs.Text.{text, decimal}
use Rattle.notation.specs.declared.Field.{Field}
use Rattle.notation.specs.Words.{words_of}
use Rattle.notation.specs.Complaints.{name_of}
use Rattle.cutter.specs.declared.Word as cutter

-- the front: of which line and of which field something is said
unfoldable pub subject : ℕ → Field → List ℕ
subject n f = text "line " ++ decimal n ++ text ": " ++ name_of f ++ text ": expected "

-- word k of a line, empty if there are not so many, lies where it was found
pub record Finds (line : List ℕ) (k : ℕ) (w : cutter.Word) : Type 0 where
  pub forward : w.from ≤ w.to
  pub inside : w.to ≤ length line
  pub is : take (w.to - w.from) (drop w.from line) ≡ get_or (words_of line) k []
