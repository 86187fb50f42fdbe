-- The number that an argument or a word gives, as it is handed on.
use Rattle.std.specs.Prelude.{Option, Some, None, ℕ, min, List, leb, if◌then◌else◌}
use Rattle.spelling.specs.Numbers.{Number, number, none, spelled}

-- a number, or none; those above 32 bits count alike
unfoldable pub value_of : Number → Option ℕ
value_of (number n) = Some (min n 4294967296)
value_of none = None

-- a number as a word; above 65535 another word stands for it
unfoldable pub word_for : ℕ → ℕ → ℕ
word_for beyond n = if leb n 65535 then n else beyond

-- no number
abbrev pub no_figure : Option ℕ
no_figure = None

-- a number of a setup, or none
unfoldable pub figure_for : ℕ → Number → Option ℕ
figure_for beyond (number n) = Some (word_for beyond n)
figure_for beyond none = no_figure

-- the number that decimal digits spell; a text without any, or with another byte, is none
unfoldable pub figure_of : ℕ → List ℕ → Option ℕ
figure_of beyond t = figure_for beyond (spelled 10 t)
