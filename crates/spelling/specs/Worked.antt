-- Worked words, each beside the number that it spells.
use Prim.Native.String.{String}
use Rattle.std.specs.Prelude.{List, [], ◌∷◌}
use Rattle.spelling.specs.Text.{text}
use Rattle.spelling.specs.Numbers.{Number, number, none, number_in}

-- a word, and the number that it should spell
pub record Case : Type 0 where
  pub word : String
  pub wanted : Number

-- a case in one line
abbrev pub case : String → Number → Case
case w n = record { word = w; wanted = n }

-- decimal and hexadecimal, capitals and small letters, zeros in front; and what is no number
unfoldable pub cases : List Case
cases =
    case "0" (number 0)
    ∷ case "9" (number 9)
    ∷ case "16800" (number 16800)
    ∷ case "007" (number 7)
    ∷ case "4294967296" (number 4294967296)
    ∷ case "0x0" (number 0)
    ∷ case "0xFF1F" (number 0xFF1F)
    ∷ case "0xff1f" (number 0xFF1F)
    ∷ case "0x00aB" (number 0xAB)
    ∷ case "" none
    ∷ case "0x" none
    ∷ case "x1" none
    ∷ case "1x" none
    ∷ case "0X1F" none
    ∷ case "1F" none
    ∷ case "0xG" none
    ∷ case "0x1g" none
    ∷ case "00x1" none
    ∷ case "-1" none
    ∷ case "+1" none
    ∷ case "1.5" none
    ∷ case "1/" none
    ∷ case "1:" none
    ∷ case "0x@" none
    ∷ case "0x`" none
    ∷ []

-- the numbers that they spell
unfoldable pub spelled_of : List Case → List Number
spelled_of [] = []
spelled_of (c ∷ cs) = number_in (text c.word) ∷ spelled_of cs

-- those that they should spell
unfoldable pub wanted_of : List Case → List Number
wanted_of [] = []
wanted_of (c ∷ cs) = c.wanted ∷ wanted_of cs
