-- The number that a text spells.
use Rattle.std.specs.Prelude.{ℕ, ◌+◌, ◌-◌, ◌*◌, Bool, true, not, ◌&&◌, List, [], ◌∷◌, eqb, leb, ltb, length, get_or, drop, if◌then◌else◌}

-- the digit that a byte stands for: `0` to `9`, `A` to `F` or `a` to `f`; 16, which is a digit of no base here, for any other
unfoldable pub digit_in : ℕ → ℕ
digit_in b =
    if leb 48 b && leb b 57 then b - 48
    else (if leb 65 b && leb b 70 then b - 55
    else (if leb 97 b && leb b 102 then b - 87
    else 16))

-- every byte is a digit of the base
unfoldable pub all_digits : ℕ → List ℕ → Bool
all_digits base [] = true
all_digits base (b ∷ t) = ltb (digit_in b) base && all_digits base t

-- the number that digits spell, behind the number a
unfoldable pub value_from : ℕ → ℕ → List ℕ → ℕ
value_from base a [] = a
value_from base a (d ∷ t) = value_from base (a * base + digit_in d) t

-- a number, or none
pub data Number : Type 0 where
  number : ℕ → Number
  none : Number

-- the number that a text spells in a base; a text without any byte, or with one that is no digit, spells none
unfoldable pub spelled : ℕ → List ℕ → Number
spelled base t = if not (eqb (length t) 0) && all_digits base t then number (value_from base 0 t) else none

-- whether a text begins with `0x`
unfoldable pub marked : List ℕ → Bool
marked t = leb 2 (length t) && eqb (get_or t 0 0) 48 && eqb (get_or t 1 0) 120

-- the number that a word spells: decimal digits, or `0x` and hexadecimal ones
unfoldable pub number_in : List ℕ → Number
number_in w = if marked w then spelled 16 (drop 2 w) else spelled 10 w
