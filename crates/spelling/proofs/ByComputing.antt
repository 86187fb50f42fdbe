-- The worked words, computed.
use mathlib.Core.Path.{refl}
use Rattle.spelling.specs.Text.{text, digit, decimal_up_to, decimal, hex_byte, hex}
use Rattle.spelling.specs.Numbers.{digit_in, all_digits, value_from, spelled, marked, number_in}
use Rattle.spelling.specs.Worked.{cases, spelled_of, wanted_of}
use Rattle.spelling.specs.Promises.{WorkedNumbersHold}

-- every rule that a text is spelled by, and every rule that a number is read by, opened under one name each
unfoldable pub spells : Unit {0}
unfolding text digit decimal_up_to decimal hex_byte hex
spells = tt

unfoldable pub counts : Unit {0}
unfolding digit_in all_digits value_from spelled marked number_in
counts = tt

pub worked_numbers_hold : WorkedNumbersHold
unfolding spells counts cases spelled_of wanted_of
worked_numbers_hold = refl
