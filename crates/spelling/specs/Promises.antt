-- What is promised of digits, statement by statement. `proofs/Theorems.antt` proves each under its own name.
use Rattle.std.specs.Prelude.{ℕ, ◌^◌, ◌≤◌, ◌<◌, ◌≡◌, ◌++◌, length, get_or}
use Rattle.spelling.specs.Text.{text, decimal, hex_byte, hex}
use Rattle.spelling.specs.Numbers.{number, number_in}
use Rattle.spelling.specs.Worked.{cases, spelled_of, wanted_of}

-- decimal digits read back as the number, whatever 64 bits hold
abbrev pub DecimalReadsBack : Type 0
DecimalReadsBack = (n : ℕ) → n < 2 ^ 64 → number_in (decimal n) ≡ number n

-- and each is a digit
abbrev pub DecimalIsDigits : Type 0
DecimalIsDigits = (n i : ℕ) → i < length (decimal n) → (48 ≤ get_or (decimal n) i 0) × (get_or (decimal n) i 0 ≤ 57)

-- hexadecimal digits behind `0x` read back as the byte, and as the word
abbrev pub HexReadsBack : Type 0
HexReadsBack =
    ((b : ℕ) → b < 2 ^ 8 → number_in (text "0x" ++ hex_byte b) ≡ number b)
    × ((w : ℕ) → w < 2 ^ 16 → number_in (text "0x" ++ hex w) ≡ number w)

-- the worked words spell their numbers
abbrev pub WorkedNumbersHold : Type 0
WorkedNumbersHold = spelled_of cases ≡ wanted_of cases
