-- What a 16-bit word holds: bits, nibbles, and the bay that a nibble names.
use Rattle.std.specs.Prelude.{ℕ, ◌+◌, ◌-◌, ◌*◌, ◌/◌, ◌%◌, ◌^◌, Bool, not, ◌&&◌, ◌||◌, eqb, if◌then◌else◌}

-- bit k of a word is set
unfoldable pub bit : ℕ → ℕ → Bool
bit k w = eqb ((w / 2 ^ k) % 2) 1

-- the nibble of a word whose lowest bit is bit k
unfoldable pub nibble : ℕ → ℕ → ℕ
nibble k w = (w / 2 ^ k) % 16

-- bit k of a word that is put together: 2 ^ k if it is set
abbrev pub on : ℕ → Bool → ℕ
on k b = if b then 2 ^ k else 0

-- a word put together of four nibbles, the highest first
abbrev pub nibbles : ℕ → ℕ → ℕ → ℕ → ℕ
nibbles a b c d = a % 16 * 4096 + b % 16 * 256 + c % 16 * 16 + d % 16

-- a nibble with its four bits turned over
abbrev pub inverted : ℕ → ℕ
inverted n = 15 - n % 16

-- the nibble names one bay
unfoldable pub named : ℕ → Bool
named n = eqb n 1 || eqb n 2 || eqb n 4 || eqb n 8

-- the number of the bay that it names: 1, 2, 4, 8 are the bays 0, 1, 2, 3
unfoldable pub bay_number : ℕ → ℕ
bay_number n = if eqb n 1 then 0 else if eqb n 2 then 1 else if eqb n 4 then 2 else 3

-- the nibble n names bay b
unfoldable pub names : ℕ → ℕ → Bool
names n b = named n && eqb b (bay_number n)

-- AlarmWarning: any of bits 15, 14, 13, 12 is set
unfoldable pub alarming : ℕ → Bool
alarming w = not (eqb (nibble 12 w) 0)

-- SelectorState: SMB bits 15-12
abbrev pub smb_in : ℕ → ℕ
smb_in w = nibble 12 w

-- SelectorState: POWER_BY bits 11-8
abbrev pub power_in : ℕ → ℕ
power_in w = nibble 8 w

-- SelectorState: CHARGE bits 7-4; PRESENT is bits 3-0
abbrev pub charge_in : ℕ → ℕ
charge_in w = nibble 4 w

-- SelectorPresets: USE_NEXT bits 7-4
abbrev pub next_in : ℕ → ℕ
next_in w = nibble 4 w

-- SelectorPresets: OK_TO_USE bits 3-0, bay b's is bit b
abbrev pub ok_in : ℕ → ℕ → Bool
ok_in b w = bit b w
