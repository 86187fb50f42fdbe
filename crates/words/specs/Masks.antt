-- Masks: a nibble that says something of each bay at once.
use Rattle.std.specs.Prelude.{ℕ, ◌+◌, Bool, ◌&&◌, ◌||◌, eqb, if◌then◌else◌}
use Rattle.model.specs.Words.{bit, on, named, bay_number}

-- bit b says what holds of bay b
abbrev pub four : Bool → Bool → Bool → Bool → ℕ
four a b c d = on 0 a + on 1 b + on 2 c + on 3 d

-- the nibble n names a bay whose bit is set in the mask
unfoldable pub among : ℕ → ℕ → Bool
among mask n = named n && bit (bay_number n) mask

-- the nibble n is 0 or names such a bay
abbrev pub one_of : ℕ → ℕ → Bool
one_of mask n = eqb n 0 || among mask n

-- the nibble of the first bay by letter whose bit is set, 0 if there is none
unfoldable pub first_in : ℕ → ℕ
first_in mask =
    if bit 0 mask then 1
    else if bit 1 mask then 2
    else if bit 2 mask then 4
    else if bit 3 mask then 8
    else 0
