-- The analogue board's two rules: how a request is limited, and what a reading of the safety signal means.
use Rattle.std.specs.Prelude.{Option, None, Some, ℕ, min, ◌+◌, ◌^◌, Bool, true, false, List, [], ◌∷◌, ltb, eqb, if◌then◌else◌}
use Rattle.model.specs.declared.Limit.{Limit}
use Rattle.model.specs.declared.Class.{Class}
use Rattle.model.specs.declared.Class.TheVariants.{Under, Hot, Plain, Cold, Over}
use Rattle.model.specs.declared.Edge.{Edge}
use Rattle.model.specs.declared.Output.{Output}

-- request 65535 gives the safe value; otherwise the smaller of request and largest
unfoldable pub limited : Limit → ℕ → ℕ
limited l request = if eqb request 65535 then l.safe else min request l.largest

-- 0 mA and 0 mV
abbrev pub no_output : Output
no_output = record { milliamps = 0; millivolts = 0 }

-- the analogue board's edges in ohms, rising, each with the class of the readings below it: below 500 HOT and UR; 500 to 2999 HOT; 3000 to
-- 30000 plain; 30001 to 100000 COLD
abbrev pub edges : List Edge
edges =
    (500, Under)
    ∷ (3000, Hot)
    ∷ (30001, Plain)
    ∷ (100001, Cold)
    ∷ []

-- the class, .1, of the first edge, .0, that a reading does not reach; above 100000, where it reaches them all, OR and COLD
abbrev pub walk : List Edge → ℕ → Class
walk [] ohms = Over
walk (e ∷ rest) ohms = if ltb ohms e.0 then e.1 else walk rest ohms

-- the class of a reading, by a walk over the edges
unfoldable pub class_of : ℕ → Class
class_of ohms = walk edges ohms

-- unread counts as over range
abbrev pub class_read : Option ℕ → Class
class_read None = Over
class_read (Some ohms) = class_of ohms

-- requested charge is allowed in plain and COLD, and under range, where a pack has a fixed resistor
abbrev pub allowed : Class → Bool
allowed Under = true
allowed Hot = false
allowed Plain = true
allowed Cold = true
allowed Over = false

-- wake-up is allowed in plain and COLD
abbrev pub allowed_to_wake : Class → Bool
allowed_to_wake Under = false
allowed_to_wake Hot = false
allowed_to_wake Plain = true
allowed_to_wake Cold = true
allowed_to_wake Over = false

-- a reading allows requested charge
unfoldable pub allows : Option ℕ → Bool
allows r = allowed (class_read r)

-- a reading allows wake-up
unfoldable pub allows_to_wake : Option ℕ → Bool
allows_to_wake r = allowed_to_wake (class_read r)

-- the status bits 8 OR, 9 COLD, 10 HOT, 11 UR of a class
abbrev pub class_bits : Class → ℕ
class_bits Under = 2 ^ 10 + 2 ^ 11
class_bits Hot = 2 ^ 10
class_bits Plain = 0
class_bits Cold = 2 ^ 9
class_bits Over = 2 ^ 8 + 2 ^ 9
