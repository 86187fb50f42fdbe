-- Machines handed in, at the edges of 15 and, by their setups, of 1: each is a power-on machine with one part changed.
use Rattle.std.specs.Prelude.{Option, None, Some, ℕ, Bool, true, false, List, [], ◌∷◌, set}
use Rattle.model.specs.declared.Machine.{Machine}
use Rattle.model.specs.Machines.{setup_of, program_setup, power_on, with_bays, with_charger, with_selector}
use Rattle.model.specs.Refusals.{bad_machine}

-- SMB, POWER_BY, CHARGE and USE_NEXT so
abbrev pub nibbles_so : ℕ → ℕ → ℕ → ℕ → Machine
nibbles_so smb power charge next = with_selector (power_on program_setup) (record { smb = smb; power = power; charge = charge; next = next })

-- a request of each kind, and wake-up, of that age
abbrev pub ages_so : ℕ → ℕ → ℕ → Machine
ages_so current voltage wake =
    with_charger (power_on program_setup)
    (record {
      current = record { word = 1500; age = current; mark = true };
      voltage = record { word = 16800; age = voltage; mark = true };
      hold = true;
      inhibit = true;
      wake = record { age = wake; spent = true };
    })

-- bay b so: present, OK, low and its reading
abbrev pub bay_so : ℕ → Bool → Bool → Bool → Option ℕ → Machine
bay_so b present ok low reading =
    with_bays (power_on program_setup) (set (power_on program_setup).bays b (record { present = present; ok = ok; low = low; reading = reading }))

-- supported bays so
abbrev pub supported_so : ℕ → Machine
supported_so n = power_on (setup_of n 3000 2000 18000 16800 9000 10500 0 16800)

-- largest and safe current so
abbrev pub current_so : ℕ → ℕ → Machine
current_so largest safe = power_on (setup_of 3 largest safe 18000 16800 9000 10500 0 16800)

-- largest and safe voltage so, with the least wake voltage
abbrev pub voltage_so : ℕ → ℕ → Machine
voltage_so largest safe = power_on (setup_of 3 3000 2000 largest safe 9000 10500 0 1)

-- low and restart level so
abbrev pub levels_so : ℕ → ℕ → Machine
levels_so low restart = power_on (setup_of 3 3000 2000 18000 16800 low restart 0 16800)

-- safe current, wake current and wake voltage so
abbrev pub wake_so : ℕ → ℕ → ℕ → Machine
wake_so safe milliamps millivolts = power_on (setup_of 3 3000 safe 18000 16800 9000 10500 milliamps millivolts)

-- those that 15 accepts
unfoldable pub good_ones : List Machine
good_ones =
    nibbles_so 0 0 0 0
    ∷ nibbles_so 1 1 2 2
    ∷ nibbles_so 2 2 2 1
    ∷ ages_so 175 175 175
    ∷ bay_so 0 true false true None
    ∷ bay_so 1 true true false (Some 4294967295)
    ∷ supported_so 1
    ∷ supported_so 7
    ∷ supported_so 15
    ∷ current_so 1 1
    ∷ current_so 65534 65534
    ∷ voltage_so 1 1
    ∷ voltage_so 65534 65534
    ∷ levels_so 1 2
    ∷ levels_so 65534 65535
    ∷ wake_so 2000 100 16800
    ∷ wake_so 50 50 1
    ∷ []

-- those that 15 refuses
unfoldable pub bad_ones : List Machine
bad_ones =
    -- a nibble that names two bays, an unsupported one, or is none
    nibbles_so 3 0 0 0
    ∷ nibbles_so 4 0 0 0
    ∷ nibbles_so 0 4 0 0
    ∷ nibbles_so 0 0 8 0
    ∷ nibbles_so 0 0 0 15
    ∷ nibbles_so 0 0 0 16
    -- an age above 175
    ∷ ages_so 176 0 0
    ∷ ages_so 0 176 0
    ∷ ages_so 0 0 176
    -- presence of an unsupported bay
    ∷ bay_so 2 true false false None
    ∷ bay_so 3 true true false None
    -- an OK mark, low mark or reading at an absent one
    ∷ bay_so 0 false true false None
    ∷ bay_so 1 false false true None
    ∷ bay_so 2 false false false (Some 10000)
    -- a setup that 1 refuses
    ∷ supported_so 0
    ∷ supported_so 2
    ∷ supported_so 5
    ∷ supported_so 31
    ∷ current_so 3000 0
    ∷ current_so 2000 2001
    ∷ current_so 65535 2000
    ∷ voltage_so 3000 0
    ∷ voltage_so 2000 2001
    ∷ voltage_so 65535 2000
    ∷ levels_so 0 10500
    ∷ levels_so 9000 9000
    ∷ levels_so 10500 9000
    ∷ levels_so 9000 65536
    ∷ wake_so 2000 101 16800
    ∷ wake_so 50 51 16800
    ∷ wake_so 2000 0 0
    ∷ wake_so 2000 100 16801
    ∷ []

-- what 15 says of each
unfoldable pub all_bad : List Machine → List Bool
all_bad [] = []
all_bad (m ∷ ms) = bad_machine m ∷ all_bad ms

-- the same word for each
unfoldable pub every_one : Bool → List Machine → List Bool
every_one b [] = []
every_one b (m ∷ ms) = b ∷ every_one b ms
