-- The three steps after each accepted event, in order, and the notice of an automatic power change.
use Rattle.std.specs.Prelude.{ℕ, Bool, not, ◌&&◌, ◌||◌, List, eqb, if◌then◌else◌}
use Rattle.model.specs.declared.Bay.{Bay}
use Rattle.model.specs.declared.Machine.{Machine}
use Rattle.model.specs.Bays.{bay_named, candidate}
use Rattle.model.specs.Machines.{with_selector, with_notice}

-- SMB of an absent bay becomes 0
unfoldable pub kept_smb : List Bay → ℕ → ℕ
kept_smb bays smb = if (bay_named bays smb).present then smb else 0

-- POWER_BY of a bay that is no candidate becomes 0
unfoldable pub kept_power : List Bay → ℕ → ℕ
kept_power bays power = if candidate (bay_named bays power) then power else 0

-- POWER_BY is 0 and AC is absent
unfoldable pub unpowered : Machine → Bool
unpowered m = eqb (kept_power m.bays m.selector.power) 0 && not m.ac

-- the first candidate by letter, 0 if there is none
unfoldable pub first_by_letter : List Bay → ℕ
first_by_letter bays =
    if candidate (bay_named bays 1) then 1
    else if candidate (bay_named bays 2) then 2
    else if candidate (bay_named bays 4) then 4
    else if candidate (bay_named bays 8) then 8
    else 0

-- the wanted bay if a candidate, else the first candidate by letter
unfoldable pub takes_over : List Bay → ℕ → ℕ
takes_over bays wanted = if candidate (bay_named bays wanted) then wanted else first_by_letter bays

-- if POWER_BY is 0 and AC is absent, it takes a bay
unfoldable pub settled_power : Machine → ℕ
settled_power m =
    if unpowered m then takes_over m.bays m.selector.next
    else kept_power m.bays m.selector.power

-- SMB follows POWER_BY to a bay that it takes
unfoldable pub settled_smb : Machine → ℕ
settled_smb m =
    if unpowered m && not (eqb (settled_power m) 0) then settled_power m
    else kept_smb m.bays m.selector.smb

-- an automatic power change is any change of POWER_BY between before and after these three steps
unfoldable pub power_changed : Machine → Bool
power_changed m = not (eqb (settled_power m) m.selector.power)

-- after all three
unfoldable pub settle : Machine → Machine
settle m =
    with_notice
    (with_selector m (record { smb = settled_smb m; power = settled_power m; charge = m.selector.charge; next = m.selector.next }))
    (m.notice || power_changed m)
