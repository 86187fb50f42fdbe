-- A bay by a number that may be past the four.
use Rattle.std.specs.Prelude.{ℕ, List, ltb, if◌then◌else◌}
use Rattle.model.specs.declared.Bay.{Bay}
use Rattle.model.specs.Bays.{empty_bay, bay_at}

-- bay number b; an empty one past the four, whatever stands there in a longer list, which the code's array never is
unfoldable pub bay_in : List Bay → ℕ → Bay
bay_in bays b = if ltb b 4 then bay_at bays b else empty_bay
