-- The ohm ranges as one decision, a ladder of comparisons: the rule as it stood before its list of edges. `WalkIsTheLadder` ties the two.
use Rattle.std.specs.Prelude.{ℕ, ltb, if◌then◌else◌}
use Rattle.model.specs.declared.Class.{Class}
use Rattle.model.specs.declared.Class.TheVariants.{Under, Hot, Plain, Cold, Over}

-- below 500 HOT and UR; 500 to 2999 HOT; 3000 to 30000 plain; 30001 to 100000 COLD; above 100000 OR and COLD
unfoldable pub ladder : ℕ → Class
ladder ohms =
    if ltb ohms 500 then Under
    else if ltb ohms 3000 then Hot
    else if ltb ohms 30001 then Plain
    else if ltb ohms 100001 then Cold
    else Over
