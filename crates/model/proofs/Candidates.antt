-- With AC absent POWER_BY is without a bay exactly when no candidate exists.
use Prim.Native.Nat.{ℕ}
use mathlib.Core.Path.{◌≡◌, refl, sym, ◌∙◌}
use mathlib.Core.Logic.{◌↔◌}
use mathlib.Core.Bool.{Bool, true, false, not, cond, ◌&&◌, true≢false, false≢true}
use mathlib.Core.List.{List}
use lib.Dec.{eqb}
use Rattle.model.specs.declared.Bay.{Bay}
use Rattle.model.specs.declared.Machine.{Machine}
use Rattle.model.specs.Words.{named, bay_number}
use Rattle.model.specs.Bays.{bay_named, candidate}
use Rattle.model.specs.Machines.{power_on, act}
use Rattle.model.specs.Settling.{kept_power, unpowered, settled_power, settle}
use Rattle.model.specs.Promises.{SupplyKept}
use Rattle.model.proofs.Bools.{choose}
use Rattle.model.proofs.Bays.{empty_at, number_small}
use Rattle.model.proofs.Taking.{NoCandidate, of_candidate, of_taken}
use Rattle.model.proofs.Induction.{along}

-- the nibble n is 0 exactly when no bay is a candidate
abbrev Tells : List Bay → ℕ → Type 0
Tells bays n = (n ≡ 0) ↔ NoCandidate bays

by_candidate : (bays : List Bay) (n : ℕ) → candidate (bay_named bays n) ≡ true → Tells bays n
unfolding named
by_candidate bays n c =
    let k = of_candidate bays n c in
    (λ z. absurd (false≢true (rw z at k.0)), λ none. absurd (true≢false (sym k.1 ∙ none (bay_number n) (number_small n))))

settled : (m : Machine) → m.ac ≡ false → Tells m.bays (settled_power m)
unfolding settled_power unpowered kept_power
settled m q =
    choose (Tells m.bays) (unpowered m) _ _ (λ _. of_taken (Tells m.bays) m.bays (by_candidate m.bays) (λ none. (λ _. none, λ _. refl)) m.selector.next)
    (kept (candidate (bay_named m.bays m.selector.power)) refl)
  where
    kept : (t : Bool) → candidate (bay_named m.bays m.selector.power) ≡ t →
        (eqb (cond t m.selector.power 0) 0 && not m.ac) ≡ false → Tells m.bays (cond t m.selector.power 0)
    kept true c u = by_candidate m.bays m.selector.power c
    kept false c u = absurd (true≢false (rw q at u))

pub supply_kept : SupplyKept
unfolding settle power_on candidate
supply_kept s = along (λ m h. m.ac ≡ false → Tells m.bays m.selector.power) (λ m e h p a. settled (act m e)) s (λ _. (λ _ b l. rw (empty_at s b l), λ _. refl))
