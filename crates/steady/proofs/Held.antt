-- What a run makes needless: an event that is followed on a machine of a run comes to what the step says.
use Prim.Native.Nat.{ℕ, zero, suc}
use mathlib.Core.Path.{◌≡◌, refl, sym, ap, ◌∙◌, subst}
use mathlib.Core.Bool.{Bool, true, false, not, cond, ◌&&◌, ◌||◌, or-false, true≢false}
use borrow.Author.Tests.{not-true}
use Rattle.model.specs.declared.Machine.{Machine}
use Rattle.model.specs.declared.Event.{Event}
use Rattle.model.specs.Machines.{act}
use Rattle.model.specs.Reads.{output}
use Rattle.model.specs.Refusals.{bad_machine, refusal}
use Rattle.model.specs.Settling.{settle}
use Rattle.model.specs.Step.{Told, outcome, step_spec}
use Rattle.model.proofs.Bools.{choose, and_l, and_r}
use Rattle.model.proofs.Good.{steps_stay_good}
use Rattle.model.proofs.Settled.{settled_once}
use Rattle.actions.specs.declared.Action.{Action}
use Rattle.actions.specs.Meaning.{meant_by, accepts, finished}
use Rattle.actions.specs.Decision.{decided}
use Rattle.actions.proofs.Ends.{replies, of_good}
use Rattle.steady.specs.Following.{unsettles, alike, done_by, quiet_by, shown_by, follow_spec}
use Rattle.steady.specs.Promises.{FollowsTheStep, StaysHeld, QuietKeepsTheOutput}
use Rattle.steady.proofs.Alone.{alone, settled_alone, output_alone}

-- nothing is left to settle
no_need : (m : Machine) (a : Action) → settle m ≡ m → unsettles a ≡ false → meant_by m a ≡ finished (meant_by m a)
unfolding finished
no_need m a h u = go (accepts (meant_by m a).answer)
  where
    go : (t : Bool) → meant_by m a ≡ cond t (record { answer = (meant_by m a).answer; machine = settle (meant_by m a).machine }) (meant_by m a)
    go true = ap (λ (x : Machine). record { answer = (meant_by m a).answer; machine = x }) (sym (settled_alone m (meant_by m a).machine (alone m a u) h))
    go false = refl

untouched : (m : Machine) (a : Action) (steady : Bool) → steady ≡ true → unsettles a ≡ false → done_by m a steady ≡ meant_by m a
unfolding done_by
untouched m a steady s u = rw (s, u)

pub follows_the_step : FollowsTheStep
unfolding follow_spec shown_by done_by
follows_the_step m e steady h =
    choose (λ (t : Told). t ≡ step_spec m e) (steady && not (unsettles (decided m e))) _ _
    (λ q. no_need m (decided m e) (h.1 (and_l steady _ q)) (not-true _ (and_r steady _ q)) ∙ of_good m e h.0)
    (λ q. of_good m e h.0)

-- a step is refused, and leaves the machine, or accepted, and leaves one that has settled
module _ (m : Machine) (e : Event) where
  settles_or_stays : (steady : Bool) → (steady ≡ true → settle m ≡ m) → (steady || accepts (step_spec m e).answer) ≡ true → settle (step_spec m e).machine ≡ (step_spec m e).machine
  unfolding step_spec outcome
  settles_or_stays steady h = go (refusal m e)
    where
      go : (n : ℕ) → (steady || accepts (outcome n m e).answer) ≡ true → settle (outcome n m e).machine ≡ (outcome n m e).machine
      go zero q = settled_once (act m e)
      go (suc n) q = h (sym (or-false steady) ∙ q)

  refused_stays : accepts (step_spec m e).answer ≡ false → (step_spec m e).machine ≡ m
  unfolding step_spec outcome
  refused_stays = go (refusal m e)
    where
      go : (n : ℕ) → accepts (outcome n m e).answer ≡ false → (outcome n m e).machine ≡ m
      go zero q = absurd (true≢false (sym (replies m e) ∙ q))
      go (suc n) q = refl

pub stays_held : StaysHeld
unfolding follow_spec shown_by
stays_held m e steady h =
    let f = sym (follows_the_step m e steady h) in (
      subst (λ (t : Told). bad_machine t.machine ≡ false) f (steps_stay_good m e h.0),
      subst (λ (t : Told). (steady || accepts t.answer) ≡ true → settle t.machine ≡ t.machine) f (settles_or_stays m e steady h.1),
    )

pub quiet_keeps_the_output : QuietKeepsTheOutput
unfolding follow_spec shown_by quiet_by
quiet_keeps_the_output m e steady h q = go (unsettles (decided m e)) refl (and_r steady _ q)
  where
    a : Action
    a = decided m e

    t : Told
    t = done_by m a steady

    f : t ≡ step_spec m e
    f = follows_the_step m e steady h

    go : (u : Bool) → unsettles a ≡ u → cond u (not (accepts t.answer)) (alike m.setup m.charger t.machine.charger) ≡ true → output t.machine ≡ output m
    go true u k = ap output (ap (λ (x : Told). x.machine) f ∙ refused_stays m e (ap (λ (x : Told). accepts x.answer) (sym f) ∙ not-true _ k))
    go false u k = rw (untouched m a steady (and_l steady (quiet_by m a t) q) u) (output_alone m (meant_by m a).machine (alone m a u) (rw (untouched m a steady (and_l steady (quiet_by m a t) q) u) at k))
