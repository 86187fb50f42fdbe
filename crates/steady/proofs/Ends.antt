-- The three ways in which an event is followed: each answers as the definition says.
use mathlib.Core.Path.{◌≡◌, sym, ◌∙◌}
use mathlib.Core.Bool.{Bool, true, false, not, ◌&&◌, ◌||◌, false≢true}
use Rattle.model.specs.declared.Machine.{Machine}
use Rattle.model.specs.declared.Event.{Event}
use Rattle.model.specs.declared.Event.TheVariants.{HostWrite, HostRead, BayWord, Insertion, Removal, Signal, Terminal, Ac, Tick}
use Rattle.model.specs.declared.Answer.TheVariants.{Done}
use Rattle.model.specs.declared.Stepped.{Stepped}
use Rattle.model.specs.Machines.{act}
use Rattle.model.specs.Numbers.{said}
use Rattle.model.specs.Step.{told}
use Rattle.actions.specs.declared.Action.{Action}
use Rattle.actions.specs.Meaning.{meant_by, accepts, finished}
use Rattle.actions.specs.Decision.{decided}
use borrow.Author.Tests.{not-true, not-false}
use Rattle.model.proofs.Bools.{and_l, and_r}
use Rattle.steady.specs.Following.{is_tick, unsettles, alike, done_by, quiet_by, shown, shown_by, follow_spec}

-- a tick of a machine that has settled
pub ticks : (m : Machine) (e : Event) (steady : Bool) (n : Machine) (q : Bool) → (steady && is_tick e) ≡ true → n ≡ act m Tick → q ≡ alike m.setup m.charger n.charger
    → shown (record { answer = Done; machine = n; steady = true; quiet = q }) ≡ follow_spec m e steady
unfolding shown follow_spec shown_by done_by quiet_by meant_by
ticks m (HostWrite a c w) steady n q h p k = absurd (false≢true (and_r steady false h))
ticks m (HostRead a c) steady n q h p k = absurd (false≢true (and_r steady false h))
ticks m (BayWord b c w) steady n q h p k = absurd (false≢true (and_r steady false h))
ticks m (Insertion b) steady n q h p k = absurd (false≢true (and_r steady false h))
ticks m (Removal b) steady n q h p k = absurd (false≢true (and_r steady false h))
ticks m (Signal b ohms) steady n q h p k = absurd (false≢true (and_r steady false h))
ticks m (Terminal b millivolts) steady n q h p k = absurd (false≢true (and_r steady false h))
ticks m (Ac present) steady n q h p k = absurd (false≢true (and_r steady false h))
ticks m Tick steady n q h p k = rw (k, p, and_l steady true h)

module _ (m : Machine) (e : Event) (steady : Bool) (a : Action) (t : Stepped) (u : Bool) (d : a ≡ decided m e) (p : told t ≡ meant_by m a) (w : u ≡ unsettles a) where
  -- an action that cannot unsettle it
  pub keeps : (steady && not u) ≡ true → (q : Bool) → q ≡ alike m.setup m.charger t.machine.charger
      → shown (record { answer = t.answer; machine = t.machine; steady = true; quiet = q }) ≡ follow_spec m e steady
  unfolding shown follow_spec shown_by done_by quiet_by told
  keeps h q k =
      let s = and_l steady (not u) h in
      let v : unsettles a ≡ false = sym w ∙ not-true u (and_r steady (not u) h) in
      rw (k, ← d, s, v, ← p)

  -- any other
  pub settles : (steady && not u) ≡ false → (s : Stepped) (v : Bool) → told s ≡ finished (told t) → v ≡ accepts (said s.answer)
      → shown (record { answer = s.answer; machine = s.machine; steady = steady || v; quiet = steady && not v }) ≡ follow_spec m e steady
  unfolding shown follow_spec shown_by done_by quiet_by told
  settles h s v f k = go steady h
    where
      go : (x : Bool) → (x && not u) ≡ false → shown (record { answer = s.answer; machine = s.machine; steady = x || v; quiet = x && not v }) ≡ follow_spec m e x
      go true z = let y : unsettles a ≡ true = sym w ∙ not-false u z in rw (← d, y, ← p, ← f, k)
      go false z = rw (← d, ← p, ← f, k)
