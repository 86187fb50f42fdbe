-- A list of events that goes on from a run: what is heard of it, and that every tick of it counts.
use Prim.Native.Nat.{ℕ, suc, ◌+◌, ◌≤◌}
use mathlib.Core.Path.{◌≡◌, refl, sym, ◌∙◌, ap, subst}
use mathlib.Core.Logic.{◌⊎◌, ⊎_elim, inl, inr}
use mathlib.Core.Bool.{Bool, true, false, cond}
use mathlib.Core.List.{List, [], ◌∷◌, ◌++◌, append_assoc}
use lib.Dec.{eqb}
use native.Mathlib.Omega.{arith}
use Rattle.model.specs.declared.Setup.{Setup}
use Rattle.model.specs.declared.Event.{Event}
use Rattle.model.specs.declared.Event.TheVariants.{HostWrite, HostRead, BayWord, Insertion, Removal, Signal, Terminal, Ac, Tick}
use Rattle.model.specs.declared.Machine.{Machine}
use Rattle.model.specs.Numbers.{Said, done, word, refused}
use Rattle.model.specs.Events.{Kind, current_word, voltage_word, tick, is, kind_number, kind_of, bay_writes, host_writes_charger, host_writes_selector, host_reads_charger, host_reads_selector, by_address}
use Rattle.model.specs.Machines.{power_on}
use Rattle.model.specs.Step.{Told, step_spec}
use Rattle.model.specs.Refusals.{good_setup}
use Rattle.model.specs.Facts.{Past, Entry, hear, accepted, since, some, ticks, ticks_since}
use Rattle.model.specs.Runs.{run_from, said_from, run, history, past, heard_from}
use Rattle.model.specs.Promises.{RunsOutWhateverComes}
use Rattle.model.proofs.Bools.{choose, or_l, or_r}
use Rattle.model.proofs.Exactly.{good_setup_lem, zero_unless}
use Rattle.model.proofs.Heard.{ticks_and_ac_heard}

-- the machine and the past of a list that goes on

pub run_on : (m : Machine) (es later : List Event) → run_from m (es ++ later) ≡ run_from (run_from m es) later
unfolding run_from
run_on m [] later = refl
run_on m (e ∷ es) later = run_on (step_spec m e).machine es later

said_on : (m : Machine) (xs : List Entry) (es later : List Event) → said_from m xs (es ++ later) ≡ said_from (run_from m es) (said_from m xs es) later
unfolding run_from said_from
said_on m xs [] later = refl
said_on m xs (e ∷ es) later = said_on (step_spec m e).machine _ es later

hear_on : (e : Event) (a : Said) (h : Past) → hear e a h ≡ hear e a [] ++ h
unfolding hear
hear_on e done h = refl
hear_on e (word w) h = refl
hear_on e (refused n) h = refl

heard_on : (m : Machine) (xs : List Entry) (es : List Event) → accepted (said_from m xs es) ≡ heard_from m es ++ accepted xs
unfolding said_from accepted
heard_on m xs [] = refl
heard_on m xs (e ∷ es) =
    let t = step_spec m e in
    heard_on t.machine (record { event = e; answer = t.answer } ∷ xs) es
    ∙ ap (λ h. heard_from t.machine es ++ h) (hear_on e t.answer (accepted xs))
    ∙ sym (append_assoc (heard_from t.machine es) (hear e t.answer []) (accepted xs))
    ∙ ap (λ h. h ++ accepted xs) (sym (heard_on t.machine (record { event = e; answer = t.answer } ∷ []) es))

past_on : (s : Setup) (es later : List Event) → past s (es ++ later) ≡ heard_from (run s es) later ++ past s es
unfolding history run
past_on s es later = ap accepted (said_on (power_on s) [] es later) ∙ heard_on (run_from (power_on s) es) (said_from (power_on s) [] es) later

-- ticks of a past that goes on

ticks_join : (a b : Past) → ticks (a ++ b) ≡ ticks a + ticks b
unfolding ticks
ticks_join [] b = omega arith
ticks_join (e ∷ a) b = go (is tick e) (ticks_join a b)
  where
    go : (t : Bool) → ticks (a ++ b) ≡ ticks a + ticks b → cond t (suc (ticks (a ++ b))) (ticks (a ++ b)) ≡ cond t (suc (ticks a)) (ticks a) + ticks b
    go true q = omega arith
    go false q = q

since_join : (p : Event → Bool) (a h : Past) → some p a ≡ false → since p (a ++ h) ≡ a ++ since p h
unfolding some since
since_join p [] h q = refl
since_join p (e ∷ a) h q = rw (or_l (p e) _ q) (ap (e ∷◌) (since_join p a h (or_r (p e) _ q)))

late : (k : Kind) (a h : Past) → some (is k) a ≡ false → ticks a ≤ ticks_since k (a ++ h)
unfolding ticks_since
late k a h q = rw (since_join (is k) a h q, ticks_join) (omega arith)

-- an event is a tick, or of another kind

abbrev Other : Kind → Type 0
Other k = eqb (kind_number k) 17 ≡ false

module _ (code : ℕ) where
  bay_other : Other (bay_writes code)
  unfolding bay_writes kind_number
  bay_other = choose Other (eqb code 0x14) _ _ (λ _. refl) (λ _. choose Other (eqb code 0x15) _ _ (λ _. refl) (λ _. choose Other (eqb code 0x16) _ _ (λ _. refl) (λ _. refl)))

  writes_other : (address : ℕ) → Other (by_address address (host_writes_charger code) (host_writes_selector code))
  unfolding by_address host_writes_charger host_writes_selector kind_number
  writes_other address =
      choose Other (eqb address 0x12) _ _ (λ _. choose Other (eqb code 0x12) _ _ (λ _. refl) (λ _. bay_other))
      (λ _. choose Other (eqb address 0x14) _ _ (λ _. choose Other (eqb code 0x01) _ _ (λ _. refl) (λ _. choose Other (eqb code 0x02) _ _ (λ _. refl) (λ _. refl)))
      (λ _. refl))

  reads_other : (address : ℕ) → Other (by_address address (host_reads_charger code) (host_reads_selector code))
  unfolding by_address host_reads_charger host_reads_selector kind_number
  reads_other address =
      choose Other (eqb address 0x12) _ _ (λ _. choose Other (eqb code 0x11) _ _ (λ _. refl) (λ _. choose Other (eqb code 0x13) _ _ (λ _. refl) (λ _. refl)))
      (λ _. choose Other (eqb address 0x14) _ _
      (λ _. choose Other (eqb code 0x01) _ _ (λ _. refl) (λ _. choose Other (eqb code 0x02) _ _ (λ _. refl) (λ _. choose Other (eqb code 0x04) _ _ (λ _. refl) (λ _. refl))))
      (λ _. refl))

tick_or_other : (e : Event) → (e ≡ Tick) ⊎ (is tick e ≡ false)
unfolding is kind_of kind_number
tick_or_other Tick = inl refl
tick_or_other (HostWrite a c w) = inr (writes_other c a)
tick_or_other (HostRead a c) = inr (reads_other c a)
tick_or_other (BayWord b c w) = inr (bay_other c)
tick_or_other (Insertion b) = inr refl
tick_or_other (Removal b) = inr refl
tick_or_other (Signal b ohms) = inr refl
tick_or_other (Terminal b mv) = inr refl
tick_or_other (Ac p) = inr refl

-- from power-on of a good setup every tick is heard

module _ (s : Setup) (g : good_setup s ≡ true) where
  one_heard : (es : List Event) (e : Event) → ticks (hear e (step_spec (run s es) e).answer []) ≡ cond (is tick e) 1 0
  unfolding hear ticks
  one_heard es e = ⊎_elim heard (unheard (step_spec (run s es) e).answer) (tick_or_other e)
    where
      heard : e ≡ Tick → ticks (hear e (step_spec (run s es) e).answer []) ≡ cond (is tick e) 1 0
      heard q = rw (q, (ticks_and_ac_heard s g es).0)

      unheard : (a : Said) → is tick e ≡ false → ticks (hear e a []) ≡ cond (is tick e) 1 0
      unheard done q = refl
      unheard (word w) q = refl
      unheard (refused n) q = sym (rw q)

  all_heard : (es later : List Event) → ticks (heard_from (run s es) later) ≡ ticks later
  unfolding ticks said_from accepted run run_from
  all_heard es [] = refl
  all_heard es (e ∷ later) = go (is tick e) (one_heard es e) (subst (λ m. ticks (heard_from m later) ≡ ticks later) (run_on (power_on s) es (e ∷ [])) (all_heard (es ++ e ∷ []) later))
    where
      t : Told
      t = step_spec (run s es) e

      go : (i : Bool) → ticks (hear e t.answer []) ≡ cond i 1 0 → ticks (heard_from t.machine later) ≡ ticks later →
          ticks (heard_from (run s es) (e ∷ later)) ≡ cond i (suc (ticks later)) (ticks later)
      go true one rest = ap ticks (heard_on t.machine (record { event = e; answer = t.answer } ∷ []) later) ∙ rw (ticks_join, one, rest) (omega arith)
      go false one rest = ap ticks (heard_on t.machine (record { event = e; answer = t.answer } ∷ []) later) ∙ rw (ticks_join, one, rest) (omega arith)

-- so 175 ticks run a request out, whatever else comes
pub runs_out_whatever_comes : RunsOutWhateverComes
runs_out_whatever_comes s es later n quiet =
    zero_unless s (es ++ later)
    (λ x. let g = good_setup_lem s (es ++ later) x in
    ⊎_elim (λ q. omega (arith, too_late g current_word q, x.in_time.0)) (λ q. omega (arith, too_late g voltage_word q, x.in_time.1)) quiet)
  where
    too_late : good_setup s ≡ true → (k : Kind) → some (is k) (heard_from (run s es) later) ≡ false → 175 ≤ ticks_since k (past s (es ++ later))
    too_late g k q = rw (past_on s es later) (omega (arith, late k (heard_from (run s es) later) (past s es) q, all_heard s g es later))
