-- The output is not zero exactly when the eight facts hold or those of the wake pair, is then the one pair or the other, and runs out.
use Prim.Native.Nat.{ℕ, min, ◌≤◌}
use mathlib.Core.Path.{◌≡◌, refl, sym, ◌∙◌, ap}
use mathlib.Core.Logic.{◌⊎◌, inl, inr, ⊎_elim}
use mathlib.Core.Bool.{Bool, true, false, cond, true≢false, false≢true}
use mathlib.Core.List.{List, [], ◌∷◌}
use lib.Dec.{eqb}
use borrow.Author.Tests.{leb-true, not-false}
use native.Mathlib.Omega.{arith}
use Rattle.model.specs.declared.Setup.{Setup}
use Rattle.model.specs.declared.Event.{Event}
use Rattle.model.specs.declared.Machine.{Machine}
use Rattle.model.specs.declared.Limit.{Limit}
use Rattle.model.specs.Board.{limited, no_output}
use Rattle.model.specs.Events.{current_word, is, zeroes, asks}
use Rattle.model.specs.Reads.{output}
use Rattle.model.specs.Refusals.{good_limit, good_setup, bad_machine}
use Rattle.model.specs.Machines.{act}
use Rattle.model.specs.Settling.{settle}
use Rattle.model.specs.Facts.{Past, latest, since, some, ac_present, since_fresh, asked, Eight, requested, eight_hold, Waking, wake_holds, output_told}
use Rattle.model.specs.Promises.{FlowsExactly, NeverTwo, CutToTheLimits, WakePairFlows, ExactlyEight, RunsOut, WakeRunsOut}
use Rattle.model.specs.Runs.{run, past}
use Rattle.model.proofs.Bools.{and_l, and_r, or_l, or_r}
use Rattle.model.proofs.Passes.{Passes}
use Rattle.model.proofs.Induction.{along}
use Rattle.model.proofs.Demand3.{agrees, eight, eight⁻¹, wake, wake⁻¹, output_is_told}

-- the limit rule gives 0 only for the request 0
limit_positive : (l : Limit) (w : ℕ) → good_limit l ≡ true → (w ≡ 0 → ⊥) → limited l w ≡ 0 → ⊥
unfolding limited good_limit
limit_positive l w g n = go (eqb w 65535)
  where
    p : 1 ≤ l.safe
    p = leb-true 1 l.safe (search (and_l, and_r))

    q : l.safe ≤ l.largest
    q = leb-true l.safe l.largest (search (and_l, and_r))

    go : (t : Bool) → cond t l.safe (min w l.largest) ≡ 0 → ⊥
    go true z = omega (arith, p, q)
    go false z = n (omega (arith, p, q))

-- a machine with a bad setup hears nothing
good_passes : (m : Machine) → bad_machine m ≡ false → good_setup m.setup ≡ true
unfolding bad_machine
good_passes m q = not-false _ (search or_l)

unheard : (s : Setup) (es : List Event) → good_setup (run s es).setup ≡ false → past s es ≡ []
unfolding settle act
unheard s = along (λ m h. good_setup m.setup ≡ false → h ≡ []) kept s (λ q. refl)
  where
    kept : (m : Machine) (e : Event) (h : Past) → Passes m e → (good_setup m.setup ≡ false → h ≡ []) →
        good_setup (settle (act m e)).setup ≡ false → e ∷ h ≡ []
    kept m e h p a q = absurd (true≢false (sym (good_passes m p.good) ∙ q))

-- so where the facts hold the setup is good
pub good_setup_lem : (s : Setup) (es : List Event) → Eight s (past s es) → good_setup s ≡ true
unfolding ac_present
good_setup_lem s es x = go (good_setup s) refl
  where
    go : (t : Bool) → good_setup s ≡ t → t ≡ true
    go true q = refl
    go false q = absurd (false≢true (rw (unheard s es (rw (agrees s es).setup_is q)) at x.ac))

-- where nothing was asked since the fresh start, there is no current word that counts
none_asked : (h : Past) → some asks h ≡ false → latest (is current_word) (since zeroes h) ≡ 0
unfolding latest since some asks
none_asked [] q = refl
none_asked (e ∷ h) q = go (zeroes e) (none_asked h (or_r (asks e) (some asks h) q))
  where
    current : is current_word e ≡ false
    current = search (or_l, or_r)

    go : (z : Bool) → latest (is current_word) (since zeroes h) ≡ 0 → latest (is current_word) (cond z [] (e ∷ since zeroes h)) ≡ 0
    go true ih = refl
    go false ih = rw current ih

pub never_two : NeverTwo
unfolding asked
never_two s h x y = x.current_asked (none_asked (since_fresh h) y.unasked)

-- the output that is told: under the eight facts, under those of the wake pair, and under neither

whole : (s : Setup) (h : Past) → Eight s h → output_told s h ≡ requested s h
unfolding output_told
whole s h x = rw (eight⁻¹ s h x)

positive : (s : Setup) (h : Past) → good_setup s ≡ true → Eight s h → requested s h ≡ no_output → ⊥
unfolding requested good_setup
positive s h g x z = limit_positive s.current _ (search (and_l, and_r) depth 10) x.current_asked (ap (λ o. o.milliamps) z)

without : (s : Setup) (h : Past) → (Eight s h → ⊥) → eight_hold s h ≡ false
without s h n = go (eight_hold s h) refl
  where
    go : (t : Bool) → eight_hold s h ≡ t → t ≡ false
    go true q = absurd (n (eight s h q))
    go false q = refl

woken : (s : Setup) (h : Past) → Waking s h → output_told s h ≡ s.wake
unfolding output_told
woken s h x = rw (without s h (λ y. never_two s h y x), wake⁻¹ s h x)

-- which of the three it is
data Which (s : Setup) (h : Past) : Type 0 where
  by_request : Eight s h → Which s h
  by_wake_up : Waking s h → Which s h
  neither : (Eight s h → ⊥) → (Waking s h → ⊥) → output_told s h ≡ no_output → Which s h

decide : (s : Setup) (h : Past) → Which s h
unfolding output_told
decide s h = go (eight_hold s h) (wake_holds s h) refl refl
  where
    go : (t u : Bool) → eight_hold s h ≡ t → wake_holds s h ≡ u → Which s h
    go true u p q = by_request (eight s h p)
    go false true p q = by_wake_up (wake s h q)
    go false false p q = neither (λ x. true≢false (sym (eight⁻¹ s h x) ∙ p)) (λ x. true≢false (sym (wake⁻¹ s h x) ∙ q)) (rw (p, q))

pub cut_to_the_limits : CutToTheLimits
cut_to_the_limits s es x = output_is_told s es ∙ whole s (past s es) x

pub wake_pair_flows : WakePairFlows
wake_pair_flows s es x = output_is_told s es ∙ woken s (past s es) x

pub zero_unless : (s : Setup) (es : List Event) → (Eight s (past s es) → ⊥) → (Waking s (past s es) → ⊥) → output (run s es) ≡ no_output
zero_unless s es n w = go (decide s (past s es))
  where
    go : Which s (past s es) → output (run s es) ≡ no_output
    go (by_request x) = absurd (n x)
    go (by_wake_up x) = absurd (w x)
    go (neither x y z) = output_is_told s es ∙ z

pub flows_exactly : FlowsExactly
flows_exactly s es = (λ n. under_which n (decide s (past s es)), ⊎_elim requests wakes)
  where
    under_which : (output (run s es) ≡ no_output → ⊥) → Which s (past s es) → Eight s (past s es) ⊎ Waking s (past s es)
    under_which n (by_request x) = inl x
    under_which n (by_wake_up x) = inr x
    under_which n (neither x y z) = absurd (n (output_is_told s es ∙ z))

    requests : Eight s (past s es) → output (run s es) ≡ no_output → ⊥
    requests x z = positive s (past s es) (good_setup_lem s es x) x (sym (cut_to_the_limits s es x) ∙ z)

    wakes : Waking s (past s es) → output (run s es) ≡ no_output → ⊥
    wakes x z = x.switched_on (ap (λ o. o.milliamps) (sym (wake_pair_flows s es x) ∙ z))

pub exactly_eight : ExactlyEight
exactly_eight s es off =
    let both = flows_exactly s es in
    (λ n. ⊎_elim (λ x. x) (λ x. absurd (x.switched_on off)) (both.0 n), λ x. both.1 (inl x))

pub runs_out : RunsOut
runs_out s es late = zero_unless s es (λ x. ⊎_elim (λ l. omega (arith, x.in_time.0)) (λ l. omega (arith, x.in_time.1)) late)

pub wake_runs_out : WakeRunsOut
wake_runs_out s es late n = zero_unless s es n (λ x. omega (arith, x.in_time))
