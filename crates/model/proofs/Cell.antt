-- A request with its age, and what the past says of it: the word asked, and the ticks since.
use Prim.Native.Nat.{ℕ, zero, suc, min, ◌+◌, ◌≤◌, ◌<◌}
use mathlib.Core.Path.{◌≡◌, refl, sym}
use mathlib.Core.Bool.{Bool, true, false, cond, ◌&&◌}
use lib.Dec.{ltb, eqb}
use borrow.Author.Tests.{ltb-true, ltb-false, lt-ltb, eq-eqb, ne_eqb}
use native.Mathlib.Omega.{arith}
use Rattle.model.specs.declared.Request.{Request}
use Rattle.model.specs.declared.Event.{Event}
use Rattle.model.specs.Events.{Kind, tick, is, word_of, zeroes}
use Rattle.model.specs.ChargerRules.{older, request_after, age_after}
use Rattle.model.proofs.Bools.{cond_same}

pub record Cell (request age word ticks : ℕ) : Type 0 where
  pub request_is : request ≡ cond (ltb ticks 175) word 0
  pub age_is : (word ≡ 0 → ⊥) → age ≡ min ticks 175

-- a tick
pub older_is : (age ticks : ℕ) → age ≡ min ticks 175 → older age ≡ min (suc ticks) 175
older_is age ticks e = go (ltb age 175) refl
  where
    go : (b : Bool) → ltb age 175 ≡ b → cond b (age + 1) age ≡ min (suc ticks) 175
    go true q = omega (arith, ltb-true age 175 q)
    go false q = omega (arith, ltb-false age 175 q)

ticked : (request age word ticks : ℕ) → request ≡ cond (ltb ticks 175) word 0 → ((word ≡ 0 → ⊥) → age ≡ min ticks 175) →
    cond (eqb (older age) 175) 0 request ≡ cond (ltb (suc ticks) 175) word 0
ticked request age zero ticks r a = simp (r, cond_same)
ticked request age (suc w) ticks r a = go (ltb (suc ticks) 175) refl
  where
    g : older age ≡ min (suc ticks) 175
    g = older_is age ticks (a (λ z. omega arith))

    go : (b : Bool) → ltb (suc ticks) 175 ≡ b → cond (eqb (older age) 175) 0 request ≡ cond b (suc w) 0
    go true q =
        let l : suc ticks < 175 = ltb-true _ _ q in
        rw (g, ne_eqb (min (suc ticks) 175) 175 (λ z. omega arith), r, lt-ltb ticks 175 (omega arith))
    go false q =
        let l : 175 ≤ suc ticks = ltb-false _ _ q in
        rw (g, eq-eqb (min (suc ticks) 175) 175 (omega arith))

-- after an event: f is a fresh start
pub cell_step : (f : Bool) (k : Kind) (e : Event) (r : Request) {word ticks : ℕ} → Cell r.word r.age word ticks →
    Cell
    (request_after f k e r)
    (age_after f k e r)
    (cond f 0 (cond (zeroes e) 0 (cond (is k e) (word_of e) word)))
    (cond (is k e) 0 (cond (is tick e) (suc ticks) ticks))
unfolding request_after age_after
cell_step f k e r {word} {ticks} c = go f (zeroes e) (is k e) (is tick e)
  where
    go : (f z k t : Bool) →
        Cell
        (cond f 0 (cond z 0 (cond k (word_of e) (cond (t && eqb (older r.age) 175) 0 r.word))))
        (cond f 0 (cond k 0 (cond t (older r.age) r.age)))
        (cond f 0 (cond z 0 (cond k (word_of e) word)))
        (cond k 0 (cond t (suc ticks) ticks))
    go true z k t = record { request_is = sym (rw cond_same); age_is = λ n. absurd (n refl) }
    go false true k t = record { request_is = sym (rw cond_same); age_is = λ n. absurd (n refl) }
    go false false true t = record { request_is = refl; age_is = λ n. refl }
    go false false false true = record { request_is = ticked _ _ _ _ c.request_is c.age_is; age_is = λ n. older_is _ _ (c.age_is n) }
    go false false false false = c

pub cell_zero : Cell 0 0 0 0
cell_zero = record { request_is = refl; age_is = λ n. refl }
