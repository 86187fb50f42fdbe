-- A rule of every number below a bound, by one test that is computed at each.
use mathlib.Core.Path.{◌≡◌, refl, subst, sym}
use mathlib.Core.Bool.{Bool, true, false, not, ◌&&◌}
use mathlib.Core.Logic.{⊎_elim}
use Prim.Native.Nat.{ℕ, zero, suc, ◌<◌}
use native.Mathlib.Nat.{not-suc-le-zero, eq-or-lt_of_le, le_of_suc-le-suc}
use lib.Dec.{T}

both_left : (a b : Bool) → T (a && b) → T a
both_left true b t = tt
both_left false b t = t

both_right : (a b : Bool) → T (a && b) → T b
both_right true b t = t
both_right false b t = absurd t

-- the test passes at each number below n
abbrev pub all : (ℕ → Bool) → ℕ → Bool
all test zero = true
all test (suc n) = test n && all test n

-- so it passes at k
pub at : (test : ℕ → Bool) (n : ℕ) → T (all test n) → (k : ℕ) → k < n → T (test k)
at test zero t k h = absurd (not-suc-le-zero h)
at test (suc n) t k h =
    ⊎_elim (λ e. subst (λ (m : ℕ). T (test m)) (sym e) (both_left (test n) (all test n) t))
    (λ l. at test n (both_right (test n) (all test n) t) k l)
    (eq-or-lt_of_le (le_of_suc-le-suc h))

-- the same for two numbers
pub at_both : (test : ℕ → ℕ → Bool) (n : ℕ) → T (all (λ i. all (test i) n) n) → (i k : ℕ) → i < n → k < n → T (test i k)
at_both test n t i k hi hk = at (test i) n (at (λ i. all (test i) n) n t i hi) k hk

-- two truths are the same, as a test
abbrev pub agree : Bool → Bool → Bool
agree true b = b
agree false b = not b

pub agreed : (a b : Bool) → T (agree a b) → a ≡ b
agreed true true t = refl
agreed false false t = refl
agreed true false t = absurd t
agreed false true t = absurd t

-- by a test's two outcomes
pub by_test : {P : Type 0} (b : Bool) → (b ≡ true → P) → (b ≡ false → P) → P
by_test true f g = f refl
by_test false f g = g refl
