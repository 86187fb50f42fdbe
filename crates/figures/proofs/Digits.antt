-- What holds from turn to turn of the loop over a text's digits, in any base.
use Prim.Native.Nat.{ℕ, zero, suc, ◌+◌, ◌-◌, ◌*◌, ◌≤◌, ◌<◌, min}
use native.Mathlib.Nat.{mul-le-mul}
use native.Mathlib.Numerals.{add-one}
use native.Mathlib.Omega.{arith}
use mathlib.Core.Path.{◌≡◌, refl, sym, ap, ◌∙◌}
use mathlib.Core.List.{List, [], ◌∷◌, ◌++◌}
use mathlib.Core.Bool.{Bool, true, false, ◌&&◌, and-false}
use lib.Dec.{eqb, leb}
use Rattle.std.specs.Prelude.{Some, None, if◌then◌else◌}
use Rattle.std.specs.List.{starts_with}
use lib.ListN.{length, get_or, take, drop, length-drop}
use lib.Seq.{take_all, take-suc, take-length}
use borrow.Author.Tests.{eq-eqb, ne_eqb, eqb-true, eqb-false, le-leb, lt-ltb, le-ltb, leb-true, leb-false, lt-leb}
use Rattle.model.proofs.Bools.{and_l}
use Rattle.spelling.specs.Text.{byte}
use Rattle.spelling.specs.Numbers.{digit_in, all_digits, value_from, Number, number, none, spelled, marked, number_in}
use Rattle.spelling.proofs.ReadBack.{value_last, digits_last}
use Rattle.figures.specs.Figures.{value_of, word_for, figure_for}

-- a byte between two others is not below the first
pub at_least : (low b high : ℕ) → (leb low b && leb b high) ≡ true → low ≤ b
at_least low b high h = leb-true low b (and_l (leb low b) (leb b high) h)

-- the first i bytes of t are digits, and value is their number, held at 2 ^ 32
pub record Spelled (base : ℕ) (t : List ℕ) (i value : ℕ) : Type 0 where
  pub inside : i ≤ length t
  pub digits : all_digits base (take i t) ≡ true
  pub held : value ≡ min (value_from base 0 (take i t)) 4294967296

pub starts : (base : ℕ) (t : List ℕ) → Spelled base t 0 0
unfolding all_digits value_from
starts base t = record { inside = omega arith; digits = refl; held = refl }

-- a number held at 2 ^ 32, with a digit more, is held there as the number itself would be
holds : (n base d : ℕ) → 1 ≤ base → min (min n 4294967296 * base + d) 4294967296 ≡ min (n * base + d) 4294967296
holds n base d h = go (leb n 4294967296) refl
  where
    go : (b : Bool) → leb n 4294967296 ≡ b → min (min n 4294967296 * base + d) 4294967296 ≡ min (n * base + d) 4294967296
    go true q = let l = leb-true n 4294967296 q in let same : min n 4294967296 ≡ n = omega arith in rw same
    go false q =
        let l = leb-false n 4294967296 q in
        let same : min n 4294967296 ≡ 4294967296 = omega arith in
        let large : 4294967296 * 1 ≤ n * base = mul-le-mul {n₁ = 4294967296} {m₁ = 1} {n₂ = n} {m₂ = base} (omega arith) h in
        rw same (omega arith)

-- a number so held is small enough for one digit more
pub small_enough : (value base : ℕ) → value ≤ 4294967296 → base ≤ 16 → value * base ≤ 68719476736
small_enough value base h k = mul-le-mul {n₁ = value} {m₁ = base} {n₂ = 4294967296} {m₂ = 16} h k

-- a byte that is no digit
no_digits : (base : ℕ) (t : List ℕ) (i : ℕ) → i < length t → base ≤ digit_in (get_or t i 0) → all_digits base t ≡ false
unfolding all_digits
no_digits base [] i h k = absurd (omega arith)
no_digits base (x ∷ t) zero h k = rw (le-ltb (digit_in x) base k)
no_digits base (x ∷ t) (suc i) h k = rw (no_digits base t i (omega arith) k, and-false)

-- digits all through, and their number
whole : (base : ℕ) (t : List ℕ) → all_digits base t ≡ true → (if eqb (length t) 0 then None else Some (min (value_from base 0 t) 4294967296)) ≡ value_of (spelled base t)
unfolding value_from spelled value_of
whole base [] h = refl
whole base (x ∷ t) h = rw (ne_eqb (length (x ∷ t)) 0 (λ z. omega arith), h)

module _ (base : ℕ) (t : List ℕ) (i value : ℕ) (s : Spelled base t i value) where
  pub goes_on : 1 ≤ base → i < length t → digit_in (get_or t i 0) < base → (v : ℕ) → v ≡ min (value * base + digit_in (get_or t i 0)) 4294967296 → Spelled base t (i + 1) v
  goes_on b h k v p =
      let one : take (i + 1) t ≡ take i t ++ byte (get_or t i 0) = ap (λ (j : ℕ). take j t) (add-one i) ∙ take-suc t i 0 h in
      record {
        inside = omega arith;
        digits = rw one (digits_last base (take i t) (get_or t i 0) s.digits (lt-ltb _ _ k));
        held = rw (one, value_last base 0 (take i t) (get_or t i 0), p, s.held) (holds _ base _ b);
      }

  pub stops : i < length t → base ≤ digit_in (get_or t i 0) → None ≡ value_of (spelled base t)
  unfolding spelled value_of
  stops h k = rw (no_digits base t i h k, and-false)

  pub ends : length t ≤ i → (b : Bool) → b ≡ eqb (length t) 0 → (if b then None else Some value) ≡ value_of (spelled base t)
  ends h b e =
      let inside = s.inside in
      let at_end : i ≡ length t = omega arith in
      let all : take i t ≡ t = ap (λ (j : ℕ). take j t) at_end ∙ take-length t in
      let digits : all_digits base t ≡ true = ap (all_digits base) (sym all) ∙ s.digits in
      rw (e, s.held, all) (whole base t digits)

-- BEHIND `0x`

-- equality turned round, and a test that adds nothing
turned : (a b : ℕ) → eqb a b ≡ eqb b a
turned a b = go (eqb b a) refl
  where
    go : (t : Bool) → eqb b a ≡ t → eqb a b ≡ t
    go true q = eq-eqb a b (sym (eqb-true b a q))
    go false q = ne_eqb a b (λ e. eqb-false b a q (sym e))

and_true : (b : Bool) → (b && true) ≡ b
and_true true = refl
and_true false = refl

-- as `starts_with` tests it
pub begins : (w : List ℕ) → starts_with eqb w (48 ∷ 120 ∷ []) ≡ marked w
unfolding marked
begins [] = refl
begins (x ∷ []) = and-false (eqb 48 x)
begins (x ∷ y ∷ t) = rw (le-leb 2 (length (x ∷ y ∷ t)) (omega arith), turned 48 x, turned 120 y, and_true)

module _ (w : List ℕ) where
  pub long_enough : marked w ≡ true → 2 ≤ length w
  unfolding marked
  long_enough h =
      leb-true 2 (length w)
      (and_l (leb 2 (length w)) (eqb (get_or w 0 0) 48) (and_l (leb 2 (length w) && eqb (get_or w 0 0) 48) (eqb (get_or w 1 0) 120) h))

  pub hexadecimal : marked w ≡ true → spelled 16 (take (length w - 2) (drop 2 w)) ≡ number_in w
  unfolding number_in
  hexadecimal h = rw (h, take_all (length w - 2) (drop 2 w) (rw length-drop (omega arith)))

  pub plain : marked w ≡ false → spelled 10 w ≡ number_in w
  unfolding number_in
  plain h = rw h

-- THE WORD OF A NUMBER

-- a number held at 2 ^ 32 gives the same word
same_word : (beyond n : ℕ) → word_for beyond (min n 4294967296) ≡ word_for beyond n
unfolding word_for
same_word beyond n = go (leb n 65535) refl
  where
    go : (b : Bool) → leb n 65535 ≡ b → word_for beyond (min n 4294967296) ≡ word_for beyond n
    go true q = let l = leb-true n 65535 q in let same : min n 4294967296 ≡ n = omega arith in ap (word_for beyond) same
    go false q = let l = leb-false n 65535 q in rw (lt-leb (min n 4294967296) 65535 (omega arith), q)

pub figure_got : (beyond : ℕ) (n : Number) (v : ℕ) → value_of n ≡ Some v → Some (word_for beyond v) ≡ figure_for beyond n
unfolding value_of figure_for
figure_got beyond (number n) v h = let e : min n 4294967296 ≡ v = cc in rw (← e, same_word)
figure_got beyond none v h = cc

pub figure_lacks : (beyond : ℕ) (n : Number) → value_of n ≡ None → None ≡ figure_for beyond n
unfolding value_of figure_for
figure_lacks beyond (number n) h = cc
figure_lacks beyond none h = refl
