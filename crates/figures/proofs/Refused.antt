-- A number above 65535 is refused in every place of a setup, as the word is that stands for it.
use Prim.Native.Nat.{ℕ, ◌≤◌, ◌<◌}
use native.Mathlib.Omega.{arith}
use mathlib.Core.Path.{◌≡◌, refl}
use mathlib.Core.Bool.{Bool, true, false, ◌&&◌, ◌||◌}
use lib.Dec.{eqb, leb, ltb}
use borrow.Author.Tests.{ne_eqb, lt-leb, le-ltb, leb-true, leb-false}
use Rattle.model.specs.Refusals.{good_limit, good_wake, good_setup}
use Rattle.figures.specs.Figures.{word_for}
use Rattle.figures.specs.Promises.{LargeNumbersRefused}

-- a number is its word, or too large
which : {Q : Type 0} (beyond n : ℕ) → (word_for beyond n ≡ n → n ≤ 65535 → Q) → (word_for beyond n ≡ beyond → 65535 < n → Q) → Q
unfolding word_for
which {Q} beyond n f g = go (leb n 65535) refl
  where
    go : (b : Bool) → leb n 65535 ≡ b → Q
    go true q = f (rw q) (leb-true n 65535 q)
    go false q = g (rw q) (leb-false n 65535 q)

-- nothing is at once more than 0 and not more
none_between : (n : ℕ) → (leb 1 n && leb n 0) ≡ false
none_between n = go (leb 1 n) refl
  where
    go : (b : Bool) → leb 1 n ≡ b → (b && leb n 0) ≡ false
    go true q = let l = leb-true 1 n q in lt-leb n 0 (omega arith)
    go false q = refl

false_behind : (b : Bool) → (b && false) ≡ false
false_behind true = refl
false_behind false = refl

bays : (n : ℕ) → (eqb (word_for 0 n) 1 || eqb (word_for 0 n) 3 || eqb (word_for 0 n) 7 || eqb (word_for 0 n) 15) ≡ (eqb n 1 || eqb n 3 || eqb n 7 || eqb n 15)
bays n =
    which 0 n
    (λ w h. rw w)
    (λ w h. rw (w, ne_eqb n 1 (λ z. omega arith), ne_eqb n 3 (λ z. omega arith), ne_eqb n 7 (λ z. omega arith), ne_eqb n 15 (λ z. omega arith)))

limit : (l s : ℕ) → (leb 1 (word_for 0 s) && leb (word_for 0 s) (word_for 0 l) && leb (word_for 0 l) 65534) ≡ (leb 1 s && leb s l && leb l 65534)
limit l s =
    which 0 l
    (λ w h.
    which 0 s
    (λ v i. rw (w, v))
    (λ v i. rw (v, lt-leb s l (omega arith), false_behind)))
    (λ w h. rw (w, lt-leb l 65534 (omega arith), none_between (word_for 0 s), false_behind))

levels : (low restart : ℕ) → (ltb 0 (word_for 0 low) && ltb (word_for 0 low) (word_for 0 restart) && leb (word_for 0 restart) 65535) ≡ (ltb 0 low && ltb low restart && leb restart 65535)
levels low restart =
    which 0 restart
    (λ w h.
    which 0 low
    (λ v i. rw (w, v))
    (λ v i. rw (v, le-ltb low restart (omega arith), false_behind)))
    (λ w h. rw (w, lt-leb restart 65535 (omega arith), le-ltb (word_for 0 low) 0 (omega arith), false_behind, false_behind))

-- a safe value that is too large is above the largest, or the largest is too large
too_large : (l s : ℕ) → 65535 < s → (leb 1 s && leb s l && leb l 65534) ≡ false
too_large l s h = go (leb s l) refl
  where
    go : (b : Bool) → leb s l ≡ b → (leb 1 s && b && leb l 65534) ≡ false
    go true q = let k = leb-true s l q in rw (lt-leb l 65534 (omega arith), false_behind)
    go false q = rw false_behind

-- the wake pair, beside safe values that are not
wake : (safe_ma safe_mv ma mv : ℕ) → safe_mv ≤ 65535 →
    (leb (word_for 65535 ma) 100 && leb (word_for 65535 ma) safe_ma && leb 1 (word_for 0 mv) && leb (word_for 0 mv) safe_mv)
    ≡ (leb ma 100 && leb ma safe_ma && leb 1 mv && leb mv safe_mv)
wake safe_ma safe_mv ma mv l =
    which 65535 ma
    (λ w h.
    which 0 mv
    (λ v i. rw (w, v))
    (λ v i. rw (w, v, lt-leb mv safe_mv (omega arith), false_behind, false_behind)))
    (λ w h. rw (w, lt-leb ma 100 (omega arith)))

pub large_numbers_refused : LargeNumbersRefused
unfolding good_setup good_limit good_wake
large_numbers_refused a b c d e f g h i =
    rw (bays a, limit b c, limit d e, levels f g)
    (which 0 c
    (λ v _.
    which 0 e
    (λ w l. rw (v, w, wake c e h i l))
    (λ w l. rw (too_large d e l, false_behind)))
    (λ v l. rw (too_large b c l, false_behind)))
