-- The supported bays, the bays that hold a pack and the bay that is named, by their nibbles.
use Prim.Native.Nat.{ℕ, ◌≤◌, ◌<◌}
use mathlib.Core.Path.{◌≡◌}
use mathlib.Core.Bool.{false}
use mathlib.Core.List.{List}
use lib.Dec.{ltb}
use borrow.Author.Tests.{ltb-true, ltb-false}
use Rattle.model.specs.declared.Bay.{Bay}
use Rattle.model.specs.declared.Setup.{Setup}
use Rattle.model.specs.Words.{bit}
use Rattle.model.specs.Bays.{bay_at}
use Rattle.model.specs.Reads.{present_nibble}
use Rattle.model.specs.Refusals.{supports, one_bay}
use Rattle.words.specs.Masks.{among, one_of}
use Rattle.words.proofs.Below.{by_test}
use Rattle.words.proofs.OneBit.{bay_ltb, past_end}
use Rattle.words.proofs.Masks.{bit_four, four_lt}
use Rattle.machine.specs.ByNumber.{bay_in}

-- 0 or one supported bay
pub one_supported : (s : Setup) (n : ℕ) → one_of s.supported n ≡ one_bay s n
unfolding one_bay supports among
one_supported s n = simp bay_ltb

-- a nibble has no bit past its four
past_four : (n b : ℕ) → n < 16 → 4 ≤ b → bit b n ≡ false
unfolding bit
past_four n b l h = rw (past_end 4 b n h l)

-- bay b holds a pack
pub present_in : (bays : List Bay) (b : ℕ) → bit b (present_nibble bays) ≡ (bay_in bays b).present
unfolding present_nibble bay_in
present_in bays b =
    by_test (ltb b 4) (λ q. rw q (bit_four (λ b. (bay_at bays b).present) b (ltb-true b 4 q)))
    (λ q. rw q (past_four (present_nibble bays) b (four_lt (bay_at bays 0).present (bay_at bays 1).present (bay_at bays 2).present (bay_at bays 3).present) (ltb-false b 4 q)))
