use Prim.Native.Nat.{◌/◌, ◌^◌}
use lib.Bits.{and_mask}
use native.Mathlib.Omega.{arith}
use Rattle.model.specs.Words as words
use Rattle.words.proofs.OneBit.{past_end}
use Rattle.words.proofs.bit.Goals as goal

pub returns-then-k-lt16 : goal.returns-then-k-lt16
unfolding words.bit
returns-then-k-lt16 c = let a = c.args in simp (and_mask (a.word / 2 ^ a.k) 1)

pub returns-else-k-lt16 : goal.returns-else-k-lt16
unfolding words.bit
returns-else-k-lt16 c = let a = c.args in simp (past_end 16 a.k a.word c.if-k-lt16.false (omega arith))
