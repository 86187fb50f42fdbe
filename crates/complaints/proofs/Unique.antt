-- No two outcomes fit the contract of a public function: one answer, and every byte of the buffer the same.
use mathlib.Core.Path.{◌≡◌, sym, ◌∙◌}
use Rattle.model.proofs.Outcomes.{NoTwoOutcomes}
use Rattle.model.proofs.Numbers.{apart}
use Rattle.layout.specs.Writing.{placed}
use Rattle.layout.proofs.Values.{written_of, written_back}
use Rattle.complaints.proofs.complain.Kinds as complain_kinds
use Rattle.complaints.proofs.complain.Reads as complain_reads

pub complain_one : NoTwoOutcomes 2 complain_kinds.ps complain_kinds.r complain_reads.Post (λ κs x y s t. (x ≡ y) × (s.0.now ≡ t.0.now))
complain_one κs a x y s t p q = (apart placed written_of written_back x y (p.0 ∙ sym q.0), p.1 ∙ sym q.1)
