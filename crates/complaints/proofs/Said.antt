-- The parts of what is said, one behind the other, where there is room for the longest.
use Prim.Native.Nat.{ℕ, ◌+◌, ◌≤◌}
use native.Mathlib.Omega.{arith}
use mathlib.Core.Path.{◌≡◌}
use mathlib.Core.List.{List, []}
use mathlib.Core.Bool.{true}
use lib.ListN.{length, get_or, length-append}
use Rattle.layout.specs.Writing.{up_to}
use Rattle.spelling.specs.Text.{text, decimal}
use Rattle.pieces.specs.Pieces.{fits, piece_spec, piece_after}
use Rattle.pieces.specs.declared.Line.{Line}
use Rattle.pieces.specs.Placing.{Puts, Tries}
use Rattle.pieces.proofs.Room.{with_fit}
use Rattle.pieces.proofs.Moves.{then, next, both, line_there}
use Rattle.notation.specs.declared.Field.{Field}
use Rattle.notation.specs.Words.{words_of}
use Rattle.notation.specs.Complaints.{name_of, expected, found, complaint, longest_complaint}
use Rattle.notation.proofs.Complaints.{complaints_fit}
use Rattle.complaints.specs.Saying.{subject}

-- they fit
pub parts_fit : (n : ℕ) (line : List ℕ) (f : Field) (k : ℕ)
    → length (subject n f) + length (expected f) + length (found f (get_or (words_of line) k [])) + 9 ≤ longest_complaint
unfolding complaint subject text
parts_fit n line f k = let s = simp length-append at (complaints_fit n line f k) in simp length-append (omega arith)

-- the front
pub subject_put : (x x₁ x₂ x₃ x₄ x₅ : Line) (n : ℕ) (f : Field)
    → Tries x x₁ (text "line ") → Tries x₁ x₂ (decimal n) → Tries x₂ x₃ (text ": ") → Tries x₃ x₄ (name_of f) → Tries x₄ x₅ (text ": expected ")
    → x.place + length (subject n f) ≤ length x.out.now → Puts x x₅ (subject n f)
unfolding subject text
subject_put x x₁ x₂ x₃ x₄ x₅ n f h₁ h₂ h₃ h₄ h₅ room =
    let r = simp length-append at room in
    let two = both _ _ _ _ _ h₁ h₂ (omega arith) in
    let three = next _ _ _ _ _ two h₃ (simp length-append (omega arith)) in
    let four = next _ _ _ _ _ three h₄ (simp length-append (omega arith)) in
    next _ _ _ _ _ four h₅ (simp length-append (omega arith))

-- all of it
pub complaint_put : (x x₁ x₂ x₃ x₄ x₅ : Line) (n : ℕ) (line : List ℕ) (f : Field) (k : ℕ)
    → Puts x x₁ (subject n f) → Puts x₁ x₂ (expected f) → Tries x₂ x₃ (text ", found ") → Puts x₃ x₄ (found f (get_or (words_of line) k [])) → Tries x₄ x₅ (text "\n")
    → fits longest_complaint (length x.out.now) x.place ≡ true
    → (up_to x₅.place ≡ piece_spec longest_complaint (length x.out.now) x.place (complaint n line f k)) × (x₅.out.now ≡ piece_after longest_complaint x.out.now x.place (complaint n line f k))
unfolding complaint subject text
complaint_put x x₁ x₂ x₃ x₄ x₅ n line f k h₁ h₂ h₃ h₄ h₅ room =
    let r = with_fit longest_complaint (length x.out.now) x.place room in
    let s = parts_fit n line f k in
    let two = then _ _ _ _ _ h₁ h₂ (omega arith) in
    let three = next _ _ _ _ _ two h₃ (rw length-append (omega arith)) in
    let four = then _ _ _ _ _ three h₄ (rw (length-append, length-append) (omega arith)) in
    line_there _ _ _ _ room (next _ _ _ _ _ four h₅ (rw (length-append, length-append, length-append) (omega arith)))
