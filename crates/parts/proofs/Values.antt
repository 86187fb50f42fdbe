-- No two parts of the code stand for one answer: it has an inverse where states and ends have one.
use Rattle.std.specs.Prelude.{Option, Some, None}
use mathlib.Core.Path.{◌≡◌, refl, ap, ◌∙◌}
use Rattle.parts.specs.declared.Part.{Part}
use Rattle.parts.specs.Parts.{Standing, opened, closed, Answered, stands, shown_by}

module _ {L E S O : Type 0} (see : L → S) (told : E → O) (state_of : S → L) (end_of : O → E) where
  standing_end : Standing O → Option E
  standing_end opened = None
  standing_end (closed o) = Some (end_of o)

  pub part_of : Answered S O → Part L E
  part_of a = record { end = standing_end a.standing; state = state_of a.state; taken = a.taken; place = a.place }

  module _ (state_back : (st : L) → state_of (see st) ≡ st) (end_back : (e : E) → end_of (told e) ≡ e) where
    standing_back : (x : Option E) → standing_end (stands told x) ≡ x
    unfolding standing_end
    standing_back None = refl
    standing_back (Some e) = ap Some (end_back e)

    pub part_back : (p : Part L E) → part_of (shown_by see told p) ≡ p
    unfolding part_of shown_by
    part_back p =
        ap (λ (x : Option E). record { end = x; state = state_of (see p.state); taken = p.taken; place = p.place }) (standing_back p.end)
        ∙ ap (λ (st : L). record { end = p.end; state = st; taken = p.taken; place = p.place }) (state_back p.state)
