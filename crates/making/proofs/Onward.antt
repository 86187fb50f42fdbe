-- How far it has come, step by step.
use Rattle.std.proofs.Common.{◌≡◌, ℕ, ◌+◌, ◌-◌, ◌≤◌, ◌<◌, ◌^◌, Bool, true, false, List, [], ◌++◌, Option, None, Some, IfSome, length, drop, refl, sym, ap, subst, ◌∙◌, append_assoc, append-nil, arith, ltb, ◌||◌, length-append, length-drop}
use mathlib.Core.Bool.{true≢false}
use borrow.Author.Tests.{ltb-false}
use mathlib.Core.Logic.{◌⊎◌, inl, inr}
use Rattle.std.specs.Io.KnownBytes.{Appends}
use Rattle.std.proofs.KnownBytes.{Appends-trans, Appends-nil}
use Rattle.window.specs.declared.Window.{Window}
use Rattle.window.specs.Windows.{between, behind, at_hand, Streams, Ends}
use Rattle.window.proofs.Places.{rest_is_at_hand}
use Rattle.parts.specs.declared.Part.{Part}
use Rattle.making.specs.declared.Ended.{Ended}
use Rattle.making.specs.Making.{AppendsFront, Makes, IsLong, EndsAt, ended_at}

-- n steps from the state st₀ with the bytes xs: a text is written, and what is still to come of what is at hand and of the bytes ys behind it
-- makes it the whole
pub record Reached {S E : Type 0} (text : S → List ℕ → List ℕ) (ends : S → List ℕ → E → S → List ℕ → Type 0) (used : S → ℕ) (st₀ : S) (xs : List ℕ) (c₀ : Option (List ℕ)) (st : S) (ys : List ℕ) (c : Option (List ℕ)) (hand : List ℕ) (last : Bool) (n : ℕ) : Type 0 where
  pub written : List ℕ
  pub appended : Appends c₀ c written
  pub whole : text st₀ xs ≡ written ++ text st (hand ++ ys)
  pub outcome : (e : E) (fin : S) (left : List ℕ) → ends st (hand ++ ys) e fin left → ends st₀ xs e fin left
  pub no_more : last ≡ true → ys ≡ []
  pub counted : used st + length hand + length ys ≤ used st₀ + length xs
  pub steps : n + (length ys + length ys) + length hand ≤ length xs + length xs + length written

-- that, where the bytes are known
abbrev pub so_far : {S E : Type 0} → (S → List ℕ → List ℕ) → (S → List ℕ → E → S → List ℕ → Type 0) → (S → ℕ) → S → Option (List ℕ) → Option (List ℕ) → S → Option (List ℕ) → Option (List ℕ) → List ℕ → Bool → ℕ → Type 0
so_far text ends used st₀ None c₀ st left c hand last n = Unit
so_far text ends used st₀ (Some xs) c₀ st None c hand last n = ⊥
so_far text ends used st₀ (Some xs) c₀ st (Some ys) c hand last n = Reached text ends used st₀ xs c₀ st ys c hand last n

pub record Onward {S E : Type 0} (text : S → List ℕ → List ℕ) (ends : S → List ℕ → E → S → List ℕ → Type 0) (used : S → ℕ) (st₀ : S) (b₀ c₀ : Option (List ℕ)) (st : S) (b c : Option (List ℕ)) (hand : List ℕ) (last : Bool) (n : ℕ) : Type 0 where
  pub made : so_far text ends used st₀ b₀ c₀ st b c hand last n

module _ {S E : Type 0} (text : S → List ℕ → List ℕ) (ends : S → List ℕ → E → S → List ℕ → Type 0) (used : S → ℕ) (st₀ : S) where
  -- nothing has been read
  starts_so_far : (b c : Option (List ℕ)) → so_far text ends used st₀ b c st₀ b c [] false 0
  starts_so_far None c = tt
  starts_so_far (Some xs) c =
      record {
        written = [];
        appended = Appends-nil c;
        whole = refl;
        outcome = λ e fin left h. h;
        no_more = λ f. absurd (true≢false (sym f));
        counted = omega arith;
        steps = omega arith;
      }

  module _ (c₀ : Option (List ℕ)) (st : S) where
    -- more is read
    reads_so_far : (b₀ b b₁ c : Option (List ℕ)) (hand hand₁ : List ℕ) (last last₁ : Bool) (n : ℕ) → so_far text ends used st₀ b₀ c₀ st b c hand last n
        → Streams b b₁ hand hand₁ → Ends b b₁ last last₁ → length hand ≤ length hand₁ → so_far text ends used st₀ b₀ c₀ st b₁ c hand₁ last₁ (n + (length hand₁ - length hand))
    reads_so_far None b b₁ c hand hand₁ last last₁ n o s e m = tt
    reads_so_far (Some xs) None b₁ c hand hand₁ last last₁ n o s e m = absurd o
    reads_so_far (Some xs) (Some ys) None c hand hand₁ last last₁ n o s e m = absurd s
    reads_so_far (Some xs) (Some ys) (Some zs) c hand hand₁ last last₁ n o s e m =
        let z : length hand + length ys ≡ length hand₁ + length zs = sym (length-append hand ys) ∙ ap length s ∙ length-append hand₁ zs in
        let u = o.counted in
        let k = o.steps in
        record {
          written = o.written;
          appended = o.appended;
          whole = o.whole ∙ ap (λ (h : List ℕ). o.written ++ text st h) s;
          outcome = λ f fin left h. o.outcome f fin left (subst (λ (k : List ℕ). ends st k f fin left) (sym s) h);
          no_more = e o.no_more;
          counted = omega arith;
          steps = omega arith;
        }

    module _ (c c₁ : Option (List ℕ)) (hand : List ℕ) (last : Bool) (p : Part S E) (t : List ℕ) (n : ℕ) (m : Makes text ends st hand last p t) where
      -- a part is written, and it goes on
      goes_so_far : (b₀ b : Option (List ℕ)) → so_far text ends used st₀ b₀ c₀ st b c hand last n → p.end ≡ None → Appends c c₁ t → p.taken ≤ length hand → used p.state ≤ used st + p.taken
          → so_far text ends used st₀ b₀ c₀ p.state b c₁ (drop p.taken hand) last (n + p.taken + length t)
      goes_so_far None b o z a i u = tt
      goes_so_far (Some xs) None o z a i u = absurd o
      goes_so_far (Some xs) (Some ys) o z a i u =
          let g = m.goes_on ys o.no_more z in
          let d = length-drop p.taken hand in
          let b = length-append o.written t in
          let v = o.counted in
          let k = o.steps in
          record {
            written = o.written ++ t;
            appended = Appends-trans c₀ c c₁ o.written t o.appended a;
            whole = o.whole ∙ ap (λ (h : List ℕ). o.written ++ h) g.0 ∙ sym (append_assoc o.written t (text p.state (drop p.taken hand ++ ys)));
            outcome = λ e fin left h. o.outcome e fin left (g.1 e fin left h);
            no_more = o.no_more;
            counted = omega arith;
            steps = omega arith;
          }

      -- or that is the end
      ends_so_far : (e : E) → p.end ≡ Some e → (b₀ b : Option (List ℕ)) → so_far text ends used st₀ b₀ c₀ st b c hand last n → IfSome b₀ (λ xs. EndsAt (ends st₀ xs e p.state) (drop p.taken hand) b)
      ends_so_far e z None b o = tt
      ends_so_far e z (Some xs) None o = absurd o
      ends_so_far e z (Some xs) (Some ys) o = o.outcome e p.state (drop p.taken hand ++ ys) (m.is_over ys o.no_more e z).1

      -- all of it is written then
      over_so_far : (e : E) → p.end ≡ Some e → (b₀ b : Option (List ℕ)) → so_far text ends used st₀ b₀ c₀ st b c hand last n → Appends c c₁ t → IfSome b₀ (λ xs. Appends c₀ c₁ (text st₀ xs))
      over_so_far e z None b o a = tt
      over_so_far e z (Some xs) None o a = absurd o
      over_so_far e z (Some xs) (Some ys) o a =
          let w : text st₀ xs ≡ o.written ++ t = o.whole ∙ ap (λ (h : List ℕ). o.written ++ h) (m.is_over ys o.no_more e z).0 in
          rw w (Appends-trans c₀ c c₁ o.written t o.appended a)

      -- or a write of it failed
      breaks_so_far : (b₀ b : Option (List ℕ)) → so_far text ends used st₀ b₀ c₀ st b c hand last n → AppendsFront c c₁ t → IfSome b₀ (λ xs. AppendsFront c₀ c₁ (text st₀ xs))
      breaks_so_far None b o a = tt
      breaks_so_far (Some xs) None o a = absurd o
      breaks_so_far (Some xs) (Some ys) o (f, k, e, a) =
          let (r, z) = behind_it p.end refl in (
            o.written ++ f,
            k ++ r,
            o.whole ∙ ap (λ (h : List ℕ). o.written ++ h) (z ∙ ap (λ (h : List ℕ). h ++ r) e ∙ append_assoc f k r) ∙ sym (append_assoc o.written f (k ++ r)),
            Appends-trans c₀ c c₁ o.written f o.appended a,
          )
        where
          behind_it : (x : Option E) → p.end ≡ x → (r : List ℕ) × (text st (hand ++ ys) ≡ t ++ r)
          behind_it None q = (text p.state (drop p.taken hand ++ ys), (m.goes_on ys o.no_more q).0)
          behind_it (Some e) q = ([], (m.is_over ys o.no_more e q).0 ∙ sym (append-nil t))

    module _ (c : Option (List ℕ)) (hand : List ℕ) (last : Bool) (n : ℕ) where
      front_so_far : (b₀ b : Option (List ℕ)) → so_far text ends used st₀ b₀ c₀ st b c hand last n → IfSome b₀ (λ xs. AppendsFront c₀ c (text st₀ xs))
      front_so_far None b o = tt
      front_so_far (Some xs) None o = absurd o
      front_so_far (Some xs) (Some ys) o = (o.written, text st (hand ++ ys), o.whole, o.appended)

      -- fewer steps
      fewer_so_far : (b₀ b : Option (List ℕ)) (m : ℕ) → m ≤ n → so_far text ends used st₀ b₀ c₀ st b c hand last n → so_far text ends used st₀ b₀ c₀ st b c hand last m
      fewer_so_far None b m f o = tt
      fewer_so_far (Some xs) None m f o = absurd o
      fewer_so_far (Some xs) (Some ys) m f o =
          let k = o.steps in
          record { written = o.written; appended = o.appended; whole = o.whole; outcome = o.outcome; no_more = o.no_more; counted = o.counted; steps = omega arith }

      -- so many steps are made only of so much
      long_so_far : (b₀ b : Option (List ℕ)) → 18446744073709551615 ≤ n → so_far text ends used st₀ b₀ c₀ st b c hand last n → IfSome b₀ (λ xs. IsLong xs (text st₀ xs))
      long_so_far None b f o = tt
      long_so_far (Some xs) None f o = absurd o
      long_so_far (Some xs) (Some ys) f o =
          let a = ap length o.whole ∙ length-append o.written (text st (hand ++ ys)) in
          let k = o.steps in
          omega arith

      -- what is used up is used up by what was read
      used_so_far : (b₀ b : Option (List ℕ)) → 2 ^ 64 ≤ used st + length hand → so_far text ends used st₀ b₀ c₀ st b c hand last n → IfSome b₀ (λ xs. 2 ^ 64 ≤ used st₀ + length xs)
      used_so_far None b f o = tt
      used_so_far (Some xs) None f o = absurd o
      used_so_far (Some xs) (Some ys) f o = let v = o.counted in omega arith

-- THE SAME, WITH ITS ARGUMENTS FOUND

module _ {S E : Type 0} {text : S → List ℕ → List ℕ} {ends : S → List ℕ → E → S → List ℕ → Type 0} {used : S → ℕ} where
  pub starts : (st : S) (b c : Option (List ℕ)) (l : List ℕ) (w : Window) → w ≡ record { from = 0; to = 0; last = false } → Onward text ends used st b c st b c (at_hand l w) w.last 0
  unfolding between
  starts st b c l w e = rw e (record { made = starts_so_far text ends used st b c })

  -- the window is passed on
  pub passes : {st₀ st : S} {b₀ c₀ b c : Option (List ℕ)} {n : ℕ} (l : List ℕ) (w r : Window) (k : ℕ) → Onward text ends used st₀ b₀ c₀ st b c (drop k (at_hand l w)) w.last n → r ≡ behind w k
      → Onward text ends used st₀ b₀ c₀ st b c (at_hand l r) r.last n
  unfolding behind
  passes {st₀ = st₀} {st = st} {b₀ = b₀} {c₀ = c₀} {b = b} {c = c} {n = n} l w r k o e =
      rw e (subst (λ (h : List ℕ). Onward text ends used st₀ b₀ c₀ st b c h w.last n) (sym (rest_is_at_hand l w k)) o)

  module _ {st₀ st : S} {b₀ c₀ b c : Option (List ℕ)} {hand : List ℕ} {last : Bool} {n : ℕ} (o : Onward text ends used st₀ b₀ c₀ st b c hand last n) where
    pub front : IfSome b₀ (λ xs. AppendsFront c₀ c (text st₀ xs))
    front = front_so_far text ends used st₀ c₀ st c hand last n b₀ b o.made

    pub fewer : (m : ℕ) → m ≤ n → Onward text ends used st₀ b₀ c₀ st b c hand last m
    fewer m f = record { made = fewer_so_far text ends used st₀ c₀ st c hand last n b₀ b m f o.made }

    pub long : 18446744073709551615 ≤ n → IfSome b₀ (λ xs. IsLong xs (text st₀ xs))
    long f = long_so_far text ends used st₀ c₀ st c hand last n b₀ b f o.made

    pub all_used : 2 ^ 64 ≤ used st + length hand → IfSome b₀ (λ xs. 2 ^ 64 ≤ used st₀ + length xs)
    all_used f = used_so_far text ends used st₀ c₀ st c hand last n b₀ b f o.made

    pub reads_on : (b₁ : Option (List ℕ)) (hand₁ : List ℕ) (last₁ : Bool) → Streams b b₁ hand hand₁ → Ends b b₁ last last₁ → length hand ≤ length hand₁
        → Onward text ends used st₀ b₀ c₀ st b₁ c hand₁ last₁ (n + (length hand₁ - length hand))
    reads_on b₁ hand₁ last₁ s e m = record { made = reads_so_far text ends used st₀ c₀ st b₀ b b₁ c hand hand₁ last last₁ n o.made s e m }

    module _ {p : Part S E} {t : List ℕ} (m : Makes text ends st hand last p t) where
      pub goes_on : (c₁ : Option (List ℕ)) → p.end ≡ None → Appends c c₁ t → p.taken ≤ length hand → used p.state ≤ used st + p.taken
          → Onward text ends used st₀ b₀ c₀ p.state b c₁ (drop p.taken hand) last (n + p.taken + length t)
      goes_on c₁ z a i u = record { made = goes_so_far text ends used st₀ c₀ st c c₁ hand last p t n m b₀ b o.made z a i u }

      pub ends_there : (e : E) → p.end ≡ Some e → IfSome b₀ (λ xs. EndsAt (ends st₀ xs e p.state) (drop p.taken hand) b)
      ends_there e z = ends_so_far text ends used st₀ c₀ st c c hand last p t n m e z b₀ b o.made

      pub over : (e : E) (c₁ : Option (List ℕ)) → p.end ≡ Some e → Appends c c₁ t → IfSome b₀ (λ xs. Appends c₀ c₁ (text st₀ xs))
      over e c₁ z a = over_so_far text ends used st₀ c₀ st c c₁ hand last p t n m e z b₀ b o.made a

      pub breaks : (c₁ : Option (List ℕ)) → AppendsFront c c₁ t → IfSome b₀ (λ xs. AppendsFront c₀ c₁ (text st₀ xs))
      breaks c₁ a = breaks_so_far text ends used st₀ c₀ st c c₁ hand last p t n m b₀ b o.made a

-- A STEP

-- a turn that isn't stuck reads, takes or makes a byte
pub progressed : (wanted left h h₁ taken made : ℕ) (last : Bool) → (wanted ≤ h₁) ⊎ ((last ≡ true) ⊎ (h < h₁)) → left ≡ h₁ → ((wanted ≤ left) ⊎ (last ≡ true) → 0 < taken + made) → 1 ≤ (h₁ - h) + taken + made
progressed wanted left h h₁ taken made last (inl w) e f = let p = f (inl (omega arith)) in omega arith
progressed wanted left h h₁ taken made last (inr (inl l)) e f = let p = f (inr l) in omega arith
progressed wanted left h h₁ taken made last (inr (inr m)) e f = omega arith

-- nothing taken and nothing made: it is used up
pub used_up : (used hand taken made : ℕ) → (0 < taken + made) ⊎ (2 ^ 64 ≤ used + hand) → taken ≡ 0 → made ≡ 0 → 2 ^ 64 ≤ used + hand
used_up used hand taken made (inl p) t m = absurd (let f : ⊥ = omega arith in f)
used_up used hand taken made (inr p) t m = p

-- what is true of all is true of what is known
pub known : {A : Type 0} (o : Option A) (P Q : A → Type 0) → ((x : A) → P x → Q x) → IfSome o P → IfSome o Q
known None P Q f p = tt
known (Some x) P Q f p = f x p

-- THE BUFFERS

module _ (a b s m : ℕ) where
  enough : (ltb a s || ltb b m) ≡ false → (s ≤ a) × (m ≤ b)
  enough p = go (ltb a s) refl
    where
      go : (x : Bool) → ltb a s ≡ x → (s ≤ a) × (m ≤ b)
      go true q = absurd (let r = rw q at p in cc)
      go false q = (ltb-false a s q, ltb-false b m (rw q at p))

  -- what settles the next has room in the one
  pub settles : {n k wanted : ℕ} → n ≡ a → s ≡ wanted → k ≡ wanted → (ltb a s || ltb b m) ≡ false → k ≤ n
  settles e f g p = let t = (enough p).0 in omega arith

  -- and the most that comes of it in the other
  pub holds : {n most : ℕ} → n ≡ b → m ≡ most → (ltb a s || ltb b m) ≡ false → most ≤ n
  holds e f p = let t = (enough p).1 in omega arith

-- THE END, WITH THE WINDOW BEHIND IT

-- what holds of each end that may have come holds of the one that has
pub if_ended : {S E : Type 0} (end : Option E) (st : S) (w : Window) (r : Option (Ended S E)) (Q : Ended S E → Type 0) → r ≡ ended_at end st w
    → ((e : E) → end ≡ Some e → Q (record { outcome = e; state = st; at = w })) → IfSome r Q
if_ended None st w r Q p f = rw p tt
if_ended (Some e) st w r Q p f = rw p (f e refl)

pub not_ended : {S E : Type 0} (end : Option E) (st : S) (w : Window) → ended_at end st w ≡ None → end ≡ None
not_ended None st w p = refl
not_ended (Some e) st w p = absurd (let f : Some (record { outcome = e; state = st; at = w }) ≡ None = p in cc)

pub behind_inside : (w r : Window) (k size : ℕ) → r ≡ behind w k → w.from ≤ w.to → w.to ≤ size → (r.from ≤ r.to) × (r.to ≤ size)
unfolding behind
behind_inside w r k size e a b = rw e (omega arith, b)

-- what is left at hand is left
pub left_there : (b₀ b : Option (List ℕ)) (ends : List ℕ → List ℕ → Type 0) (l : List ℕ) (w r : Window) (k : ℕ) → r ≡ behind w k
    → IfSome b₀ (λ xs. EndsAt (ends xs) (drop k (at_hand l w)) b) → IfSome b₀ (λ xs. EndsAt (ends xs) (at_hand l r) b)
left_there b₀ b ends l w r k q h = rw q (subst (λ (d : List ℕ). IfSome b₀ (λ xs. EndsAt (ends xs) d b)) (sym (rest_is_at_hand l w k)) h)
