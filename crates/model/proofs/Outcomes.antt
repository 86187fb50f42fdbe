-- What it means that no two outcomes fit a contract. `Post` is the plain reading of a function's own `ensures`, which the check makes.
use Prim.Native.Nat.{ℕ}
use mathlib.Core.Path.{◌≡◌}
use mathlib.Core.List.{List}
use contract.Lifetimes.{Lfts}
use borrow.Fn.Kinds.{ParamKind, ResultKind, Dens, res_t, ended_of}
use denote.Triple.Clauses.{AtExit}

-- for the same arguments any two outcomes are one. n counts the loans that the function's parameters name. An outcome is a result, x or
-- y, and what was lent as it is at exit, s or t; `Same` says when two of them count as one, and has to speak of all that a caller can see
abbrev pub NoTwoOutcomes : (n : ℕ) (ps : List (ParamKind n)) (r : ResultKind n) → ((κs : Lfts n) → Dens κs ps → (res_t r κs).Denot → AtExit (ended_of n ps r) κs → Type 0)
    → ((κs : Lfts n) → (res_t r κs).Denot → (res_t r κs).Denot → AtExit (ended_of n ps r) κs → AtExit (ended_of n ps r) κs → Type 0) → Type 0
NoTwoOutcomes n ps r Post Same =
    (κs : Lfts n) (a : Dens κs ps) (x y : (res_t r κs).Denot) (s t : AtExit (ended_of n ps r) κs) → Post κs a x s → Post κs a y t → Same κs x y s t

-- of a function that is lent nothing: one result
abbrev pub OneOutcome : (ps : List (ParamKind 0)) (r : ResultKind 0) → ((κs : Lfts 0) → Dens κs ps → (res_t r κs).Denot → AtExit (ended_of 0 ps r) κs → Type 0) → Type 0
OneOutcome ps r Post = NoTwoOutcomes 0 ps r Post (λ κs x y s t. x ≡ y)
