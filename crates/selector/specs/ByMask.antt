-- The selector's rules read by mask, as proofs/ByMask.antt shows.
use Rattle.std.specs.Prelude.{◌≡◌, ℕ, Bool, not, ◌&&◌, ◌||◌, List, eqb, if◌then◌else◌}
use Rattle.model.specs.declared.Bay.{Bay}
use Rattle.model.specs.declared.Machine.{Machine}
use Rattle.model.specs.Bays.{bay_at, candidate}
use Rattle.model.specs.Reads.{may_follow}
use Rattle.words.specs.Masks.{four, among, one_of, first_in}

-- a mask of what a test may answer of each bay
pub record MaskOf (answers : Bay → Bool → Type 0) (bays : List Bay) (mask : ℕ) : Type 0 where
  pub first : Bool
  pub second : Bool
  pub third : Bool
  pub fourth : Bool
  pub tested : answers (bay_at bays 0) first × answers (bay_at bays 1) second × answers (bay_at bays 2) third × answers (bay_at bays 3) fourth
  pub is : mask ≡ four first second third fourth

-- the low marks: a bit for each bay
unfoldable pub low_nibble : List Bay → ℕ
low_nibble bays = four (bay_at bays 0).low (bay_at bays 1).low (bay_at bays 2).low (bay_at bays 3).low

-- the candidates: a bit for each bay
unfoldable pub candidate_nibble : List Bay → ℕ
candidate_nibble bays = four (candidate (bay_at bays 0)) (candidate (bay_at bays 1)) (candidate (bay_at bays 2)) (candidate (bay_at bays 3))

-- the candidates other than the power bay
unfoldable pub follower_nibble : Machine → ℕ
follower_nibble m = four (may_follow m 1) (may_follow m 2) (may_follow m 4) (may_follow m 8)

-- a nibble that names a bay of the mask, else 0
unfoldable pub kept_in : ℕ → ℕ → ℕ
kept_in mask n = if among mask n then n else 0

-- the wanted bay if it is in the mask, else the mask's first by letter, else 0
unfoldable pub taken_from : ℕ → ℕ → ℕ
taken_from mask wanted = if among mask wanted then wanted else first_in mask

-- enough for the three steps to change nothing, by the masks of the candidates and of the present bays: POWER_BY names a candidate, or is 0
-- beside AC, and SMB is 0 or names a present bay
unfoldable pub settled_by : Machine → ℕ → ℕ → Bool
settled_by m candidates present = one_of candidates m.selector.power && one_of present m.selector.smb && (not (eqb m.selector.power 0) || m.ac)
