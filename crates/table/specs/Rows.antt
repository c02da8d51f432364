-- Lists of rows in rising order of number: what the contracts of the table say, over any kind of row.
-- `num` is the number of a row.
use Rattle.std.specs.Prelude.{◌≡◌, ℕ, suc, ◌<◌, Bool, true, false, cond, ◌||◌, List, [], ◌∷◌, map, length, is_some, Some, None, Ok, Err, Option, Result, ◌==◌, nat_lt, slice_index, slice_index_or}

-- the numbers rise: each row's is below that of the next
abbrev pub Rising : {R : Type 0} → (R → ℕ) → List R → Type 0
Rising num rows = (i : ℕ) → suc i < length rows → slice_index (map num rows) i < slice_index (map num rows) (suc i)

-- every row has its figures within their limits
abbrev pub AllSound : {R : Type 0} → (R → Bool) → List R → Type 0
AllSound sound rows = (i : ℕ) → i < length rows → slice_index_or (map sound rows) i true ≡ true

-- the row of a number
abbrev pub found : {R : Type 0} → (R → ℕ) → ℕ → List R → Option R
found num n [] = None
found num n (r ∷ rs) = cond (num r == n) (Some r) (found num n rs)

-- whether there is a row of a number
abbrev pub known : {R : Type 0} → (R → ℕ) → ℕ → List R → Bool
known num n rows = is_some (found num n rows)

-- how many rows from the first on have a lesser number: where the row of a number stands, or belongs
abbrev pub rank : {R : Type 0} → (R → ℕ) → ℕ → List R → ℕ
rank num n [] = 0
rank num n (r ∷ rs) = cond (nat_lt (num r) n) (suc (rank num n rs)) 0

-- where the row of a number stands, or else where it belongs
abbrev pub located : {R : Type 0} → (R → ℕ) → ℕ → List R → Result ℕ ℕ
located num n rows = cond (known num n rows) (Ok (rank num n rows)) (Err (rank num n rows))

-- whether this is a row of a number
abbrev pub holds : {R : Type 0} → (R → ℕ) → ℕ → Option R → Bool
holds num n None = false
holds num n (Some r) = num r == n

-- the rows with one more, or with it in the place of the row of its number
abbrev pub put : {R : Type 0} → (R → ℕ) → R → List R → List R
put num x [] = x ∷ []
put num x (r ∷ rs) = cond (nat_lt (num r) (num x)) (r ∷ put num x rs) (cond (num r == num x) (x ∷ rs) (x ∷ r ∷ rs))

-- whether a row of a number can be put where so many fit: it is known, or there is room for one more
abbrev pub fits : {R : Type 0} → (R → ℕ) → ℕ → ℕ → List R → Bool
fits num capacity n rows = known num n rows || nat_lt (length rows) capacity

-- the rows without the row of a number
abbrev pub removed : {R : Type 0} → (R → ℕ) → ℕ → List R → List R
removed num n [] = []
removed num n (r ∷ rs) = cond (num r == n) rs (r ∷ removed num n rs)

-- the rows changed one after the other, from a place on
abbrev pub revised : {R : Type 0} → (ℕ → R → R) → ℕ → List R → List R
revised change place [] = []
revised change place (r ∷ rs) = change place r ∷ revised change (suc place) rs
