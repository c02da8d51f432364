-- Where a number stands among rising rows, and what an edit at that place comes to, for callers to cite.
-- `num` is the number of a row.
use Rattle.std.proofs.Common.{◌≡◌, ℕ, zero, suc, ◌<◌, Bool, true, false, List, [], ◌∷◌, length, set, Some, None, Ok, Err, refl, subst, arith}
use Rattle.std.proofs.ByRecursion.{All-get_or}
use Rattle.std.proofs.lemmas.Bool.Decides.{nat_tests}
use Rattle.std.proofs.lemmas.Option.{get_or_from_slice_get, slice_get_within}
use Rattle.std.specs.List as holes
use Rattle.std.specs.List.{AllByRecursion as All, slice_get}
use Rattle.table.specs.Rows.{Rising, AllSound, found, known, rank, located, holds, put, removed}
use Rattle.table.proofs.Ascending.{Ascending, ascending_from_rising, found_before, all_from_places}

-- what holds of each row holds of the row at a place
all_nth : {R : Type 0} (P : R → Type 0) (rows : List R) (i : ℕ) (r : R) → All P rows → slice_get rows i ≡ Some r → P r
all_nth P rows i r a e = subst P (get_or_from_slice_get rows i r r e) (All-get_or P rows i r (slice_get_within rows i r e) a)

module _ {R : Type 0} (num : R → ℕ) where
  put_new : (x : R) (rows : List R) → known num (num x) rows ≡ false → put num x rows ≡ holes.insert rows (rank num (num x) rows) x
  put_new x [] h = refl
  put_new x (r ∷ rs) h = let ih = put_new x rs in grind (arith, nat_tests)

  put_known : (x : R) (rows : List R) → Ascending num rows → known num (num x) rows ≡ true → put num x rows ≡ set rows (rank num (num x) rows) x
  put_known x [] a h = grind arith
  put_known x (r ∷ rs) a h =
      let ih = put_known x rs a.1 in
      let out = found_before num (num x) r rs a.0 in
      grind (arith, nat_tests)

  removed_known : (n : ℕ) (rows : List R) → Ascending num rows → known num n rows ≡ true → removed num n rows ≡ holes.remove rows (rank num n rows)
  removed_known n [] a h = grind arith
  removed_known n (r ∷ rs) a h =
      let ih = removed_known n rs a.1 in
      let out = found_before num n r rs a.0 in
      grind (arith, nat_tests)

  found_known : (n : ℕ) (rows : List R) → Ascending num rows → known num n rows ≡ true → found num n rows ≡ slice_get rows (rank num n rows)
  found_known n [] a h = refl
  found_known n (r ∷ rs) a h =
      let ih = found_known n rs a.1 in
      let out = found_before num n r rs a.0 in
      grind (arith, nat_tests)

  -- a number stands where its row is, or belongs where a new row goes: its rank
  pub known_from_ok : (n : ℕ) (rows : List R) (i : ℕ) → located num n rows ≡ Ok i → (known num n rows ≡ true) × (rank num n rows ≡ i)
  known_from_ok n rows i e = grind arith

  pub new_from_err : (n : ℕ) (rows : List R) (i : ℕ) → located num n rows ≡ Err i → (known num n rows ≡ false) × (rank num n rows ≡ i)
  new_from_err n rows i e = grind arith

  -- a known number is put over its row
  pub put_at : (x : R) (rows : List R) (i : ℕ) → Rising num rows → located num (num x) rows ≡ Ok i → put num x rows ≡ set rows i x
  put_at x rows i up e =
      let h = known_from_ok (num x) rows i e in
      rw (← h.1) (put_known x rows (ascending_from_rising num rows up) h.0)

  -- a new number is put where it belongs
  pub put_between : (x : R) (rows : List R) (i : ℕ) → located num (num x) rows ≡ Err i → put num x rows ≡ holes.insert rows i x
  put_between x rows i e = let h = new_from_err (num x) rows i e in rw (← h.1) (put_new x rows h.0)

  -- a known number is taken out where it stands
  pub removed_at : (n : ℕ) (rows : List R) (i : ℕ) → Rising num rows → located num n rows ≡ Ok i → removed num n rows ≡ holes.remove rows i
  removed_at n rows i up e =
      let h = known_from_ok n rows i e in
      rw (← h.1) (removed_known n rows (ascending_from_rising num rows up) h.0)

  -- and found there
  pub found_at : (n : ℕ) (rows : List R) (i : ℕ) → Rising num rows → located num n rows ≡ Ok i → found num n rows ≡ slice_get rows i
  found_at n rows i up e =
      let h = known_from_ok n rows i e in
      rw (← h.1) (found_known n rows (ascending_from_rising num rows up) h.0)

  -- an unknown number has no row
  pub found_none : (n : ℕ) (rows : List R) → known num n rows ≡ false → found num n rows ≡ None
  found_none n rows e = grind arith

  -- a known number stands among the rows, at its rank
  pub rank_within : (n : ℕ) (rows : List R) → known num n rows ≡ true → rank num n rows < length rows
  rank_within n [] h = grind arith
  rank_within n (r ∷ rs) h = let ih = rank_within n rs in grind (arith, nat_tests)

  pub found_at_rank : (n : ℕ) (rows : List R) → Rising num rows → known num n rows ≡ true → found num n rows ≡ slice_get rows (rank num n rows)
  found_at_rank n rows up h = found_known n rows (ascending_from_rising num rows up) h

  stands : (n : ℕ) (rows : List R) → Ascending num rows → known num n rows ≡ true → holds num n (slice_get rows (rank num n rows)) ≡ true
  stands n [] a h = grind arith
  stands n (r ∷ rs) a h =
      let ih = stands n rs a.1 in
      let out = found_before num n r rs a.0 in
      grind (arith, nat_tests)

  -- so the row at the rank of a known number can be updated
  pub holds_at_rank : (n : ℕ) (rows : List R) → Rising num rows → known num n rows ≡ true → holds num n (slice_get rows (rank num n rows)) ≡ true
  holds_at_rank n rows up h = stands n rows (ascending_from_rising num rows up) h

  looked_up : (rows : List R) (i : ℕ) (r : R) → Ascending num rows → slice_get rows i ≡ Some r → found num (num r) rows ≡ Some r
  looked_up [] i r a e = grind arith
  looked_up (q ∷ rs) zero r a e = grind (arith, nat_tests)
  looked_up (q ∷ rs) (suc i) r a e =
      let ih = looked_up rs i r a.1 e in
      let l = all_nth (λ s. num q < num s) rs i r a.0 e in
      grind (arith, nat_tests)

  -- each row is the row of its number
  pub found_row : (rows : List R) (i : ℕ) (r : R) → Rising num rows → slice_get rows i ≡ Some r → found num (num r) rows ≡ Some r
  found_row rows i r up e = looked_up rows i r (ascending_from_rising num rows up) e

-- each of sound rows is sound
pub sound_row : {R : Type 0} (sound : R → Bool) (rows : List R) (i : ℕ) (r : R) → AllSound sound rows → slice_get rows i ≡ Some r → sound r ≡ true
sound_row sound rows i r a e = all_nth (λ s. sound s ≡ true) rows i r (all_from_places (λ b. b ≡ true) sound true rows a) e
