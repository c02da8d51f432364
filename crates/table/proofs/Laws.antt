-- The laws of rows in rising order, over any kind of row, for callers to cite.
-- `num` is the number of a row, and `sound` whether its figures lie within their limits.
use Rattle.std.proofs.Common.{◌≡◌, ℕ, suc, ◌+◌, ◌<◌, Bool, true, false, List, [], ◌∷◌, map, length, get_or, Some, None, refl, ap, arith}
use Rattle.std.proofs.lemmas.Bool.Decides.{nat_tests}
use Rattle.table.specs.Rows.{Rising, AllSound, found, known, put, removed}
use Rattle.table.proofs.Ascending.{Ascending, ascending_from_rising, rising_from_ascending, ascending_put, ascending_removed, far, found_below, found_before, all_put, all_removed, all_from_places, places_from_all}

module _ {R : Type 0} (num : R → ℕ) where
  -- the row that is found has the number
  pub found_number : (n : ℕ) (rows : List R) (r : R) → found num n rows ≡ Some r → num r ≡ n
  found_number n [] r e = grind arith
  found_number n (q ∷ rs) r e = let ih = found_number n rs r in grind (arith, nat_tests)

  -- the row just put is the row of its number
  pub found_put_same : (x : R) (rows : List R) → found num (num x) (put num x rows) ≡ Some x
  found_put_same x [] = grind (arith, nat_tests)
  found_put_same x (r ∷ rs) = let ih = found_put_same x rs in grind (arith, nat_tests)

  -- a put leaves the row of every other number
  pub found_put_other : (x : R) (rows : List R) (n : ℕ) → (n ≡ num x → ⊥) → found num n (put num x rows) ≡ found num n rows
  found_put_other x [] n h = grind (arith, nat_tests)
  found_put_other x (r ∷ rs) n h = let ih = found_put_other x rs n h in grind (arith, nat_tests)

  gone : (n : ℕ) (rows : List R) → Ascending num rows → found num n (removed num n rows) ≡ None
  gone n [] a = refl
  gone n (r ∷ rs) a =
      let ih = gone n rs a.1 in
      let out = found_below num (num r) rs a.0 in
      grind (arith, nat_tests)

  -- a number taken out has no row
  pub found_removed_same : (n : ℕ) (rows : List R) → Rising num rows → found num n (removed num n rows) ≡ None
  found_removed_same n rows up = gone n rows (ascending_from_rising num rows up)

  -- taking a number out leaves the row of every other number
  pub found_removed_other : (n : ℕ) (rows : List R) (m : ℕ) → (m ≡ n → ⊥) → found num m (removed num n rows) ≡ found num m rows
  found_removed_other n [] m h = refl
  found_removed_other n (r ∷ rs) m h = let ih = found_removed_other n rs m h in grind (arith, nat_tests)

  -- a number that has no row takes none out
  pub removed_absent : (n : ℕ) (rows : List R) → known num n rows ≡ false → removed num n rows ≡ rows
  removed_absent n [] h = refl
  removed_absent n (r ∷ rs) h = let ih = removed_absent n rs in grind (arith, nat_tests)

  -- a new number put and taken out again gives back the rows
  pub removed_put_new : (x : R) (rows : List R) → known num (num x) rows ≡ false → removed num (num x) (put num x rows) ≡ rows
  removed_put_new x [] h = grind (arith, nat_tests)
  removed_put_new x (r ∷ rs) h = let ih = removed_put_new x rs in grind (arith, nat_tests)

  -- puts of different numbers commute
  pub puts_commute : (x y : R) (rows : List R) → (num x ≡ num y → ⊥) → put num x (put num y rows) ≡ put num y (put num x rows)
  puts_commute x y [] h = grind (arith, nat_tests)
  puts_commute x y (r ∷ rs) h = let ih = puts_commute x y rs h in grind (arith, nat_tests)

  -- of two puts of one number the later stands
  pub put_again : (x y : R) (rows : List R) → num x ≡ num y → put num x (put num y rows) ≡ put num x rows
  put_again x y [] h = grind (arith, nat_tests)
  put_again x y (r ∷ rs) h = let ih = put_again x y rs h in grind (arith, nat_tests)

  -- a new number is one row more
  pub length_put_new : (x : R) (rows : List R) → known num (num x) rows ≡ false → length (put num x rows) ≡ length rows + 1
  length_put_new x [] h = omega arith
  length_put_new x (r ∷ rs) h = let ih = length_put_new x rs in grind (arith, nat_tests)

  as_long : (x : R) (rows : List R) → Ascending num rows → known num (num x) rows ≡ true → length (put num x rows) ≡ length rows
  as_long x [] a h = grind arith
  as_long x (r ∷ rs) a h =
      let ih = as_long x rs a.1 in
      let out = found_before num (num x) r rs a.0 in
      grind (arith, nat_tests)

  -- a known number is as many rows
  pub length_put_known : (x : R) (rows : List R) → Rising num rows → known num (num x) rows ≡ true → length (put num x rows) ≡ length rows
  length_put_known x rows up = as_long x rows (ascending_from_rising num rows up)

  -- a known number taken out is one row less
  pub length_removed_known : (n : ℕ) (rows : List R) → known num n rows ≡ true → length (removed num n rows) + 1 ≡ length rows
  length_removed_known n [] h = grind arith
  length_removed_known n (r ∷ rs) h = let ih = length_removed_known n rs in grind (arith, nat_tests)

  -- an absent number is as many rows
  pub length_removed_absent : (n : ℕ) (rows : List R) → known num n rows ≡ false → length (removed num n rows) ≡ length rows
  length_removed_absent n rows h = ap length (removed_absent n rows h)

  -- a number is below all that come later
  pub rising_far : (rows : List R) → Rising num rows → (i j : ℕ) → i < j → j < length rows → get_or (map num rows) i 0 < get_or (map num rows) j 0
  rising_far rows up = far num rows (ascending_from_rising num rows up)

  -- a put keeps the rows rising
  pub rising_put : (x : R) (rows : List R) → Rising num rows → Rising num (put num x rows)
  rising_put x rows up = rising_from_ascending num _ (ascending_put num x rows (ascending_from_rising num rows up))

  -- taking a number out keeps the rows rising
  pub rising_removed : (n : ℕ) (rows : List R) → Rising num rows → Rising num (removed num n rows)
  rising_removed n rows up = rising_from_ascending num _ (ascending_removed num n rows (ascending_from_rising num rows up))

module _ {R : Type 0} (num : R → ℕ) (sound : R → Bool) where
  -- a sound row put among sound ones leaves sound ones
  pub sound_put : (x : R) (rows : List R) → sound x ≡ true → AllSound sound rows → AllSound sound (put num x rows)
  sound_put x rows p a =
      places_from_all (λ b. b ≡ true) sound true (put num x rows) (all_put num (λ r. sound r ≡ true) x rows p (all_from_places (λ b. b ≡ true) sound true rows a))

  -- taking a number out of sound rows leaves sound ones
  pub sound_removed : (n : ℕ) (rows : List R) → AllSound sound rows → AllSound sound (removed num n rows)
  sound_removed n rows a =
      places_from_all (λ b. b ≡ true) sound true (removed num n rows) (all_removed num (λ r. sound r ≡ true) n rows (all_from_places (λ b. b ≡ true) sound true rows a))

  -- a row that is found among sound ones is sound
  pub sound_found : (n : ℕ) (rows : List R) (r : R) → AllSound sound rows → found num n rows ≡ Some r → sound r ≡ true
  sound_found n [] r a e = grind arith
  sound_found n (q ∷ rs) r a e =
      let here : sound q ≡ true = a 0 (omega arith) in
      let ih = sound_found n rs r (λ i l. a (suc i) (omega arith)) in
      grind (arith, nat_tests)
