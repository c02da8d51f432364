-- What each call of a table answers and leaves, over the lists of its slots and rows.
use Rattle.std.proofs.Common.{◌≡◌, ℕ, ◌+◌, ◌-◌, ◌<◌, ◌≤◌, Bool, true, false, List, length, get_or, take, set, Some, None, Ok, Err, Option, Result, sym, refl, ◌∙◌, arith, length-take}
use Rattle.std.proofs.Math.Seq.{take-set-lt}
use Rattle.std.proofs.lemmas.List.{get_or-take}
use Rattle.std.proofs.lemmas.Option.{slice_get_read}
use Rattle.std.proofs.lemmas.Bool.Decides.{nat_tests}
use Rattle.std.specs.List as holes
use Rattle.std.specs.List.{slice_get}
use Rattle.table.specs.Rows.{Rising, AllSound, located, put, removed, fits, holds}
use Rattle.table.proofs.Halving.{located_at, number_read}
use Rattle.table.proofs.Laws.{rising_put, rising_removed, sound_put, sound_removed}
use Rattle.table.proofs.Places.{known_from_ok, new_from_err, rank_within, put_at, put_between, removed_at}
use Rattle.table.proofs.Shift.{taken_length}

module _ {R : Type 0} (num : R → ℕ) where
  -- where a number stands in the rows, by where it stands in an equal list
  pub placed : (held rows : List R) (k n : ℕ) (r : Result ℕ ℕ) → held ≡ rows → k ≡ n → (Rising num held → r ≡ located num k held) → Rising num rows → located num n rows ≡ r
  placed held rows k n r e f h up =
      let h' : Rising num rows → r ≡ located num k rows = rw e at h in
      rw (← f) (sym (h' up))

  pub fits_known : (cap : ℕ) (x : R) (rows : List R) (i : ℕ) → located num (num x) rows ≡ Ok i → fits num cap (num x) rows ≡ true
  fits_known cap x rows i e = let h = (known_from_ok num (num x) rows i e).0 in rw h

  pub fits_free : (cap : ℕ) (x : R) (rows : List R) → length rows < cap → fits num cap (num x) rows ≡ true
  fits_free cap x rows h = grind (arith, nat_tests)

  pub fits_full : (cap : ℕ) (x : R) (rows : List R) (i : ℕ) → cap ≤ length rows → located num (num x) rows ≡ Err i → fits num cap (num x) rows ≡ false
  fits_full cap x rows i h e = let k = (new_from_err num (num x) rows i e).0 in grind (arith, nat_tests)

  -- a row written over that of its number
  pub overwritten : (xs : List R) (len i : ℕ) (x : R) → Rising num (take len xs) → located num (num x) (take len xs) ≡ Ok i → take len (set xs i x) ≡ put num x (take len xs)
  overwritten xs len i x up e =
      let h = known_from_ok num (num x) (take len xs) i e in
      let l = rank_within num (num x) (take len xs) h.0 in
      take-set-lt len xs i x (omega (arith, length-take len xs)) ∙ sym (put_at num x (take len xs) i up e)

  -- a row entered where its number belongs
  pub entered : (xs ys : List R) (len used i : ℕ) (x : R) → used ≡ length (take len xs) → take (used + 1) ys ≡ holes.insert (take used xs) i x → located num (num x) (take len xs) ≡ Err i → take (used + 1) ys ≡ put num x (take len xs)
  entered xs ys len used i x u a e = let t = taken_length len used xs u in let p = put_between num x (take len xs) i e in cc

  -- the row of a number taken out
  pub struck : (xs ys : List R) (len used i n : ℕ) → used ≡ length (take len xs) → take (used - 1) ys ≡ holes.remove (take used xs) i → Rising num (take len xs) → located num n (take len xs) ≡ Ok i → take (used - 1) ys ≡ removed num n (take len xs)
  struck xs ys len used i n u a up e = let t = taken_length len used xs u in let p = removed_at num n (take len xs) i up e in cc

  -- a row in use, by what its slot holds
  pub in_use : (xs : List R) (len i : ℕ) (r : R) → i < length (take len xs) → r ≡ get_or xs i r → slice_get (take len xs) i ≡ Some r
  in_use xs len i r l e =
      let b : i < len = omega (arith, simp length-take at l) in
      slice_get_read (take len xs) (length (take len xs)) i r refl l (e ∙ sym (get_or-take len xs i r b))

  pub in_use_located : (xs : List R) (len i : ℕ) (r x : R) → i < length (take len xs) → r ≡ get_or xs i r → num r ≡ num x → Rising num (take len xs) → located num (num x) (take len xs) ≡ Ok i
  in_use_located xs len i r x l e q up =
      let b : i < len = omega (arith, simp length-take at l) in
      located_at num (num x) (take len xs) i up l (number_read num (take len xs) i r l (e ∙ sym (get_or-take len xs i r b)) ∙ q)

  pub holds_same : (n : ℕ) (o : Option R) (r : R) → o ≡ Some r → num r ≡ n → holds num n o ≡ true
  holds_same n o r e q = grind (arith, nat_tests)

  pub holds_other : (n : ℕ) (o : Option R) (r : R) → o ≡ Some r → (num r ≡ n → ⊥) → holds num n o ≡ false
  holds_other n o r e q = grind (arith, nat_tests)

  pub holds_none : (n : ℕ) (o : Option R) → o ≡ None → holds num n o ≡ false
  holds_none n o e = grind arith

  pub rising_from_put : (rows on : List R) (x : R) → on ≡ put num x rows → Rising num rows → Rising num on
  rising_from_put rows on x e up = rw e (rising_put num x rows up)

  pub rising_from_removed : (rows on : List R) (n : ℕ) → on ≡ removed num n rows → Rising num rows → Rising num on
  rising_from_removed rows on n e up = rw e (rising_removed num n rows up)

module _ {R : Type 0} (num : R → ℕ) (sound : R → Bool) where
  pub sound_from_put : (rows on : List R) (x : R) → on ≡ put num x rows → Rising num rows → AllSound sound rows → sound x ≡ true → Rising num on × AllSound sound on
  sound_from_put rows on x e up a p = (rising_from_put num rows on x e up, rw e (sound_put num sound x rows p a))

  pub sound_from_removed : (rows on : List R) (n : ℕ) → on ≡ removed num n rows → Rising num rows → AllSound sound rows → Rising num on × AllSound sound on
  sound_from_removed rows on n e up a = (rising_from_removed num rows on n e up, rw e (sound_removed num sound n rows a))
