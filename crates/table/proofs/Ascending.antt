-- Rising order by recursion over the rows, for inductions.
use Rattle.std.proofs.Common.{◌≡◌, ℕ, zero, suc, ◌<◌, eqb, ltb, List, [], ◌∷◌, map, length, get_or, None, refl, arith}
use Rattle.std.proofs.ByRecursion.{All-get_or, All-map, All-weaker}
use Rattle.std.proofs.lemmas.List.{length-map}
use Rattle.std.proofs.lemmas.Bool.{cond_both, ltb-true, ltb-false, eqb-true, eqb-false}
use Rattle.std.proofs.lemmas.Bool.Decides.{nat_tests}
use Rattle.std.specs.List.{AllByRecursion as All}
use Rattle.table.specs.Rows.{Rising, found, put, removed}

-- what holds at each place holds of each row, and back
pub all_from_places : {R A : Type 0} (P : A → Type 0) (f : R → A) (d : A) (rows : List R) → ((k : ℕ) → k < length rows → P (get_or (map f rows) k d)) → All (λ r. P (f r)) rows
all_from_places P f d [] h = tt
all_from_places P f d (r ∷ rs) h = (h 0 (omega arith), all_from_places P f d rs (λ k l. h (suc k) (omega arith)))

pub places_from_all : {R A : Type 0} (P : A → Type 0) (f : R → A) (d : A) (rows : List R) → All (λ r. P (f r)) rows → (k : ℕ) → k < length rows → P (get_or (map f rows) k d)
places_from_all P f d rows a k l = All-get_or P (map f rows) k d (omega (arith, length-map rows f)) (All-map P f rows a)

module _ {R : Type 0} (num : R → ℕ) where
  -- what holds of each row and of the row put holds of each after it
  pub all_put : (P : R → Type 0) (x : R) (rows : List R) → P x → All P rows → All P (put num x rows)
  all_put P x [] p a = (p, tt)
  all_put P x (r ∷ rs) p a =
      let ih = all_put P x rs p a.1 in
      cond_both (ltb (num r) (num x)) _ _ (All P) (λ _. (a.0, ih)) (λ _. cond_both (eqb (num r) (num x)) _ _ (All P) (λ _. (p, a.1)) (λ _. (p, a)))

  pub all_removed : (P : R → Type 0) (n : ℕ) (rows : List R) → All P rows → All P (removed num n rows)
  all_removed P n [] a = tt
  all_removed P n (r ∷ rs) a =
      let ih = all_removed P n rs a.1 in
      cond_both (eqb (num r) n) _ _ (All P) (λ _. a.1) (λ _. (a.0, ih))

  -- each number is below all that follow: rising, by recursion over the rows
  abbrev pub Ascending : List R → Type 0
  Ascending [] = Unit {0}
  Ascending (r ∷ rs) = All (λ s. num r < num s) rs × Ascending rs

  next_below : (r : R) (rows : List R) → (0 < length rows → num r < get_or (map num rows) 0 0) → Ascending rows → All (λ s. num r < num s) rows
  next_below r [] h a = tt
  next_below r (s ∷ ss) h a =
      let l : num r < num s = h (omega arith) in
      (l, All-weaker (λ q. num s < num q) (λ q. num r < num q) (λ q m. omega arith) ss a.0)

  pub ascending_from_rising : (rows : List R) → Rising num rows → Ascending rows
  ascending_from_rising [] up = tt
  ascending_from_rising (r ∷ rs) up =
      let a = ascending_from_rising rs (λ i l. up (suc i) (omega arith)) in
      (next_below r rs (λ l. up 0 (omega arith)) a, a)

  pub far : (rows : List R) → Ascending rows → (i j : ℕ) → i < j → j < length rows → get_or (map num rows) i 0 < get_or (map num rows) j 0
  far [] a i j h l = absurd (omega arith)
  far (r ∷ rs) a i zero h l = absurd (omega arith)
  far (r ∷ rs) a zero (suc j) h l = places_from_all (λ n. num r < n) num 0 rs a.0 j (omega arith)
  far (r ∷ rs) a (suc i) (suc j) h l = far rs a.1 i j (omega arith) (omega arith)

  pub rising_from_ascending : (rows : List R) → Ascending rows → Rising num rows
  rising_from_ascending rows a i l = far rows a i (suc i) (omega arith) l

  pub ascending_put : (x : R) (rows : List R) → Ascending rows → Ascending (put num x rows)
  ascending_put x [] a = (tt, tt)
  ascending_put x (r ∷ rs) a =
      let ih = ascending_put x rs a.1 in
      cond_both (ltb (num r) (num x)) _ _ Ascending
      (λ t. (all_put (λ s. num r < num s) x rs (ltb-true (num r) (num x) t) a.0, ih))
      (λ t. cond_both (eqb (num r) (num x)) _ _ Ascending
      (λ e. (All-weaker (λ s. num r < num s) (λ s. num x < num s) (λ s l. omega (arith, eqb-true (num r) (num x) e)) rs a.0, a.1))
      (λ e. let z : num x < num r = omega (arith, ltb-false (num r) (num x) t, eqb-false (num r) (num x) e) in
      ((z, All-weaker (λ s. num r < num s) (λ s. num x < num s) (λ s l. omega arith) rs a.0), a)))

  pub ascending_removed : (n : ℕ) (rows : List R) → Ascending rows → Ascending (removed num n rows)
  ascending_removed n [] a = tt
  ascending_removed n (r ∷ rs) a =
      let ih = ascending_removed n rs a.1 in
      cond_both (eqb (num r) n) _ _ Ascending (λ _. a.1) (λ _. (all_removed (λ s. num r < num s) n rs a.0, ih))

  -- a number below all has no row
  pub found_below : (n : ℕ) (rows : List R) → All (λ s. n < num s) rows → found num n rows ≡ None
  found_below n [] a = refl
  found_below n (r ∷ rs) a = let ih = found_below n rs a.1 in let l = a.0 in grind (arith, nat_tests)

  -- nor has one below the first of ascending rows
  pub found_before : (n : ℕ) (r : R) (rows : List R) → All (λ s. num r < num s) rows → n < num r → found num n rows ≡ None
  found_before n r rows a l = found_below n rows (All-weaker (λ s. num r < num s) (λ s. n < num s) (λ s m. omega arith) rows a)
