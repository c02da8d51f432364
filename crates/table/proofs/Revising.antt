-- Rows changed one after the other.
use Rattle.std.proofs.Common.{◌≡◌, ℕ, zero, suc, ◌+◌, ◌<◌, Bool, true, List, [], ◌∷◌, ◌++◌, map, length, get_or, take, drop, set, refl, sym, ap, ◌∙◌, arith}
use Rattle.std.proofs.lemmas.List.{get_or-map, length-map}
use Rattle.table.specs.Rows.{Rising, AllSound, revised}

module _ {R : Type 0} (change : ℕ → R → R) where
  -- one row more is changed
  pub revised_more : (k : ℕ) (xs : List R) (i p : ℕ) (d : R) → p ≡ k + i → i < length xs → set (revised change k (take i xs) ++ drop i xs) i (change p (get_or xs i d)) ≡ revised change k (take (suc i) xs) ++ drop (suc i) xs
  revised_more k [] i p d e h = absurd (omega arith)
  revised_more k (x ∷ xs) zero p d e h = let q : p ≡ k = omega arith in rw q
  revised_more k (x ∷ xs) (suc i) p d e h = ap (λ ys. change k x ∷ ys) (revised_more (suc k) xs i p d (omega arith) (omega arith))

  -- the next row is still as it was
  pub next_kept : (k : ℕ) (xs : List R) (i : ℕ) (d : R) → i < length xs → get_or (revised change k (take i xs) ++ drop i xs) i d ≡ get_or xs i d
  next_kept k [] i d h = absurd (omega arith)
  next_kept k (x ∷ xs) zero d h = refl
  next_kept k (x ∷ xs) (suc i) d h = next_kept (suc k) xs i d (omega arith)

-- a change that does not look at the place is made of each row
pub revised_alike : {R : Type 0} (f : R → R) (k : ℕ) (xs : List R) → revised (λ _ r. f r) k xs ≡ map f xs
revised_alike f k [] = refl
revised_alike f k (x ∷ xs) = ap (λ ys. f x ∷ ys) (revised_alike f (suc k) xs)

module _ {R : Type 0} (num : R → ℕ) where
  -- rising is a fact of the numbers
  pub rising_by_numbers : (xs ys : List R) → map num ys ≡ map num xs → Rising num xs → Rising num ys
  rising_by_numbers xs ys e up = λ i l. rw e (up i (omega (arith, ap length e, length-map xs num, length-map ys num)))

-- each of sound rows is sound
pub sound_here : {R : Type 0} (sound : R → Bool) (xs : List R) (i : ℕ) (d : R) → AllSound sound xs → i < length xs → sound (get_or xs i d) ≡ true
sound_here sound xs i d a l = sym (get_or-map sound xs i d true l) ∙ a i l
