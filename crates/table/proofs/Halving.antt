-- Finding a number by halving: what each step leaves open, and where the number then stands.
-- `num` is the number of a row.
use Rattle.std.proofs.Common.{◌≡◌, ℕ, zero, suc, ◌+◌, ◌-◌, ◌/◌, ◌<◌, ◌≤◌, true, false, List, [], ◌∷◌, map, length, get_or, Ok, Err, sym, refl, ap, ◌∙◌, ⊎_elim, arith}
use Rattle.std.proofs.lemmas.List.{get_or-map}
use Rattle.std.proofs.lemmas.Bool.{cases_lt}
use Rattle.std.proofs.lemmas.Bool.Decides.{nat_tests}
use Rattle.table.specs.Rows.{Rising, known, rank, located}
use Rattle.table.proofs.Laws.{rising_far}

module _ {R : Type 0} (num : R → ℕ) where
  -- a number past i rows and not past the next has the rank i
  rank_at : (n : ℕ) (rows : List R) (i : ℕ) → i ≤ length rows → ((k : ℕ) → k < i → get_or (map num rows) k 0 < n) → (i < length rows → n ≤ get_or (map num rows) i 0) → rank num n rows ≡ i
  rank_at n [] i le lo hi = omega arith
  rank_at n (r ∷ rs) zero le lo hi = let h = hi (omega arith) in grind (arith, nat_tests)
  rank_at n (r ∷ rs) (suc i) le lo hi =
      let h = lo 0 (omega arith) in
      let ih = rank_at n rs i (omega arith) (λ k l. lo (suc k) (omega arith)) (λ l. hi (omega arith)) in
      grind (arith, nat_tests)

  known_at : (n : ℕ) (rows : List R) (i : ℕ) → i < length rows → get_or (map num rows) i 0 ≡ n → known num n rows ≡ true
  known_at n [] i l e = absurd (omega arith)
  known_at n (r ∷ rs) zero l e = grind (arith, nat_tests)
  known_at n (r ∷ rs) (suc i) l e = let ih = known_at n rs i (omega arith) e in grind (arith, nat_tests)

  unknown : (n : ℕ) (rows : List R) → ((k : ℕ) → k < length rows → get_or (map num rows) k 0 ≡ n → ⊥) → known num n rows ≡ false
  unknown n [] h = refl
  unknown n (r ∷ rs) h =
      let z = h 0 (omega arith) in
      let ih = unknown n rs (λ k l. h (suc k) (omega arith)) in
      grind (arith, nat_tests)

  -- the row of a number, found at a place
  pub located_at : (n : ℕ) (rows : List R) (i : ℕ) → Rising num rows → i < length rows → get_or (map num rows) i 0 ≡ n → located num n rows ≡ Ok i
  located_at n rows i up l e =
      let k = known_at n rows i l e in
      let q = rank_at n rows i (omega arith) (λ k h. omega (arith, rising_far num rows up k i h l)) (λ h. omega arith) in
      rw (k, q)

  -- a number between two rows belongs there
  pub located_between : (n : ℕ) (rows : List R) (i : ℕ) → Rising num rows → i ≤ length rows → (0 < i → get_or (map num rows) (i - 1) 0 < n) → (i < length rows → n < get_or (map num rows) i 0) → located num n rows ≡ Err i
  located_between n rows i up le lo hi =
      let low : (k : ℕ) → k < i → get_or (map num rows) k 0 < n = λ k h. ⊎_elim
      (λ (s : k < i - 1). omega (arith, rising_far num rows up k (i - 1) s (omega arith), lo (omega arith)))
      (λ (s : i - 1 ≤ k). let e : k ≡ i - 1 = omega arith in rw e (lo (omega arith)))
      (cases_lt k (i - 1)) in
      let off : (k : ℕ) → k < length rows → get_or (map num rows) k 0 ≡ n → ⊥ = λ k h e. ⊎_elim
      (λ (s : k < i). omega (arith, low k s))
      (λ (s : i ≤ k). ⊎_elim
      (λ (q : i < k). omega (arith, rising_far num rows up i k q h, hi (omega arith)))
      (λ (q : k ≤ i). let j : k ≡ i = omega arith in let v = rw j at e in omega (arith, hi (omega arith)))
      (cases_lt i k))
      (cases_lt k i) in
      let k = unknown n rows off in
      let q = rank_at n rows i le low (λ h. omega (arith, hi h)) in
      rw (k, q)

  -- what halving has found out: the row of a number below `base` or past `left` rows from there can be none
  abbrev pub Narrowed : ℕ → List R → ℕ → ℕ → Type 0
  Narrowed n rows base left =
      (0 < left)
      × (base + left ≤ length rows)
      × (0 < base → get_or (map num rows) base 0 ≤ n)
      × (Rising num rows → base + left < length rows → n < get_or (map num rows) (base + left) 0)

  -- on past the middle row
  pub narrowed_up : (n : ℕ) (rows : List R) (base left on : ℕ) → Narrowed n rows base left → 1 < left → on ≡ base + left / 2 → get_or (map num rows) (base + left / 2) 0 ≤ n → Narrowed n rows on (left - left / 2)
  narrowed_up n rows base left on h two e le =
      let z : on + (left - left / 2) ≡ base + left = omega arith in
      (omega arith, omega arith, (λ _. rw e le), (λ up l. rw z (h.3 up (omega arith))))

  -- back before the middle row
  pub narrowed_down : (n : ℕ) (rows : List R) (base left on : ℕ) → Narrowed n rows base left → 1 < left → on ≡ base → n < get_or (map num rows) (base + left / 2) 0 → Narrowed n rows on (left - left / 2)
  narrowed_down n rows base left on h two e gt = (
    omega arith,
    omega arith,
    (λ p. rw e (h.2 (omega arith))),
    (λ up l. ⊎_elim
        (λ (q : base + left / 2 < on + (left - left / 2)). omega (arith, rising_far num rows up (base + left / 2) (on + (left - left / 2)) q l))
        (λ (q : on + (left - left / 2) ≤ base + left / 2). let z : on + (left - left / 2) ≡ base + left / 2 = omega arith in rw z gt)
        (cases_lt (base + left / 2) (on + (left - left / 2)))),
  )

  -- the number of the row that is read at a place
  pub number_read : (rows : List R) (i : ℕ) (r : R) → i < length rows → r ≡ get_or rows i r → get_or (map num rows) i 0 ≡ num r
  number_read rows i r l e = get_or-map num rows i r 0 l ∙ ap num (sym e)
