-- Laws of lists of rows in rising order, and of integers added up over them.
use Rattle.std.proofs.Common.{◌≡◌, ℕ, suc, ◌<◌, ◌≤◌, Bool, true, false, cond, not, ◌&&◌, eqb, ltb, ◌⊎◌, List, [], ◌∷◌, map, ℤ, pos, ◌+ℤ◌, Some, None, count_by, filter, Option, sym, refl, ap, ◌∙◌, subst, inl, inr, arith}
use Rattle.std.proofs.lemmas.Int.{ints}
use Rattle.std.proofs.lemmas.Bool.Decides.{nat_tests}
use Rattle.std.proofs.lemmas.Bool.{and_left, and_parts, both_ways, cases_Bool, cond_both, cond-false, eqb-true, ne_eqb}
use Rattle.std.proofs.lemmas.List.Sums.{sum_by-cons}
use Rattle.std.specs.Option.{option_map}
use Rattle.table.specs.Rows.{Rising, found, put, removed}
use Rattle.terms.specs.declared.service.Service.{Service}
use Rattle.terms.specs.declared.class.Class.{Class}
use Rattle.terms.specs.declared.class.Class.TheVariants.{Generation, ControllableLoad, OtherLoad}
use Rattle.market.specs.Shapes.{BareFigures}
use Rattle.market.specs.declared.resource.ResourceRow.{ResourceRow}
use Rattle.terms.specs.Classes.{class_number}
use Rattle.editions.specs.Meaning.{Meaning}
use Rattle.history.specs.Settlement.{sum_z, counts_for}
use Rattle.history.specs.Histories.{same_figures, is_one}

module _ {R : Type 0} (num : R → ℕ) where
  -- the rows after the first rise too
  pub rising_tail : (x : R) (xs : List R) → Rising num (x ∷ xs) → Rising num xs
  rising_tail x xs up i l = up (suc i) (omega arith)

  -- nothing after the first row has a number at or below its
  pub rising_head : (x : R) (xs : List R) → Rising num (x ∷ xs) → (n : ℕ) → n ≤ num x → found num n xs ≡ None
  rising_head x [] up n l = refl
  rising_head x (y ∷ ys) up n l =
      let here : num x < num y = up 0 (omega arith) in
      let ih = rising_head y ys (rising_tail x (y ∷ ys) up) n (omega arith) in
      grind (arith, nat_tests)

module _ {R : Type 0} where
  -- equal integers add up to the same
  pub sum_z_cong : (f g : R → ℤ) (xs : List R) → ((x : R) → f x ≡ g x) → sum_z f xs ≡ sum_z g xs
  sum_z_cong f g [] h = refl
  sum_z_cong f g (x ∷ xs) h = let ih = sum_z_cong f g xs h in let e = h x in cc

  -- sums add up row by row
  pub sum_z_plus : (f g : R → ℤ) (xs : List R) → sum_z (λ x. f x +ℤ g x) xs ≡ sum_z f xs +ℤ sum_z g xs
  sum_z_plus f g [] = refl
  sum_z_plus f g (x ∷ xs) = omega (arith, ints, sum_z_plus f g xs)

  -- nothings add up to nothing
  pub sum_z_zero : (xs : List R) → sum_z (λ x. pos 0) xs ≡ pos 0
  sum_z_zero [] = refl
  sum_z_zero (x ∷ xs) = omega (arith, ints, sum_z_zero xs)

  -- a sum over the images is the sum of the images' integers
  pub sum_z_map : {Q : Type 0} (f : Q → ℤ) (g : R → Q) (xs : List R) → sum_z f (map g xs) ≡ sum_z (λ x. f (g x)) xs
  sum_z_map f g [] = refl
  sum_z_map f g (x ∷ xs) = ap (λ z. f (g x) +ℤ z) (sum_z_map f g xs)

module _ {R : Type 0} (num : R → ℕ) (f : R → ℤ) where
  -- a row of a new number adds its integer
  pub sum_z_put_new : (x : R) (xs : List R) → found num (num x) xs ≡ None → sum_z f (put num x xs) ≡ f x +ℤ sum_z f xs
  sum_z_put_new x [] e = refl
  sum_z_put_new x (r ∷ rs) e = let ih = sum_z_put_new x rs in grind (arith, ints, nat_tests)

  known_later : (x r : R) (rs : List R) (y : R) → ltb (num r) (num x) ≡ true → found num (num x) (r ∷ rs) ≡ Some y → found num (num x) rs ≡ Some y
  known_later x r rs y t e = grind (arith, nat_tests)

  known_here : (x r : R) (rs : List R) (y : R) → eqb (num r) (num x) ≡ true → found num (num x) (r ∷ rs) ≡ Some y → r ≡ y
  known_here x r rs y t e = grind (arith, nat_tests)

  known_before : (x r : R) (rs : List R) (y : R) → Rising num (r ∷ rs) → ltb (num r) (num x) ≡ false → eqb (num r) (num x) ≡ false → found num (num x) (r ∷ rs) ≡ Some y → ⊥
  known_before x r rs y up l t e = let out = rising_head num r rs up (num x) in grind (arith, nat_tests)

  -- a row of a known number takes the place of the former's integer
  pub sum_z_put_known : (x : R) (xs : List R) (y : R) → Rising num xs → found num (num x) xs ≡ Some y → sum_z f (put num x xs) +ℤ f y ≡ f x +ℤ sum_z f xs
  sum_z_put_known x [] y up e = grind arith
  sum_z_put_known x (r ∷ rs) y up e =
      let P : List R → Type 0 = λ l. sum_z f l +ℤ f y ≡ f x +ℤ (f r +ℤ sum_z f rs) in
      cond_both (ltb (num r) (num x)) _ _ P
      (λ t. omega (arith, ints, sum_z_put_known x rs y (rising_tail num r rs up) (known_later x r rs y t e)))
      (λ l. cond_both (eqb (num r) (num x)) _ _ P
      (λ t. omega (arith, ints, ap f (known_here x r rs y t e)))
      (λ t. absurd (known_before x r rs y up l t e)))

  -- a row put in the place of one with the same integer leaves the sum
  pub sum_z_put_same : (x : R) (xs : List R) (y : R) → Rising num xs → found num (num x) xs ≡ Some y → f x ≡ f y → sum_z f (put num x xs) ≡ sum_z f xs
  sum_z_put_same x xs y up e s = omega (arith, ints, sum_z_put_known x xs y up e, s)

-- one for each element that passes
abbrev one : {R : Type 0} → (R → Bool) → R → ℤ
one p x = cond (p x) (pos 1) (pos 0)

-- a count is a sum of ones
pub count_by_sum_z : {R : Type 0} (p : R → Bool) (xs : List R) → pos (count_by p xs) ≡ sum_z (λ x. cond (p x) (pos 1) (pos 0)) xs
count_by_sum_z p [] = refl
count_by_sum_z p (x ∷ xs) =
    let ih = count_by_sum_z p xs in
    let step = sum_by-cons (λ y. cond (p y) 1 0) x xs in
    let e : pos (cond (p x) 1 0) ≡ cond (p x) (pos 1) (pos 0) = grind arith in
    omega (arith, ints)

-- the rows of other numbers
abbrev pub others : {R : Type 0} → (R → ℕ) → ℕ → List R → List R
others num n xs = filter (λ r. not (eqb (num r) n)) xs

-- the integer of a row that was found, 0 where there is none
abbrev pub value_z : {R : Type 0} → (R → ℤ) → Option R → ℤ
value_z f None = pos 0
value_z f (Some r) = f r

module _ {R : Type 0} (num : R → ℕ) (f : R → ℤ) where
  -- a sum over the rows of other numbers sees nothing at the rows of the number
  pub sum_z_others : (n : ℕ) (xs : List R) → sum_z f (others num n xs) ≡ sum_z (λ r. cond (eqb (num r) n) (pos 0) (f r)) xs
  sum_z_others n [] = refl
  sum_z_others n (x ∷ xs) = let ih = sum_z_others n xs in grind (arith, ints)

  -- a number with no row leaves all rows
  others_absent : (n : ℕ) (xs : List R) → found num n xs ≡ None → others num n xs ≡ xs
  others_absent n [] e = refl
  others_absent n (x ∷ xs) e = let ih = others_absent n xs in grind (arith, nat_tests)

  -- the other rows and the row of the number add up to all
  sum_z_others_found : (n : ℕ) (xs : List R) → Rising num xs → sum_z f (others num n xs) +ℤ value_z f (found num n xs) ≡ sum_z f xs
  sum_z_others_found n [] up = refl
  sum_z_others_found n (x ∷ xs) up =
      elim (cases_Bool (eqb (num x) n)) [
        | inl t ↦
            let out = rising_head num x xs up n (omega (arith, eqb-true (num x) n t)) in
            let same = ap (sum_z f) (others_absent n xs out) in
            rw t (omega (arith, ints))
        | inr t ↦ rw t (omega (arith, ints, sum_z_others_found n xs (rising_tail num x xs up)))
      ]

  -- a sum that sees the rows of one number sees the row that is found
  pub sum_z_found : (n : ℕ) (xs : List R) → Rising num xs → sum_z (λ r. cond (eqb (num r) n) (f r) (pos 0)) xs ≡ value_z f (found num n xs)
  sum_z_found n xs up =
      let split = sum_z_plus (λ r. cond (eqb (num r) n) (f r) (pos 0)) (λ r. cond (eqb (num r) n) (pos 0) (f r)) xs in
      let whole = sum_z_cong (λ r. cond (eqb (num r) n) (f r) (pos 0) +ℤ cond (eqb (num r) n) (pos 0) (f r)) f xs (λ r. grind (arith, ints)) in
      omega (arith, ints, sum_z_others_found n xs up, sum_z_others n xs)

  -- a row put adds its integer to those of the other rows
  pub sum_z_put_others : (x : R) (xs : List R) → Rising num xs → sum_z f (put num x xs) ≡ f x +ℤ sum_z f (others num (num x) xs)
  sum_z_put_others x xs up = go (found num (num x) xs) refl
    where
      go : (o : Option R) → found num (num x) xs ≡ o → sum_z f (put num x xs) ≡ f x +ℤ sum_z f (others num (num x) xs)
      go None e = omega (arith, ints, sum_z_put_new num f x xs e, ap (sum_z f) (others_absent (num x) xs e))
      go (Some y) e = omega (arith, ints, sum_z_put_known num f x xs y up e, sum_z_others_found (num x) xs up, ap (value_z f) e)

  -- taking out the row of a number leaves the integers of the other rows
  pub sum_z_removed_others : (n : ℕ) (xs : List R) → Rising num xs → sum_z f (removed num n xs) ≡ sum_z f (others num n xs)
  sum_z_removed_others n [] up = refl
  sum_z_removed_others n (x ∷ xs) up =
      elim (cases_Bool (eqb (num x) n)) [
        | inl t ↦
            let out = rising_head num x xs up n (omega (arith, eqb-true (num x) n t)) in
            rw t (sym (ap (sum_z f) (others_absent n xs out)))
        | inr t ↦ rw t (ap (λ z. f x +ℤ z) (sum_z_removed_others n xs (rising_tail num x xs up)))
      ]

module _ {R Q A : Type 0} (num : R → ℕ) (num' : Q → ℕ) (f : R → A) (g : Q → A) where
  -- the same is found at each number
  abbrev SameFound : List R → List Q → Type 0
  SameFound xs ys = (n : ℕ) → option_map f (found num n xs) ≡ option_map g (found num' n ys)

  same_heads : (x : R) (xs : List R) (y : Q) (ys : List Q) → Rising num (x ∷ xs) → Rising num' (y ∷ ys) → SameFound (x ∷ xs) (y ∷ ys) → num x ≡ num' y
  same_heads x xs y ys up up' h =
      let a = h (num x) in
      let b = h (num' y) in
      let c = rising_head num x xs up (num' y) in
      let d = rising_head num' y ys up' (num x) in
      grind (arith, nat_tests)

  same_values : (x : R) (xs : List R) (y : Q) (ys : List Q) → num x ≡ num' y → SameFound (x ∷ xs) (y ∷ ys) → f x ≡ g y
  same_values x xs y ys e h = let a = h (num x) in grind (arith, nat_tests)

  same_tails : (x : R) (xs : List R) (y : Q) (ys : List Q) → Rising num (x ∷ xs) → Rising num' (y ∷ ys) → num x ≡ num' y → SameFound (x ∷ xs) (y ∷ ys) → SameFound xs ys
  same_tails x xs y ys up up' e h n =
      let a = h n in
      let c = rising_head num x xs up n in
      let d = rising_head num' y ys up' n in
      grind (arith, nat_tests)

  -- rising rows in which the same is found at each number are the same
  pub rising_same_lookups : (xs : List R) (ys : List Q) → Rising num xs → Rising num' ys → ((n : ℕ) → option_map f (found num n xs) ≡ option_map g (found num' n ys)) → map {B = ℕ × A} (λ r. (num r, f r)) xs ≡ map (λ r. (num' r, g r)) ys
  rising_same_lookups [] [] up up' h = refl
  rising_same_lookups [] (y ∷ ys) up up' h = let a = h (num' y) in grind (arith, nat_tests)
  rising_same_lookups (x ∷ xs) [] up up' h = let a = h (num x) in grind (arith, nat_tests)
  rising_same_lookups (x ∷ xs) (y ∷ ys) up up' h =
      let e = same_heads x xs y ys up up' h in
      let v = same_values x xs y ys e h in
      let ih = rising_same_lookups xs ys (rising_tail num x xs up) (rising_tail num' y ys up') (same_tails x xs y ys up up' e h) in
      λ i. (e i, v i) ∷ ih i

-- a list holds no element that passes, or one of them and the rest, over which all sums split
pick : {R : Type 0} (p : R → Bool) (ys : List R) → (sum_z (one p) ys ≡ pos 0) ⊎ ((y : R) × (zs : List R) × (p y ≡ true) × ((g : R → ℤ) → sum_z g ys ≡ g y +ℤ sum_z g zs))
pick p [] = inl refl
pick {R} p (y ∷ ys) = elim (cases_Bool (p y)) [ inl t ↦ inr (y, ys, t, λ g. refl) | inr t ↦ later t (pick p ys) ]
  where
    later : p y ≡ false → (sum_z (one p) ys ≡ pos 0) ⊎ ((x : R) × (zs : List R) × (p x ≡ true) × ((g : R → ℤ) → sum_z g ys ≡ g x +ℤ sum_z g zs)) → (sum_z (one p) (y ∷ ys) ≡ pos 0) ⊎ ((x : R) × (zs : List R) × (p x ≡ true) × ((g : R → ℤ) → sum_z g (y ∷ ys) ≡ g x +ℤ sum_z g zs))
    later t (inl e) = inl (rw t (omega (arith, ints)))
    later t (inr (x, zs, u, h)) = inr (x, y ∷ zs, u, λ g. omega (arith, ints, h g))

-- `like x` tests whether an element counts as x does. An element that is not even like itself counts for nothing
module _ {R : Type 0} (like : R → R → Bool) (f : R → ℤ)
    (alike : (x y z : R) → like x x ≡ true → like x y ≡ true → like z x ≡ like z y)
    (outside : (x z : R) → like x x ≡ false → like z x ≡ false)
    (value : (x y : R) → like x x ≡ true → like x y ≡ true → f x ≡ f y)
    (nothing : (x : R) → like x x ≡ false → f x ≡ pos 0) where
  sum_of_none : (ys : List R) → ((z : R) → pos 0 ≡ sum_z (one (like z)) ys) → pos 0 ≡ sum_z f ys
  sum_of_none [] h = refl
  sum_of_none (y ∷ ys) h =
      elim (cases_Bool (like y y)) [
        | inl t ↦ let a : pos 0 ≡ pos 1 +ℤ sum_z (one (like y)) ys = rw t at (h y) in omega (arith, ints, count_by_sum_z (like y) ys)
        | inr t ↦ omega (arith, ints, nothing y t, sum_of_none ys (λ z. let a : pos 0 ≡ pos 0 +ℤ sum_z (one (like z)) ys = rw (outside y z t) at (h z) in omega (arith, ints)))
      ]

  same_ones_same_sums : (xs ys : List R) → ((z : R) → sum_z (one (like z)) xs ≡ sum_z (one (like z)) ys) → sum_z f xs ≡ sum_z f ys
  same_ones_same_sums [] ys h = sum_of_none ys h
  same_ones_same_sums (x ∷ xs) ys h =
      let ih = same_ones_same_sums xs in
      elim (cases_Bool (like x x)) [
        | inl t ↦ among ih t (pick (like x) ys)
        | inr t ↦ omega (arith, ints, nothing x t, ih ys (λ z. let a : pos 0 +ℤ sum_z (one (like z)) xs ≡ sum_z (one (like z)) ys = rw (outside x z t) at (h z) in omega (arith, ints)))
      ]
    where
      among : ((zs : List R) → ((z : R) → sum_z (one (like z)) xs ≡ sum_z (one (like z)) zs) → sum_z f xs ≡ sum_z f zs) → like x x ≡ true → (sum_z (one (like x)) ys ≡ pos 0) ⊎ ((y : R) × (zs : List R) × (like x y ≡ true) × ((g : R → ℤ) → sum_z g ys ≡ g y +ℤ sum_z g zs)) → sum_z f (x ∷ xs) ≡ sum_z f ys
      among ih t (inl e) = let a : pos 1 +ℤ sum_z (one (like x)) xs ≡ sum_z (one (like x)) ys = rw t at (h x) in absurd (omega (arith, ints, count_by_sum_z (like x) xs))
      among ih t (inr (y, zs, u, split)) =
          let rest = ih zs (λ z. omega (arith, ints, h z, split (one (like z)), ap (λ b. cond b (pos 1) (pos 0)) (alike x y z t u))) in
          omega (arith, ints, split f, value x y t u)

same_class : (j k : Class) → class_number j ≡ class_number k → j ≡ k
same_class Generation Generation e = refl
same_class Generation ControllableLoad e = absurd (omega arith)
same_class Generation OtherLoad e = absurd (omega arith)
same_class ControllableLoad Generation e = absurd (omega arith)
same_class ControllableLoad ControllableLoad e = refl
same_class ControllableLoad OtherLoad e = absurd (omega arith)
same_class OtherLoad Generation e = absurd (omega arith)
same_class OtherLoad ControllableLoad e = absurd (omega arith)
same_class OtherLoad OtherLoad e = refl

same_figures_lem : (f g : BareFigures) → same_figures f g ≡ true → f ≡ g
same_figures_lem f g t =
    let up : f.telemetered.up ≡ g.telemetered.up = grind (arith, nat_tests) in
    let down : f.telemetered.down ≡ g.telemetered.down = grind (arith, nat_tests) in
    let responsive : f.telemetered.responsive ≡ g.telemetered.responsive = grind (arith, nat_tests) in
    let nonspin : f.telemetered.nonspin ≡ g.telemetered.nonspin = grind (arith, nat_tests) in
    let ecrs : f.telemetered.ecrs ≡ g.telemetered.ecrs = grind (arith, nat_tests) in
    let npf : f.npf ≡ g.npf = grind (arith, nat_tests) in
    let lpc : f.lpc ≡ g.lpc = grind (arith, nat_tests) in
    λ i. record { telemetered = record { up = up i; down = down i; responsive = responsive i; nonspin = nonspin i; ecrs = ecrs i }; npf = npf i; lpc = lpc i }

-- a row that passes stands under the QSE with the class and the figures
pub is_one_true : (q : ℕ) (k : Class) (f : BareFigures) (r : ResourceRow) → is_one q k f r ≡ true → (r.qse ≡ q) × (r.class ≡ k) × (r.figures ≡ f)
is_one_true q k f r t =
    let a = and_parts (eqb r.qse q && eqb (class_number r.class) (class_number k)) (same_figures r.figures f) t in
    let b = and_parts (eqb r.qse q) (eqb (class_number r.class) (class_number k)) a.0 in
    (eqb-true r.qse q b.0, same_class r.class k (eqb-true _ _ b.1), same_figures_lem r.figures f a.1)

-- a row stands under its own QSE with its class and figures
pub is_one_self : (r : ResourceRow) → is_one r.qse r.class r.figures r ≡ true
is_one_self r = grind (arith, nat_tests)

module _ (q : ℕ) where
  -- whether a row stands under the QSE with the class and the figures of another
  abbrev like_row : ResourceRow → ResourceRow → Bool
  like_row x r = is_one q x.class x.figures r

  rows_alike : (x y z : ResourceRow) → like_row x x ≡ true → like_row x y ≡ true → like_row z x ≡ like_row z y
  rows_alike x y z t u =
      let a = is_one_true q x.class x.figures x t in
      let b = is_one_true q x.class x.figures y u in
      λ i. is_one q z.class z.figures (record { number = x.number; qse = (a.0 ∙ sym b.0) i; class = sym b.1 i; figures = sym b.2 i })

  row_of_another : (x : ResourceRow) → like_row x x ≡ false → eqb x.qse q ≡ false
  row_of_another x t = ne_eqb x.qse q (λ e. both_ways (like_row x x) t (subst (λ n. is_one n x.class x.figures x ≡ true) e (is_one_self x)))

  rows_outside : (x z : ResourceRow) → like_row x x ≡ false → like_row z x ≡ false
  rows_outside x z t = and_left _ (same_figures x.figures z.figures) (and_left (eqb x.qse q) (eqb (class_number x.class) (class_number z.class)) (row_of_another x t))

  module _ (e : Meaning) (s : Service) where
    rows_value : (x y : ResourceRow) → like_row x x ≡ true → like_row x y ≡ true → counts_for e s q x ≡ counts_for e s q y
    rows_value x y t u =
        let a = is_one_true q x.class x.figures x t in
        let b = is_one_true q x.class x.figures y u in
        λ i. counts_for e s q (record { number = x.number; qse = (a.0 ∙ sym b.0) i; class = sym b.1 i; figures = sym b.2 i })

    rows_nothing : (x : ResourceRow) → like_row x x ≡ false → counts_for e s q x ≡ pos 0
    rows_nothing x t = cond-false _ _ _ (row_of_another x t)

-- rows among which each class with its figures occurs equally often under a QSE count the same for it
pub same_counts_same_sums : (xs ys : List ResourceRow) (q : ℕ) → ((k : Class) (f : BareFigures) → count_by (is_one q k f) xs ≡ count_by (is_one q k f) ys) → (e : Meaning) (s : Service) → sum_z (counts_for e s q) xs ≡ sum_z (counts_for e s q) ys
same_counts_same_sums xs ys q h e s =
    same_ones_same_sums (like_row q) (counts_for e s q) (rows_alike q) (rows_outside q) (rows_value q e s) (rows_nothing q e s) xs ys
    (λ z. sym (count_by_sum_z (like_row q z) xs) ∙ ap pos (h z.class z.figures) ∙ count_by_sum_z (like_row q z) ys)
