-- Digits one after the other, and the figure that they write.
use Rattle.std.proofs.Common.{◌≡◌, ℕ, ◌+◌, ◌<◌, ◌≤◌, Bool, true, false, not, ◌&&◌, eqb, List, length, get_or, drop, Err, Result, sym, refl, ap, ◌∙◌, ⊎_elim, add-one, arith, drop_of_length-le, drop-cons, le-ltb}
use Rattle.std.proofs.lemmas.Bool.{cases_lt}
use borrow.Author.Tests.{eqb-false}
use Rattle.std.proofs.lemmas.Str.Parse.{IsNumeralModel, numerals_by_value, tells_all_ascii_digits, parse_digits}
use Rattle.std.proofs.lemmas.Result.{OkIff-at_err}
use Rattle.std.specs.Str.Parse.{digits_value, ParsesUnsigned}
use Rattle.std.specs.Char.{is_ascii_digit}
use Rattle.std.specs.Str.{all_ascii_digits}
use Rattle.packing.specs.declared.wrong.Wrong.TheVariants.{TooLarge}
use Rattle.packing.specs.Fields.{is_numeral, figure_of}

-- after a digit those ahead decide
pub on_digit : (s : List ℕ) (i : ℕ) → i < length s → true ≡ is_ascii_digit (get_or s i 0) → all_ascii_digits s ≡ all_ascii_digits (drop i s) → all_ascii_digits s ≡ all_ascii_digits (drop (i + 1) s)
on_digit s i h d e = e ∙ ap all_ascii_digits (drop-cons s i 0 h) ∙ rw (add-one, ← d)

-- another byte decides
pub at_other : (s : List ℕ) (i : ℕ) → i < length s → false ≡ is_ascii_digit (get_or s i 0) → all_ascii_digits s ≡ all_ascii_digits (drop i s) → all_ascii_digits s ≡ false
at_other s i h d e = e ∙ ap all_ascii_digits (drop-cons s i 0 h) ∙ rw (← d)

-- at the end nothing is left to decide
pub at_end : (s : List ℕ) (i : ℕ) → length s ≤ i → all_ascii_digits s ≡ all_ascii_digits (drop i s) → all_ascii_digits s ≡ true
at_end s i h e = e ∙ ap all_ascii_digits (drop_of_length-le s h)

pub no_numeral : (s bs : List ℕ) → bs ≡ s → all_ascii_digits bs ≡ false → false ≡ is_numeral s
no_numeral s bs e n = sym (ap (λ b. b && not (eqb (length s) 0)) (ap all_ascii_digits (sym e) ∙ n))

pub numeral : (s bs : List ℕ) (b : Bool) → bs ≡ s → all_ascii_digits bs ≡ true → b ≡ eqb (length s) 0 → not b ≡ is_numeral s
numeral s bs b e n f = ap not f ∙ sym (ap (λ b. b && not (eqb (length s) 0)) (ap all_ascii_digits (sym e) ∙ n))

both : (a b : Bool) → a && not b ≡ true → (a ≡ true) × (b ≡ false)
both true true e = absurd (let z : ◌≡◌ {A = ℕ} 0 1 = cc in omega arith)
both true false e = (refl, refl)
both false b e = absurd (let z : ◌≡◌ {A = ℕ} 0 1 = cc in omega arith)

own : IsNumeralModel (λ ds. all_ascii_digits ds ≡ true) (digits_value 10)
own = numerals_by_value _ tells_all_ascii_digits

-- digits that it does not take write a larger number than a figure
pub unparsed : {E : Type 0} (bs : List ℕ) (r : Result ℕ E) (d : E) → is_numeral bs ≡ true → ParsesUnsigned 32 10 bs r → r ≡ Err d → Err TooLarge ≡ figure_of bs
unparsed bs r d n h e =
    let b = both _ _ n in
    let no = OkIff-at_err r _ _ d (parse_digits own 32 bs r h b.0) e in
    let large : 268435456 ≤ digits_value 10 bs = ⊎_elim (λ lt. absurd (no (omega (arith, eqb-false _ _ b.1), omega arith))) (λ ge. ge) (cases_lt (digits_value 10 bs) 268435456) in
    sym (rw (n, le-ltb (digits_value 10 bs) 268435456 large))
