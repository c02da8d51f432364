-- What a field of a line says.
use Rattle.std.specs.Prelude.{ℕ, Bool, cond, not, ◌&&◌, List, [], ◌∷◌, length, Ok, Err, Result, ◌==◌, nat_lt}
use Rattle.std.specs.Str.Parse.{digits_value}
use Rattle.std.specs.Str.{all_ascii_digits}
use Rattle.terms.specs.declared.refusal.Refusal.{Refusal}
use Rattle.terms.specs.declared.service.Service.{Service}
use Rattle.terms.specs.Services.{service_of_letter}
use Rattle.packing.specs.declared.figure.Figure.{Figure}
use Rattle.packing.specs.declared.wrong.Wrong.{Wrong}
use Rattle.packing.specs.declared.wrong.Wrong.TheVariants.{NotANumber, TooLarge, NotALetter}

-- digits alone, at least one
abbrev pub is_numeral : List ℕ → Bool
is_numeral bs = all_ascii_digits bs && not (length bs == 0)

-- a number where 28 bits hold it
abbrev pub figure_within : ℕ → Result ℕ Wrong
figure_within n = cond (nat_lt n 268435456) (Ok n) (Err TooLarge)

-- the number that digits write
abbrev pub figure_of : List ℕ → Result ℕ Wrong
figure_of bs = cond (is_numeral bs) (figure_within (digits_value 10 bs)) (Err NotANumber)

-- an answer by its figure's number
abbrev pub valued : Result Figure Wrong → Result ℕ Wrong
valued (Ok f) = Ok f.value
valued (Err w) = Err w

abbrev pub or_not_a_letter : Result Service Refusal → Result Service Wrong
or_not_a_letter (Ok s) = Ok s
or_not_a_letter (Err r) = Err NotALetter

-- the service of a field of one letter
abbrev pub service_of_field : List ℕ → Result Service Wrong
service_of_field [] = Err NotALetter
service_of_field (c ∷ []) = or_not_a_letter (service_of_letter c)
service_of_field (c ∷ d ∷ rest) = Err NotALetter
