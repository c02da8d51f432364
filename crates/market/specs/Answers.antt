use Rattle.std.specs.Prelude.{Bool, cond, Ok, Err, Result}
use Rattle.terms.specs.declared.refusal.Refusal.{Refusal}
use Rattle.terms.specs.declared.refusal.Refusal.TheVariants.{NumberOutOfRange, FigureOutOfRange}

-- an answer, its value by a function, as by its bare figures
abbrev pub plainly : {V B : Type 0} → (V → B) → Result V Refusal → Result B Refusal
plainly f (Ok v) = Ok (f v)
plainly f (Err e) = Err e

-- a number where it is lawful, or refusal 2
abbrev pub if_numbered : {B : Type 0} → Bool → Result B Refusal → Result B Refusal
if_numbered b r = cond b r (Err NumberOutOfRange)

-- figures where they lie within their limits, or refusal 3
abbrev pub if_within : {B : Type 0} → Bool → B → Result B Refusal
if_within b x = cond b (Ok x) (Err FigureOutOfRange)
