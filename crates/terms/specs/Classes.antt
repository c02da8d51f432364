use Rattle.std.specs.Prelude.{ℕ, cond, Ok, Err, Result, ◌==◌}
use Rattle.terms.specs.declared.refusal.Refusal.{Refusal}
use Rattle.terms.specs.declared.refusal.Refusal.TheVariants.{FigureOutOfRange}
use Rattle.terms.specs.declared.class.Class.{Class}
use Rattle.terms.specs.declared.class.Class.TheVariants.{Generation, ControllableLoad, OtherLoad}

-- the class of a number, or refusal 3
abbrev pub class_of : ℕ → Result Class Refusal
class_of n = cond (n == 0) (Ok Generation) (cond (n == 1) (Ok ControllableLoad) (cond (n == 2) (Ok OtherLoad) (Err FigureOutOfRange)))

-- its number
abbrev pub class_number : Class → ℕ
class_number Generation = 0
class_number ControllableLoad = 1
class_number OtherLoad = 2
