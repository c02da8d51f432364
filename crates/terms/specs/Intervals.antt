use Rattle.std.specs.Prelude.{ℕ, Bool, cond, ◌&&◌, Ok, Err, Result, ◌==◌}
use Rattle.terms.specs.declared.refusal.Refusal.{Refusal}
use Rattle.terms.specs.declared.refusal.Refusal.TheVariants.{FigureOutOfRange}
use Rattle.terms.specs.declared.interval.Interval.{Interval}
use Rattle.terms.specs.declared.interval.Interval.TheVariants.{First, Second, Third, Fourth}
use Rattle.terms.specs.declared.interval.ByInterval.{ByInterval}

-- the interval of a number, or refusal 3
abbrev pub interval_of : ℕ → Result Interval Refusal
interval_of n = cond (n == 0) (Ok First) (cond (n == 1) (Ok Second) (cond (n == 2) (Ok Third) (cond (n == 3) (Ok Fourth) (Err FigureOutOfRange))))

-- its number
abbrev pub interval_number : Interval → ℕ
interval_number First = 0
interval_number Second = 1
interval_number Third = 2
interval_number Fourth = 3

-- the same for every interval
abbrev pub every_interval : {A : Type 0} → A → ByInterval A
every_interval a = record { first = a; second = a; third = a; fourth = a }

-- what an interval has
abbrev pub of_interval : {A : Type 0} → Interval → ByInterval A → A
of_interval First x = x.first
of_interval Second x = x.second
of_interval Third x = x.third
of_interval Fourth x = x.fourth

-- the same with another value for one interval
abbrev pub with_interval : {A : Type 0} → Interval → A → ByInterval A → ByInterval A
with_interval First a x = record { first = a; second = x.second; third = x.third; fourth = x.fourth }
with_interval Second a x = record { first = x.first; second = a; third = x.third; fourth = x.fourth }
with_interval Third a x = record { first = x.first; second = x.second; third = a; fourth = x.fourth }
with_interval Fourth a x = record { first = x.first; second = x.second; third = x.third; fourth = a }

-- each interval's value by a function
abbrev pub each_interval : {A B : Type 0} → (A → B) → ByInterval A → ByInterval B
each_interval f x = record { first = f x.first; second = f x.second; third = f x.third; fourth = f x.fourth }

-- whether something holds of all four
abbrev pub all_intervals : {A : Type 0} → (A → Bool) → ByInterval A → Bool
all_intervals p x = p x.first && p x.second && p x.third && p x.fourth
