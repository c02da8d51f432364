-- Heads of groups: their kinds, the numbers that stand for them, and what a head word says.
use Rattle.std.specs.Prelude.{ℕ, cond, Ok, Err, Result, ◌==◌}
use Rattle.terms.specs.declared.refusal.Refusal.{Refusal}
use Rattle.terms.specs.declared.refusal.Refusal.TheVariants.{UnknownHead}
use Rattle.feed.specs.declared.head.Head.{Head}
use Rattle.feed.specs.declared.head.Kind.{Kind}
use Rattle.feed.specs.declared.head.Kind.TheVariants.{Enrol, Quantities, Resource, Strike, Prices, Interval}
use Rattle.feed.specs.Words.{kind_of, value_of}

-- the number that stands for a kind
abbrev pub kind_number : Kind → ℕ
kind_number Enrol = 1
kind_number Quantities = 2
kind_number Resource = 3
kind_number Strike = 4
kind_number Prices = 5
kind_number Interval = 6

-- the kind of a number, or refusal 9
abbrev pub kind_numbered : ℕ → Result Kind Refusal
kind_numbered n = cond (n == 1) (Ok Enrol) (cond (n == 2) (Ok Quantities) (cond (n == 3) (Ok Resource) (cond (n == 4) (Ok Strike) (cond (n == 5) (Ok Prices) (cond (n == 6) (Ok Interval) (Err UnknownHead))))))

-- what a head word says
abbrev pub head_with : (value : ℕ) → Result Kind Refusal → Result Head Refusal
head_with value (Ok k) = Ok (record { kind = k; value = value })
head_with value (Err r) = Err r

abbrev pub head_of : ℕ → Result Head Refusal
head_of word = head_with (value_of word) (kind_numbered (kind_of word))
