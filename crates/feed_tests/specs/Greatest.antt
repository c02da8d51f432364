-- An edition that charges the most that an edition may.
use Rattle.std.proofs.Common.{lit≤}
use Rattle.std.specs.Prelude.{pos}
use Rattle.charges.proofs.Limits.{zero_between}
use Rattle.editions.specs.Meaning.{Meaning}

abbrev pub greatest : Meaning
greatest = record { counted = λ s k f. pos 0; charge = λ s q z p. 100000000000; counted_limit = λ s k f h. zero_between; charge_limit = λ s q z p a b c. lit≤ tt }
