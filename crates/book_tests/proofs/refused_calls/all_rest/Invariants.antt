use Rattle.book_tests.specs.Open.{Rests}
use Rattle.book_tests.proofs.refused_calls.all_rest.Given as goal

abbrev pub invariant-loop-setting : goal.invariant-loop-setting
invariant-loop-setting g l = Rests l.initial.book l.book
