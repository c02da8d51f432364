use Rattle.std.proofs.Common.{refl}
use Rattle.history.specs.Calls.{drop}
use Rattle.history.proofs.Calling.{called_refused, called_granted}
use Rattle.book.specs.View.{view}
use Rattle.book.proofs.book.Book.drop.Goals as goal

pub returns-in-Err : goal.returns-in-Err
returns-in-Err c = record { called = called_refused (view c.args.self.now) _ (drop c.args.draft.book) c.in-Err.refusal c.in-Err.ensures.tested refl; back = refl }

pub returns-in-Ok : goal.returns-in-Ok
returns-in-Ok c = record { called = called_granted (view c.args.self.now) _ (drop c.args.draft.book) _ c.in-Ok.ensures.tested.0 refl refl; back = tt }
