use Rattle.std.proofs.Common.{rules}
use Rattle.std.proofs.lemmas.Result.{MatchResult-weaker, err_from_is_err_and}
use Rattle.book.specs.View.{view}
use Rattle.feed.specs.Reading.{group_call}
use Rattle.feed.proofs.Made.{made_refused}
use Rattle.feed.proofs.groups.Group.make.Goals as goal

pub returns-in_err-map_err-clause-answer : goal.returns-in_err-map_err-clause-answer
returns-in_err-map_err-clause-answer c =
    let p = err_from_is_err_and c.from_residual.result c.from_residual.ensures.1 in
    let f = c.in_err-map_err.field-0.0 in
    rw (p.1, p.2) (made_refused c.args.self.now.index _ f (view c.args.book.now) (view c.call.new.book) (group_call c.args.self.now) c.call.result (MatchResult-weaker c.call.result c.in_err-map_err.ensures.cases (λ x e. cc) (λ e q. search rules)) c.call.ensures.called)
