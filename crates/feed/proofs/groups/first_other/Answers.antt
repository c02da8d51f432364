use Rattle.std.proofs.Common.{◌≡◌, rules, tests, ◌∙◌}
use Rattle.std.specs.List.{position}
use Rattle.std.proofs.lemmas.Iterator.{YieldsList-from_slice}
use Rattle.std.proofs.lemmas.Iterator.Search.{position_from_yields_List}
use Rattle.feed.proofs.Others.{is_other, position_other}
use Rattle.feed.proofs.groups.first_other.Goals as goal

pub returns : goal.returns
returns c =
    let found : c.position.result ≡ position is_other c.args.words.now = position_from_yields_List _ _ _ _ c.position.ensures.ran (YieldsList-from_slice c.args.words.now cc) (λ x b q k. search (rules, tests)) in
    record { answer = found ∙ position_other c.args.words.now }
