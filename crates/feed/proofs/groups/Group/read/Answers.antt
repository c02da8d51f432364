use Rattle.std.proofs.Common.{refl, rules, arith}
use Rattle.feed.proofs.Heads.{group_whole}
use Rattle.feed.proofs.groups.Group.read.Goals as goal

pub returns-in-None : goal.returns-in-None
returns-in-None c =
    let g = group_whole c.args.index c.args.word _ c.args.rest.now c.in-Ok.head (search rules) (search rules) (omega (arith, c.if-rest-needed.false, c.needed.ensures.answer, c.needed-in-Ok-2.ensures.answer)) (search rules) in
    record { read = (refl, g.0, g.1) }
