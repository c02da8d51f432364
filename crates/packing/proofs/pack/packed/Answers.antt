use Rattle.packing.proofs.Reading.{read_packed}
use Rattle.packing.proofs.pack.packed.Goals as goal

pub returns-in-Quantities-clause-read : goal.returns-in-Quantities-clause-read
returns-in-Quantities-clause-read c =
    read_packed c.args.group.now _ (simp (c.words-in-Quantities.ensures.answer, c.head-in-Quantities.ensures.answer, c.from.ensures, c.in-Quantities.is))
