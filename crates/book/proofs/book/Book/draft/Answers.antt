use Rattle.std.proofs.Common.{true, not, None, refl, ap, arith}
use Rattle.terms.specs.declared.refusal.Refusal.TheVariants.{DraftOpen}
use Rattle.history.specs.Calls.{draft, unless}
use Rattle.history.proofs.Calling.{called_refused, called_granted}
use Rattle.book.specs.View.{view}
use Rattle.book.proofs.book.Book.draft.Goals as goal

pub returns-then-self : goal.returns-then-self
returns-then-self g c = record { called = called_refused (view c.args.self.now) _ (draft (g.E.Edition.meaning c.args.edition.now)) DraftOpen (ap (λ d. unless (not d) DraftOpen None) c.if-self.true) refl; carries = tt; unspent = tt }

pub invariant_of-self : goal.invariant_of-self
invariant_of-self g c =
    let b = c.args.self.now in
    record { accounting = c.settle_table.ensures.sound b.accounting; resourcing = b.resourcing; keeping = c.settle_table.ensures.kept b.keeping; few_qses = omega (arith, b.few_qses, c.settle_table.ensures.capacity); few_resources = b.few_resources }

pub returns : goal.returns
returns g c =
    let b = c.args.self.now in
    let s = view b in
    let all = c.settle_table.ensures.after b.accounting b.few_qses b.resourcing.2 b.few_resources in
    let room = c.settle_table.ensures.capacity in
    record { called = called_granted s _ (draft (g.E.Edition.meaning c.args.edition.now)) _ (ap (λ d. unless (not d) DraftOpen None) c.if-self.false) refl (λ i. record { number = s.number; qse_slots = room i; resource_slots = s.resource_slots; qses = all i; resources = s.resources; prices = s.prices; drafted = true; issued = s.issued }); carries = refl; unspent = refl }
