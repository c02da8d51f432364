-- Which words a group makes, and how the feed reads them.
use Rattle.std.specs.Prelude.{◌≡◌, ℕ, ◌+◌, ◌*◌, List, [], ◌∷◌, ◌++◌, length, Ok}
use Rattle.market.specs.Shapes.{BareFigures, BareIntervalPrices, BareServicePrices, BareQuantities}
use Rattle.terms.specs.Services.{service_number, each}
use Rattle.history.specs.Calls.{Call, enrol, quantities, enter, strike, prices, interval, draft, issue, drop}
use Rattle.feed.specs.Words.{kind_of}
use Rattle.feed.specs.Groups.{needed, group_at}
use Rattle.market.specs.declared.quantities.Quantities.{Quantities}
use Rattle.market.specs.declared.figures.Figures.{Figures}
use Rattle.market.specs.declared.prices.ServicePrices.{ServicePrices}
use Rattle.market.specs.declared.prices.IntervalPrices.{IntervalPrices}
use Rattle.packing.specs.declared.figure.Figure.{Figure}
use Rattle.packing.specs.declared.group.Group.{Group}
use Rattle.packing.specs.declared.group.Group.TheVariants.{Enrol, Quantities as TenOf, Resource, Strike, Prices, Interval}

-- a group's parts as the call has them
abbrev pub bare_ten : Quantities Figure → BareQuantities
bare_ten q = record { dasa = q.dasa.value; rtsa = q.rtsa.value; trs = q.trs.value; rtpc = q.rtpc.value; pc = q.pc.value; ruc = q.ruc.value; trp = q.trp.value; fq = q.fq.value; rfq = q.rfq.value; inf = q.inf.value }

abbrev pub bare_told : Figures Figure → BareFigures
bare_told f = record { telemetered = each (λ x. x.value) f.telemetered; npf = f.npf.value; lpc = f.lpc.value }

abbrev pub bare_capacity : ServicePrices Figure → BareServicePrices
bare_capacity p = record { dam = p.dam.value; sasm = p.sasm.value; rsasm = p.rsasm.value }

abbrev pub bare_real_time : IntervalPrices Figure → BareIntervalPrices
bare_real_time p = record { rtrsvpor = p.rtrsvpor.value; rtrdp = p.rtrdp.value }

-- the call that a group stands for
abbrev pub call_of_group : Group → Call
call_of_group (Enrol qse load) = enrol qse.value load.value
call_of_group (TenOf qse service ten) = quantities qse.value (service_number service) (bare_ten ten)
call_of_group (Resource number qse class told) = enter number.value qse.value class.value (bare_told told)
call_of_group (Strike number) = strike number.value
call_of_group (Prices service p) = prices (service_number service) (bare_capacity p)
call_of_group (Interval number p) = interval number.value (bare_real_time p)

-- a head word: the kind above the value's 28 bits
abbrev pub head_word : (kind value : ℕ) → ℕ
head_word kind value = kind * 268435456 + value

-- the words of a call, in the feed's order; those that a feed cannot make have none
abbrev pub words_of_call : Call → List ℕ
words_of_call (enrol qse load) = head_word 1 qse ∷ load ∷ []
words_of_call (quantities qse service q) = head_word 2 qse ∷ service ∷ q.dasa ∷ q.rtsa ∷ q.trs ∷ q.rtpc ∷ q.pc ∷ q.ruc ∷ q.trp ∷ q.fq ∷ q.rfq ∷ q.inf ∷ []
words_of_call (enter resource qse class f) = head_word 3 resource ∷ qse ∷ class ∷ f.telemetered.up ∷ f.telemetered.down ∷ f.telemetered.responsive ∷ f.telemetered.nonspin ∷ f.telemetered.ecrs ∷ f.npf ∷ f.lpc ∷ []
words_of_call (strike resource) = head_word 4 resource ∷ []
words_of_call (prices service p) = head_word 5 service ∷ p.dam ∷ p.sasm ∷ p.rsasm ∷ []
words_of_call (interval i p) = head_word 6 i ∷ p.rtrsvpor ∷ p.rtrdp ∷ []
words_of_call (draft e) = []
words_of_call (issue carried) = []
words_of_call (drop carried) = []

-- words that the feed reads as one call: a head with just the data that it needs, whatever index it stands at and whatever words come after
abbrev pub ReadAs : Call → List ℕ → Type 0
ReadAs c [] = ⊥
ReadAs c (head ∷ words) = (length words ≡ needed (kind_of head)) × ((index : ℕ) (rest : List ℕ) → group_at index head (words ++ rest) ≡ Ok c)
