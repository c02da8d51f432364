-- Groups of a feed: a head, its data words, and the call that they make.
use Rattle.std.specs.Prelude.{◌≡◌, ℕ, suc, ◌+◌, ◌≤◌, Bool, cond, ◌&&◌, List, [], ◌∷◌, length, take, Some, None, Ok, Err, Option, Result, ◌==◌, nat_le, slice_index}
use Rattle.std.specs.Option.{option_map}
use Rattle.terms.specs.declared.fault.Fault.{Fault}
use Rattle.terms.specs.declared.fault.Layer.{Layer}
use Rattle.terms.specs.declared.fault.Layer.TheVariants.{Words, Groups}
use Rattle.market.specs.Shapes.{BareFigures}
use Rattle.market.specs.Shapes.{BareIntervalPrices}
use Rattle.market.specs.Shapes.{BareServicePrices}
use Rattle.market.specs.Shapes.{BareQuantities}
use Rattle.terms.specs.declared.refusal.Refusal.{Refusal}
use Rattle.terms.specs.declared.refusal.Refusal.TheVariants.{UnknownHead, GroupCutShort, NotData}
use Rattle.history.specs.Calls.{Call, enrol, quantities, enter, strike, prices, interval}
use Rattle.feed.specs.Words.{kind_of, value_of}

-- the kinds of head: 1 enrols, 2 sets quantities, 3 enters a resource, 4 strikes one, 5 sets a service's prices, 6 an interval's
abbrev pub is_head : ℕ → Bool
is_head kind = nat_le 1 kind && nat_le kind 6

-- how many data words follow a head of a kind
abbrev pub needed : ℕ → ℕ
needed kind = cond (kind == 1) 1 (cond (kind == 2) 11 (cond (kind == 3) 9 (cond (kind == 4) 0 (cond (kind == 5) 3 2))))

-- the data word at a place
abbrev pub at : List ℕ → ℕ → ℕ
at d i = slice_index d i

-- ten quantities, from the second data word on, in the order in which they are given
abbrev pub ten_of : List ℕ → BareQuantities
ten_of d = record { dasa = at d 1; rtsa = at d 2; trs = at d 3; rtpc = at d 4; pc = at d 5; ruc = at d 6; trp = at d 7; fq = at d 8; rfq = at d 9; inf = at d 10 }

-- five telemetered responsibilities, NPF and LPC, from the third data word on
abbrev pub figures_of : List ℕ → BareFigures
figures_of d = record { telemetered = record { up = at d 2; down = at d 3; responsive = at d 4; nonspin = at d 5; ecrs = at d 6 }; npf = at d 7; lpc = at d 8 }

-- DAM, SASM and RSASM price
abbrev pub service_prices_of : List ℕ → BareServicePrices
service_prices_of d = record { dam = at d 0; sasm = at d 1; rsasm = at d 2 }

-- RTRSVPOR and RTRDP
abbrev pub interval_prices_of : List ℕ → BareIntervalPrices
interval_prices_of d = record { rtrsvpor = at d 0; rtrdp = at d 1 }

-- the call that a head of a kind and value makes with its data words
abbrev pub call_of : (kind value : ℕ) → List ℕ → Call
call_of kind value d = cond (kind == 1) (enrol value (at d 0)) (cond (kind == 2) (quantities value (at d 0) (ten_of d)) (cond (kind == 3) (enter value (at d 0) (at d 1) (figures_of d)) (cond (kind == 4) (strike value) (cond (kind == 5) (prices value (service_prices_of d)) (interval value (interval_prices_of d))))))

-- the place of the first word whose kind is not 0
abbrev pub first_other : List ℕ → Option ℕ
first_other [] = None
first_other (w ∷ ws) = cond (kind_of w == 0) (option_map suc (first_other ws)) (Some 0)

abbrev pub fault : Refusal → Layer → ℕ → Fault
fault r l i = record { refusal = r; layer = l; index = i }

-- data words all of kind 0 make the call; else the first other one is the fault, by its own index
abbrev pub of_data : (index : ℕ) → Option ℕ → Call → Result Call Fault
of_data index None c = Ok c
of_data index (Some place) c = Err (fault NotData Groups (index + 1 + place))

-- the group at a head that stands at an index, with all the words after it: its kind is tested first, then whether enough words remain, then the kinds of its data words
abbrev pub group_at : (index head : ℕ) → List ℕ → Result Call Fault
group_at index head rest = cond (is_head (kind_of head)) (cond (nat_le (needed (kind_of head)) (length rest)) (of_data index (first_other (take (needed (kind_of head)) rest)) (call_of (kind_of head) (value_of head) rest)) (Err (fault GroupCutShort Groups index))) (Err (fault UnknownHead Words index))

-- what the tests of a group answer: how many data words it has where it makes a call, or its fault
abbrev pub GroupTested : (index head : ℕ) → List ℕ → Result ℕ Fault → Type 0
GroupTested index head rest (Ok n) = (n ≡ needed (kind_of head)) × (needed (kind_of head) ≤ length rest) × (group_at index head rest ≡ Ok (call_of (kind_of head) (value_of head) rest))
GroupTested index head rest (Err f) = group_at index head rest ≡ Err f
