use Rattle.std.specs.Prelude.{ℕ}
use Rattle.terms.specs.declared.refusal.Refusal.{Refusal}
use Rattle.terms.specs.declared.refusal.Refusal.TheVariants.{DraftOpen, NumberOutOfRange, FigureOutOfRange, NotEnrolled, NoSuchResource, NoFreeSlot, OtherBook, NoDraft, UnknownHead, GroupCutShort, NotData, NothingIssued, OutputTooShort}
use Rattle.terms.specs.declared.fault.Layer.{Layer}
use Rattle.terms.specs.declared.fault.Layer.TheVariants.{Words, Groups, Book}

-- the number that is returned for each refusal
abbrev pub refusal_number : Refusal → ℕ
refusal_number DraftOpen = 1
refusal_number NumberOutOfRange = 2
refusal_number FigureOutOfRange = 3
refusal_number NotEnrolled = 4
refusal_number NoSuchResource = 5
refusal_number NoFreeSlot = 6
refusal_number OtherBook = 7
refusal_number NoDraft = 8
refusal_number UnknownHead = 9
refusal_number GroupCutShort = 10
refusal_number NotData = 11
refusal_number NothingIssued = 12
refusal_number OutputTooShort = 13

-- the number of what turned a feed down: 1 its words, 2 its groups, 3 the book
abbrev pub layer_number : Layer → ℕ
layer_number Words = 1
layer_number Groups = 2
layer_number Book = 3
