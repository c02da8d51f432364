-- Reading a group: the call that it means, and what is answered where it cannot be read.
use Rattle.std.specs.Prelude.{◌≡◌, ℕ, List, length, Ok, Err, Result}
use Rattle.terms.specs.declared.fault.Fault.{Fault}
use Rattle.history.specs.Calls.{Call}
use Rattle.feed.specs.declared.groups.Group.{Group}
use Rattle.feed.specs.Groups.{call_of, group_at, GroupTested}
use Rattle.feed.specs.Heads.{kind_number}

-- the call that a group makes
abbrev pub group_call : Group → Call
group_call g = call_of (kind_number g.head.kind) g.head.value g.words.now

-- what reading answers is tested: the group at a head, which makes the group's call with its own data words, or its fault
abbrev pub GroupRead : (index head : ℕ) → List ℕ → Result Group Fault → Type 0
GroupRead index head rest (Ok g) = (g.index ≡ index) × GroupTested index head rest (Ok (length g.words.now)) × (group_at index head rest ≡ Ok (group_call g))
GroupRead index head rest (Err f) = GroupTested index head rest (Err f)
