-- How an entry and a strike fare: their tests one after another, and the book with other resources.
use Rattle.std.proofs.Common.{◌≡◌, ℕ, true, false, not, ◌&&◌, List, is_ok, Some, None, Ok, Option, sym, ap, ◌∙◌}
use Rattle.std.proofs.lemmas.Bool.{and_from, and_parts}
use Rattle.terms.specs.declared.class.Class.{Class}
use Rattle.market.specs.Shapes.{BareFigures}
use Rattle.market.specs.declared.resource.ResourceRow.{ResourceRow}
use Rattle.terms.specs.declared.refusal.Refusal.{Refusal}
use Rattle.terms.specs.declared.refusal.Refusal.TheVariants.{DraftOpen, NumberOutOfRange, FigureOutOfRange, NotEnrolled, NoSuchResource, NoFreeSlot}
use Rattle.terms.specs.Classes.{class_of}
use Rattle.market.specs.Limits.{numbered, figures_within, resource_sound}
use Rattle.table.specs.Rows.{known, put, fits}
use Rattle.history.specs.Calls.{State, enter, strike, refusal, carried_out, unless, qse_of, resource_of, with_read, with_resources}
use Rattle.history.proofs.Words.{unless_none}
use Rattle.admission.proofs.Passing.{two_refuse, three_refuse, two_pass, three_pass, last_holds, last_fails}

-- the book with another table of resources
abbrev pub with_table : State → ℕ → List ResourceRow → State
with_table s slots rs = record { number = s.number; qse_slots = s.qse_slots; resource_slots = slots; qses = s.qses; resources = rs; prices = s.prices; drafted = s.drafted; issued = s.issued }

pub with_table_lem : (s : State) (slots : ℕ) (rs qs : List ResourceRow) → slots ≡ s.resource_slots → rs ≡ qs → with_table s slots rs ≡ with_resources qs s
with_table_lem s slots rs qs p q = λ i. with_table s (p i) (q i)

module _ (s : State) (n : ℕ) where
  -- the tests of a strike that need no look at the table
  abbrev pub strike_tests : Option Refusal
  strike_tests = unless (not s.drafted) DraftOpen (unless (numbered n) NumberOutOfRange None)

  pub strike_refused : (r : Refusal) → strike_tests ≡ Some r → refusal s (strike n) ≡ Some r
  strike_refused r e = two_refuse (not s.drafted) (numbered n) DraftOpen NumberOutOfRange r (unless (known resource_of n s.resources) NoSuchResource None) e

  strike_decided : strike_tests ≡ None → refusal s (strike n) ≡ unless (known resource_of n s.resources) NoSuchResource None
  strike_decided e = two_pass (not s.drafted) (numbered n) DraftOpen NumberOutOfRange (unless (known resource_of n s.resources) NoSuchResource None) e

  pub strike_granted : strike_tests ≡ None → known resource_of n s.resources ≡ true → refusal s (strike n) ≡ None
  strike_granted e k = strike_decided e ∙ last_holds (known resource_of n s.resources) NoSuchResource None k

  pub strike_absent : strike_tests ≡ None → known resource_of n s.resources ≡ false → refusal s (strike n) ≡ Some NoSuchResource
  strike_absent e k = strike_decided e ∙ last_fails (known resource_of n s.resources) NoSuchResource None k

module _ (s : State) (n q c : ℕ) (f : BareFigures) where
  -- the tests of an entry that need no look at the tables
  abbrev pub enter_tests : Option Refusal
  enter_tests = unless (not s.drafted) DraftOpen (unless (numbered n && numbered q) NumberOutOfRange (unless (is_ok (class_of c) && figures_within f) FigureOutOfRange None))

  -- the tests that look
  abbrev later : Option Refusal
  later = unless (known qse_of q s.qses) NotEnrolled (unless (fits resource_of s.resource_slots n s.resources) NoFreeSlot None)

  pub enter_refused : (r : Refusal) → enter_tests ≡ Some r → refusal s (enter n q c f) ≡ Some r
  enter_refused r e = three_refuse (not s.drafted) (numbered n && numbered q) (is_ok (class_of c) && figures_within f) DraftOpen NumberOutOfRange FigureOutOfRange r later e

  enter_decided : enter_tests ≡ None → refusal s (enter n q c f) ≡ later
  enter_decided e = three_pass (not s.drafted) (numbered n && numbered q) (is_ok (class_of c) && figures_within f) DraftOpen NumberOutOfRange FigureOutOfRange later e

  pub enter_not_enrolled : enter_tests ≡ None → known qse_of q s.qses ≡ false → refusal s (enter n q c f) ≡ Some NotEnrolled
  enter_not_enrolled e k = enter_decided e ∙ last_fails (known qse_of q s.qses) NotEnrolled (unless (fits resource_of s.resource_slots n s.resources) NoFreeSlot None) k

  enter_enrolled : enter_tests ≡ None → known qse_of q s.qses ≡ true → refusal s (enter n q c f) ≡ unless (fits resource_of s.resource_slots n s.resources) NoFreeSlot None
  enter_enrolled e k = enter_decided e ∙ last_holds (known qse_of q s.qses) NotEnrolled (unless (fits resource_of s.resource_slots n s.resources) NoFreeSlot None) k

  pub enter_no_slot : enter_tests ≡ None → known qse_of q s.qses ≡ true → fits resource_of s.resource_slots n s.resources ≡ false → refusal s (enter n q c f) ≡ Some NoFreeSlot
  enter_no_slot e k o = enter_enrolled e k ∙ last_fails (fits resource_of s.resource_slots n s.resources) NoFreeSlot None o

  pub enter_granted : enter_tests ≡ None → known qse_of q s.qses ≡ true → fits resource_of s.resource_slots n s.resources ≡ true → refusal s (enter n q c f) ≡ None
  enter_granted e k o = enter_enrolled e k ∙ last_holds (fits resource_of s.resource_slots n s.resources) NoFreeSlot None o

  -- a row that passed the tests is sound
  pub entered_sound : (k : Class) → enter_tests ≡ None → resource_sound (record { number = n; qse = q; class = k; figures = f }) ≡ true
  entered_sound k e =
      let one = (unless_none _ _ _ e).1 in
      let two = unless_none _ _ _ one in
      let three = unless_none _ _ _ two.1 in
      and_from (numbered n && numbered q) (figures_within f) two.0 (and_parts (is_ok (class_of c)) (figures_within f) three.0).1

  pub enter_carried : (k : Class) → class_of c ≡ Ok k → with_resources (put resource_of (record { number = n; qse = q; class = k; figures = f }) s.resources) s ≡ carried_out s (enter n q c f)
  enter_carried k e = sym (ap (λ r. with_read r (λ w. with_resources (put resource_of (record { number = n; qse = q; class = w; figures = f }) s.resources) s) s) e)
