-- Accounts that a call puts: they keep their limits, and the call is as defined.
use Rattle.std.proofs.Common.{◌≡◌, ℕ, Bool, true, false, cond, not, ◌&&◌, List, is_some, is_ok, Some, None, Ok, Err, Option, Result, sym, refl, ap, ◌∙◌, subst, arith}
use Rattle.std.proofs.lemmas.Bool.{or_left, cond-true, cond-false, cond_both}
use Rattle.terms.specs.declared.service.Service.{Service}
use Rattle.terms.specs.declared.service.Service.TheVariants.{RegUp, RegDown, Responsive, NonSpin, Ecrs}
use Rattle.terms.specs.declared.refusal.Refusal.TheVariants.{DraftOpen, NumberOutOfRange, FigureOutOfRange, NotEnrolled, NoFreeSlot}
use Rattle.market.specs.Shapes.{BareQuantities}
use Rattle.market.specs.Bare.{no_quantities}
use Rattle.market.specs.Limits.{numbered, load_within, quantities_within}
use Rattle.terms.specs.Services.{service_of, of}
use Rattle.terms.proofs.Services.{all_services_from, all_with}
use Rattle.table.specs.declared.table.Full.{Full}
use Rattle.table.specs.Rows.{AllSound, found, known, put, fits}
use Rattle.table.specs.Tables.{full}
use Rattle.table.proofs.Laws.{found_number, sound_found, sound_put}
use Rattle.history.specs.declared.account.Account.{Account}
use Rattle.history.specs.Accounts.{account_sound, account_kept}
use Rattle.history.specs.Called.{Called}
use Rattle.history.specs.Calls.{State, enrol, quantities, refused, done, qse_of, new_account, with_load, with_quantities, enrolled, supplied, with_qses, with_read, unless, refusal, carried_out}
use Rattle.history.proofs.Calling.{called_refused, called_granted}
use Rattle.history.proofs.Limits.{parts, from_parts, kept_parts, from_kept_parts}
use Rattle.history.proofs.Words.{enrolled_number}
use Rattle.admission.proofs.Passing.{three_pass}

-- what a put answers tells whether there was room
room_by_ok : (b : Bool) (r : Result (Unit {0}) Full) → r ≡ Ok tt → r ≡ cond b (Ok tt) (Err full) → b ≡ true
room_by_ok b r p e = grind arith

no_room_by_err : (b : Bool) (r : Result (Unit {0}) Full) (f : Full) → r ≡ Err f → r ≡ cond b (Ok tt) (Err full) → b ≡ false
no_room_by_err b r f p e = grind arith

-- quantities of 0 lie within their limits
zero_within : quantities_within no_quantities ≡ true
unfolding quantities_within
zero_within = refl

new_sound : (qse load : ℕ) → numbered qse ≡ true → load_within load ≡ true → account_sound (new_account qse load) ≡ true
new_sound qse load n l = from_parts (new_account qse load) (record { number = n; load = l; quantities = all_services_from quantities_within (new_account qse load).row.quantities (λ v. elim v as (λ w. quantities_within (of w (new_account qse load).row.quantities) ≡ true) [ RegUp ↦ zero_within | RegDown ↦ zero_within | Responsive ↦ zero_within | NonSpin ↦ zero_within | Ecrs ↦ zero_within ]); settled = refl; billed = refl })

-- the account of an enrolment lies within its limits
pub enrolled_sound : (qse load : ℕ) (xs : List Account) (o : Option Account) → o ≡ found qse_of qse xs → AllSound account_sound xs → numbered qse ≡ true → load_within load ≡ true → account_sound (enrolled qse load o) ≡ true
enrolled_sound qse load xs None f s n l = new_sound qse load n l
enrolled_sound qse load xs (Some a) f s n l =
    let p = parts a (sound_found qse_of account_sound qse xs a s (sym f)) in
    from_parts (with_load load a) (record { number = p.number; load = l; quantities = p.quantities; settled = p.settled; billed = p.billed })

-- so does an account with other quantities
pub supplied_sound : (qse : ℕ) (v : Service) (ten : BareQuantities) (xs : List Account) (o : Option Account) (a : Account) → o ≡ found qse_of qse xs → o ≡ Some a → AllSound account_sound xs → quantities_within ten ≡ true → account_sound (with_quantities v ten a) ≡ true
supplied_sound qse v ten xs o a f h s w =
    let p = parts a (sound_found qse_of account_sound qse xs a s (sym f ∙ h)) in
    from_parts (with_quantities v ten a) (record { number = p.number; load = p.load; quantities = all_with quantities_within v ten a.row.quantities p.quantities w; settled = p.settled; billed = p.billed })

-- the book keeps the account of an enrolment, and an account with other quantities
pub enrolled_kept : (qse load : ℕ) (xs : List Account) (o : Option Account) → o ≡ found qse_of qse xs → AllSound account_kept xs → account_sound (enrolled qse load o) ≡ true → account_kept (enrolled qse load o) ≡ true
enrolled_kept qse load xs None f k s = from_kept_parts (new_account qse load) (record { sound = s; settled = refl; billed = refl; line = refl })
enrolled_kept qse load xs (Some a) f k s =
    let p = kept_parts a (sound_found qse_of account_kept qse xs a k (sym f)) in
    from_kept_parts (with_load load a) (record { sound = s; settled = p.settled; billed = p.billed; line = p.line })

pub supplied_kept : (qse : ℕ) (v : Service) (ten : BareQuantities) (xs : List Account) (o : Option Account) (a : Account) → o ≡ found qse_of qse xs → o ≡ Some a → AllSound account_kept xs → account_sound (with_quantities v ten a) ≡ true → account_kept (with_quantities v ten a) ≡ true
supplied_kept qse v ten xs o a f h k s =
    let p = kept_parts a (sound_found qse_of account_kept qse xs a k (sym f ∙ h)) in
    from_kept_parts (with_quantities v ten a) (record { sound = s; settled = p.settled; billed = p.billed; line = p.line })

-- the accounts after such an account was put, or not where no slot was free
pub put_kept : (a : Account) (b : Bool) (xs ys : List Account) → ys ≡ cond b (put qse_of a xs) xs → AllSound account_kept xs → account_kept a ≡ true → AllSound account_kept ys
put_kept a b xs ys e k s =
    let P : List Account → Type 0 = λ zs. AllSound account_kept zs in
    subst P (sym e) (cond_both b (put qse_of a xs) xs P (λ _. sound_put qse_of account_kept a xs s k) (λ _. k))

-- the book with other accounts over so many slots
abbrev pub holding : ℕ → List Account → State → State
holding n xs s = record { number = s.number; qse_slots = n; resource_slots = s.resource_slots; qses = xs; resources = s.resources; prices = s.prices; drafted = s.drafted; issued = s.issued }

holding_by : (s : State) (n : ℕ) (xs ys : List Account) → n ≡ s.qse_slots → xs ≡ ys → holding n xs s ≡ with_qses ys s
holding_by s n xs ys e f = ap (λ m. holding m xs s) e ∙ ap (λ zs. with_qses zs s) f

-- an enrolment whose account was put
pub enrol_put : (s : State) (qse load n : ℕ) (o : Option Account) (a : Account) (xs : List Account) (r : Result (Unit {0}) Full) → unless (not s.drafted) DraftOpen (unless (numbered qse) NumberOutOfRange (unless (load_within load) FigureOutOfRange None)) ≡ None → o ≡ found qse_of qse s.qses → a ≡ enrolled qse load o → r ≡ Ok tt → r ≡ cond (fits qse_of s.qse_slots (qse_of a) s.qses) (Ok tt) (Err full) → xs ≡ cond (fits qse_of s.qse_slots (qse_of a) s.qses) (put qse_of a s.qses) s.qses → n ≡ s.qse_slots → Called s (enrol qse load) done (holding n xs s)
enrol_put s qse load n o a xs r t f e ok answer after slots =
    let same : a ≡ enrolled qse load (found qse_of qse s.qses) = e ∙ ap (enrolled qse load) f in
    let number : qse_of a ≡ qse = ap qse_of same ∙ enrolled_number qse load s.qses (found qse_of qse s.qses) refl in
    let room : fits qse_of s.qse_slots (qse_of a) s.qses ≡ true = room_by_ok (fits qse_of s.qse_slots (qse_of a) s.qses) r ok answer in
    let room_for : fits qse_of s.qse_slots qse s.qses ≡ true = ap (λ q. fits qse_of s.qse_slots q s.qses) (sym number) ∙ room in
    let free : refusal s (enrol qse load) ≡ None = three_pass (not s.drafted) (numbered qse) (load_within load) DraftOpen NumberOutOfRange FigureOutOfRange (unless (fits qse_of s.qse_slots qse s.qses) NoFreeSlot None) t ∙ cond-true (fits qse_of s.qse_slots qse s.qses) None (Some NoFreeSlot) room_for in
    called_granted s (holding n xs s) (enrol qse load) done free refl
    (holding_by s n xs (put qse_of (enrolled qse load (found qse_of qse s.qses)) s.qses) slots
    (after ∙ cond-true (fits qse_of s.qse_slots (qse_of a) s.qses) (put qse_of a s.qses) s.qses room ∙ ap (λ b. put qse_of b s.qses) same))

-- an enrolment that found no slot
pub enrol_full : (s : State) (qse load n : ℕ) (o : Option Account) (a : Account) (xs : List Account) (r : Result (Unit {0}) Full) (g : Full) → unless (not s.drafted) DraftOpen (unless (numbered qse) NumberOutOfRange (unless (load_within load) FigureOutOfRange None)) ≡ None → o ≡ found qse_of qse s.qses → a ≡ enrolled qse load o → r ≡ Err g → r ≡ cond (fits qse_of s.qse_slots (qse_of a) s.qses) (Ok tt) (Err full) → xs ≡ cond (fits qse_of s.qse_slots (qse_of a) s.qses) (put qse_of a s.qses) s.qses → n ≡ s.qse_slots → Called s (enrol qse load) (refused NoFreeSlot) (holding n xs s)
enrol_full s qse load n o a xs r g t f e err answer after slots =
    let same : a ≡ enrolled qse load (found qse_of qse s.qses) = e ∙ ap (enrolled qse load) f in
    let number : qse_of a ≡ qse = ap qse_of same ∙ enrolled_number qse load s.qses (found qse_of qse s.qses) refl in
    let none : fits qse_of s.qse_slots (qse_of a) s.qses ≡ false = no_room_by_err (fits qse_of s.qse_slots (qse_of a) s.qses) r g err answer in
    let none-for : fits qse_of s.qse_slots qse s.qses ≡ false = ap (λ q. fits qse_of s.qse_slots q s.qses) (sym number) ∙ none in
    let stopped : refusal s (enrol qse load) ≡ Some NoFreeSlot = three_pass (not s.drafted) (numbered qse) (load_within load) DraftOpen NumberOutOfRange FigureOutOfRange (unless (fits qse_of s.qse_slots qse s.qses) NoFreeSlot None) t ∙ cond-false (fits qse_of s.qse_slots qse s.qses) None (Some NoFreeSlot) none-for in
    called_refused s (holding n xs s) (enrol qse load) NoFreeSlot stopped
    (holding_by s n xs s.qses slots (after ∙ cond-false (fits qse_of s.qse_slots (qse_of a) s.qses) (put qse_of a s.qses) s.qses none))

-- other quantities for a QSE that is not enrolled
pub quantities_unknown : (s : State) (qse service : ℕ) (ten : BareQuantities) (o : Option Account) → unless (not s.drafted) DraftOpen (unless (numbered qse) NumberOutOfRange (unless (is_ok (service_of service) && quantities_within ten) FigureOutOfRange None)) ≡ None → o ≡ found qse_of qse s.qses → o ≡ None → refusal s (quantities qse service ten) ≡ Some NotEnrolled
quantities_unknown s qse service ten o t f h = three_pass (not s.drafted) (numbered qse) (is_ok (service_of service) && quantities_within ten) DraftOpen NumberOutOfRange FigureOutOfRange (unless (known qse_of qse s.qses) NotEnrolled None) t ∙ cond-false (known qse_of qse s.qses) None (Some NotEnrolled) (ap is_some (sym f ∙ h))

-- other quantities that were put
pub quantities_put : (s : State) (qse service n : ℕ) (v : Service) (ten : BareQuantities) (o : Option Account) (held a : Account) (xs : List Account) → unless (not s.drafted) DraftOpen (unless (numbered qse) NumberOutOfRange (unless (is_ok (service_of service) && quantities_within ten) FigureOutOfRange None)) ≡ None → service_of service ≡ Ok v → o ≡ found qse_of qse s.qses → o ≡ Some held → a ≡ with_quantities v ten held → xs ≡ cond (fits qse_of s.qse_slots (qse_of a) s.qses) (put qse_of a s.qses) s.qses → n ≡ s.qse_slots → Called s (quantities qse service ten) done (holding n xs s)
quantities_put s qse service n v ten o held a xs t read g h e after slots =
    let f : found qse_of qse s.qses ≡ Some held = sym g ∙ h in
    let there : known qse_of qse s.qses ≡ true = ap is_some f in
    let number : qse_of a ≡ qse = ap qse_of e ∙ found_number qse_of qse s.qses held f in
    let room : fits qse_of s.qse_slots (qse_of a) s.qses ≡ true = ap (λ q. fits qse_of s.qse_slots q s.qses) number ∙ or_left (known qse_of qse s.qses) _ there in
    let free : refusal s (quantities qse service ten) ≡ None = three_pass (not s.drafted) (numbered qse) (is_ok (service_of service) && quantities_within ten) DraftOpen NumberOutOfRange FigureOutOfRange (unless (known qse_of qse s.qses) NotEnrolled None) t ∙ cond-true (known qse_of qse s.qses) None (Some NotEnrolled) there in
    let carried : with_qses (put qse_of (with_quantities v ten held) s.qses) s ≡ carried_out s (quantities qse service ten) = sym (ap (λ r. with_read r (λ w. with_qses (supplied w ten (found qse_of qse s.qses) s.qses) s) s) read ∙ ap (λ o. with_qses (supplied v ten o s.qses) s) f) in
    called_granted s (holding n xs s) (quantities qse service ten) done free refl
    (holding_by s n xs (put qse_of (with_quantities v ten held) s.qses) slots
    (after ∙ cond-true (fits qse_of s.qse_slots (qse_of a) s.qses) (put qse_of a s.qses) s.qses room ∙ ap (λ b. put qse_of b s.qses) e)
    ∙ carried)
