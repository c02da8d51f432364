-- What a head word says, and the group that is read at it.
use Rattle.std.proofs.Common.{◌≡◌, ℕ, ◌<◌, ◌≤◌, true, List, length, take, None, Ok, Err, Result, sym, refl, ap, ◌∙◌, subst, arith, le-leb}
use Rattle.std.proofs.lemmas.Bool.Decides.{nat_tests}
use Rattle.std.proofs.lemmas.List.{get_or-take, length-take-le}
use Rattle.terms.specs.declared.refusal.Refusal.{Refusal}
use Rattle.history.specs.Calls.{enrol, quantities, enter, prices, interval}
use Rattle.feed.specs.declared.head.Head.{Head}
use Rattle.feed.specs.declared.head.Kind.{Kind}
use Rattle.feed.specs.declared.head.Kind.TheVariants.{Enrol, Quantities, Resource, Strike, Prices, Interval}
use Rattle.feed.specs.Words.{kind_of, value_of}
use Rattle.feed.specs.Groups.{is_head, needed, call_of, first_other, group_at, GroupTested}
use Rattle.feed.specs.Heads.{kind_number, kind_numbered, head_with, head_of}

-- a number that is read as a kind is that kind's
kind_known : (n : ℕ) (k : Kind) → kind_numbered n ≡ Ok k → n ≡ kind_number k
kind_known n Enrol h = grind (arith, nat_tests)
kind_known n Quantities h = grind (arith, nat_tests)
kind_known n Resource h = grind (arith, nat_tests)
kind_known n Strike h = grind (arith, nat_tests)
kind_known n Prices h = grind (arith, nat_tests)
kind_known n Interval h = grind (arith, nat_tests)

-- and is the number of a head
lawful : (k : Kind) → is_head (kind_number k) ≡ true
lawful Enrol = refl
lawful Quantities = refl
lawful Resource = refl
lawful Strike = refl
lawful Prices = refl
lawful Interval = refl

head_parts : (value : ℕ) (r : Result Kind Refusal) (h : Head) → Ok h ≡ head_with value r → (r ≡ Ok h.kind) × (value ≡ h.value)
head_parts value (Ok k) h e = let same : h ≡ record { kind = k; value = value } = cc in (sym (ap (λ (x : Head). Ok x.kind) same), sym (ap (λ (x : Head). x.value) same))
head_parts value (Err r) h e = absurd (let z : ◌≡◌ {A = ℕ} 0 1 = cc in omega arith)

-- the call of a kind reads no word after those that it needs
call_taken : (k : Kind) (value : ℕ) (d : List ℕ) → call_of (kind_number k) value (take (needed (kind_number k)) d) ≡ call_of (kind_number k) value d
call_taken Enrol value d = ap (enrol value) (get_or-take 1 d 0 0 (omega arith))
call_taken Quantities value d =
    let g = λ (i : ℕ) (h : i < 11). get_or-take 11 d i 0 h in
    λ j. quantities value (g 0 (omega arith) j) (record { dasa = g 1 (omega arith) j; rtsa = g 2 (omega arith) j; trs = g 3 (omega arith) j; rtpc = g 4 (omega arith) j; pc = g 5 (omega arith) j; ruc = g 6 (omega arith) j; trp = g 7 (omega arith) j; fq = g 8 (omega arith) j; rfq = g 9 (omega arith) j; inf = g 10 (omega arith) j })
call_taken Resource value d =
    let g = λ (i : ℕ) (h : i < 9). get_or-take 9 d i 0 h in
    λ j. enter value (g 0 (omega arith) j) (g 1 (omega arith) j) (record { telemetered = record { up = g 2 (omega arith) j; down = g 3 (omega arith) j; responsive = g 4 (omega arith) j; nonspin = g 5 (omega arith) j; ecrs = g 6 (omega arith) j }; npf = g 7 (omega arith) j; lpc = g 8 (omega arith) j })
call_taken Strike value d = refl
call_taken Prices value d =
    let g = λ (i : ℕ) (h : i < 3). get_or-take 3 d i 0 h in
    λ j. prices value (record { dam = g 0 (omega arith) j; sasm = g 1 (omega arith) j; rsasm = g 2 (omega arith) j })
call_taken Interval value d =
    let g = λ (i : ℕ) (h : i < 2). get_or-take 2 d i 0 h in
    λ j. interval value (record { rtrsvpor = g 0 (omega arith) j; rtrdp = g 1 (omega arith) j })

-- a head with as many words after it as its kind needs, all of them data, is read as their call
pub group_whole : (i word n : ℕ) (rest : List ℕ) (h : Head) → Ok h ≡ head_of word → n ≡ needed (kind_number h.kind) → n ≤ length rest → first_other (take n rest) ≡ None → GroupTested i word rest (Ok (length (take n rest))) × (group_at i word rest ≡ Ok (call_of (kind_number h.kind) h.value (take n rest)))
group_whole i word n rest h e m enough data_alone =
    let parts = head_parts (value_of word) (kind_numbered (kind_of word)) h e in
    let kind : kind_of word ≡ kind_number h.kind = kind_known (kind_of word) h.kind parts.0 in
    let count : n ≡ needed (kind_of word) = m ∙ sym (ap needed kind) in
    let size : length (take n rest) ≡ n = length-take-le n rest enough in
    let taken : call_of (kind_number h.kind) h.value (take n rest) ≡ call_of (kind_number h.kind) h.value rest = ap (λ (x : ℕ). call_of (kind_number h.kind) h.value (take x rest)) m ∙ call_taken h.kind h.value rest in
    let whole : group_at i word rest ≡ Ok (call_of (kind_number h.kind) h.value rest) = rw (kind, parts.1, lawful h.kind, ← m, le-leb n (length rest) enough, data_alone) refl in
    ((size ∙ count, subst (λ (x : ℕ). x ≤ length rest) count enough, whole ∙ (λ j. Ok (call_of (sym kind j) (sym parts.1 j) rest))), whole ∙ ap Ok (sym taken))
