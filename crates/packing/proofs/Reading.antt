-- The feed reads the words of a group as the group's call.
use Rattle.std.proofs.Common.{◌≡◌, ℕ, ◌<◌, true, leb, List, [], ◌∷◌, ◌++◌, length, take, drop, None, Ok, sym, refl, ap, ◌∙◌, arith, length-append, le-leb}
use lib.Seq.{take-append_seam}
use Rattle.terms.specs.declared.service.Service.{Service}
use Rattle.terms.specs.declared.service.Service.TheVariants.{RegUp, RegDown, Responsive, NonSpin, Ecrs}
use Rattle.terms.specs.Services.{service_number}
use Rattle.history.specs.Calls.{Call}
use Rattle.feed.specs.Words.{kind_of, value_of}
use Rattle.feed.specs.Groups.{is_head, needed, call_of, first_other, group_at}
use Rattle.packing.specs.declared.group.Group.{Group}
use Rattle.packing.specs.declared.group.Group.TheVariants.{Enrol, Quantities, Resource, Strike, Prices, Interval}
use Rattle.packing.specs.Packing.{head_word, call_of_group, words_of_call, ReadAs}

-- a head word's kind and value
kind_of_head : (k v : ℕ) → v < 268435456 → kind_of (head_word k v) ≡ k
kind_of_head k v h = omega arith

value_of_head : (k v : ℕ) → v < 268435456 → value_of (head_word k v) ≡ v
value_of_head k v h = omega arith

kind_of_data : (v : ℕ) → v < 268435456 → kind_of v ≡ 0
kind_of_data v h = omega arith

-- words that 28 bits hold
abbrev pub Small : List ℕ → Type 0
Small [] = Unit {0}
Small (w ∷ ws) = (w < 268435456) × Small ws

none_other : (ws : List ℕ) → Small ws → first_other ws ≡ None
none_other [] s = refl
none_other (w ∷ ws) s = rw (kind_of_data w s.0, none_other ws s.1)

take_data : (ws rest : List ℕ) (n : ℕ) → length ws ≡ n → take n (ws ++ rest) ≡ ws
take_data ws rest n e = rw (← e) (take-append_seam ws rest)

enough : (ws rest : List ℕ) (n : ℕ) → length ws ≡ n → leb n (length (ws ++ rest)) ≡ true
enough ws rest n e = le-leb n (length (ws ++ rest)) (omega (arith, length-append ws rest))

-- a head of a kind with just its data, all of 28 bits
read_group : (index k v : ℕ) (ws rest : List ℕ) → v < 268435456 → is_head k ≡ true → length ws ≡ needed k → Small ws → group_at index (head_word k v) (ws ++ rest) ≡ Ok (call_of k v (ws ++ rest))
read_group index k v ws rest h lawful e s = rw (kind_of_head k v h, value_of_head k v h, lawful, enough ws rest (needed k) e, take_data ws rest (needed k) e, none_other ws s)

-- so the feed reads such words as a call that these make with any words after them
read_as : (k v : ℕ) (ws : List ℕ) (c : Call) → v < 268435456 → is_head k ≡ true → length ws ≡ needed k → Small ws → ((rest : List ℕ) → call_of k v (ws ++ rest) ≡ c) → ReadAs c (head_word k v ∷ ws)
read_as k v ws c h lawful e s same =
    (e ∙ sym (ap needed (kind_of_head k v h)), λ index rest. read_group index k v ws rest h lawful e s ∙ ap Ok (same rest))

pub service_small : (s : Service) → service_number s < 268435456
service_small RegUp = omega arith
service_small RegDown = omega arith
service_small Responsive = omega arith
service_small NonSpin = omega arith
service_small Ecrs = omega arith

-- the data of a group
abbrev pub data_of : Group → List ℕ
data_of g = drop 1 (words_of_call (call_of_group g))

pub small_data : (g : Group) → Small (data_of g)
small_data (Enrol qse load) = (load.within, tt)
small_data (Quantities qse service q) =
    (service_small service, (q.dasa.within, (q.rtsa.within, (q.trs.within, (q.rtpc.within, (q.pc.within, (q.ruc.within, (q.trp.within, (q.fq.within, (q.rfq.within, (q.inf.within, tt)))))))))))
small_data (Resource number qse class f) =
    (qse.within, (class.within, (f.telemetered.up.within, (f.telemetered.down.within, (f.telemetered.responsive.within, (f.telemetered.nonspin.within, (f.telemetered.ecrs.within, (f.npf.within, (f.lpc.within, tt)))))))))
small_data (Strike number) = tt
small_data (Prices service p) = (p.dam.within, (p.sasm.within, (p.rsasm.within, tt)))
small_data (Interval number p) = (p.rtrsvpor.within, (p.rtrdp.within, tt))

pub read_back : (g : Group) → ReadAs (call_of_group g) (words_of_call (call_of_group g))
read_back (Enrol qse load) = read_as 1 _ (data_of (Enrol qse load)) _ qse.within refl refl (small_data (Enrol qse load)) (λ rest. refl)
read_back (Quantities qse service q) = read_as 2 _ (data_of (Quantities qse service q)) _ qse.within refl refl (small_data (Quantities qse service q)) (λ rest. refl)
read_back (Resource number qse class f) = read_as 3 _ (data_of (Resource number qse class f)) _ number.within refl refl (small_data (Resource number qse class f)) (λ rest. refl)
read_back (Strike number) = read_as 4 _ (data_of (Strike number)) _ number.within refl refl (small_data (Strike number)) (λ rest. refl)
read_back (Prices service p) = read_as 5 _ (data_of (Prices service p)) _ (service_small service) refl refl (small_data (Prices service p)) (λ rest. refl)
read_back (Interval number p) = read_as 6 _ (data_of (Interval number p)) _ number.within refl refl (small_data (Interval number p)) (λ rest. refl)

-- words equal to those of a group are read as its call
pub read_packed : (g : Group) (ws : List ℕ) → ws ≡ words_of_call (call_of_group g) → ReadAs (call_of_group g) ws
read_packed g ws e = rw e (read_back g)
