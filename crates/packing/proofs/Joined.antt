-- Bytes of groups one after the other.
use Rattle.std.proofs.Common.{◌≡◌, ℕ, ◌+◌, ◌*◌, ◌/◌, ◌%◌, ◌<◌, ◌≤◌, List, [], ◌∷◌, ◌++◌, length, get_or, take, refl, ap, ◌∙◌, append_assoc, append-nil, arith, lit≤}
use native.Mathlib.Nat.{div-div-eq-div-mul}
use Rattle.std.proofs.lemmas.List.{take_more}
use Rattle.feed.specs.Words.{words_of}
use Rattle.feed.specs.Feeding.{feeding}
use Rattle.packing.specs.declared.group.Group.{Group}
use Rattle.packing.specs.declared.group.Group.TheVariants.{Enrol, Quantities, Resource, Strike, Prices, Interval}
use Rattle.packing.specs.Bytes.{bytes_of, Packs}
use Rattle.packing.specs.Packing.{head_word}
use Rattle.packing.specs.Whole.{words_of_group, words_of_groups}
use Rattle.packing.proofs.Feeds.{read_in_turn}
use Rattle.packing.proofs.Reading.{Small, service_small, data_of, small_data}

bytes_append : (xs ys : List ℕ) → bytes_of (xs ++ ys) ≡ bytes_of xs ++ bytes_of ys
bytes_append [] ys = refl
bytes_append (x ∷ xs) ys = rw (bytes_append xs ys)

-- one word more
pub bytes_more : (all before bytes ws : List ℕ) (i : ℕ) → i < length ws → all ≡ before ++ bytes_of (take i ws) → bytes ≡ bytes_of (get_or ws i 0 ∷ []) → all ++ bytes ≡ before ++ bytes_of (take (i + 1) ws)
bytes_more all before bytes ws i h e b =
    let t : take (i + 1) ws ≡ take i ws ++ get_or ws i 0 ∷ [] = take_more ws i 0 h in
    rw (e, b, t, bytes_append (take i ws) (get_or ws i 0 ∷ []), append_assoc)

-- one group more
groups_more : (gs : List Group) (g : Group) → words_of_groups (gs ++ (g ∷ [])) ≡ words_of_groups gs ++ words_of_group g
groups_more [] g = append-nil (words_of_group g)
groups_more (x ∷ gs) g = rw (groups_more gs g, append_assoc)

pub group_more : (gs : List Group) (g : Group) (before all : List ℕ) → before ≡ bytes_of (words_of_groups gs) → all ≡ before ++ bytes_of (words_of_group g) → all ≡ bytes_of (words_of_groups (gs ++ (g ∷ [])))
group_more gs g before all e f = rw (f, e, groups_more gs g, bytes_append (words_of_groups gs) (words_of_group g))

-- words of 32 bits
abbrev Fit : List ℕ → Type 0
Fit [] = Unit {0}
Fit (w ∷ ws) = (w < 4294967296) × Fit ws

fit_small : (ws : List ℕ) → Small ws → Fit ws
fit_small [] s = tt
fit_small (w ∷ ws) s = (omega (arith, s.0), fit_small ws s.1)

-- a number of its bytes
of_bytes : (w a b c : ℕ) → w / 256 ≡ a → a / 256 ≡ b → b / 256 ≡ c → c < 256 → w % 256 + 256 * (a % 256) + 65536 * (b % 256) + 16777216 * (c % 256) ≡ w
of_bytes w a b c ea eb ec h = omega arith

words_back : (ws : List ℕ) → Fit ws → words_of (bytes_of ws) ≡ ws
words_back [] f = refl
words_back (w ∷ ws) f =
    let same = of_bytes w (w / 256) (w / 65536) (w / 16777216) refl (div-div-eq-div-mul w 256 256) (div-div-eq-div-mul w 65536 256) (omega (arith, f.0)) in
    rw (same, words_back ws f.1)

fit_append : (xs ys : List ℕ) → Fit xs → Fit ys → Fit (xs ++ ys)
fit_append [] ys f g = g
fit_append (x ∷ xs) ys f g = (f.0, fit_append xs ys f.1 g)

fit_head : (k v : ℕ) (ws : List ℕ) → k ≤ 6 → v < 268435456 → Small ws → Fit (head_word k v ∷ ws)
fit_head k v ws six h s = (omega arith, fit_small ws s)

fit_group : (g : Group) → Fit (words_of_group g)
fit_group (Enrol qse load) = fit_head 1 _ (data_of (Enrol qse load)) (lit≤ tt) qse.within (small_data (Enrol qse load))
fit_group (Quantities qse service q) = fit_head 2 _ (data_of (Quantities qse service q)) (lit≤ tt) qse.within (small_data (Quantities qse service q))
fit_group (Resource number qse class f) = fit_head 3 _ (data_of (Resource number qse class f)) (lit≤ tt) number.within (small_data (Resource number qse class f))
fit_group (Strike number) = fit_head 4 _ (data_of (Strike number)) (lit≤ tt) number.within (small_data (Strike number))
fit_group (Prices service p) = fit_head 5 _ (data_of (Prices service p)) (lit≤ tt) (service_small service) (small_data (Prices service p))
fit_group (Interval number p) = fit_head 6 _ (data_of (Interval number p)) (lit≤ tt) number.within (small_data (Interval number p))

fit_groups : (gs : List Group) → Fit (words_of_groups gs)
fit_groups [] = tt
fit_groups (g ∷ gs) = fit_append (words_of_group g) (words_of_groups gs) (fit_group g) (fit_groups gs)

pub packs : (gs : List Group) (bytes : List ℕ) → bytes ≡ bytes_of (words_of_groups gs) → Packs gs bytes
packs gs bytes e =
    let w : words_of bytes ≡ words_of_groups gs = ap words_of e ∙ words_back (words_of_groups gs) (fit_groups gs) in
    record { whole = e; words = w; turns = λ s. ap (λ (ws : List ℕ). feeding ws s) w ∙ read_in_turn gs s }
