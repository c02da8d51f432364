-- What moving the later rows by one slot leaves of a list.
use Rattle.std.proofs.Common.{◌≡◌, ℕ, ◌+◌, ◌-◌, ◌<◌, ◌≤◌, List, [], ◌∷◌, length, get_or, take, drop, set, ◌∙◌, append_assoc, add-one, arith, length-drop, length-take}
use lib.Seq.{paste}
use Rattle.std.proofs.Math.Seq.{take-set-lt}
use Rattle.std.proofs.lemmas.List.{set_at, take_more, take_min, take-take}
use Rattle.std.proofs.lemmas.List.Edits.{take-paste}
use Rattle.std.proofs.lemmas.Slice.{between_is}
use Rattle.std.specs.List.{insert, remove}

-- as many rows as there are in a part are that part
pub taken_length : {X : Type 0} (n m : ℕ) (xs : List X) → m ≡ length (take n xs) → take m xs ≡ take n xs
taken_length n m xs e = rw (e ∙ length-take n xs) (take_min n xs)

-- the rows from place i on one slot up, and a row at i
pub shifted_up : {X : Type 0} (xs : List X) (i n : ℕ) (row : X) → i ≤ n → n < length xs → take (n + 1) (set (paste xs (i + 1) (drop i xs) (n - i)) i row) ≡ insert (take n xs) i row
shifted_up xs i n row h lt =
    let later = take (n - i) (drop i xs) in
    let end : i + 1 + (n - i) ≡ n + 1 = omega arith in
    let put = take-set-lt (n + 1) (paste xs (i + 1) (drop i xs) (n - i)) i row (omega arith) in
    let cut = rw end at (take-paste xs (i + 1) (drop i xs) (n - i) (omega arith) (simp length-drop (omega arith))) in
    let gap = take_more xs i row (omega arith) in
    let whole = append_assoc (take i xs) (get_or xs i row ∷ []) later in
    let there = set_at (take i xs) (get_or xs i row) later row i (simp length-take (omega arith)) in
    let v = take-take i n xs h in
    let w = between_is xs i n in
    cc

-- the rows past place i one slot down
pub shifted_down : {X : Type 0} (xs : List X) (i n : ℕ) → i < n → n ≤ length xs → take (n - 1) (paste xs i (drop (i + 1) xs) (n - (i + 1))) ≡ remove (take n xs) i
shifted_down xs i n h le =
    let end : i + (n - (i + 1)) ≡ n - 1 = omega arith in
    let cut = rw end at (take-paste xs i (drop (i + 1) xs) (n - (i + 1)) (omega arith) (simp length-drop (omega arith))) in
    let v = take-take i n xs (omega arith) in
    let w = between_is xs (i + 1) n in
    let o = add-one i in
    cc
