-- Words made of the bytes four by four, into room for some.
use Rattle.std.proofs.Common.{◌≡◌, ℕ, suc, ◌+◌, ◌*◌, ◌/◌, ◌<◌, ◌≤◌, min, List, [], ◌∷◌, ◌++◌, length, get_or, take, drop, set, map, sym, refl, ap, ◌∙◌, arith}
use Rattle.std.specs.Simd.{first_chunks}
use Rattle.std.proofs.lemmas.List.{length-take-le, take-append-drop, take_all, take_more, take_more_set, drop-set-lt, drop-drop, length-map, get_or-map, take_at, drop_at}
use Rattle.feed.specs.Words.{words_of}

-- the word of four bytes, the least first
abbrev pub word_of : List ℕ → ℕ
word_of four = get_or four 0 0 + get_or four 1 0 * 256 + get_or four 2 0 * 65536 + get_or four 3 0 * 16777216

-- the words are those of the whole fours
words_of_fours : (bytes : List ℕ) → words_of bytes ≡ map word_of (first_chunks 4 (length bytes / 4) bytes)
words_of_fours [] = refl
words_of_fours (a ∷ []) = refl
words_of_fours (a ∷ b ∷ []) = refl
words_of_fours (a ∷ b ∷ c ∷ []) = refl
words_of_fours (a ∷ b ∷ c ∷ d ∷ rest) =
    let same : a + 256 * b + 65536 * c + 16777216 * d ≡ a + b * 256 + c * 65536 + d * 16777216 = omega arith in
    let one : suc (length rest / 4) ≡ length (a ∷ b ∷ c ∷ d ∷ rest) / 4 = omega arith in
    (λ j. same j ∷ words_of_fours rest j) ∙ ap (λ (k : ℕ). map word_of (first_chunks 4 k (a ∷ b ∷ c ∷ d ∷ rest))) one

words_made : (bytes : List ℕ) (whole : List (List ℕ)) → whole ≡ first_chunks 4 (length bytes / 4) bytes → words_of bytes ≡ map word_of whole
words_made bytes whole e = words_of_fours bytes ∙ ap (λ (l : List (List ℕ)). map word_of l) (sym e)

-- as many as there are fours
pub words_count : (bytes : List ℕ) (whole : List (List ℕ)) → whole ≡ first_chunks 4 (length bytes / 4) bytes → length (words_of bytes) ≡ length whole
words_count bytes whole e = ap length (words_made bytes whole e) ∙ length-map whole word_of

-- the four at a place makes the word at it
pub word_at : (bytes four : List ℕ) (whole : List (List ℕ)) (i : ℕ) → whole ≡ first_chunks 4 (length bytes / 4) bytes → i < length whole → ((d : List ℕ) → four ≡ get_or whole i d) → word_of four ≡ get_or (words_of bytes) i 0
word_at bytes four whole i e h f = ap word_of (f []) ∙ sym (get_or-map word_of whole i [] 0 h) ∙ ap (λ (l : List ℕ). get_or l i 0) (sym (words_made bytes whole e))

-- room that was filled up to an index takes one word more
pub words_step : (words entry ws : List ℕ) (i w : ℕ) → ws ≡ take i words ++ drop i entry → length ws ≡ length entry → i < length words → i < length entry → w ≡ get_or words i 0 → set ws i w ≡ take (i + 1) words ++ drop (i + 1) entry
words_step words entry ws i w e size h k f =
    let long : length (take i words) ≡ i = length-take-le i words (omega arith) in
    let first : take (i + 1) (set ws i w) ≡ take (i + 1) words =
    take_more_set ws i w (omega arith) ∙ (λ j. (ap (take i) e ∙ take_at (take i words) (drop i entry) i long) j ++ f j ∷ []) ∙ sym (take_more words i 0 h) in
    let last : drop (i + 1) (set ws i w) ≡ drop (i + 1) entry =
    drop-set-lt (i + 1) ws i w (omega arith) ∙ sym (drop-drop 1 i ws) ∙ ap (λ (l : List ℕ). drop 1 l) (ap (drop i) e ∙ drop_at (take i words) (drop i entry) i long) ∙ drop-drop 1 i entry in
    sym (take-append-drop (i + 1) (set ws i w)) ∙ (λ j. first j ++ last j)

-- the bytes make no further word
pub words_end : (words entry ws : List ℕ) (i : ℕ) → ws ≡ take i words ++ drop i entry → i ≤ length words → length words ≤ i → i ≤ length entry → (i ≡ min (length words) (length entry)) × (ws ≡ take (length entry) words ++ drop i entry)
words_end words entry ws i e h k m = (omega arith, e ∙ ap (λ (l : List ℕ). l ++ drop i entry) (take_all i words k ∙ sym (take_all (length entry) words (omega arith))))
