-- Words of a feed: how bytes make them, and what a word says.
use Rattle.std.specs.Prelude.{ℕ, ◌+◌, ◌*◌, ◌/◌, ◌%◌, List, [], ◌∷◌}

-- four bytes make a word, the least first; bytes after the last whole word make none
abbrev pub words_of : List ℕ → List ℕ
words_of [] = []
words_of (a ∷ []) = []
words_of (a ∷ b ∷ []) = []
words_of (a ∷ b ∷ c ∷ []) = []
words_of (a ∷ b ∷ c ∷ d ∷ rest) = (a + 256 * b + 65536 * c + 16777216 * d) ∷ words_of rest

-- a word's kind, its top four bits
abbrev pub kind_of : ℕ → ℕ
kind_of w = w / 268435456

-- its value, the other 28
abbrev pub value_of : ℕ → ℕ
value_of w = w % 268435456
