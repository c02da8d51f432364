-- Feeds as bytes.
use Rattle.std.specs.Prelude.{◌≡◌, ℕ, ◌/◌, ◌%◌, List, [], ◌∷◌}
use Rattle.history.specs.Calls.{State}
use Rattle.feed.specs.Words.{words_of}
use Rattle.feed.specs.Feeding.{feeding}
use Rattle.packing.specs.declared.group.Group.{Group}
use Rattle.packing.specs.Whole.{words_of_groups, in_turn}

-- the bytes of words, four to a word, the least first
abbrev pub bytes_of : List ℕ → List ℕ
bytes_of [] = []
bytes_of (w ∷ ws) = w % 256 ∷ w / 256 % 256 ∷ w / 65536 % 256 ∷ w / 16777216 % 256 ∷ bytes_of ws

-- bytes that are a whole feed of these groups: their words and no byte more, read as the calls of the groups in turn
pub record Packs (gs : List Group) (bytes : List ℕ) : Type 0 where
  pub whole : bytes ≡ bytes_of (words_of_groups gs)
  pub words : words_of bytes ≡ words_of_groups gs
  pub turns : (s : State) → feeding (words_of bytes) s ≡ in_turn gs 0 0 s []
