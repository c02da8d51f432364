-- The first word that is not data.
use Rattle.std.proofs.Common.{◌≡◌, ℕ, suc, ◌+◌, cond, Bool, true, false, not, eqb, List, [], ◌∷◌, Some, None, Option, sym, refl, ap, ◌∙◌, arith}
use Rattle.std.specs.List.{position, position_from}
use Rattle.std.specs.Option.{option_map}
use Rattle.std.proofs.lemmas.Iterator.Adapters.{position_from-zero}
use Rattle.feed.specs.Words.{kind_of}
use Rattle.feed.specs.Groups.{first_other}

-- a place found so many words further on
abbrev pub further : ℕ → Option ℕ → Option ℕ
further n None = None
further n (Some place) = Some (n + place)

pub further_zero : (o : Option ℕ) → o ≡ further 0 o
further_zero None = refl
further_zero (Some place) = ap (λ (k : ℕ). Some k) (omega arith)

further_suc : (n : ℕ) (o : Option ℕ) → further n (option_map suc o) ≡ further (n + 1) o
further_suc n None = refl
further_suc n (Some place) = ap (λ (k : ℕ). Some k) (omega arith)

-- the place of the first word whose kind is not 0
abbrev pub is_other : ℕ → Bool
is_other w = not (eqb (kind_of w) 0)

other_from : (n : ℕ) (ws : List ℕ) → position_from is_other n ws ≡ further n (first_other ws)
other_from n [] = refl
other_from n (w ∷ ws) = elim (eqb (kind_of w) 0) as (λ b. cond (not b) (Some n) (position_from is_other (n + 1) ws) ≡ further n (cond b (option_map suc (first_other ws)) (Some 0))) [ true ↦ other_from (n + 1) ws ∙ sym (further_suc n (first_other ws)) | false ↦ ap (λ (k : ℕ). Some k) (omega arith) ]

pub position_other : (ws : List ℕ) → position is_other ws ≡ first_other ws
position_other ws = position_from-zero is_other ws ∙ other_from 0 ws ∙ sym (further_zero (first_other ws))
