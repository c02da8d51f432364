-- What the calls that write a text answer, and what the output holds afterwards.
use Rattle.std.specs.Prelude.{◌≡◌, ℕ, ◌≤◌, true, false, cond, List, ◌++◌, length, drop, Ok, Err, Result, nat_le}
use Rattle.terms.specs.declared.refusal.Refusal.{Refusal}
use Rattle.terms.specs.declared.refusal.Refusal.TheVariants.{NothingIssued, OutputTooShort}
use Rattle.history.specs.Calls.{State}
use Rattle.statement.specs.Text.{text_of}

-- a text for the start of an output: the number of its bytes, or that the output is too short
abbrev pub fitted : List ℕ → List ℕ → Result ℕ Refusal
fitted text out = cond (nat_le (length text) (length out)) (Ok (length text)) (Err OutputTooShort)

-- the output with the text at its start, the bytes after it as they were; the output as before where it is too short
abbrev pub overlaid : List ℕ → List ℕ → List ℕ
overlaid text out = cond (nat_le (length text) (length out)) (text ++ drop (length text) out) out

-- "text": refused before any issue
abbrev pub text_answer : State → List ℕ → Result ℕ Refusal
text_answer s out = cond s.issued (fitted (text_of s) out) (Err NothingIssued)

abbrev pub text_after : State → List ℕ → List ℕ
text_after s out = cond s.issued (overlaid (text_of s) out) out

-- "length": some number of bytes in which the text fits, at most 12,300; refused before any issue
abbrev pub LengthAnswer : State → Result ℕ Refusal → Type 0
LengthAnswer s (Ok n) = (s.issued ≡ true) × (length (text_of s) ≤ n) × (n ≤ 12300)
LengthAnswer s (Err r) = (s.issued ≡ false) × (r ≡ NothingIssued)
