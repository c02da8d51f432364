-- Fingerprints by FNV-1a over 64 bits.
use Rattle.std.specs.Prelude.{ℕ, ◌*◌, ◌%◌, ◌^◌, bit_xor}

-- a fingerprint with one more word
abbrev pub mixed : ℕ → ℕ → ℕ
mixed print word = bit_xor print word * 1099511628211 % 2 ^ 64
