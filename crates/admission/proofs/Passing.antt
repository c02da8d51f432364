-- Tests made first, and the tests that come after them.
use Rattle.std.proofs.Common.{◌≡◌, ℕ, Bool, true, false, cond, Some, None, Ok, Err, Option, Result, refl, ap, arith}
use Rattle.terms.specs.declared.refusal.Refusal.{Refusal}
use Rattle.history.specs.Calls.{unless}

-- a refusal by an earlier test stands whatever comes later
pub two_refuse : (a b : Bool) (p q x : Refusal) (later : Option Refusal) → unless a p (unless b q None) ≡ Some x → unless a p (unless b q later) ≡ Some x
two_refuse true true p q x later e = absurd (let z : ◌≡◌ {A = ℕ} 0 1 = cc in omega arith)
two_refuse true false p q x later e = e
two_refuse false b p q x later e = e

pub three_refuse : (a b d : Bool) (p q r x : Refusal) (later : Option Refusal) → unless a p (unless b q (unless d r None)) ≡ Some x → unless a p (unless b q (unless d r later)) ≡ Some x
three_refuse true b d p q r x later e = two_refuse b d q r x later e
three_refuse false b d p q r x later e = e

-- where no earlier test refuses, the later ones decide
pub two_pass : (a b : Bool) (p q : Refusal) (later : Option Refusal) → unless a p (unless b q None) ≡ None → unless a p (unless b q later) ≡ later
two_pass true true p q later e = refl
two_pass true false p q later e = absurd (let z : ◌≡◌ {A = ℕ} 0 1 = cc in omega arith)
two_pass false b p q later e = absurd (let z : ◌≡◌ {A = ℕ} 0 1 = cc in omega arith)

pub three_pass : (a b d : Bool) (p q r : Refusal) (later : Option Refusal) → unless a p (unless b q (unless d r None)) ≡ None → unless a p (unless b q (unless d r later)) ≡ later
three_pass true b d p q r later e = two_pass b d q r later e
three_pass false b d p q r later e = absurd (let z : ◌≡◌ {A = ℕ} 0 1 = cc in omega arith)

-- which way a table's answer went
pub went_ok : {A E : Type 0} (b : Bool) (x y : A) (e : E) → ◌≡◌ {A = Result A E} (Ok x) (cond b (Ok y) (Err e)) → b ≡ true
went_ok true x y e p = refl
went_ok false x y e p = absurd (let z : ◌≡◌ {A = ℕ} 0 1 = cc in omega arith)

pub went_err : {A E : Type 0} (b : Bool) (y : A) (d e : E) → ◌≡◌ {A = Result A E} (Err d) (cond b (Ok y) (Err e)) → b ≡ false
went_err true y d e p = absurd (let z : ◌≡◌ {A = ℕ} 0 1 = cc in omega arith)
went_err false y d e p = refl

-- a last test decides alone
pub last_holds : (b : Bool) (r : Refusal) (later : Option Refusal) → b ≡ true → unless b r later ≡ later
last_holds b r later e = ap (λ b. unless b r later) e

pub last_fails : (b : Bool) (r : Refusal) (later : Option Refusal) → b ≡ false → unless b r later ≡ Some r
last_fails b r later e = ap (λ b. unless b r later) e

pub said_err : {A E : Type 0} (b : Bool) (y : A) (d e : E) → ◌≡◌ {A = Result A E} (Err d) (cond b (Ok y) (Err e)) → d ≡ e
said_err true y d e p = absurd (let z : ◌≡◌ {A = ℕ} 0 1 = cc in omega arith)
said_err false y d e p = cc

-- where only the last of three tests fails, it refuses
pub third_refuses : (a b d : Bool) (p q r x : Refusal) → a ≡ true → b ≡ true → d ≡ false → x ≡ r → unless a p (unless b q (unless d r None)) ≡ Some x
third_refuses a b d p q r x e f g h = rw (e, f, g, h)
