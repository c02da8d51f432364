use Rattle.std.specs.Prelude.{ℕ, Bool, cond, ◌&&◌, Ok, Err, Result, ◌==◌}
use Rattle.terms.specs.declared.refusal.Refusal.{Refusal}
use Rattle.terms.specs.declared.refusal.Refusal.TheVariants.{FigureOutOfRange}
use Rattle.terms.specs.declared.service.Service.{Service}
use Rattle.terms.specs.declared.service.Service.TheVariants.{RegUp, RegDown, Responsive, NonSpin, Ecrs}
use Rattle.terms.specs.declared.service.ByService.{ByService}

-- the service of a number, or refusal 3
abbrev pub service_of : ℕ → Result Service Refusal
service_of n = cond (n == 0) (Ok RegUp) (cond (n == 1) (Ok RegDown) (cond (n == 2) (Ok Responsive) (cond (n == 3) (Ok NonSpin) (cond (n == 4) (Ok Ecrs) (Err FigureOutOfRange)))))

-- its number
abbrev pub service_number : Service → ℕ
service_number RegUp = 0
service_number RegDown = 1
service_number Responsive = 2
service_number NonSpin = 3
service_number Ecrs = 4

-- its letter: U, D, R, N, E
abbrev pub letter_of : Service → ℕ
letter_of RegUp = 85
letter_of RegDown = 68
letter_of Responsive = 82
letter_of NonSpin = 78
letter_of Ecrs = 69

-- the service of a letter, or refusal 3
abbrev pub service_of_letter : ℕ → Result Service Refusal
service_of_letter c = cond (c == 85) (Ok RegUp) (cond (c == 68) (Ok RegDown) (cond (c == 82) (Ok Responsive) (cond (c == 78) (Ok NonSpin) (cond (c == 69) (Ok Ecrs) (Err FigureOutOfRange)))))

-- the same for every service
abbrev pub always : {A : Type 0} → A → ByService A
always a = record { up = a; down = a; responsive = a; nonspin = a; ecrs = a }

-- what a service has
abbrev pub of : {A : Type 0} → Service → ByService A → A
of RegUp x = x.up
of RegDown x = x.down
of Responsive x = x.responsive
of NonSpin x = x.nonspin
of Ecrs x = x.ecrs

-- the same with another value for one service
abbrev pub with_service : {A : Type 0} → Service → A → ByService A → ByService A
with_service RegUp a x = record { up = a; down = x.down; responsive = x.responsive; nonspin = x.nonspin; ecrs = x.ecrs }
with_service RegDown a x = record { up = x.up; down = a; responsive = x.responsive; nonspin = x.nonspin; ecrs = x.ecrs }
with_service Responsive a x = record { up = x.up; down = x.down; responsive = a; nonspin = x.nonspin; ecrs = x.ecrs }
with_service NonSpin a x = record { up = x.up; down = x.down; responsive = x.responsive; nonspin = a; ecrs = x.ecrs }
with_service Ecrs a x = record { up = x.up; down = x.down; responsive = x.responsive; nonspin = x.nonspin; ecrs = a }

-- each service's value by a function
abbrev pub each : {A B : Type 0} → (A → B) → ByService A → ByService B
each f x = record { up = f x.up; down = f x.down; responsive = f x.responsive; nonspin = f x.nonspin; ecrs = f x.ecrs }

-- whether something holds of all five
abbrev pub all_services : {A : Type 0} → (A → Bool) → ByService A → Bool
all_services p x = p x.up && p x.down && p x.responsive && p x.nonspin && p x.ecrs
