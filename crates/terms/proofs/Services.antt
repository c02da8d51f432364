-- What holds in all five services.
use Rattle.std.proofs.Common.{◌≡◌, Bool, true, ◌&&◌, arith}
use Rattle.std.proofs.lemmas.Bool.{and_from}
use Rattle.std.proofs.lemmas.Bool.Decides.{nat_tests}
use Rattle.terms.specs.declared.service.Service.{Service}
use Rattle.terms.specs.declared.service.Service.TheVariants.{RegUp, RegDown, Responsive, NonSpin, Ecrs}
use Rattle.terms.specs.declared.service.ByService.{ByService}
use Rattle.terms.specs.Services.{of, with_service, all_services}

-- what holds of all five services holds of each
pub all_services_of : {A : Type 0} (p : A → Bool) (x : ByService A) (s : Service) → all_services p x ≡ true → p (of s x) ≡ true
all_services_of p x RegUp h = grind (arith, nat_tests)
all_services_of p x RegDown h = grind (arith, nat_tests)
all_services_of p x Responsive h = grind (arith, nat_tests)
all_services_of p x NonSpin h = grind (arith, nat_tests)
all_services_of p x Ecrs h = grind (arith, nat_tests)

-- what holds of each holds of all five
pub all_services_from : {A : Type 0} (p : A → Bool) (x : ByService A) → ((s : Service) → p (of s x) ≡ true) → all_services p x ≡ true
all_services_from p x h = and_from (p x.up && p x.down && p x.responsive && p x.nonspin) (p x.ecrs) (and_from (p x.up && p x.down && p x.responsive) (p x.nonspin) (and_from (p x.up && p x.down) (p x.responsive) (and_from (p x.up) (p x.down) (h RegUp) (h RegDown)) (h Responsive)) (h NonSpin)) (h Ecrs)

-- what holds of all five holds of all after one was given another of which it holds
pub all_with : {A : Type 0} (p : A → Bool) (s : Service) (a : A) (x : ByService A) → all_services p x ≡ true → p a ≡ true → all_services p (with_service s a x) ≡ true
all_with p RegUp a x h k = grind arith
all_with p RegDown a x h k = grind arith
all_with p Responsive a x h k = grind arith
all_with p NonSpin a x h k = grind arith
all_with p Ecrs a x h k = grind arith
