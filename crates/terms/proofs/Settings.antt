use Rattle.std.proofs.Common.{◌≡◌, ℕ, cond, eqb, Ok, refl, arith}
use Rattle.std.proofs.lemmas.Bool.Decides.{nat_tests}
use Rattle.terms.specs.declared.service.Service.{Service}
use Rattle.terms.specs.declared.service.Service.TheVariants.{RegUp, RegDown, Responsive, NonSpin, Ecrs}
use Rattle.terms.specs.declared.service.ByService.{ByService}
use Rattle.terms.specs.declared.interval.Interval.{Interval}
use Rattle.terms.specs.declared.interval.Interval.TheVariants.{First, Second, Third, Fourth}
use Rattle.terms.specs.declared.interval.ByInterval.{ByInterval}
use Rattle.terms.specs.Services.{service_of, service_number, of, with_service, each}
use Rattle.terms.specs.Intervals.{interval_of, interval_number, of_interval, with_interval, each_interval}

-- a service's value after one service was given another
pub of_with : {A : Type 0} (v w : Service) (a : A) (x : ByService A) → of v (with_service w a x) ≡ cond (eqb (service_number w) (service_number v)) a (of v x)
of_with RegUp RegUp a x = refl
of_with RegUp RegDown a x = refl
of_with RegUp Responsive a x = refl
of_with RegUp NonSpin a x = refl
of_with RegUp Ecrs a x = refl
of_with RegDown RegUp a x = refl
of_with RegDown RegDown a x = refl
of_with RegDown Responsive a x = refl
of_with RegDown NonSpin a x = refl
of_with RegDown Ecrs a x = refl
of_with Responsive RegUp a x = refl
of_with Responsive RegDown a x = refl
of_with Responsive Responsive a x = refl
of_with Responsive NonSpin a x = refl
of_with Responsive Ecrs a x = refl
of_with NonSpin RegUp a x = refl
of_with NonSpin RegDown a x = refl
of_with NonSpin Responsive a x = refl
of_with NonSpin NonSpin a x = refl
of_with NonSpin Ecrs a x = refl
of_with Ecrs RegUp a x = refl
of_with Ecrs RegDown a x = refl
of_with Ecrs Responsive a x = refl
of_with Ecrs NonSpin a x = refl
of_with Ecrs Ecrs a x = refl

-- a number that is read as a service is that service's
pub service_number_lem : (n : ℕ) (v : Service) → service_of n ≡ Ok v → n ≡ service_number v
service_number_lem n RegUp h = grind (arith, nat_tests)
service_number_lem n RegDown h = grind (arith, nat_tests)
service_number_lem n Responsive h = grind (arith, nat_tests)
service_number_lem n NonSpin h = grind (arith, nat_tests)
service_number_lem n Ecrs h = grind (arith, nat_tests)

-- an interval's value after one interval was given another
pub of_with_interval : {A : Type 0} (v w : Interval) (a : A) (x : ByInterval A) → of_interval v (with_interval w a x) ≡ cond (eqb (interval_number w) (interval_number v)) a (of_interval v x)
of_with_interval First First a x = refl
of_with_interval First Second a x = refl
of_with_interval First Third a x = refl
of_with_interval First Fourth a x = refl
of_with_interval Second First a x = refl
of_with_interval Second Second a x = refl
of_with_interval Second Third a x = refl
of_with_interval Second Fourth a x = refl
of_with_interval Third First a x = refl
of_with_interval Third Second a x = refl
of_with_interval Third Third a x = refl
of_with_interval Third Fourth a x = refl
of_with_interval Fourth First a x = refl
of_with_interval Fourth Second a x = refl
of_with_interval Fourth Third a x = refl
of_with_interval Fourth Fourth a x = refl

-- a number that is read as an interval is that interval's
pub interval_number_lem : (n : ℕ) (v : Interval) → interval_of n ≡ Ok v → n ≡ interval_number v
interval_number_lem n First h = grind (arith, nat_tests)
interval_number_lem n Second h = grind (arith, nat_tests)
interval_number_lem n Third h = grind (arith, nat_tests)
interval_number_lem n Fourth h = grind (arith, nat_tests)

-- another value for a service, seen through a function of each
pub each_with : {A B : Type 0} (f : A → B) (v : Service) (a : A) (x : ByService A) → each f (with_service v a x) ≡ with_service v (f a) (each f x)
each_with f RegUp a x = refl
each_with f RegDown a x = refl
each_with f Responsive a x = refl
each_with f NonSpin a x = refl
each_with f Ecrs a x = refl

pub each_with_interval : {A B : Type 0} (f : A → B) (v : Interval) (a : A) (x : ByInterval A) → each_interval f (with_interval v a x) ≡ with_interval v (f a) (each_interval f x)
each_with_interval f First a x = refl
each_with_interval f Second a x = refl
each_with_interval f Third a x = refl
each_with_interval f Fourth a x = refl
