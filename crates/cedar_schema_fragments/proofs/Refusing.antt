-- Refusals that are handed on.
use Rattle.std.proofs.Common.{◌≡◌, Some}

pub inside : {A : Type 0} (x y : A) → Some x ≡ Some y → x ≡ y
inside x y h = cc
