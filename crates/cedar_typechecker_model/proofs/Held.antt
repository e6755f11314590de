-- What holds of a value, if there is one.
use Rattle.std.proofs.Common.{Option, Some, None}
use Rattle.std.specs.Prelude.{option_map, option_and_then}

abbrev pub Holds : {A : Type 0} → (A → Type 0) → Option A → Type 0
Holds P None = Unit {0}
Holds P (Some a) = P a

pub then_holds : {A B : Type 0} (P : A → Type 0) (Q : B → Type 0) (f : A → Option B) (x : Option A) → Holds P x → ((a : A) → P a → Holds Q (f a)) → Holds Q (option_and_then f x)
then_holds P Q f None h k = tt
then_holds P Q f (Some a) h k = k a h

pub map_holds : {A B : Type 0} (P : A → Type 0) (Q : B → Type 0) (f : A → B) (x : Option A) → Holds P x → ((a : A) → P a → Q (f a)) → Holds Q (option_map f x)
map_holds P Q f None h k = tt
map_holds P Q f (Some a) h k = k a h
