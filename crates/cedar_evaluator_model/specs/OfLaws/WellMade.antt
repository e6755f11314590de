-- Values as they are made: the members of a set rise, and the call that an extension value is written as answers it.
-- Rule: values and equality; extension functions (docs/RULES.md).
use Rattle.std.specs.Prelude.{◌≡◌, List, map, true, Option, IfSome, option_and_then}
use Rattle.cedar_expr_model.specs.Name.{Text, Name}
use Rattle.cedar_expr_model.specs.Uid.{Uid}
use Rattle.cedar_expr_model.specs.Canonical.{is_canonical, are_rising}
use Rattle.cedar_expr_model.specs.Made.{Made, made_record, bare}
use Rattle.cedar_expr_model.specs.Table.{Table}
use Rattle.cedar_expr_model.specs.OfLaws.Fair.{IsTaken}
use Rattle.cedar_expr_model.specs.ValueParts.{Part, known_value}
use Rattle.cedar_store_model.specs.World.{Entity, Found, held}
use Rattle.cedar_evaluator_model.specs.Scope.{Scope, MadeCalled, makes, Context, closed}
use Rattle.std.specs.Map.{lookup}
use Rattle.std.specs.Str.{bytes_eq}
use Rattle.cedar_expr_model.specs.OfLaws.Represented.{IsMade, IsRepresented}

-- the members of each set in it rise, and each extension value is what its call gives
abbrev pub IsWellMade : Table → Made → Type 0
IsWellMade x m = IsMade (λ vs. are_rising vs ≡ true) x m

-- a value that is there, or a part that is a value, is well made
abbrev pub IsMadeWell : Table → Option Made → Type 0
IsMadeWell x found = IfSome found (IsWellMade x)

abbrev pub IsPartMadeWell : Table → Option (Part Made) → Type 0
IsPartMadeWell x found = IsMadeWell x (option_and_then known_value found)

abbrev pub IsContextMadeWell : Table → Context → Type 0
IsContextMadeWell x (closed fs) = IsWellMade x (made_record fs)
IsContextMadeWell x c = Unit {0}

abbrev pub IsFoundMadeWell : Table → Found Made → Type 0
IsFoundMadeWell x (held e) = (a : Text) → IsPartMadeWell x (lookup (bytes_eq a) e.attributes) × IsPartMadeWell x (lookup (bytes_eq a) e.tags)
IsFoundMadeWell x f = Unit {0}

-- Of a context and of an entity, as far as they are values: each extension value in it is what its call gives.
abbrev pub IsPartRepresented : Table → Option (Part Made) → Type 0
IsPartRepresented x found = IfSome (option_and_then known_value found) (IsRepresented x)

abbrev pub IsContextRepresented : Table → Context → Type 0
IsContextRepresented x (closed fs) = IsRepresented x (made_record fs)
IsContextRepresented x c = Unit {0}

abbrev pub IsEntityRepresented : Table → Entity Made → Type 0
IsEntityRepresented x e = (a : Text) → IsPartRepresented x (lookup (bytes_eq a) e.attributes) × IsPartRepresented x (lookup (bytes_eq a) e.tags)

abbrev pub IsFoundRepresented : Table → Found Made → Type 0
IsFoundRepresented x (held e) = IsEntityRepresented x e
IsFoundRepresented x f = Unit {0}

-- Canonical, as each value of the code is by its type: a part that is a value, the values of an entity, and those of a context.
abbrev pub IsPartCanonical : Option (Part Made) → Type 0
IsPartCanonical found = IfSome (option_and_then known_value found) (λ m. is_canonical (bare m) ≡ true)

pub record IsEntityCanonical (e : Entity Made) : Type 0 where
  pub attributes : (a : Text) → IsPartCanonical (lookup (bytes_eq a) e.attributes)
  pub tags : (a : Text) → IsPartCanonical (lookup (bytes_eq a) e.tags)

abbrev pub IsFoundCanonical : Found Made → Type 0
IsFoundCanonical (held e) = IsEntityCanonical e
IsFoundCanonical f = Unit {0}

abbrev pub IsContextCanonical : Context → Type 0
IsContextCanonical (closed fs) = is_canonical (bare (made_record fs)) ≡ true
IsContextCanonical c = Unit {0}

-- so is what calls make
abbrev pub MakeValues : (Name → List Made → MadeCalled) → Type 0
MakeValues calls = (f : Name) (ms : List Made) (m : Made) → calls f ms ≡ makes m → is_canonical (bare m) ≡ true

-- All that a scope knows is canonical, and so is what its calls make.
pub record AllAreValues (s : Scope) : Type 0 where
  pub context : IsContextCanonical s.context
  pub values : (n : Text) → IfSome (s.values n) (λ m. is_canonical (bare m) ≡ true)
  pub store : (u : Uid) → IsFoundCanonical (s.store u)
  pub calls : MakeValues s.calls

-- Of the values that a scope knows, and of those that its calls make: each extension value in them is what its call gives.
pub record AllRepresented (s : Scope) : Type 0 where
  pub context : IsContextRepresented s.table s.context
  pub values : (n : Text) → IfSome (s.values n) (IsRepresented s.table)
  pub store : (u : Uid) → IsFoundRepresented s.table (s.store u)
  pub calls : (f : Name) (ms : List Made) (m : Made) → IsTaken s.table f (map bare ms) → s.calls f ms ≡ makes m → IsRepresented s.table m

-- The values that a scope knows, and those that its calls make, are well made.
pub record AllMadeWell (s : Scope) : Type 0 where
  pub context : IsContextMadeWell s.table s.context
  pub values : (n : Text) → IsMadeWell s.table (s.values n)
  pub store : (u : Uid) → IsFoundMadeWell s.table (s.store u)
  pub calls : (f : Name) (ms : List Made) (m : Made) → IsTaken s.table f (map bare ms) → s.calls f ms ≡ makes m → IsWellMade s.table m
