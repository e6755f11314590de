-- What a name means, by the names that it may stand for.
use Rattle.std.proofs.Common.{◌≡◌, Bool, true, false, cond, ◌||◌, List, [], ◌∷◌, ◌++◌, map, Option, Some, None, option_map, Result, Ok, Err, find, refl, sym, ap, ◌∙◌}
use Rattle.std.specs.List.{list_any, flat_map}
use Rattle.std.specs.Option.{option_map_or}
use Rattle.cedar_expr_model.specs.Name.{Name}
use Rattle.cedar_expr_names.specs.Views.{name_of}
use Rattle.cedar_expr_names.specs.declared.internal_name.InternalName.{InternalName}
use Rattle.cedar_schema_model.specs.Reference.{ReferenceKind, to_entity, to_common, to_either, Meant, meant_common, meant_entity, meant_at}
use Rattle.cedar_schema_decl.specs.Conditional.{Conditional, may_mean}
use Rattle.cedar_schema_decl.specs.Defined.{Defined, is_defined, tells, meant_by, meant_name, resolved}

pub same_inside : {A : Type 0} (x y : A) → Some x ≡ Some y → x ≡ y
same_inside x y h = cc

one : (b : Bool) (m : Meant) (o : Option Meant) (q : Option Name) → option_map meant_name o ≡ q → option_map meant_name (cond b (Some m) o) ≡ cond (b || false) (Some (meant_name m)) q
one true m o q h = refl
one false m o q h = h

two : (b c : Bool) (m n : Meant) (o : Option Meant) (q : Option Name) → meant_name m ≡ meant_name n → option_map meant_name o ≡ q → option_map meant_name (cond b (Some m) (cond c (Some n) o)) ≡ cond (b || (c || false)) (Some (meant_name n)) q
two true c m n o q e h = ap Some e
two false true m n o q e h = refl
two false false m n o q e h = h

-- the name of what is meant is the first of the names at which something is declared
module _ (d : Defined) where
  first_meant : (k : ReferenceKind) (ns : List Name) → option_map meant_name (find (is_defined d) (flat_map (meant_at k) ns)) ≡ find (tells d k) ns
  first_meant to_entity [] = refl
  first_meant to_common [] = refl
  first_meant to_either [] = refl
  first_meant to_entity (n ∷ ns) = one (is_defined d (meant_entity n)) (meant_entity n) (find (is_defined d) (flat_map (meant_at to_entity) ns)) (find (tells d to_entity) ns) (first_meant to_entity ns)
  first_meant to_common (n ∷ ns) = one (is_defined d (meant_common n)) (meant_common n) (find (is_defined d) (flat_map (meant_at to_common) ns)) (find (tells d to_common) ns) (first_meant to_common ns)
  first_meant to_either (n ∷ ns) = two (is_defined d (meant_common n)) (is_defined d (meant_entity n)) (meant_common n) (meant_entity n) (find (is_defined d) (flat_map (meant_at to_either) ns)) (find (tells d to_either) ns) refl (first_meant to_either ns)

  by_name : (c : Conditional) (o : Option Meant) → option_map_or (λ m. Ok (meant_name m)) o (Err c) ≡ option_map_or (λ n. Ok n) (option_map meant_name o) (Err c)
  by_name c None = refl
  by_name c (Some m) = refl

  found_under : (t : Name → Bool) (ns : List InternalName) → option_map name_of (find (λ n. t (name_of n)) ns) ≡ find t (map name_of ns)
  found_under t [] = refl
  found_under t (n ∷ ns) = go (t (name_of n)) (found_under t ns)
    where
      go : (b : Bool) → option_map name_of (find (λ n. t (name_of n)) ns) ≡ find t (map name_of ns) → option_map name_of (cond b (Some n) (find (λ n. t (name_of n)) ns)) ≡ cond b (Some (name_of n)) (find t (map name_of ns))
      go true h = refl
      go false h = h

  -- what a conditional name is resolved to, where these are the names that it may stand for
  pub resolved_is : (c : Conditional) (ns : List InternalName) (r : Option InternalName) → map name_of ns ≡ c.names → find (λ n. tells d c.kind (name_of n)) ns ≡ r → resolved d c ≡ option_map_or (λ n. Ok (name_of n)) r (Err c)
  resolved_is c ns r e h =
      by_name c (meant_by d c)
      ∙ ap (λ o. option_map_or (λ n. Ok n) o (Err c)) (first_meant c.kind c.names ∙ ap (find (tells d c.kind)) (sym e) ∙ sym (found_under (tells d c.kind) ns) ∙ ap (option_map name_of) h)
      ∙ go r
    where
      go : (q : Option InternalName) → option_map_or (λ n. Ok n) (option_map name_of q) (Err c) ≡ option_map_or (λ n. Ok (name_of n)) q (Err c)
      go None = refl
      go (Some n) = refl
