-- What names of entity types and parents of actions are resolved to is what they mean.
use Rattle.std.proofs.Common.{◌≡◌, Bool, true, false, cond, List, [], ◌∷◌, map, Option, Some, None, option_map, Result, Ok, Err, find, refl, sym, ap, ◌∙◌}
use Rattle.std.specs.List.{flat_map}
use Rattle.std.specs.Option.{option_map_or}
use Rattle.cedar_expr_model.specs.Name.{Text, Name}
use Rattle.cedar_expr_model.specs.Uid.{Uid}
use Rattle.cedar_expr_model.specs.Names.{possibilities}
use Rattle.cedar_schema_model.specs.Reference.{to_entity, Meant, meant_entity, meant_at, places}
use Rattle.cedar_schema_model.specs.Declarations.{Declarations, is_declared_action, parent_meant}
use Rattle.cedar_schema_model.specs.Resolved.{entity_of, entity_meant}
use Rattle.cedar_schema_decl.specs.Conditional.{Conditional, conditional_in}
use Rattle.cedar_schema_decl.specs.Defined.{Defined, is_defined, is_defined_action, meant_by, meant_name, resolved}
use Rattle.cedar_schema_decl.specs.Laws.{HasDeclared, namespace_parts, NamesMeanReferences}
use Rattle.cedar_schema_fragments.specs.Laws.{HasActions}
use Rattle.cedar_schema_fragments.specs.Qualified.{parent_with}
use Rattle.cedar_schema_fragments.specs.Refusals.{Refusal, no_action}
use Rattle.cedar_schema_fragments.specs.Resolved.{of_types, unreserved, entity_resolved, parent_meant_by, parent_resolved}
use Rattle.cedar_schema_fragments.specs.WrittenDeclarations.{as_uid}
use Rattle.cedar_schema_builder.proofs.ResolvedComing.{Came, came, ok_same, of_types_came, unreserved_came}

-- where an entity type is due, an entity type is meant
entity_case : (b : Bool) (n : Name) (o : Option Meant) → entity_of o ≡ option_map meant_name o → entity_of (cond b (Some (meant_entity n)) o) ≡ option_map meant_name (cond b (Some (meant_entity n)) o)
entity_case true n o h = refl
entity_case false n o h = h

entities_only : (p : Meant → Bool) (ns : List Name) → entity_of (find p (flat_map (meant_at to_entity) ns)) ≡ option_map meant_name (find p (flat_map (meant_at to_entity) ns))
entities_only p [] = refl
entities_only p (n ∷ ns) = entity_case (p (meant_entity n)) n (find p (flat_map (meant_at to_entity) ns)) (entities_only p ns)

name_found : (c : Conditional) (o : Option Meant) (m : Name) → option_map_or (λ k. Ok (meant_name k)) o (Err c) ≡ Ok m → option_map meant_name o ≡ Some m
name_found c None m h = absurd (cc)
name_found c (Some k) m h = ap Some (ok_same (meant_name k) m h)

module _ (law : NamesMeanReferences) (s : Defined) (d : Declarations) (has : HasDeclared s d) (space : Option Name) where
  pub entity_is : (n m : Name) → resolved s (conditional_in space to_entity n) ≡ Ok m → entity_meant d (namespace_parts space) n ≡ Some m
  entity_is n m h =
      ap entity_of (sym (law s d has space to_entity n))
      ∙ entities_only (is_defined s) (possibilities space n)
      ∙ name_found (conditional_in space to_entity n) (meant_by s (conditional_in space to_entity n)) m h

  pub unreserved_is : (n m : Name) → entity_resolved s (conditional_in space to_entity n) ≡ Ok m → entity_meant d (namespace_parts space) n ≡ Some m
  unreserved_is n m h =
      let k : Came unreserved (of_types (resolved s (conditional_in space to_entity n))) m = came unreserved (of_types (resolved s (conditional_in space to_entity n))) m h in
      entity_is n k.value (of_types_came (resolved s (conditional_in space to_entity n)) k.value k.first) ∙ ap Some (unreserved_came k.value m k.after)

-- a name that stands twice is found no later
once_more : (b : Bool) (n : Name) → cond b (Some n) None ≡ cond b (Some n) (cond b (Some n) None)
once_more true n = refl
once_more false n = refl

same_places : (p : Name → Bool) (space : Option Name) (path : List Text) (base : Text) → find p (possibilities space (record { path = path; base = base })) ≡ find p (places (namespace_parts space) (record { path = path; base = base }))
same_places p None [] base = once_more (p (record { path = []; base = base })) (record { path = []; base = base })
same_places p None (x ∷ path) base = refl
same_places p (Some s) [] base = refl
same_places p (Some s) (x ∷ path) base = refl

found_case : {A B : Type 0} (f : A → B) (b : Bool) (x : A) (o : Option B) (q : Option A) → o ≡ option_map f q → cond b (Some (f x)) o ≡ option_map f (cond b (Some x) q)
found_case f true x o q h = refl
found_case f false x o q h = h

found_map : {A B : Type 0} (p : B → Bool) (f : A → B) (xs : List A) → find p (map f xs) ≡ option_map f (find (λ x. p (f x)) xs)
found_map p f [] = refl
found_map p f (x ∷ xs) = found_case f (p (f x)) x (find p (map f xs)) (find (λ y. p (f y)) xs) (found_map p f xs)

found_alike : {A : Type 0} (p q : A → Bool) → ((x : A) → p x ≡ q x) → (xs : List A) → find p xs ≡ find q xs
found_alike p q h [] = refl
found_alike p q h (x ∷ xs) = λ i. cond (h x i) (Some x) (found_alike p q h xs i)

-- the uid of this type
abbrev of_type : Text → Name → Uid
of_type id n = record { kind = n; id = id }

parent_found : (c : Conditional × Text) (o : Option Name) (q : Name × Text) → option_map_or {U = Result (Name × Text) Refusal} (λ n. Ok (n, c.1)) o (Err (no_action c)) ≡ Ok q → option_map (of_type c.1) o ≡ Some (as_uid q)
parent_found c None q h = absurd (cc)
parent_found c (Some n) q h = ap (λ k. Some (as_uid k)) (ok_same (n, c.1) q h)

module _ (s : Defined) (d : Declarations) (has : HasActions s d) (space : Option Name) where
  pub parent_is : (p q : Name × Text) → parent_resolved s (parent_with (conditional_in space) p) ≡ Ok q → parent_meant d (namespace_parts space) (as_uid p) ≡ Some (as_uid q)
  parent_is p q h =
      found_map (is_declared_action d) (of_type p.1) (places (namespace_parts space) p.0)
      ∙ ap (option_map (of_type p.1))
      (sym (same_places (λ n. is_declared_action d (of_type p.1 n)) space p.0.path p.0.base)
      ∙ found_alike (λ n. is_declared_action d (of_type p.1 n)) (λ n. is_defined_action s (of_type p.1 n)) (λ n. sym (has (of_type p.1 n))) (possibilities space p.0))
      ∙ parent_found (parent_with (conditional_in space) p) (parent_meant_by s (parent_with (conditional_in space) p)) q h
