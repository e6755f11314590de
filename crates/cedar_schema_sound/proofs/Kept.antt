-- What is found of an entity type among those that are kept.
use Rattle.std.proofs.Common.{◌≡◌, List, [], ◌∷◌, map, Bool, true, false, cond, Some, option_map, refl}
use Rattle.std.specs.List.{find}
use Rattle.cedar_expr_model.specs.Name.{Name, name_eq}
use Rattle.cedar_schema_model.specs.Schema.{EntityType, type_named}
use Rattle.cedar_schema_model.specs.Conforming.{of_kind, attributes_at}
use Rattle.cedar_schema_model.specs.Kept.{KeptType, Kept, kept_type}
use Rattle.cedar_schema_sound.specs.Known.{attributes_kept}

abbrev as_type : KeptType → EntityType
as_type t = record { name = t.name; parents = []; kind = t.kind }

found : (n : Name) (ts : List KeptType) → option_map (λ (t : KeptType). attributes_at (of_kind t.kind)) (find (λ (t : KeptType). name_eq n t.name) ts) ≡ option_map (λ (e : EntityType). attributes_at (of_kind e.kind)) (find (λ (e : EntityType). name_eq n e.name) (map as_type ts))
found n [] = refl
found n (t ∷ ts) = step (name_eq n t.name) (found n ts)
  where
    step : (b : Bool) → option_map (λ (t : KeptType). attributes_at (of_kind t.kind)) (find (λ (t : KeptType). name_eq n t.name) ts) ≡ option_map (λ (e : EntityType). attributes_at (of_kind e.kind)) (find (λ (e : EntityType). name_eq n e.name) (map as_type ts))
        → option_map (λ (t : KeptType). attributes_at (of_kind t.kind)) (cond b (Some t) (find (λ (t : KeptType). name_eq n t.name) ts)) ≡ option_map (λ (e : EntityType). attributes_at (of_kind e.kind)) (cond b (Some (as_type t)) (find (λ (e : EntityType). name_eq n e.name) (map as_type ts)))
    step true h = refl
    step false h = h

pub kept_is_found : (k : Kept) (n : Name) → option_map (λ (t : KeptType). attributes_at (of_kind t.kind)) (kept_type k n) ≡ option_map (λ (e : EntityType). attributes_at (of_kind e.kind)) (type_named (attributes_kept k) n)
kept_is_found k n = found n k.types
