-- The environments of an action by the types of its requests.
use Rattle.std.proofs.Common.{◌≡◌, List, [], ◌∷◌, ◌++◌, map, None, refl, ap, ◌∙◌}
use Rattle.std.specs.List.{flat_map}
use Rattle.cedar_expr_model.specs.Name.{Name}
use Rattle.cedar_schema_model.specs.Environment.{Environment}
use Rattle.cedar_schema_model.specs.Kept.{KeptAction, RequestKind, kinds_with, kinds_of}
use Rattle.cedar_typechecker_model.specs.Asked.{environment_kept, environments_with, environments_kept}
use Rattle.cedar_typechecker_model.specs.Seen.{context_of}

module _ (a : KeptAction) where
  -- the environment of a request's types under the action
  abbrev pub environment_by : RequestKind → Environment
  environment_by k = record { principal = k.principal; action = k.action; resource = k.resource; context = context_of a.context; principal_slot = None; resource_slot = None }

  by_resources : (p : Name) (rs : List Name) → map environment_by (kinds_with a.uid rs p) ≡ map (environment_kept a p) rs
  by_resources p [] = refl
  by_resources p (r ∷ rs) = ap (λ es. environment_kept a p r ∷ es) (by_resources p rs)

  map_append : (xs ys : List RequestKind) → map environment_by (xs ++ ys) ≡ map environment_by xs ++ map environment_by ys
  map_append [] ys = refl
  map_append (x ∷ xs) ys = ap (λ es. environment_by x ∷ es) (map_append xs ys)

  by_principals : (ps : List Name) → map environment_by (flat_map (kinds_with a.uid a.applied.resources) ps) ≡ flat_map (environments_with a) ps
  by_principals [] = refl
  by_principals (p ∷ ps) =
      map_append (kinds_with a.uid a.applied.resources p) (flat_map (kinds_with a.uid a.applied.resources) ps)
      ∙ ap (λ es. es ++ map environment_by (flat_map (kinds_with a.uid a.applied.resources) ps)) (by_resources p a.applied.resources)
      ∙ ap (λ es. environments_with a p ++ es) (by_principals ps)

  pub kinds_kept : map environment_by (kinds_of a) ≡ environments_kept a
  kinds_kept = by_principals a.applied.principals
