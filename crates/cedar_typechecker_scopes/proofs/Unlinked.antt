-- Without slots the environments of a policy are those of the schema.
use Rattle.std.proofs.Common.{◌≡◌, List, [], ◌∷◌, ◌++◌, None, map, refl, ap, ◌∙◌}
use Rattle.std.specs.List.{flat_map}
use Rattle.std.proofs.lemmas.Grind.{flat_map-append}
use Rattle.cedar_expr_model.specs.Name.{Name}
use Rattle.cedar_schema_model.specs.Environment.{Environment, environment_at, environments, environments_for, no_slot, with_slots}
use Rattle.cedar_schema_model.specs.Schema.{Action, Schema}

abbrev bare : Environment → List Environment
bare e = with_slots e None None ∷ []

module _ (a : Action) where
  of_resources : (p : Name) (rs : List Name) → flat_map bare (map (environment_at a p) rs) ≡ map (environment_at a p) rs
  of_resources p [] = refl
  of_resources p (r ∷ rs) = ap (λ es. environment_at a p r ∷ es) (of_resources p rs)

  of_principals : (ps : List Name) → flat_map bare (flat_map (λ p. map (environment_at a p) a.resources) ps) ≡ flat_map (λ p. map (environment_at a p) a.resources) ps
  of_principals [] = refl
  of_principals (p ∷ ps) =
      flat_map-append bare (map (environment_at a p) a.resources) (flat_map (λ q. map (environment_at a q) a.resources) ps) ∙ (λ i. of_resources p a.resources i ++ of_principals ps i)

  abbrev own : List Environment
  own = flat_map (λ p. map (environment_at a p) a.resources) a.principals

of_actions : (as_ : List Action) → flat_map bare (flat_map own as_) ≡ flat_map own as_
of_actions [] = refl
of_actions (a ∷ as_) = flat_map-append bare (own a) (flat_map own as_) ∙ (λ i. of_principals a a.principals i ++ of_actions as_ i)

pub unlinked : (s : Schema) → environments_for s no_slot no_slot ≡ environments s
unlinked s = of_actions s.actions
