-- The fault of an external declaration is that something of the schema is declared elsewhere.
use Rattle.std.proofs.Common.{◌≡◌, List, true, refl, ap, ◌∙◌, inl, inr, ⊎_elim}
use Rattle.cedar_expr_model.specs.Name.{Name}
use Rattle.cedar_expr_model.proofs.Lists.{map_has, map_from}
use Rattle.cedar_schema_model.specs.BagLaws.{HasSchemaFault}
use Rattle.cedar_schema_model.specs.Declarations.{KindExpr, standard_expr, enumerated_expr, external_expr, EntityDeclaration, Declarations, entity_name, action_uid}
use Rattle.cedar_schema_model.specs.Resolved.{resolved_kind, resolved_entity, resolved_action, schema_of}
use Rattle.cedar_schema_model.specs.Schema.{external, EntityType, Action}
use Rattle.cedar_schema_model.specs.WellFormed.{unresolved_external, is_external_kind}
use Rattle.cedar_schema_model.specs.Kept.{Elsewhere, type_elsewhere, action_elsewhere}
use Rattle.cedar_schema_model.specs.KeptLaws.{HasElsewhere, ExternalIsFault}

kind_external : (d : Declarations) (t : EntityDeclaration) → is_external_kind t.kind ≡ true → (resolved_entity d t).kind ≡ external
kind_external d t h = go t.kind h
  where
    go : (k : KindExpr) → is_external_kind k ≡ true → resolved_kind d t.namespace k ≡ external
    go (standard_expr fs u) h = absurd (cc)
    go (enumerated_expr ids) h = absurd (cc)
    go external_expr h = refl

external_kind : (d : Declarations) (t : EntityDeclaration) → (resolved_entity d t).kind ≡ external → is_external_kind t.kind ≡ true
external_kind d t h = go t.kind h
  where
    go : (k : KindExpr) → resolved_kind d t.namespace k ≡ external → is_external_kind k ≡ true
    go (standard_expr fs u) h = absurd (cc)
    go (enumerated_expr ids) h = absurd (cc)
    go external_expr h = refl

to_schema : (x : List Name) (d : Declarations) → HasSchemaFault x d unresolved_external → (e : Elsewhere) × HasElsewhere (schema_of d) e
to_schema x d h =
    ⊎_elim
    (λ t. (type_elsewhere (entity_name t.0), (resolved_entity d t.0, map_has (resolved_entity d) d.entities t.0 t.1, refl, kind_external d t.0 t.2)))
    (λ a. (action_elsewhere (action_uid a.0), (resolved_action d a.0, map_has (resolved_action d) d.actions a.0 a.1, refl, a.2)))
    h

from_schema : (x : List Name) (d : Declarations) (e : Elsewhere) → HasElsewhere (schema_of d) e → HasSchemaFault x d unresolved_external
from_schema x d (type_elsewhere n) e =
    let t = map_from (resolved_entity d) d.entities e.0 e.1 in
    inl (t.0, t.1, external_kind d t.0 (ap (λ (k : EntityType). k.kind) t.2 ∙ e.3))
from_schema x d (action_elsewhere u) b =
    let a = map_from (resolved_action d) d.actions b.0 b.1 in
    inr (a.0, a.1, ap (λ (k : Action). k.is_external) a.2 ∙ b.3)

pub external_is_fault : ExternalIsFault
external_is_fault x d = (to_schema x d, λ h. from_schema x d h.0 h.1)
