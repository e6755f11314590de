use Rattle.std.proofs.Common.{ap, ◌∙◌}
use Rattle.cedar_expr_names.specs.Views.{uid_of}
use Rattle.cedar_schema_built.specs.Views.{schema_kept}
use Rattle.cedar_schema_entries.specs.Views.{entity_type_seen}
use Rattle.cedar_schema_model.specs.Kept.{kept_type}
use Rattle.cedar_schema_model.specs.Conforming.{of_kind, attributes_at}
use Rattle.cedar_typechecker_model.specs.ScopeRules.{has_id}
use Rattle.cedar_typechecker_model.proofs.Seen.Told.{member_found, member_none}
use Rattle.cedar_typechecker.proofs.scopes.SchemaAndFunctionsScopeSchema.is_no_unknown_member.Goals as goal

pub returns-in-Some : goal.returns-in-Some
returns-in-Some g c =
    let k = schema_kept c.args.self.now.schema.now in
    let t = entity_type_seen c.in-Some.entity_type.now in
    c.may_have_id.ensures (attributes_at (of_kind t.kind)) ∙ (λ i. has_id (c.kind.ensures i) (c.eid.ensures i)) ∙ member_found k (uid_of c.args.uid.now) t (c.in-Some.ensures ∙ ap (kept_type k) c.entity_type.ensures)

pub returns-in-None : goal.returns-in-None
returns-in-None g c =
    let k = schema_kept c.args.self.now.schema.now in
    member_none k (uid_of c.args.uid.now) (c.in-None.ensures ∙ ap (kept_type k) c.entity_type.ensures)
