use Rattle.std.proofs.Common.{sym, ap, ◌∙◌}
use Rattle.cedar_expr_names.specs.Views.{uid_of}
use Rattle.cedar_schema_built.specs.Views.{schema_kept}
use Rattle.cedar_schema_entries.specs.Views.{entity_type_seen}
use Rattle.cedar_schema_model.specs.Kept.{kept_type}
use Rattle.cedar_schema_model.specs.Conforming.{Place, is_no_member}
use Rattle.cedar_gate_conforming.proofs.Placed.{place_found, place_none}
use Rattle.cedar_gate_conforming.proofs.members.is_no_typed_member.Goals as goal

pub returns-in-Some : goal.returns-in-Some
returns-in-Some c =
    let k = schema_kept c.args.schema.now in
    let u = uid_of c.args.uid.now in
    c.is_no_member.ensures ∙ sym (ap (λ (p : Place). is_no_member p u.id) (place_found k u.kind (entity_type_seen c.in-Some.ty.now) (c.in-Some.ensures ∙ ap (kept_type k) c.entity_type.ensures)))

pub returns-in-None : goal.returns-in-None
returns-in-None c =
    let k = schema_kept c.args.schema.now in
    let u = uid_of c.args.uid.now in
    sym (ap (λ (p : Place). is_no_member p u.id) (place_none k u.kind (c.in-None.ensures ∙ ap (kept_type k) c.entity_type.ensures)))
