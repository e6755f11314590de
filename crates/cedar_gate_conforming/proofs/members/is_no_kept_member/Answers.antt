use Rattle.std.proofs.Common.{sym, ap, ◌∙◌}
use Rattle.cedar_expr_names.specs.Views.{uid_of}
use Rattle.cedar_schema_built.specs.Views.{schema_kept}
use Rattle.cedar_schema_model.specs.Conforming.{Place, is_no_member}
use Rattle.cedar_gate_conforming.proofs.Placed.{place_action, place_typed}
use Rattle.cedar_gate_conforming.proofs.members.is_no_kept_member.Goals as goal

pub returns-in-Some : goal.returns-in-Some
returns-in-Some c =
    let u = uid_of c.args.uid.now in
    sym (ap (λ (p : Place). is_no_member p u.id) (place_action (schema_kept c.args.schema.now) u _ c.in-Some.ensures))

pub returns-in-None : goal.returns-in-None
returns-in-None c =
    let u = uid_of c.args.uid.now in
    c.is_no_typed_member.ensures ∙ sym (ap (λ (p : Place). is_no_member p u.id) (place_typed (schema_kept c.args.schema.now) u c.in-None.ensures))
