use Rattle.std.proofs.Common.{◌≡◌, List, map, IfOk, subst, ◌∙◌}
use Rattle.std.specs.declared.alloc.Global.{Global}
use Rattle.std.specs.declared.vec.Vec.{Vec}
use Rattle.cedar_expr_functions.specs.Tables.{table_of}
use Rattle.cedar_expr_model.specs.Name.{Text}
use Rattle.cedar_gate_accepted.specs.Checked.{relevant_ids}
use Rattle.cedar_gate.specs.Gates.{declared_in, policies_held, table_held, limit_held}
use Rattle.cedar_gate_accepted.proofs.Together.{relevant_alike}
use Rattle.cedar_gate_rules.specs.Limit.{levels_of}
use Rattle.cedar_gate_rules.specs.Policies.{policies_of}
use Rattle.cedar_gate_accepted.specs.Checks.{kind_asked}
use Rattle.cedar_schema_built.specs.Views.{schema_kept}
use Rattle.cedar_store_parts.specs.Parts.{id_text}
use Rattle.cedar_store_parts.specs.declared.policy_id.PolicyID.{PolicyID}
use Rattle.cedar_typechecker.specs.SchemaViews.{silent}
use Rattle.cedar_typechecker_model.proofs.Seen.Tests.{tests_closed}
use Rattle.cedar_gate.proofs.gate.Gate.policies_for.Goals as goal

pub new-requires : goal.new-requires
new-requires g c = tests_closed (schema_kept c.args.self.now.schema) c.args.self.now.closed

pub returns : goal.returns
returns g c = λ s w.
    let a = c.args.self.now in
    let r = kind_asked c.args.kind.now in
    subst (λ (ts : List Text). IfOk c.relevant.result (λ (v : Vec PolicyID Global). map id_text v.items ≡ ts))
    ((λ i. relevant_ids (c.in_ok-asked.ensures.schema i) (c.in_ok-asked.ensures.table i) r (policies_of (c.as_slice.ensures.value i)))
    ∙ relevant_alike (declared_in a) (policies_of (policies_held a)) (table_of (table_held a) silent) (levels_of (limit_held a)) s w.handed c.seen_schemas_answer_alike.ensures.declared c.verdicts_are_alike.ensures.irrelevant (schema_kept a.schema) a.kept r)
    c.relevant.ensures
