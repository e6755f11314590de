use Rattle.std.proofs.Common.{sym, subst}
use Rattle.cedar_expr_functions.specs.Tables.{functions_of, ordered_of, table_of}
use Rattle.cedar_gate_accepted.proofs.ChecksTogether.{as_submitted, as_policies, as_declared}
use Rattle.cedar_gate_accepted.proofs.Together.{as_typed}
use Rattle.cedar_gate_fragments.specs.Written.{declared_by}
use Rattle.cedar_gate_rules.specs.Limit.{levels_of}
use Rattle.cedar_gate_rules.specs.Policies.{policies_of}
use Rattle.cedar_schema_built.specs.Views.{schema_kept}
use Rattle.cedar_schema_model.specs.Resolved.{schema_of}
use Rattle.cedar_typechecker.specs.SchemaViews.{silent}
use Rattle.cedarcheck.specs.Faults.{HasNumbers}
use Rattle.cedarcheck.proofs.faults.fault_numbers.Goals as goal

pub add_against-requires : goal.add_against-requires
add_against-requires g c = c.seen_schemas_answer_alike.ensures.closed (schema_of (declared_by c.args.fragments.now)) (schema_kept c.in-Ok.schema) c.in-Ok.ensures.kept

pub returns-in_ok-add_against-in-Ok : goal.returns-in_ok-add_against-in-Ok
returns-in_ok-add_against-in-Ok g c =
    let d = declared_by c.args.fragments.now in
    let ps = policies_of c.args.policies.now in
    let y = table_of c.args.table.now silent in
    let n = levels_of c.args.limit in
    λ s w l.
    c.in_ok-add_against-in-Ok.ensures s (as_typed d ps y n s w c.seen_schemas_answer_alike.ensures.declared (schema_kept c.in-Ok.schema) c.in-Ok.ensures.kept c.args.level l)
    (as_declared d ps y.functions y.ordered n s w c.declarations_are_decided.ensures.well_formed c.in-Ok.ensures.formed c.in-Ok.ensures.complete)
    (c.in_ok-add_plain-in-Ok.ensures s (as_policies d ps y.functions y.ordered n s w) (subst (HasNumbers s) (sym c.new-numbers.ensures.items) tt))

pub returns-in_ok-add_plain-in-Err : goal.returns-in_ok-add_plain-in-Err
returns-in_ok-add_plain-in-Err g c =
    let d = declared_by c.args.fragments.now in
    let ps = policies_of c.args.policies.now in
    let fs = functions_of c.args.table.now in
    let os = ordered_of c.args.table.now in
    let n = levels_of c.args.limit in
    λ s w l.
    c.in_ok-add_plain-in-Err.ensures s (as_policies d ps fs os n s w)
    (c.in_ok-add_declared-in-Err.ensures s w.declarations (c.in-Err.ensures.refused s (as_submitted d ps fs os n s w)) (subst (HasNumbers s) (sym c.new-numbers.ensures.items) tt))
