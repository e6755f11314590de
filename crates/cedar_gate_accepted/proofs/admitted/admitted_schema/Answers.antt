use Rattle.cedar_expr_functions.specs.Tables.{functions_of, ordered_of}
use Rattle.cedar_gate_accepted.proofs.ChecksTogether.{as_submitted, as_policies, as_seen, as_declared, all_asked}
use Rattle.cedar_gate_accepted.specs.Causes.{IsRefusedFor}
use Rattle.cedar_gate_fragments.specs.Written.{declared_by}
use Rattle.cedar_gate_rules.specs.Limit.{levels_of}
use Rattle.cedar_gate_rules.specs.Policies.{policies_of}
use Rattle.cedar_schema_built.specs.Views.{schema_kept}
use Rattle.cedar_schema_decl.proofs.Gathered.{handed}
use Rattle.cedar_gate_accepted.proofs.admitted.admitted_schema.Goals as goal

pub returns-in_err-schema-clause-refused : goal.returns-in_err-schema-clause-refused
returns-in_err-schema-clause-refused g c =
    λ s w. handed (IsRefusedFor s) c.in_err-schema.field-0.0 c.from_residual.result c.from_residual.ensures.1
    (c.in_err-schema.ensures.refused s (as_submitted (declared_by c.args.fragments.now) (policies_of c.args.policies.now) (functions_of c.args.table.now) (ordered_of c.args.table.now) (levels_of c.args.limit) s w))

pub returns-in_err-check_policies-clause-refused : goal.returns-in_err-check_policies-clause-refused
returns-in_err-check_policies-clause-refused g c =
    λ s w. handed (IsRefusedFor s) c.in_err-check_policies.field-0.0 c.from_residual-in_err-check_policies.result c.from_residual-in_err-check_policies.ensures.1
    (c.in_err-check_policies.ensures.refused s
    (as_policies (declared_by c.args.fragments.now) (policies_of c.args.policies.now) (functions_of c.args.table.now) (ordered_of c.args.table.now) (levels_of c.args.limit) s w))

pub returns-in_err-check_by-clause-refused : goal.returns-in_err-check_by-clause-refused
returns-in_err-check_by-clause-refused g c =
    let d = declared_by c.args.fragments.now in
    let ps = policies_of c.args.policies.now in
    let fs = functions_of c.args.table.now in
    let os = ordered_of c.args.table.now in
    let n = levels_of c.args.limit in
    λ s w. handed (IsRefusedFor s) c.in_err-check_by.field-0.0 c.from_residual-in_err-check_by.result c.from_residual-in_err-check_by.ensures.1
    (c.in_err-check_by.ensures.refused s
    (as_seen d ps fs os n s w c.seen_schemas_answer_alike.ensures.declared (schema_kept c.in_ok-schema.schema) c.in_ok-schema.ensures.kept)
    (as_declared d ps fs os n s w c.declarations_are_decided.ensures.well_formed c.in_ok-schema.ensures.formed c.in_ok-schema.ensures.complete))

pub returns-clause-admitted : goal.returns-clause-admitted
returns-clause-admitted g c =
    let d = declared_by c.args.fragments.now in
    let ps = policies_of c.args.policies.now in
    let fs = functions_of c.args.table.now in
    let os = ordered_of c.args.table.now in
    let n = levels_of c.args.limit in
    λ s w. all_asked s
    (as_declared d ps fs os n s w c.declarations_are_decided.ensures.well_formed c.in_ok-schema.ensures.formed c.in_ok-schema.ensures.complete)
    (c.in_ok-check_policies.ensures.kept s (as_policies d ps fs os n s w))
    (c.in_ok-check_by.ensures.kept s (as_seen d ps fs os n s w c.seen_schemas_answer_alike.ensures.declared (schema_kept c.in_ok-schema.schema) c.in_ok-schema.ensures.kept))
