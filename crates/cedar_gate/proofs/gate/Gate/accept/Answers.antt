use Rattle.std.proofs.Common.{List, refl, sym, subst}
use Rattle.cedar_expr_functions.specs.Tables.{functions_of, ordered_of, table_of}
use Rattle.cedar_gate_accepted.specs.Handed.{IsHandedIn}
use Rattle.cedar_gate_accepted.proofs.Tested.{kept_by_tests}
use Rattle.cedar_gate_accepted.proofs.Together.{as_typed, all_accepted, schema_there}
use Rattle.cedar_gate_accepted.specs.Causes.{IsRefusedFor}
use Rattle.cedar_gate.specs.Handed.{submission_with}
use Rattle.cedar_gate_fragments.specs.Written.{declared_by}
use Rattle.cedar_gate_model.specs.Acceptance.{Submission}
use Rattle.cedar_gate_rules.specs.Limit.{levels_of}
use Rattle.cedar_gate_rules.specs.Policies.{policies_of}
use Rattle.cedar_schema_built.specs.Views.{schema_kept}
use Rattle.cedar_schema_decl.proofs.Gathered.{handed}
use Rattle.cedar_schema_model.specs.Resolved.{schema_of}
use Rattle.cedar_store_policies.specs.declared.policy.Policy.{Policy}
use Rattle.cedar_typechecker.specs.SchemaViews.{silent}
use Rattle.cedar_typechecker_model.proofs.Seen.Tests.{closed_by_tests}
use Rattle.cedar_gate.proofs.gate.Gate.accept.Goals as goal

pub invariant_of-result : goal.invariant_of-result
invariant_of-result g c =
    let d = declared_by c.args.fragments.now in
    let k = schema_kept c.in_ok-schema.schema in
    record {
      closed = closed_by_tests k (c.seen_schemas_answer_alike.ensures.closed (schema_of d) k c.in_ok-schema.ensures.kept);
      kept = kept_by_tests (schema_of d) k c.in_ok-schema.ensures.kept;
      accepted = λ answers.
          let y = table_of c.args.table.now silent in
          let n = levels_of c.args.limit in
          let s = submission_with d c.args.policies.items (table_of c.args.table.now answers) c.args.level c.args.limit in
          let w : IsHandedIn d (policies_of c.args.policies.items) y.functions y.ordered n s = record { declarations = refl; policies = refl; functions = refl; ordered = refl; limit = refl } in
          let P : List Policy → Type 0 = λ xs. IsHandedIn d (policies_of xs) y.functions y.ordered n s in
          all_accepted c.acceptance_is_decided.ensures.decides s
          (c.in_ok-schema.ensures.admitted s (subst P (sym c.as_slice.ensures.value) w))
          (c.in_ok-warnings.ensures.kept s
          (as_typed d (policies_of c.as_slice-2.result.now) y n s (subst P (sym c.as_slice-2.ensures.value) w) c.seen_schemas_answer_alike.ensures.declared k c.in_ok-schema.ensures.kept c.args.level refl));
    }

pub returns-in_err-schema-clause-refused : goal.returns-in_err-schema-clause-refused
returns-in_err-schema-clause-refused g c = λ s w l.
    let P : List Policy → Type 0 = λ xs. IsHandedIn (declared_by c.args.fragments.now) (policies_of xs) (functions_of c.args.table.now) (ordered_of c.args.table.now) (levels_of c.args.limit) s in
    handed (IsRefusedFor s) c.in_err-schema.field-0.0 c.from_residual.result c.from_residual.ensures.1 (c.in_err-schema.ensures.refused s (subst P (sym c.as_slice.ensures.value) w))

pub returns-in_err-warnings-clause-refused : goal.returns-in_err-warnings-clause-refused
returns-in_err-warnings-clause-refused g c = λ s w l.
    let d = declared_by c.args.fragments.now in
    let y = table_of c.args.table.now silent in
    let n = levels_of c.args.limit in
    let P : List Policy → Type 0 = λ xs. IsHandedIn d (policies_of xs) y.functions y.ordered n s in
    handed (IsRefusedFor s) c.in_err-warnings.field-0.0 c.from_residual-in_err-warnings.result c.from_residual-in_err-warnings.ensures.1
    (c.in_err-warnings.ensures.refused s
    (as_typed d (policies_of c.as_slice-2.result.now) y n s (subst P (sym c.as_slice-2.ensures.value) w) c.seen_schemas_answer_alike.ensures.declared (schema_kept c.in_ok-schema.schema) c.in_ok-schema.ensures.kept c.args.level l)
    (schema_there s (c.in_ok-schema.ensures.admitted s (subst P (sym c.as_slice.ensures.value) w))))

pub returns-clause-accepted : goal.returns-clause-accepted
returns-clause-accepted g c = λ s w l.
    let d = declared_by c.args.fragments.now in
    let y = table_of c.args.table.now silent in
    let n = levels_of c.args.limit in
    let P : List Policy → Type 0 = λ xs. IsHandedIn d (policies_of xs) y.functions y.ordered n s in
    all_accepted c.acceptance_is_decided.ensures.decides s
    (c.in_ok-schema.ensures.admitted s (subst P (sym c.as_slice.ensures.value) w))
    (c.in_ok-warnings.ensures.kept s
    (as_typed d (policies_of c.as_slice-2.result.now) y n s (subst P (sym c.as_slice-2.ensures.value) w) c.seen_schemas_answer_alike.ensures.declared (schema_kept c.in_ok-schema.schema) c.in_ok-schema.ensures.kept c.args.level l))

pub returns-clause-warnings : goal.returns-clause-warnings
returns-clause-warnings g c = λ s w l.
    let d = declared_by c.args.fragments.now in
    let y = table_of c.args.table.now silent in
    let n = levels_of c.args.limit in
    let P : List Policy → Type 0 = λ xs. IsHandedIn d (policies_of xs) y.functions y.ordered n s in
    c.in_ok-warnings.ensures.warnings s
    (as_typed d (policies_of c.as_slice-2.result.now) y n s (subst P (sym c.as_slice-2.ensures.value) w) c.seen_schemas_answer_alike.ensures.declared (schema_kept c.in_ok-schema.schema) c.in_ok-schema.ensures.kept c.args.level l)
