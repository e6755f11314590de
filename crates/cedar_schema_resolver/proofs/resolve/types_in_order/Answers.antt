use Rattle.std.proofs.Common.{slice_index_or}
use Rattle.cedar_expr_names.specs.Views.{name_of}
use Rattle.cedar_schema_decl.specs.Defined.{defined_of}
use Rattle.cedar_schema_decl.specs.Definitions.{common_form}
use Rattle.cedar_schema_decl.proofs.Gathered.{handed}
use Rattle.cedar_schema_resolver.proofs.Places.{at_in}
use Rattle.cedar_schema_resolver.specs.Commons.{common_seen, common_kept}
use Rattle.cedar_schema_resolver.specs.Meanings.{extensions_seen, setting, told}
use Rattle.cedar_schema_resolver.specs.Solved.{TellsUnsolved}
use Rattle.cedar_schema_resolver.specs.Uses.{common_forms}
use Rattle.cedar_schema_resolver.proofs.Keeping.{none_kept_by, next_kept, all_kept}
use Rattle.cedar_schema_resolver.proofs.Nodes.{form_at, is_number}
use Rattle.cedar_schema_resolver.proofs.Solving.{none_done, next_done, all_done, some_tells}
use Rattle.cedar_schema_resolver.proofs.resolve.types_in_order.Goals as goal

pub loop-number-init : goal.loop-number-init
loop-number-init c = record { done = none_done (defined_of c.args.all_defs.now) (extensions_seen c.args.extension_types.now) (common_forms c.args.commons.now) (common_seen c.empty-types.result) c.empty-types.ensures.seen; kept = none_kept_by (common_forms c.args.commons.now) (common_kept c.empty-types.result) c.empty-types.ensures.kept }

pub common_at-common-requires : goal.common_at-common-requires
common_at-common-requires c = is_number (defined_of c.args.all_defs.now) c.args.commons.now c.args.order.now c.requires c.loop-number.number-index c.loop-number-test.true

pub returns-in_err-types-clause-refused : goal.returns-in_err-types-clause-refused
returns-in_err-types-clause-refused c =
    let d = defined_of c.args.all_defs.now in
    let x = extensions_seen c.args.extension_types.now in
    let es = c.args.commons.now in
    let e = c.common_at-common.result.now in
    let i = slice_index_or c.args.order.now c.loop-number.number-index 0 in
    handed (TellsUnsolved d x (common_forms es)) c.in_err-types.field-0.0 c.from_residual.result c.from_residual.ensures.1
    (some_tells (common_seen c.loop-number.types) d x (common_forms es) (name_of e.0, common_form name_of e.1) (at_in (common_forms es) i (name_of e.0, common_form name_of e.1) (form_at es i e c.common_at-common.ensures)) c.in_err-types.field-0.0 c.in_err-types.ensures.refused)

pub loop-number-preserved : goal.loop-number-preserved
loop-number-preserved c =
    let e = c.common_at-common.result.now in
    record {
      done = next_done (defined_of c.args.all_defs.now) (extensions_seen c.args.extension_types.now) (common_forms c.args.commons.now) c.args.order.now c.requires c.loop-number.number-index c.loop-number-test.true (name_of e.0, common_form name_of e.1)
          (form_at c.args.commons.now (slice_index_or c.args.order.now c.loop-number.number-index 0) e c.common_at-common.ensures)
          (common_seen c.loop-number.types) (common_seen c.in_ok-types.types) c.in_ok-types.ensures.made c.in_ok-types.ensures.known c.loop-number.invariant.done;
      kept = next_kept (common_forms c.args.commons.now) c.args.order.now c.loop-number.number-index c.loop-number-test.true (name_of e.0, common_form name_of e.1)
          (form_at c.args.commons.now (slice_index_or c.args.order.now c.loop-number.number-index 0) e c.common_at-common.ensures)
          (told (setting (common_seen c.loop-number.types) (defined_of c.args.all_defs.now) (extensions_seen c.args.extension_types.now)) (common_form name_of e.1))
          (common_kept c.loop-number.types) (common_kept c.in_ok-types.types) c.in_ok-types.ensures.kept c.loop-number.invariant.kept;
    }

pub returns-clause-solved : goal.returns-clause-solved
returns-clause-solved c =
    all_done (defined_of c.args.all_defs.now) (extensions_seen c.args.extension_types.now) (common_forms c.args.commons.now) c.args.order.now c.requires c.loop-number.number-index (common_seen c.loop-number.types) c.loop-number-test.false c.loop-number.invariant.done

pub returns-clause-kept : goal.returns-clause-kept
returns-clause-kept c =
    all_kept (defined_of c.args.all_defs.now) (extensions_seen c.args.extension_types.now) (common_forms c.args.commons.now) c.args.order.now c.requires c.loop-number.number-index (common_kept c.loop-number.types) c.loop-number-test.false c.loop-number.invariant.kept
