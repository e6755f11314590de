use Rattle.std.proofs.Common.{[], ◌∷◌, map}
use Rattle.cedar_expr_model.specs.Name.{Name, Text}
use Rattle.cedar_expr_model.proofs.Lists.{map_has}
use Rattle.cedar_expr_names.specs.Views.{name_of, uid_of}
use Rattle.cedar_schema_decl.proofs.Gathered.{handed}
use Rattle.cedar_schema_fragments.specs.Actions.{parent_form}
use Rattle.cedar_schema_fragments.specs.WrittenDeclarations.{as_uid}
use Rattle.cedar_schema_assembly.specs.Refusals.{TellsReserved}
use Rattle.cedar_schema_assembly.specs.Seen.{kinds_of}
use Rattle.cedar_schema_assembly.proofs.Mapping.{twice_mapped, item_at}
use Rattle.cedar_schema_assembly.proofs.Telling.{reserved_more, just}
use Rattle.cedar_schema_assembly.proofs.action_entries.parent_uids.Goals as goal

pub loop-parent-preserved : goal.loop-parent-preserved
loop-parent-preserved c =
    twice_mapped (parent_form name_of) as_uid uid_of c.args.parents.now c.loop-parent.parent-index c.parent-item.result c.loop-parent.uids.items c.push.new.self.items c.in_ok-parent_uid.field-0
    c.loop-parent-test.true c.parent-item.is c.loop-parent.invariant c.in_ok-push.ensures.items c.in_ok-parent_uid.ensures.made

pub returns-in_err-parent_uid-clause-refused : goal.returns-in_err-parent_uid-clause-refused
returns-in_err-parent_uid-clause-refused c =
    let forms = map (parent_form name_of) c.args.parents.now in
    let n = name_of c.parent-item.result.ty in
    let there = map_has (λ (p : Name × Text). p.0) forms (parent_form name_of c.parent-item.result) (map_has (parent_form name_of) c.args.parents.now c.parent-item.result (item_at c.args.parents.now c.loop-parent.parent-index c.parent-item.result c.loop-parent-test.true c.parent-item.is)) in
    handed (TellsReserved (kinds_of forms)) c.in_err-parent_uid.field-0.0 c.from_residual-in_err-parent_uid.result c.from_residual-in_err-parent_uid.ensures.1
    (reserved_more (n ∷ []) (kinds_of forms) c.in_err-parent_uid.field-0.0 (just (kinds_of forms) n there) c.in_err-parent_uid.ensures.refused)
