use Rattle.std.proofs.Common.{map, subst, ap, ◌∙◌}
use Rattle.cedar_expr_model.proofs.Lists.{map_has}
use Rattle.cedar_expr_names.specs.Views.{name_of}
use Rattle.cedar_schema_decl.proofs.Gathered.{handed}
use Rattle.cedar_schema_fragments.specs.Actions.{parent_form}
use Rattle.cedar_schema_fragments.specs.WrittenDeclarations.{as_uid}
use Rattle.cedar_schema_assembly.specs.Refusals.{TellsReserved, TellsLines}
use Rattle.cedar_schema_assembly.specs.Seen.{action_under_uid, actions_seen, kinds_of}
use Rattle.cedar_schema_assembly.proofs.Lines.{one_action_line}
use Rattle.cedar_schema_assembly.proofs.Mapping.{item_at}
use Rattle.cedar_schema_assembly.proofs.Telling.{kinds_tell}
use Rattle.cedar_schema_assembly.proofs.action_entries.with_parents.Goals as goal

pub loop-entry-preserved : goal.loop-entry-preserved
loop-entry-preserved c =
    one_action_line c.args.declared.now c.loop-entry.entry-index c.entry-item.result c.loop-entry.nodes.items c.push.new.self.items c.in_ok-uid.uid c.in_ok-parent_uids.field-0
    c.loop-entry-test.true c.entry-item.is c.loop-entry.invariant c.in_ok-push.ensures.items c.in_ok-uid.ensures.cases.0
    (c.in_ok-parent_uids.ensures.made ∙ ap (λ ps. map as_uid (map (parent_form name_of) ps)) c.deref.ensures.value)

pub returns-in_err-parent_uids-clause-refused : goal.returns-in_err-parent_uids-clause-refused
returns-in_err-parent_uids-clause-refused c =
    let as_ = actions_seen c.args.declared.now in
    let a = action_under_uid c.entry-item.result in
    handed (TellsLines as_) c.in_err-parent_uids.field-0.0 c.from_residual-in_err-parent_uids.result c.from_residual-in_err-parent_uids.ensures.1
    (kinds_tell as_ a (map_has action_under_uid c.args.declared.now c.entry-item.result (item_at c.args.declared.now c.loop-entry.entry-index c.entry-item.result c.loop-entry-test.true c.entry-item.is)) c.in_err-parent_uids.field-0.0
    (subst (λ ps. TellsReserved (kinds_of (map (parent_form name_of) ps)) c.in_err-parent_uids.field-0.0) c.deref.ensures.value c.in_err-parent_uids.ensures.refused))
