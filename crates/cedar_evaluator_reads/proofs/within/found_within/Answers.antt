use Rattle.std.proofs.Common.{ap, sym, ◌∙◌}
use Rattle.std.specs.List.{list_all, list_any}
use Rattle.std.specs.Prelude.{is_some}
use Rattle.cedar_expr_names.specs.Views.{uid_of}
use Rattle.cedar_expr_values.specs.Extensions.{extension_of}
use Rattle.cedar_expr_values.specs.Values.{bare, made}
use Rattle.cedar_store_model.specs.Reads.{is_in_some, uid_of as value_uid}
use Rattle.cedar_evaluator_model.specs.Scope.{value_left}
use Rattle.cedar_evaluator_model.specs.Steps.{left_of}
use Rattle.cedar_evaluator_reads.specs.Ancestors.{ancestors_of}
use Rattle.cedar_evaluator_reads.proofs.Members.{set_uids, below_value, all_entities, not_entities}
use Rattle.cedar_evaluator_reads.proofs.within.found_within.Goals as goal

pub returns-then-are_entities : goal.returns-then-are_entities
returns-then-are_entities c =
    let vs = c.authoritative-members.result.now in
    let u = uid_of c.args.uid.now in
    let ancestors = ancestors_of c.args.entity in
    ap (λ o. left_of (is_in_some ancestors u o)) (set_uids extension_of c.value_kind.result.now c.in-Set.members (made extension_of c.args.w.now) vs c.value_kind.ensures.value c.in-Set.is c.authoritative-members.ensures)
    ∙ ap left_of (all_entities extension_of ancestors u vs c.are_entities.result c.is_below_some.result (c.are_entities.ensures ∙ ap (list_all (λ v. is_some (value_uid (bare extension_of v)))) c.iter.ensures.rest) c.if-are_entities.true (c.is_below_some.ensures ∙ ap (list_any (below_value extension_of ancestors u)) c.iter-then-are_entities.ensures.rest))
    ∙ ap value_left (sym c.truth-then-are_entities.ensures)

pub returns-else-are_entities : goal.returns-else-are_entities
returns-else-are_entities c =
    let vs = c.authoritative-members.result.now in
    let u = uid_of c.args.uid.now in
    let ancestors = ancestors_of c.args.entity in
    let none =
    ap (λ o. left_of (is_in_some ancestors u o)) (set_uids extension_of c.value_kind.result.now c.in-Set.members (made extension_of c.args.w.now) vs c.value_kind.ensures.value c.in-Set.is c.authoritative-members.ensures)
    ∙ ap left_of (not_entities extension_of ancestors u vs c.are_entities.result (c.are_entities.ensures ∙ ap (list_all (λ v. is_some (value_uid (bare extension_of v)))) c.iter.ensures.rest) c.if-are_entities.false) in
    λ other h. none ∙ c.no_entity_among.ensures other h
