use Rattle.std.proofs.Common.{sym, ◌∙◌}
use Rattle.cedar_expr_model.specs.Lists.{first_found}
use Rattle.cedar_expr_names.specs.Views.{type_name_of}
use Rattle.cedar_schema_entries.specs.Views.{entity_type_seen}
use Rattle.cedar_schema_built.specs.Views.{schema_kept}
use Rattle.cedar_schema_model.specs.Unsound.{type_among, type_below_fault}
use Rattle.cedar_schema_sound.specs.Views.{fault_seen}
use Rattle.cedar_schema_sound.proofs.Closing.{this_one, rest_after, searched_on, some_is_some, none_is_none, type_kept_out, type_amiss_at, type_passed_over}
use Rattle.cedar_schema_sound.proofs.closed_types.is_closed_over.Goals as goal
use Rattle.cedar_schema_sound.proofs.closed_types.is_closed_over.Goals.{else-not-has_descendant_entity_type-via-then-not-has_descendant_entity_type+else-is_some-2, else-not-has_descendant_entity_type-via-else-not-has_descendant_entity_type}

pub returns-then-is_some-clause-amiss : goal.returns-then-is_some-clause-amiss
returns-then-is_some-clause-amiss c =
    λ e.
    type_kept_out (schema_kept c.args.schema.now) (entity_type_seen c.args.entity_type.now) (entity_type_seen c.args.below.now) c.requires
    (some_is_some fault_seen c.left_out.result (first_found (type_among (entity_type_seen c.args.entity_type.now)) (entity_type_seen c.args.below.now).descendants) c.left_out.ensures (sym c.is_some.ensures ∙ c.if-is_some.true))

pub returns-then-is_some-2-clause-amiss : goal.returns-then-is_some-2-clause-amiss
returns-then-is_some-2-clause-amiss c =
    λ e.
    type_amiss_at (schema_kept c.args.schema.now) (entity_type_seen c.args.entity_type.now) (type_name_of c.in-Some.descendant.now)
    (this_one type_name_of c.loop-descendant.descendant-iterator c.next.new.self c.in-Some.descendant.now c.in-Some.ensures.steps (entity_type_seen c.args.entity_type.now).descendants c.loop-descendant.invariant.among)
    (some_is_some fault_seen c.unsound_at.result (type_below_fault (schema_kept c.args.schema.now) (entity_type_seen c.args.entity_type.now) (type_name_of c.in-Some.descendant.now)) c.unsound_at.ensures (sym c.is_some-then-not-has_descendant_entity_type.ensures ∙ c.if-is_some-2.true))

pub loop-descendant-preserved : goal.loop-descendant-preserved
loop-descendant-preserved c =
    let k = schema_kept c.args.schema.now in
    let f = type_below_fault k (entity_type_seen c.args.entity_type.now) in
    let whole = (entity_type_seen c.args.entity_type.now).descendants in
    record {
      rest = λ h.
          searched_on type_name_of c.loop-descendant.descendant-iterator c.next.new.self c.in-Some.descendant.now c.in-Some.ensures.steps f (first_found f whole) (c.loop-descendant.invariant.rest h)
          (elim c.else-not-has_descendant_entity_type.branch [
            | else-not-has_descendant_entity_type-via-then-not-has_descendant_entity_type+else-is_some-2 w ↦ none_is_none fault_seen w.unsound_at.result (f (type_name_of c.in-Some.descendant.now)) w.unsound_at.ensures (sym w.is_some-then-not-has_descendant_entity_type.ensures ∙ w.if-is_some-2.false)
            | else-not-has_descendant_entity_type-via-else-not-has_descendant_entity_type w ↦
                type_passed_over k (entity_type_seen c.args.entity_type.now) (entity_type_seen c.args.below.now) h
                (none_is_none fault_seen c.left_out.result (first_found (type_among (entity_type_seen c.args.entity_type.now)) (entity_type_seen c.args.below.now).descendants) c.left_out.ensures (sym c.is_some.ensures ∙ c.if-is_some.false))
                (type_name_of c.in-Some.descendant.now) (sym c.has_descendant_entity_type.ensures ∙ w.if-not-has_descendant_entity_type.false)
          ]);
      among = rest_after type_name_of c.loop-descendant.descendant-iterator c.next.new.self c.in-Some.descendant.now c.in-Some.ensures.steps whole c.loop-descendant.invariant.among;
    }
