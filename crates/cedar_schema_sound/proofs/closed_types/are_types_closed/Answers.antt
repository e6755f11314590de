use Rattle.std.proofs.Common.{map, sym, subst}
use Rattle.std.specs.Prelude.{Contains}
use Rattle.cedar_expr_model.proofs.Lists.{contains_none}
use Rattle.cedar_schema_entries.specs.Views.{entity_type_seen}
use Rattle.cedar_schema_built.specs.Views.{schema_kept}
use Rattle.cedar_schema_sound.specs.Closed.{IsTypeClosedAfter}
use Rattle.cedar_schema_sound.proofs.Closing.{this_one, rest_after, all_but, type_not_closed, each_type_closed}
use Rattle.cedar_schema_sound.proofs.closed_types.are_types_closed.Goals as goal

pub returns-then-not-is_closed : goal.returns-then-not-is_closed
returns-then-not-is_closed c =
    let k = schema_kept c.args.schema.now in
    sym (type_not_closed k (entity_type_seen c.in-Some.entity_type.now)
    (this_one entity_type_seen c.loop-entity_type.entity_type-iterator c.next.new.self c.in-Some.entity_type.now c.in-Some.ensures.steps k.types c.loop-entity_type.invariant.among)
    (c.is_closed.ensures.amiss c.if-not-is_closed.true))

pub loop-entity_type-preserved : goal.loop-entity_type-preserved
loop-entity_type-preserved c =
    let k = schema_kept c.args.schema.now in
    record {
      among = rest_after entity_type_seen c.loop-entity_type.entity_type-iterator c.next.new.self c.in-Some.entity_type.now c.in-Some.ensures.steps k.types c.loop-entity_type.invariant.among;
      each = λ h. c.loop-entity_type.invariant.each (all_but entity_type_seen c.loop-entity_type.entity_type-iterator c.next.new.self c.in-Some.entity_type.now c.in-Some.ensures.steps (IsTypeClosedAfter k) (c.is_closed.ensures.closed c.if-not-is_closed.false) h);
    }

pub returns : goal.returns
returns c =
    let k = schema_kept c.args.schema.now in
    sym (each_type_closed k (c.loop-entity_type.invariant.each (λ t h. absurd (contains_none t (subst (λ xs. Contains (map entity_type_seen xs) t) c.in-None.ensures.steps.0 h)))))
