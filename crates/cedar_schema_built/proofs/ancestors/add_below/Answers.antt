use Rattle.std.proofs.Common.{◌∙◌}
use Rattle.std.specs.BTreeMap.{get}
use Rattle.cedar_expr_model.specs.Name.{name_eq}
use Rattle.cedar_expr_model.proofs.Equality.{name_eq-Decides}
use Rattle.cedar_expr_names.specs.Views.{type_name_of}
use Rattle.cedar_schema_model.specs.Kept.{KeptType}
use Rattle.cedar_schema_entries.specs.Views.{entity_type_seen}
use Rattle.cedar_schema_built.proofs.Named.{types_told}
use Rattle.cedar_schema_built.specs.Ancestors.{types_by}
use Rattle.cedar_schema_built.proofs.Below.{one_below, all_below}
use Rattle.cedar_schema_built.proofs.Gathered.{type_once}
use Rattle.cedar_schema_built.proofs.ancestors.add_below.Goals as goal

pub loop-descendant-preserved : goal.loop-descendant-preserved
loop-descendant-preserved c = record {
  each = λ q. one_below type_name_of name_eq types_by types_told (get types_by c.loop-descendant.above) (get types_by c.add_above.new.above) c.in_ok-key.key c.in_ok-ancestor.ancestor c.in_ok-add_above.ensures
      (entity_type_seen c.args.entity_type.now).name c.loop-descendant.descendant-iterator c.next.new.self c.in-Some.descendant.now c.in-Some.ensures.steps (c.in_ok-ancestor.ensures.cases.0 ∙ c.name.ensures) c.in_ok-key.ensures.cases.0
      q _ (c.loop-descendant.invariant.each q);
}

pub returns : goal.returns
returns c =
    let a = entity_type_seen c.args.entity_type.now in
    all_below type_name_of name_eq (λ (a : KeptType). a.name) (λ a. a.descendants) name_eq-Decides a (type_once a c.entity_types_are_in_order.ensures)
    (get types_by c.args.above.now) (get types_by c.loop-descendant.above) c.loop-descendant.descendant-iterator c.in-None.ensures.steps.0 c.loop-descendant.invariant.each
