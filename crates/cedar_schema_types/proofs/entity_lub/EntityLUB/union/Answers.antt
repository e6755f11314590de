use Rattle.std.proofs.Common.{map, ap, ◌∙◌}
use Rattle.cedar_expr_names.specs.Views.{type_name_of}
use Rattle.cedar_schema_model.specs.Join.{names_of_both}
use Rattle.cedar_expr_model.specs.Lists.{is_nil}
use Rattle.cedar_schema_types.proofs.Unions.{names_copied, one_from_back, some_joined}
use Rattle.cedar_schema_types.proofs.entity_lub.EntityLUB.union.Goals as goal

pub loop-ty-init : goal.loop-ty-init
loop-ty-init c =
    let own = ap (λ r. r.iter) c.into_iter-ty-iterator.ensures.into_iter_gives ∙ c.rev-ty-items.ensures.source ∙ c.iter.ensures.rest ∙ ap (λ s. s.keys) c.deref-2.ensures in
    let others = names_copied c.deref.result.now.keys c.in_ok-lub_elements.lub_elements.keys c.in_ok-lub_elements.ensures.cases ∙ ap (λ s. map type_name_of s.keys) c.deref.ensures in
    λ i. names_of_both (map type_name_of (own i)) (others i)

pub loop-ty-preserved : goal.loop-ty-preserved
loop-ty-preserved c =
    one_from_back c.loop-ty.ty-iterator.iter c.next.new.self.iter c.in-Some.ty.now c.in_ok-clone.field-0 c.loop-ty.lub_elements.keys c.insert.new.self.keys _ c.loop-ty.invariant c.in-Some.ensures.steps c.in_ok-clone.ensures.cases.0 c.in_ok-insert.ensures.keys

pub invariant_of-result : goal.invariant_of-result
invariant_of-result c = record {
  inhabited =
      ap (λ s. is_nil s.keys) c.in_ok-lub_elements-2.ensures.ok
      ∙ some_joined c.loop-ty.ty-iterator.iter c.args.self.now.lub_elements.value.keys c.loop-ty.lub_elements.keys c.args.other.now.lub_elements.value.keys c.loop-ty.invariant c.in-None.ensures.steps.0 c.args.other.now.inhabited;
}
