use Rattle.std.proofs.Common.{Some, option_map, sym, ap, ◌∙◌}
use Rattle.std.specs.Borrow.{Bor}
use Rattle.std.specs.BTreeMap.{get}
use Rattle.cedar_expr_names.specs.Views.{type_name_of}
use Rattle.cedar_schema_model.specs.Kept.{KeptType, kept_ancestors}
use Rattle.cedar_schema_entries.specs.Views.{entity_type_seen}
use Rattle.cedar_schema_entries.specs.declared.entity_type.ValidatorEntityType.{ValidatorEntityType}
use Rattle.cedar_schema_built.specs.Ancestors.{types_by}
use Rattle.cedar_schema_built.specs.Views.{schema_kept}
use Rattle.cedar_schema_built.proofs.Below.{row_got}
use Rattle.cedar_schema_built.proofs.schema.ValidatorSchema.ancestors.Goals as goal

pub returns-in-Some : goal.returns-in-Some
returns-in-Some c =
    let q = c.args.ty.now in
    let s = c.args.self.now in
    ap Some (c.new.ensures ∙ row_got type_name_of (get types_by s.ancestors) q c.get.result c.get.ensures.value ∙ s.ancestors_known.each q)
    ∙ ap (option_map (λ (t : KeptType). kept_ancestors (schema_kept s) (type_name_of q))) (ap (option_map (λ (t : Bor ValidatorEntityType). entity_type_seen t.now)) (sym c.in-Some.is) ∙ c.get_entity_type.ensures)
