-- Whether one of the types is this one is whether one of their names is this one's.
use Rattle.std.proofs.Common.{sym, ◌∙◌, rules, tests}
use Rattle.std.proofs.lemmas.Iterator.{YieldsList-from_slice}
use Rattle.std.proofs.lemmas.Iterator.Search.{any_from_yields_List}
use Rattle.cedar_expr_model.specs.Name.{name_eq}
use Rattle.cedar_expr_names.specs.Views.{type_name_of}
use Rattle.cedar_schema_fragments.proofs.Anys.{any_map}
use Rattle.cedar_schema_fragments.proofs.actions.ValidatorApplySpec+EntityType.is_applicable_principal_type.Goals as goal

pub returns : goal.returns
returns c =
    any_from_yields_List (λ t. name_eq (type_name_of c.args.ty.now) (type_name_of t)) _ _ c.any.result c.any.ensures.ran (YieldsList-from_slice c.args.self.now.principal_apply_spec.items cc) (λ x b q k. search (rules, tests))
    ∙ sym (any_map (name_eq (type_name_of c.args.ty.now)) type_name_of c.args.self.now.principal_apply_spec.items)
