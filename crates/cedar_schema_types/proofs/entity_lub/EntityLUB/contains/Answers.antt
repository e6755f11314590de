use Rattle.std.proofs.Common.{ap, ◌∙◌}
use Rattle.std.specs.BTreeMap.{is_at}
use Rattle.std.specs.List.{list_any}
use Rattle.cedar_schema_types.proofs.Unions.{types_by, name_among}
use Rattle.cedar_schema_types.proofs.entity_lub.EntityLUB.contains.Goals as goal

pub returns : goal.returns
returns c = c.contains.ensures ∙ ap (λ s. list_any (is_at (types_by c.args.ty.now)) s.keys) c.deref.ensures ∙ name_among c.args.ty.now c.args.self.now.lub_elements.value.keys
