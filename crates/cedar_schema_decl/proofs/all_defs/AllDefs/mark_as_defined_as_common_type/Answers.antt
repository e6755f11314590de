use Rattle.std.proofs.Common.{map, ap, ◌∙◌}
use Rattle.cedar_expr_names.specs.Views.{name_of}
use Rattle.cedar_schema_decl.specs.Defined.{Defined, defined_of}
use Rattle.cedar_schema_decl.proofs.Sets.{name_put}
use Rattle.cedar_schema_decl.proofs.all_defs.AllDefs.mark_as_defined_as_common_type.Goals as goal

pub returns-clause-marked : goal.returns-clause-marked
returns-clause-marked c = ap (λ ks. record (defined_of c.args.self.now) { commons = ks }) (ap (map name_of) c.in_ok-insert.ensures.keys ∙ name_put c.args.name c.args.self.now.common_defs.keys)
