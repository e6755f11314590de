use Rattle.std.proofs.Common.{map, ap, ◌∙◌}
use Rattle.cedar_expr_names.specs.Views.{uid_of}
use Rattle.cedar_schema_decl.specs.Defined.{Defined, defined_of}
use Rattle.cedar_schema_decl.proofs.Sets.{uid_put}
use Rattle.cedar_schema_decl.proofs.all_defs.AllDefs.mark_as_defined_as_action.Goals as goal

pub returns-clause-marked : goal.returns-clause-marked
returns-clause-marked c = ap (λ ks. record (defined_of c.args.self.now) { actions = ks }) (ap (map uid_of) c.in_ok-insert.ensures.keys ∙ uid_put c.args.uid c.args.self.now.action_defs.keys)
