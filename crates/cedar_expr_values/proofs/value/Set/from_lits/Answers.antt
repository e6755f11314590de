use Rattle.cedar_expr_values.proofs.Members.{literal_members, literals_are}
use Rattle.cedar_expr_values.proofs.value.Set.from_lits.Goals as goal

pub returns-clause-as_made : goal.returns-clause-as_made
returns-clause-as_made g c = literal_members g.X.ExtensionValue.seen c.args.literals.items c.in_ok-values.values.items c.new.result c.in_ok-values.ensures c.new.ensures.as_made

pub returns-clause-members : goal.returns-clause-members
returns-clause-members g c = literals_are g.X.ExtensionValue.seen c.args.literals.items c.new.result (returns-clause-as_made g c)
