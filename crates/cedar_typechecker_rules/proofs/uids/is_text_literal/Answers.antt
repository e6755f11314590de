use Rattle.cedar_typechecker_rules.proofs.Written.{several}
use Rattle.cedar_typechecker_rules.proofs.uids.is_text_literal.Goals as goal

pub returns-in_default-2 : goal.returns-in_default-2
returns-in_default-2 c = several c.args.args.now c.in_default.len_at_least
