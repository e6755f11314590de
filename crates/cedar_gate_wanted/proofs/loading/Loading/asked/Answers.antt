use Rattle.std.proofs.Common.{ap, ◌∙◌}
use Rattle.std.specs.List.{list_any}
use Rattle.cedar_expr_model.specs.Uid.{uid_eq}
use Rattle.cedar_gate_wanted.specs.Rows.{uids}
use Rattle.cedar_gate_wanted.proofs.ByUid.{among_keys}
use Rattle.cedar_gate_wanted.proofs.loading.Loading.asked.Goals as goal

pub returns : goal.returns
returns c = λ u. ap (λ ks. list_any (uid_eq u) (uids ks)) c.keys.ensures.rest ∙ among_keys u c.args.self.now.rows.entries
