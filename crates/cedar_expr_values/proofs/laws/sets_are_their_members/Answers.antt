use Rattle.std.proofs.Common.{sym, ◌∙◌}
use Rattle.cedar_expr_model.proofs.Rising.{member_Decides, same_rising}
use Rattle.cedar_expr_values.specs.Values.{bares}
use Rattle.cedar_expr_values.proofs.Members.{kept_rises}
use Rattle.cedar_expr_values.proofs.laws.sets_are_their_members.Goals as goal

pub returns : goal.returns
returns g c s t same =
    let seen = g.X.ExtensionValue.seen in
    let vs = bares seen s in
    let ws = bares seen t in
    let r = kept_rises s in
    let q = kept_rises t in
    same_rising vs ws r q (λ u a. (member_Decides u ws q).0 (sym (same u) ∙ (member_Decides u vs r).1 a)) (λ u a. (member_Decides u vs r).0 (same u ∙ (member_Decides u ws q).1 a))
