use Rattle.std.proofs.Common.{◌++◌, ◌∷◌, sym, subst}
use Rattle.std.specs.Prelude.{Contains}
use Rattle.std.proofs.lemmas.List.Elements.{Contains-append_right}
use Rattle.cedar_expr_model.specs.Name.{colons, name_text}
use Rattle.cedar_expr_model.proofs.Lists.{contains_head}
use Rattle.cedar_expr_model.proofs.UidText.{inside, uid_text_is}
use Rattle.cedar_expr_model.proofs.laws.uids_hold_quotes.Goals as goal

pub returns : goal.returns
returns c = λ u.
    subst (λ t. Contains t 34) (sym (uid_text_is u))
    (Contains-append_right (name_text u.kind ++ colons) (34 ∷ inside u) 34 (contains_head 34 (inside u)))
