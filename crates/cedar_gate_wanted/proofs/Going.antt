-- Going over lists of uids.
use Rattle.std.proofs.Common.{◌≡◌, ◌+◌, ◌<◌, ℕ, List, [], ◌∷◌, ◌++◌, sym, ap, ◌∙◌, take, length, get_or}
use Rattle.std.proofs.lemmas.List.{take_more, map-append}
use Rattle.cedar_expr_model.specs.Uid.{Uid}
use Rattle.cedar_expr_names.specs.Views.{uid_of}
use Rattle.cedar_expr_names.specs.declared.entity.EntityUID.{EntityUID}
use Rattle.cedar_gate_wanted.specs.Rows.{uids}

-- one more is behind the others
pub pushed_uids : (xs ys : List EntityUID) (k : EntityUID) (u : Uid) → ys ≡ xs ++ k ∷ [] → uid_of k ≡ u → uids ys ≡ uids xs ++ u ∷ []
pushed_uids xs ys k u e is = ap uids e ∙ map-append uid_of xs (k ∷ []) ∙ ap (λ v. uids xs ++ v ∷ []) is

-- the next of them
pub next_uid : (xs : List EntityUID) (i : ℕ) (x : EntityUID) → i < length xs → x ≡ get_or xs i x → uids (take (i + 1) xs) ≡ uids (take i xs) ++ uid_of x ∷ []
next_uid xs i x l is = pushed_uids (take i xs) (take (i + 1) xs) (get_or xs i x) (uid_of x) (take_more xs i x l) (ap uid_of (sym is))
