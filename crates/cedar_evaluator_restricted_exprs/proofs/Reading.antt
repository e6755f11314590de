-- What is read off sets, records and calls that are made of lists.
use Rattle.std.proofs.Common.{◌≡◌, List, [], ◌∷◌, Some, refl, ap, ◌∙◌}
use Rattle.cedar_expr_model.specs.Builder.{trees, tree_fields}
use Rattle.cedar_expr_model.specs.Name.{Text, Name}
use Rattle.cedar_expr_model.specs.Parts.{listed, listed_fields}
use Rattle.cedar_expr_model.specs.Tree.{Tree, call, set_literal, record_literal}
use Rattle.cedar_evaluator_restricted_exprs.specs.Read.{members_read, fields_read, call_read}

listed_again : (ts : List Tree) → listed (trees ts) ≡ ts
listed_again [] = refl
listed_again (t ∷ ts) = ap (λ us. t ∷ us) (listed_again ts)

fields_again : (ps : List (Text × Tree)) → listed_fields (tree_fields ps) ≡ ps
fields_again [] = refl
fields_again (p ∷ ps) = ap (λ qs. p ∷ qs) (fields_again ps)

pub of_set : (t : Tree) (ts : List Tree) → t ≡ set_literal (trees ts) → members_read t ≡ Some ts
of_set t ts e = ap members_read e ∙ ap Some (listed_again ts)

pub of_record : (t : Tree) (ps : List (Text × Tree)) → t ≡ record_literal (tree_fields ps) → fields_read t ≡ Some ps
of_record t ps e = ap fields_read e ∙ ap Some (fields_again ps)

pub of_call : (t : Tree) (f : Name) (ts : List Tree) → t ≡ call f (trees ts) → call_read t ≡ Some (f, ts)
of_call t f ts e = ap call_read e ∙ ap (λ us. Some (f, us)) (listed_again ts)
