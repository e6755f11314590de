-- To substitute by one map and then by another is to substitute once by both.
use Rattle.std.proofs.Common.{◌≡◌, List, [], ◌∷◌, map, Option, Some, None, refl, sym, ap, ◌∙◌}
use Rattle.std.specs.Option.{option_or}
use Rattle.cedar_expr_model.specs.Name.{Text}
use Rattle.cedar_expr_model.specs.Value.{Literal}
use Rattle.cedar_expr_model.specs.Tree.{CoreType, Tree, lit, call, set_literal, record_literal, tree, tree_field}
use Rattle.cedar_expr_model.specs.Builder.{Builder, built, built_list, built_fields, tree_builder, trees, tree_fields}
use Rattle.cedar_expr_model.specs.BuilderForm.{IsLawful}
use Rattle.cedar_expr_model.specs.Made.{Made, made_prim, made_set, made_record, made_extension, Mades, no_mades, made, MadeFields, no_made_fields, made_field, written, writtens, written_fields}
use Rattle.cedar_expr_model.specs.Substitution.{Bindings, substituted}
use Rattle.cedar_expr_model.proofs.Agreeing.{substitution_agrees}
use Rattle.cedar_expr_model.proofs.Substituting.{placed, bound_or}
use Rattle.cedar_expr_model.proofs.Building.{builder_with}
use Rattle.cedar_expr_substitution.specs.SubstitutionLaws.{first_of_both}

-- a written value is made as it is, whatever is made of unknowns
module _ (f : Text → Option CoreType → Tree) where
  literals_stay : (ps : List Literal) → trees (built_list (builder_with f) (trees (map lit ps))) ≡ trees (map lit ps)
  literals_stay [] = refl
  literals_stay (p ∷ ps) = ap (tree (lit p)) (literals_stay ps)

  mutual
    pub written_stays : (m : Made) → built (builder_with f) (written m) ≡ written m
    written_stays (made_prim p) = refl
    written_stays (made_set ms) = ap set_literal (writtens_stay ms)
    written_stays (made_record fs) = ap record_literal (written_fields_stay fs)
    written_stays (made_extension n k g ps) = ap (call g) (literals_stay ps)

    writtens_stay : (ms : Mades) → trees (built_list (builder_with f) (writtens ms)) ≡ writtens ms
    writtens_stay no_mades = refl
    writtens_stay (made m ms) = λ i. tree (written_stays m i) (writtens_stay ms i)

    written_fields_stay : (fs : MadeFields) → tree_fields (built_fields (builder_with f) (written_fields fs)) ≡ written_fields fs
    written_fields_stay no_made_fields = refl
    written_fields_stay (made_field a m fs) = λ i. tree_field a (written_stays m i) (written_fields_stay fs i)

abbrev after : Bindings → Builder Tree
after f = builder_with (placed f)

after_lawful : (f : Bindings) → IsLawful (after f)
after_lawful f = record { conjoins = λ x y. refl; disjoins = λ x y. refl; walks_one = λ t a. refl }

one_bound : (f : Bindings) (n : Text) (a : Option CoreType) (o : Option Made) → bound_or (after f) n a o ≡ bound_or tree_builder n a (option_or o (f n))
one_bound f n a None = refl
one_bound f n a (Some m) = written_stays (placed f) m ∙ sym (written_stays (λ n a. tree_builder.of_unknown n a) m)

pub in_turn : (e f : Bindings) (t : Tree) → substituted f (substituted e t) ≡ substituted (first_of_both e f) t
in_turn e f t = substitution_agrees (after f) (after_lawful f) e t ∙ (λ i. built (builder_with (λ n a. one_bound f n a (e n) i)) t)
