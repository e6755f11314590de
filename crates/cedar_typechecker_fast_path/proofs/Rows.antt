-- Expressions in a row, one after the other.
use Rattle.std.proofs.Common.{◌≡◌, ◌<◌, ◌+◌, ℕ, suc, List, [], ◌∷◌, ◌++◌, map, length, take, get_or, Option, Some, None, refl, ap, ◌∙◌, sym, append-nil, append_assoc, take-suc, arith}
use Rattle.std.specs.Prelude.{option_map, option_and_then}
use Rattle.std.proofs.lemmas.List.{map-append}
use Rattle.cedar_expr_model.specs.Builder.{trees}
use Rattle.cedar_expr_model.specs.Tree.{Tree}
use Rattle.cedar_expr_trees.specs.Trees.{tree_of}
use Rattle.cedar_expr_trees.specs.declared.expr.Expr.{Expr}
use Rattle.cedar_schema_model.specs.Types.{Ty}
use Rattle.cedar_schema_types.specs.Types.{type_of}
use Rattle.cedar_schema_types.specs.declared.types.Type.{«Type» as CodeType}
use Rattle.cedar_typechecker_model.specs.Facts.{Facts}
use Rattle.cedar_typechecker_model.specs.Levels.{violations, violations_among}
use Rattle.cedar_typechecker_model.specs.Rules.{Setting}
use Rattle.cedar_typechecker_model.specs.Typing.{Judgement, judgement, judgements}
use Rattle.cedar_typechecker_fast_path.specs.Within.{StayWithin}

-- the type of one more behind those of others
abbrev behind : Option Judgement → List Ty → Option (List Ty)
behind q xs = option_map (λ j. xs ++ j.type ∷ []) q

abbrev before : Option (List Ty) → Judgement → Option (List Ty)
before p j = option_map (λ xs. j.type ∷ xs) p

one_after : (o q : Option Judgement) (p : Option (List Ty)) → option_and_then (before (option_and_then (behind q) p)) o ≡ option_and_then (behind q) (option_and_then (before p) o)
one_after None q p = refl
one_after (Some j) q None = refl
one_after (Some j) None (Some xs) = refl
one_after (Some j) (Some k) (Some xs) = refl

at_first : (q : Option Judgement) → option_and_then (before (Some [])) q ≡ behind q []
at_first None = refl
at_first (Some j) = refl

module _ (n : ℕ) (s : Setting) (known : Facts) (t : Tree) where
  judged_after : (ts : List Tree) → judgements s known (trees (ts ++ t ∷ [])) ≡ option_and_then (behind (judgement s known t)) (judgements s known (trees ts))
  judged_after [] = at_first (judgement s known t)
  judged_after (e ∷ ts) = ap (λ p. option_and_then (before p) (judgement s known e)) (judged_after ts) ∙ one_after (judgement s known e) (judgement s known t) (judgements s known (trees ts))

  violated_after : (ts : List Tree) → violations_among n s known (trees (ts ++ t ∷ [])) ≡ violations_among n s known (trees ts) ++ violations n s known t
  violated_after [] = append-nil (violations n s known t)
  violated_after (e ∷ ts) = ap (λ vs. violations n s known e ++ vs) (violated_after ts) ∙ sym (append_assoc (violations n s known e) (violations_among n s known (trees ts)) (violations n s known t))

  -- one more stays within the level
  pub one_more_stays : (ts : List Tree) (us more : List CodeType) (u : CodeType) (f : Facts) → StayWithin n s known ts us → judgement s known t ≡ Some (record { type = type_of u; facts = f }) → violations n s known t ≡ []
      → more ≡ us ++ u ∷ [] → StayWithin n s known (ts ++ t ∷ []) more
  one_more_stays ts us more u f so judged within is = record {
    judged =
        judged_after ts
        ∙ (λ i. option_and_then (behind (judged i)) (so.judged i))
        ∙ ap Some (sym (map-append type_of us (u ∷ [])) ∙ ap (map type_of) (sym is));
    within = violated_after ts ∙ (λ i. so.within i ++ within i);
  }

-- the trees of the first expressions, and of one more
pub tree_more : (es : List (Expr Unit)) (i : ℕ) (e d : Expr Unit) → i < length es → e ≡ get_or es i d → map (tree_of {T = Unit}) (take i es) ++ tree_of {T = Unit} e ∷ [] ≡ map (tree_of {T = Unit}) (take (i + 1) es)
tree_more es i e d below at =
    let next : suc i ≡ i + 1 = omega arith in
    sym (map-append (tree_of {T = Unit}) (take i es) (e ∷ []))
    ∙ ap (map (tree_of {T = Unit})) (ap (λ x. take i es ++ x ∷ []) at ∙ sym (take-suc es i d below) ∙ ap (λ k. take k es) next)
