-- What members and fields feed a hasher, step by step.
use Rattle.std.proofs.Common.{◌≡◌, ◌≤◌, ℕ, List, [], ◌∷◌, ◌++◌, map, length, drop, refl, sym, ap, ◌∙◌, arith}
use Rattle.std.specs.Prelude.{fold}
use Rattle.std.specs.Hash.{HashWrites}
use Rattle.std.proofs.lemmas.List.{drop_all}
use Rattle.std.proofs.lemmas.List.Sums.{fold-append}
use Rattle.std.specs.declared.alloc.Global.{Global}
use Rattle.std.specs.declared.rc.RcStr.{RcStr}
use Rattle.cedar_expr_model.specs.Made as model
use Rattle.cedar_expr_values.specs.Extension.{Extension}
use Rattle.cedar_expr_values.specs.Inputs.{members_input, fields_input, field_count}
use Rattle.cedar_expr_values.specs.Values.{made, made_list, made_fields, made_pair}
use Rattle.cedar_expr_values.specs.declared.value.Value.{Value}

module _ {X : Type 0} (seen : X → Extension) where
  -- values in a row, and fields
  abbrev pub all_fed : List (Value X) → HashWrites
  all_fed vs = members_input (model.bares (made_list (map (made seen) vs)))

  abbrev pub fields_fed : List (RcStr Global × Value X) → HashWrites
  fields_fed es = fields_input (model.bare_fields (made_fields (map (made_pair seen) es)))

  -- as many as there are
  pub fields_counted : (es : List (RcStr Global × Value X)) → length es ≡ field_count (model.bare_fields (made_fields (map (made_pair seen) es)))
  fields_counted [] = refl
  fields_counted (e ∷ es) = let h = fields_counted es in grind arith

  module _ {S : Type 0} (w : S → List ℕ → S) where
    -- steps, one after the other
    pub two_steps : (s t u : S) (as_ bs : HashWrites) → t ≡ fold w s as_ → u ≡ fold w t bs → u ≡ fold w s (as_ ++ bs)
    two_steps s t u as_ bs e f = f ∙ ap (λ r. fold w r bs) e ∙ sym (fold-append w s as_ bs)

    -- nothing is left
    pub all_are_fed : (s : S) (xs : List (Value X)) (i : ℕ) (end_ : S) → length xs ≤ i → fold w s (all_fed (drop i xs)) ≡ end_ → s ≡ end_
    all_are_fed s xs i end_ h inv = sym (ap (λ ys. fold w s (all_fed ys)) (drop_all i xs h)) ∙ inv
