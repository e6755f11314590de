-- What the fields of a record mention, one after the other, and how much stands in them.
use Rattle.std.proofs.Common.{◌≡◌, ℕ, List, [], ◌∷◌, ◌++◌, map, refl, ap, ◌∙◌, append_assoc}
use Rattle.std.specs.Rc.{rc_str_bytes}
use Rattle.std.specs.declared.alloc.Global.{Global}
use Rattle.std.specs.declared.rc.RcStr.{RcStr}
use Rattle.cedar_expr_model.specs.Uid.{Uid}
use Rattle.cedar_expr_model.specs.Made.{MadeFields, bare_fields}
use Rattle.cedar_expr_model.specs.Records.{fields}
use Rattle.cedar_expr_model.specs.Value.{field}
use Rattle.cedar_expr_values.specs.Extension.{Extension}
use Rattle.cedar_expr_values.specs.Kept.{made_fields_size}
use Rattle.cedar_expr_values.specs.Values.{bare, bare_pair, made_fields, made_pair}
use Rattle.cedar_expr_values.specs.declared.value.Value.{Value}
use Rattle.cedar_typechecker_model.specs.Slice.{mentioned_in_fields}
use Rattle.cedar_gate_openings.specs.Mentions.{mentioned_in}

module _ {X : Type 0} (seen : X → Extension) where
  fields_are : (es : List (RcStr Global × Value X)) → bare_fields (made_fields (map (made_pair seen) es)) ≡ fields (map (bare_pair seen) es)
  fields_are [] = refl
  fields_are (e ∷ es) = ap (field (rc_str_bytes e.0) (bare seen e.1)) (fields_are es)

  pub by_fields : (fs : MadeFields) (es : List (RcStr Global × Value X)) → fs ≡ made_fields (map (made_pair seen) es) → mentioned_in_fields (bare_fields fs) ≡ mentioned_in seen es
  by_fields fs es h = ap (λ gs. mentioned_in_fields (bare_fields gs)) h ∙ ap mentioned_in_fields (fields_are es)

  -- how many values stand in the fields
  abbrev pub fields_size_of : List (RcStr Global × Value X) → ℕ
  fields_size_of es = made_fields_size (made_fields (map (made_pair seen) es))

-- one more is added, and the rest is left
pub add_one : (had more whole one rest : List Uid) → had ++ (one ++ rest) ≡ whole → more ≡ had ++ one → more ++ rest ≡ whole
add_one had more whole one rest e is = ap (λ zs. zs ++ rest) is ∙ append_assoc had one rest ∙ e
