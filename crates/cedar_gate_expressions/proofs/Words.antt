-- A word that is none of these may be an operator.
use Rattle.std.proofs.Common.{◌≡◌, ℕ, List, codes, false, rules, refl}
use Rattle.std.specs.Map.{lookup}
use Rattle.std.specs.Str.{bytes_eq}
use Rattle.std.proofs.lemmas.Slice.Eq.{bytes_eq-Decides}
use Rattle.cedar_gate_model.specs.ReadingExpression.{common_forms}
use Rattle.cedar_gate_expressions.specs.Forms.{operator_forms}

apart : (a b : List ℕ) → (a ≡ b → ⊥) → bytes_eq a b ≡ false
apart a b ne = search (rules, bytes_eq-Decides a b)

pub operator_or_none : (w : List ℕ) → (w ≡ codes "uid" → ⊥) → (w ≡ codes "var" → ⊥) → (w ≡ codes "slot" → ⊥) → (w ≡ codes "unknown" → ⊥)
    → (w ≡ codes "if" → ⊥) → (w ≡ codes "and" → ⊥) → (w ≡ codes "or" → ⊥) → (w ≡ codes "call" → ⊥) → (w ≡ codes "get" → ⊥) → (w ≡ codes "has" → ⊥)
    → (w ≡ codes "like" → ⊥) → (w ≡ codes "is" → ⊥) → (w ≡ codes "set" → ⊥) → (w ≡ codes "record" → ⊥)
    → lookup (bytes_eq w) common_forms ≡ lookup (bytes_eq w) operator_forms
operator_or_none w a b c d e f g h i j k l m n =
    rw (
      apart w (codes "uid") a,
      apart w (codes "var") b,
      apart w (codes "slot") c,
      apart w (codes "unknown") d,
      apart w (codes "if") e,
      apart w (codes "and") f,
      apart w (codes "or") g,
      apart w (codes "call") h,
      apart w (codes "get") i,
      apart w (codes "has") j,
      apart w (codes "like") k,
      apart w (codes "is") l,
      apart w (codes "set") m,
      apart w (codes "record") n,
    )
