-- What is left of restricted expressions, where no unknown has a value.
use Rattle.std.proofs.Common.{◌≡◌, true, false, List, [], ◌∷◌, Option, Some, None, refl, sym, ap, ◌∙◌, subst, ◌⊎◌, ⊎_elim, inl, inr}
use Rattle.serde_json.specs.Data.{Data}
use Rattle.serde_json.specs.Find.{as_str}
use Rattle.cedar_expr_model.specs.Name.{Text}
use Rattle.cedar_expr_model.specs.Tree.{Tree, unknown, record_literal, TreeFields}
use Rattle.cedar_expr_model.specs.Made.{Made, made_record}
use Rattle.cedar_expr_model.specs.Restricted.{is_restricted}
use Rattle.std.specs.Option.{option_or}
use Rattle.cedar_expr_model.specs.Unknowns.{has_unknown}
use Rattle.cedar_evaluator_model.specs.Scope.{Context, residual_fields, unknown_context, Left, value_left, residual, stopped}
use Rattle.cedar_gate_model.specs.Reading.{given}
use Rattle.cedar_evaluator_model.specs.Functions.{Functions, left_of_restricted}
use Rattle.cedar_evaluator_model.proofs.Restricted.{IsOpen, Clean, left_clean}
use Rattle.cedar_gate_model.specs.ReadingForms.{if_passing, word_of}
use Rattle.cedar_gate_model.specs.ReadingExpression.{second, expression_read, fields_read}
use Rattle.cedar_evaluator_model.specs.Reauthorize.{context_from}
use Rattle.cedar_gate_model.specs.ReadingValue.{if_value, value_read, fields_context_read, context_read}
use Rattle.cedar_gate_model.proofs.Reading.Steps.{given_some, passing_some, beside_all}
use Rattle.cedar_expr_model.specs.ValueParts.{left}
use Rattle.std.specs.Prelude.{is_none, codes}
use Rattle.std.specs.Map.{lookup}
use Rattle.std.specs.Str.{bytes_eq}

-- values
value_clean : (t : Tree) (l : Left) (m : Made) → if_value l ≡ Some m → Clean t l → has_unknown t ≡ false
value_clean t (value_left n) m e h = h
value_clean t (residual r) m e h = cc
value_clean t (stopped s) m e h = cc

pub values_are_restricted : (x : Functions) (d : Data) (m : Made) → value_read x d ≡ Some m → (t : Tree) × (expression_read second d ≡ Some t) × (is_restricted t ≡ true) × (has_unknown t ≡ false)
values_are_restricted x d m e =
    let p = given_some (given (expression_read second d) (if_passing is_restricted)) (λ t. if_value (left_of_restricted x t)) m e in
    let q = given_some (expression_read second d) (if_passing is_restricted) p.0 p.1 in
    let r = passing_some is_restricted q.0 p.0 q.2 in
    let s : is_restricted p.0 ≡ true = ap is_restricted r.1 ∙ r.0 in
    (p.0, q.1 ∙ ap Some (sym r.1), s, value_clean p.0 (left_of_restricted x p.0) m p.2 (left_clean x p.0 s))

-- contexts
context_clean : (t : Tree) (l : Left) (fs : TreeFields) → context_from l ≡ Some (residual_fields fs) → Clean t l → IsOpen (record_literal fs)
context_clean t (residual (record_literal gs)) fs e h = let q : gs ≡ fs = cc in subst (λ ks. IsOpen (record_literal ks)) q h
context_clean t (value_left (made_record gs)) fs e h = cc
context_clean t l fs e h = cc

pub first_some : {A : Type 0} (a b : Option A) (c : A) → option_or a b ≡ Some c → (a ≡ Some c) ⊎ (b ≡ Some c)
first_some None b c e = inr e
first_some (Some a) b c e = inl e

abbrev unknown_word : List (Text × Context)
unknown_word = (codes "unknown", unknown_context) ∷ []

is_unknown : (d : Data) (c : Context) → word_of unknown_word d ≡ Some c → c ≡ unknown_context
is_unknown d c e =
    let p = given_some (as_str d) (λ word. lookup (bytes_eq word) unknown_word) c e in
    beside_all (λ k. k ≡ unknown_context) p.0 unknown_word ((λ h. refl), tt) c p.2

fields_open : (x : Functions) (d : Data) (fs : TreeFields) → fields_context_read x d ≡ Some (residual_fields fs) → IsOpen (record_literal fs)
fields_open x d fs e =
    let p = given_some (given (fields_read second d) (λ gs. if_passing is_restricted (record_literal gs))) (λ t. context_from (left_of_restricted x t)) (residual_fields fs) e in
    let q = given_some (fields_read second d) (λ gs. if_passing is_restricted (record_literal gs)) p.0 p.1 in
    let r = passing_some is_restricted (record_literal q.0) p.0 q.2 in
    context_clean p.0 (left_of_restricted x p.0) fs p.2 (left_clean x p.0 (ap is_restricted r.1 ∙ r.0))

pub open_contexts_have_unknowns : (x : Functions) (d : Data) (fs : TreeFields) → context_read x d ≡ Some (residual_fields fs) → (has_unknown (record_literal fs) ≡ true) × (is_restricted (record_literal fs) ≡ true)
open_contexts_have_unknowns x d fs e =
    ⊎_elim (λ h. let q = is_unknown d (residual_fields fs) h in cc)
    (λ h. ⊎_elim (λ k. let o = fields_open x d fs k in (o.0, ap is_none o.1)) (λ k. cc) (first_some (fields_context_read x d) None (residual_fields fs) h))
    (first_some (word_of unknown_word d) (option_or (fields_context_read x d) None) (residual_fields fs) e)
