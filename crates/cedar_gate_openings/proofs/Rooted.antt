-- Roots of requests, one after the other.
use Rattle.std.proofs.Common.{◌≡◌, List, [], ◌++◌, map, Result, OnOk, sym, ap, ◌∙◌, subst, append_assoc}
use Rattle.std.specs.declared.alloc.Global.{Global}
use Rattle.std.specs.declared.rc.RcStr.{RcStr}
use Rattle.cedar_expr_model.specs.Uid.{Uid}
use Rattle.cedar_expr_model.specs.Made.{MadeFields}
use Rattle.cedar_expr_values.specs.Extensions.{extension_of}
use Rattle.cedar_expr_values.specs.Values.{made_fields, made_pair}
use Rattle.cedar_expr_values.specs.declared.extension.ExtValue.{ExtValue}
use Rattle.cedar_expr_values.specs.declared.value.Value.{Value}
use Rattle.cedar_evaluator_model.specs.Scope.{closed}
use Rattle.cedar_gate_openings.specs.Mentions.{mentioned_in}
use Rattle.cedar_gate_openings.specs.Roots.{mentioned_by_context}
use Rattle.cedar_gate_openings.proofs.Mentioned.{by_fields}

-- a context of values adds what its fields mention
pub context_adds : {A E : Type 0} (q : Result A E) (had has : List Uid) (fs : MadeFields) (es : List (RcStr Global × Value ExtValue)) → fs ≡ made_fields (map (made_pair extension_of) es) → OnOk q (has ≡ had ++ mentioned_in extension_of es)
    → OnOk q (has ≡ had ++ mentioned_by_context (closed fs))
context_adds q had has fs es e h = subst (λ zs. OnOk q (has ≡ had ++ zs)) (sym (by_fields extension_of fs es e)) h

-- three after each other
pub in_a_row : (one two three a b c : List Uid) → one ≡ [] ++ a → two ≡ one ++ b → three ≡ two ++ c → three ≡ a ++ (b ++ c)
in_a_row one two three a b c e f g = g ∙ ap (λ zs. zs ++ c) (f ∙ ap (λ zs. zs ++ b) e) ∙ append_assoc a b c
