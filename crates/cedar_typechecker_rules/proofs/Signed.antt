-- Calls by what they ask of a signature.
use Rattle.std.proofs.Common.{◌≡◌, ◌&&◌, Bool, List, length, Option, Some, None, option_map, option_and_then, refl, sym, ap, ◌∙◌}
use Rattle.std.specs.Prelude.{if◌then◌else◌}
use Rattle.cedar_expr_model.specs.Name.{Name}
use Rattle.cedar_expr_model.specs.Tree.{Trees}
use Rattle.cedar_expr_model.specs.Table.{Signature, signature_of, takes_count, is_constructor}
use Rattle.cedar_expr_model.specs.Lists.{all_given}
use Rattle.cedar_schema_model.specs.Types.{Ty, Mode, strict, permissive}
use Rattle.cedar_typechecker_model.specs.Rules.{Setting, call_type, signature_type, core_as_type, arguments_fit, takes_literal}
use Rattle.cedar_typechecker_environments.specs.Signatures.{CallSignature, call_signature}
use Rattle.cedar_typechecker_rules.specs.Signatures.{literal_taken, called_type}

literal_is : (m : Mode) (f : Signature) (es : Trees) → literal_taken m (is_constructor f) es ≡ takes_literal m f es
literal_is strict f es = refl
literal_is permissive f es = refl

called_is : (s : Setting) (es : Trees) (ts : List Ty) (f : Signature) → called_type s.mode es ts (call_signature f) ≡ signature_type s es ts f
called_is s es ts f = λ i. option_and_then (λ ps. if takes_count f (length ts) && (arguments_fit ps ts && literal_is s.mode f es i) then option_and_then core_as_type f.result else None) (all_given core_as_type f.parameters)

by_found : (s : Setting) (es : Trees) (ts : List Ty) (o : Option Signature) → option_and_then (called_type s.mode es ts) (option_map call_signature o) ≡ option_and_then (signature_type s es ts) o
by_found s es ts None = refl
by_found s es ts (Some f) = called_is s es ts f

pub call_is : (s : Setting) (n : Name) (es : Trees) (ts : List Ty) (found : Option CallSignature) → found ≡ option_map call_signature (signature_of s.table n) → option_and_then (called_type s.mode es ts) found ≡ call_type s n es ts
call_is s n es ts found e = ap (option_and_then (called_type s.mode es ts)) e ∙ by_found s es ts (signature_of s.table n)
