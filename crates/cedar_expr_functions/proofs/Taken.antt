-- The function takes arguments of which there are as many and none is of a wrong type.
use Rattle.std.proofs.Common.{◌≡◌, ◌&&◌, List, length, map, Bool, true, Option, Some, None, option_map, is_none, sym, ap, ◌∙◌}
use Rattle.std.proofs.lemmas.List.{length-map}
use Rattle.cedar_expr_model.specs.Table.{Signature, takes_count}
use Rattle.cedar_expr_values.specs.Values.{bare}
use Rattle.cedar_expr_values.specs.Extensions.{extension_of}
use Rattle.cedar_expr_values.specs.Types.{core_of}
use Rattle.cedar_expr_values.specs.declared.types.Type.{«Type» as CoreKind}
use Rattle.cedar_expr_values.specs.declared.value.Value.{Value}
use Rattle.cedar_expr_values.specs.declared.extension.ExtValue.{ExtValue}
use Rattle.cedar_expr_functions.specs.Signatures.{takes, first_mistyped, bare_values, core_pair}
use Rattle.cedar_expr_functions.proofs.Mistyped.{of_types}

both_true : (a b : Bool) → a ≡ true → b ≡ true → (a && b) ≡ true
both_true a b e f = ap (λ c. c && b) e ∙ f

pub all_taken : (s : Signature) (vs : List (Value ExtValue)) (counted : Bool) (ts : List CoreKind) (found : Option (CoreKind × CoreKind)) → counted ≡ takes_count s (length vs) → counted ≡ true → map core_of ts ≡ s.parameters
    → option_map core_pair found ≡ first_mistyped (map core_of ts) (bare_values vs) → found ≡ None → takes s (bare_values vs) ≡ true
all_taken s vs counted ts found e h p m n =
    both_true _ _ (ap (takes_count s) (length-map vs (bare extension_of)) ∙ sym e ∙ h)
    (of_types s.parameters (bare_values vs) ∙ ap (λ as_. is_none (first_mistyped as_ (bare_values vs))) (sym p) ∙ ap is_none (sym m) ∙ ap (λ o. is_none (option_map core_pair o)) n)
