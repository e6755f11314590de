-- The extension types of a table are those that its functions give.
use Rattle.std.proofs.Common.{◌≡◌, List, [], ◌∷◌, ◌++◌, Option, Some, None, refl, ap, ◌∙◌}
use Rattle.std.specs.Prelude.{flat_map, filter_map, option_to_list, option_and_then}
use Rattle.cedar_expr_functions.specs.Signatures.{extension_name, given_type}
use Rattle.cedar_expr_model.specs.Name.{Name}
use Rattle.cedar_expr_model.specs.Table.{Signature}
use Rattle.cedar_expr_model.specs.Tree.{CoreType, bool_core, long_core, string_core, set_core, record_core, entity_core, extension_core}
use Rattle.cedar_gate_model.specs.Acceptance.{extension_of}

one_given : (r : Option CoreType) (rest : List Name) → flat_map extension_of (option_to_list r) ++ rest ≡ option_to_list (option_and_then extension_name r) ++ rest
one_given None rest = refl
one_given (Some (extension_core n)) rest = refl
one_given (Some (entity_core n)) rest = refl
one_given (Some bool_core) rest = refl
one_given (Some long_core) rest = refl
one_given (Some string_core) rest = refl
one_given (Some set_core) rest = refl
one_given (Some record_core) rest = refl

put_first : (o : Option Name) (f : Signature) (fs : List Signature) → given_type f ≡ o → option_to_list o ++ filter_map given_type fs ≡ filter_map given_type (f ∷ fs)
put_first None f fs h = rw h refl
put_first (Some n) f fs h = rw h refl

pub all_given : (fs : List Signature) → flat_map (λ f. flat_map extension_of (option_to_list f.result)) fs ≡ filter_map given_type fs
all_given [] = refl
all_given (f ∷ fs) =
    ap (λ ns. flat_map extension_of (option_to_list f.result) ++ ns) (all_given fs)
    ∙ one_given f.result (filter_map given_type fs)
    ∙ put_first (given_type f) f fs refl
