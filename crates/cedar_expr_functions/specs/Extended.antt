-- What extensions hold, and what is left to iterators over the types that functions give.
-- Rule: extension functions (docs/RULES.md).
use Rattle.std.specs.Prelude.{List, map}
use Rattle.std.specs.List.{filter_map}
use Rattle.std.specs.Slice.Iter.{iter_rest}
use Rattle.cedar_expr_model.specs.Name.{Name}
use Rattle.cedar_expr_names.specs.Views.{plain_name_of}
use Rattle.cedar_expr_functions.specs.Signatures.{given_type}
use Rattle.cedar_expr_functions.specs.Functions.{function_signature}
use Rattle.cedar_expr_functions.specs.declared.extension.ExtensionFunction.{ExtensionFunction}
use Rattle.cedar_expr_functions.specs.declared.extension.Extension.{Extension}
use Rattle.cedar_expr_functions.specs.declared.extension.ExtTypes.{ExtTypes}

-- the types that are left
abbrev pub types_left : {B : _} {F : _} {g : _} → ExtTypes B F g → List Name
types_left i = filter_map (λ f. given_type (function_signature f)) (iter_rest i.functions)

-- the name of an extension
abbrev pub extension_name : {B : _} {F : _} {g : _} → Extension B F g → Name
extension_name e = plain_name_of e.name

-- its functions
abbrev pub functions_in : {B : _} {F : _} {g : _} → Extension B F g → List (ExtensionFunction B F g)
functions_in e = e.functions.items

-- those of its types whose values are ordered
abbrev pub ordered_in : {B : _} {F : _} {g : _} → Extension B F g → List Name
ordered_in e = map plain_name_of e.ordered.items
