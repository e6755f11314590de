-- Functions by their names, and what stands in extensions.
-- Rule: extension functions (docs/RULES.md).
use Rattle.std.specs.Prelude.{List, map}
use Rattle.std.specs.List.{flat_map}
use Rattle.std.specs.List.Sorted.{IsStrictlySortedBy}
use Rattle.std.specs.Borrow.{Bor}
use Rattle.std.specs.declared.cmp.Ordering.{Ordering}
use Rattle.cedar_expr_model.specs.Name as model
use Rattle.cedar_expr_model.specs.Table.{Signature}
use Rattle.cedar_expr_names.specs.contracts.name.NameOrd.TheImpl as name_order
use Rattle.cedar_expr_names.specs.declared.name.Name.{Name}
use Rattle.cedar_expr_functions.specs.Functions.{function_signature}
use Rattle.cedar_expr_functions.specs.Extended.{functions_in, ordered_in}
use Rattle.cedar_expr_functions.specs.declared.extension.Extension.{Extension}
use Rattle.cedar_expr_functions.specs.declared.extension.ExtensionFunction.{ExtensionFunction}

-- names in the order of the code
abbrev pub names_compared : Name → Name → Ordering
names_compared m n = (name_order.ghosts).cmp m n

-- the names of the functions rise, so that none is repeated
abbrev pub NamesRise : {B : _} {F : _} {g : _} → List (Bor (ExtensionFunction B F g)) → Type 0
NamesRise fs = IsStrictlySortedBy names_compared (map (λ f. f.now.name) fs)

-- the functions of extensions, in the order in which they stand there
abbrev pub all_functions : {B : _} {F : _} {g : _} → List (Extension B F g) → List (ExtensionFunction B F g)
all_functions es = flat_map functions_in es

abbrev pub all_signatures : {B : _} {F : _} {g : _} → List (Extension B F g) → List Signature
all_signatures es = map function_signature (all_functions es)

-- the types of extensions whose values are ordered
abbrev pub all_ordered : {B : _} {F : _} {g : _} → List (Extension B F g) → List model.Name
all_ordered es = flat_map ordered_in es
