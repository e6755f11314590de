-- What is left to the iterators over what is declared.
use Rattle.std.specs.Prelude.{List, Option, map, option_map}
use Rattle.std.specs.Slice.Iter.{iter_rest}
use Rattle.cedar_expr_model.specs.Name.{Name}
use Rattle.cedar_expr_names.specs.Views.{name_of}
use Rattle.cedar_schema_fragments.specs.declared.declared_names.DeclaredNames.{DeclaredNames}
use Rattle.cedar_schema_fragments.specs.declared.declared_names.DeclaredNamespaces.{DeclaredNamespaces}

-- the names that are left
abbrev pub names_left : {K D : Type 0} → DeclaredNames K D → List K
names_left i = map (λ e. e.0) (iter_rest i.rest)

-- the names of the namespaces that are left
abbrev pub spaces_left : {N A : Type 0} → DeclaredNamespaces N A → List (Option Name)
spaces_left i = map (λ n. option_map name_of n.namespace) (iter_rest i.rest)
