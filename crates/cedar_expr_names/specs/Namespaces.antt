-- The text of a name's namespace, and namespaces that are handed in.
-- Rule: identifiers and names (docs/RULES.md).
use Rattle.std.specs.Prelude.{◌≡◌, true, [], Option, Some, None, Result, MatchResult}
use Rattle.std.specs.Borrow.{Bor}
use Rattle.cedar_expr_model.specs.Name as model
use Rattle.cedar_expr_model.specs.Name.{Text, name_text}
use Rattle.cedar_expr_model.specs.Names.{is_unqualified, namespace_of}
use Rattle.cedar_expr_names.specs.declared.internal_name.InternalName.{InternalName}
use Rattle.cedar_expr_names.specs.declared.name.Name.{Name}
use Rattle.cedar_expr_names.specs.declared.err.NameError.{NameError}
use Rattle.cedar_expr_names.specs.Views.{name_of, plain_name_of}
use Rattle.cedar_expr_names.specs.Refusals.{RefusesNamespace}

-- the text of a name, and nothing where there is none
abbrev pub optional_text : Option model.Name → Text
optional_text None = []
optional_text (Some n) = name_text n

-- the text of a name's namespace: empty where the name has none
abbrev pub namespace_text : model.Name → Text
namespace_text n = optional_text (namespace_of n)

-- the namespace that is handed in, if there is one
abbrev pub space_of : Option (Bor InternalName) → Option model.Name
space_of None = None
space_of (Some n) = Some (name_of n.now)

abbrev pub plain_space_of : Option (Bor Name) → Option model.Name
plain_space_of None = None
plain_space_of (Some n) = Some (plain_name_of n.now)

-- A name without a namespace gives its base, and one that has a namespace is refused.
abbrev pub GivesBase : {I : Type 0} → (I → Text) → model.Name → Result I NameError → Type 0
GivesBase text n r = MatchResult r (λ i. (is_unqualified n ≡ true) × (text i ≡ n.base)) (RefusesNamespace n)
