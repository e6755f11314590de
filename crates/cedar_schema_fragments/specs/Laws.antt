-- What the laws of fragments say.
-- Rule: well-formed declarations; declarations (docs/RULES.md).
use Rattle.std.specs.Prelude.{◌≡◌, List, [], ◌∷◌, ◌++◌, true, Contains, is_some}
use Rattle.std.specs.declared.result.Result.TheVariants.{Ok, Err}
use Rattle.cedar_expr_model.specs.Name.{Text, Name, is_reserved}
use Rattle.cedar_expr_model.specs.Uid.{Uid}
use Rattle.cedar_expr_leaves.specs.declared.conditional_name.ConditionalName.{ConditionalName}
use Rattle.cedar_schema_model.specs.Declarations.{Declarations, bag, is_declared_action}
use Rattle.cedar_schema_model.specs.WellFormed.{reserved_name, IsWellFormed, written_names, shadows}
use Rattle.cedar_schema_model.specs.BagLaws.{HasSchemaFault}
use Rattle.cedar_schema_decl.specs.Conditional.{Conditional, conditional_of}
use Rattle.cedar_schema_decl.specs.Defined.{Defined, is_defined_action}
use Rattle.cedar_schema_decl.specs.Laws.{HasDeclared}
use Rattle.cedar_schema_decl.specs.Requalified.{each}
use Rattle.cedar_schema_decl.specs.Shadowing.{first_shadowing}
use Rattle.cedar_schema_fragments.specs.Marked.{HasAll}
use Rattle.cedar_schema_fragments.specs.Namespaces.{NamespaceForm, fragment_form}
use Rattle.cedar_schema_fragments.specs.Qualified.{namespace_qualified}
use Rattle.cedar_schema_fragments.specs.Refusals.{Refusal, reserved_type}
use Rattle.cedar_schema_fragments.specs.Written.{WrittenNamespace}
use Rattle.cedar_schema_fragments.specs.WrittenDeclarations.{declarations_of, AreWritten}
use Rattle.cedar_schema_fragments.specs.declared.namespace_def.ValidatorSchemaFragment.{ValidatorSchemaFragment}

-- The set of actions has what these declarations declare.
abbrev pub HasActions : Defined → Declarations → Type 0
HasActions s d = (u : Uid) → is_defined_action s u ≡ is_declared_action d u

-- Something shadows by the sets exactly where it does by the declarations.
abbrev pub ShadowingIsDeclared : Type 0
ShadowingIsDeclared = (s : Defined) (d : Declarations) → HasDeclared s d → HasActions s d → is_some (first_shadowing s) ≡ shadows d

-- What is made of a fragment as it is written writes its declarations.
abbrev pub QualifiedAreWritten : Type 0
QualifiedAreWritten = (f : ValidatorSchemaFragment ConditionalName ConditionalName) (ws : List WrittenNamespace) → each namespace_qualified ws ≡ Ok (fragment_form conditional_of conditional_of f) → AreWritten (f ∷ []) (declarations_of ws)

-- A refusal reports a reserved name, which the declarations write.
pub record IsRefusedFor (d : Declarations) (r : Refusal) : Type 0 where
  pub kind : Name
  pub told : r ≡ reserved_type kind
  pub written : Contains (written_names d) kind
  pub reserved : is_reserved kind ≡ true

-- What is refused as it is written is refused for a reserved name that the declarations write, and has that fault, whatever the
-- extension types.
abbrev pub RefusalsAreReserved : Type 0
RefusalsAreReserved = (ws : List WrittenNamespace) (r : Refusal) → each namespace_qualified ws ≡ Err r → IsRefusedFor (declarations_of ws) r

abbrev pub RefusedAreFaulty : Type 0
RefusedAreFaulty = (x : List Name) (ws : List WrittenNamespace) (r : Refusal) → each namespace_qualified ws ≡ Err r → HasSchemaFault x (declarations_of ws) reserved_name

-- Well-formed declarations are never refused as they are written.
abbrev pub WellFormedAreQualified : Type 0
WellFormedAreQualified = (x : List Name) (ws : List WrittenNamespace) → IsWellFormed x (declarations_of ws) → (ns : List (NamespaceForm Conditional (Conditional × Text))) × (each namespace_qualified ws ≡ Ok ns)

-- Fragments together write their declarations together.
abbrev pub TogetherAreWritten : Type 0
TogetherAreWritten = (fs gs : List (ValidatorSchemaFragment ConditionalName ConditionalName)) (d e : Declarations) → AreWritten fs d → AreWritten gs e → AreWritten (fs ++ gs) (bag (d ∷ e ∷ []))

-- Sets that have what fragments declare have what the declarations declare that they write.
abbrev pub WrittenTypesAreDeclared : Type 0
WrittenTypesAreDeclared = (fs : List (ValidatorSchemaFragment ConditionalName ConditionalName)) (d : Declarations) → AreWritten fs d → (s : Defined) → HasAll fs s → HasDeclared s d

abbrev pub WrittenActionsAreDeclared : Type 0
WrittenActionsAreDeclared = (fs : List (ValidatorSchemaFragment ConditionalName ConditionalName)) (d : Declarations) → AreWritten fs d → (s : Defined) → HasAll fs s → HasActions s d
