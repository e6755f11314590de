-- The common types and the namespaces that a built schema lists.
-- Rule: schemas; declarations (docs/RULES.md).
use Rattle.std.specs.Prelude.{◌≡◌, ◌↔◌, List, [], ◌++◌, map, false, Some, Contains}
use Rattle.cedar_expr_model.specs.Name.{Name}
use Rattle.cedar_expr_model.specs.UidOrder.{name_cmp}
use Rattle.cedar_expr_model.specs.Lists.{is_nil}
use Rattle.cedar_expr_names.specs.declared.internal_name.InternalName.{InternalName}
use Rattle.cedar_expr_leaves.specs.declared.conditional_name.ConditionalName.{ConditionalName}
use Rattle.cedar_schema_model.specs.BagLaws.{IsReordered}
use Rattle.cedar_schema_model.specs.Declarations.{Declarations, common_names}
use Rattle.cedar_schema_model.specs.Reference.{Namespace}
use Rattle.cedar_schema_decl.specs.Laws.{namespace_parts}
use Rattle.cedar_schema_fragments.specs.WrittenDeclarations.{AreWritten}
use Rattle.cedar_schema_fragments.specs.declared.namespace_def.ValidatorSchemaFragment.{ValidatorSchemaFragment}
use Rattle.cedar_schema_built.specs.OfFragments.{commons_of_fragments, spaces_of_fragments}
use Rattle.cedar_schema_built.specs.LocatedViews.{ListedCommon, ListedSpace, common_listed, space_listed}
use Rattle.cedar_schema_built.specs.declared.common_type.LocatedCommonType.{LocatedCommonType}
use Rattle.cedar_schema_built.specs.declared.namespace.LocatedNamespace.{LocatedNamespace}
use Rattle.cedar_schema_built.specs.Put.{all_put}
use Rattle.cedar_schema_built.specs.declared.names.SchemaNames.{SchemaNames}
use Rattle.cedar_schema_built.specs.declared.schema.ValidatorSchema.{ValidatorSchema}

-- what is listed: common types, and namespaces
pub record Listed : Type 0 where
  pub commons : List ListedCommon
  pub spaces : List ListedSpace

abbrev pub commons_in : List (InternalName × LocatedCommonType) → List ListedCommon
commons_in es = map (λ e. common_listed e.1) es

abbrev pub spaces_in : List (InternalName × LocatedNamespace) → List ListedSpace
spaces_in es = map (λ e. space_listed e.1) es

abbrev pub names_listed : SchemaNames → Listed
names_listed n = record { commons = commons_in n.common_types.entries; spaces = spaces_in n.namespaces.entries }

abbrev pub schema_listed : ValidatorSchema → Listed
schema_listed s = names_listed s.names

-- They are those that the fragments declare, in the order of names, of each name the last.
pub record AreListed {N A : Type 0} (fs : List (ValidatorSchemaFragment N A)) (l : Listed) : Type 0 where
  pub commons : l.commons ≡ all_put name_cmp (λ c. c.name) [] (commons_of_fragments fs)
  pub spaces : l.spaces ≡ all_put name_cmp (λ n. n.name) [] (spaces_of_fragments fs)

-- the namespaces in which something is declared
abbrev pub namespaces_of : Declarations → List Namespace
namespaces_of d = map (λ c. c.namespace) d.commons ++ (map (λ t. t.namespace) d.entities ++ map (λ a. a.namespace) d.actions)

abbrev pub parts_of : ListedSpace → Namespace
parts_of n = namespace_parts (Some n.name)

-- They have the names of the declared common types, in order and each once, and those of the namespaces in which something is
-- declared. The empty namespace has no name.
pub record HasNamesOf (d : Declarations) (l : Listed) : Type 0 where
  pub commons : map (λ c. c.name) l.commons ≡ all_put name_cmp (λ n. n) [] (common_names d)
  pub spaces : (ns : Namespace) → Contains (map parts_of l.spaces) ns ↔ (Contains (namespaces_of d) ns × (is_nil ns ≡ false))

-- What fragments list has the names of the declarations that they write.
abbrev pub ListedAreDeclared : Type 0
ListedAreDeclared = (fs : List (ValidatorSchemaFragment ConditionalName ConditionalName)) (d : Declarations) → AreWritten fs d → (l : Listed) → AreListed fs l → HasNamesOf d l

-- Declarations in another order, or split among other fragments, list the same names in the same order.
pub record HaveSameNames (l m : Listed) : Type 0 where
  pub commons : map (λ c. c.name) l.commons ≡ map (λ c. c.name) m.commons
  pub spaces : map (λ n. n.name) l.spaces ≡ map (λ n. n.name) m.spaces

abbrev pub OrderOfListedIsFree : Type 0
OrderOfListedIsFree = (fs gs : List (ValidatorSchemaFragment ConditionalName ConditionalName)) (d e : Declarations) → AreWritten fs d → AreWritten gs e → IsReordered d e
    → (l m : Listed) → AreListed fs l → AreListed gs m → HaveSameNames l m
