-- What stands in what is resolved, and is refused of it, stands in the declarations under the same names.
-- Rule: well-formed declarations (docs/RULES.md).
use Rattle.std.specs.Prelude.{◌≡◌, List, ◌++◌, true, false, Contains}
use Rattle.cedar_expr_model.specs.Name.{Text, Name, is_reserved}
use Rattle.cedar_expr_model.specs.Uid.{Uid}
use Rattle.cedar_expr_names.specs.Views.{name_of, plain_name_of, refused_name_of}
use Rattle.cedar_schema_model.specs.BagLaws.{Uses, HasParentAction}
use Rattle.cedar_schema_model.specs.Declarations.{ActionDeclaration, Declarations, action_uid, common_names, entity_names, action_uids, extensions}
use Rattle.cedar_schema_model.specs.Descent.{Reaches, ActionDescends}
use Rattle.cedar_schema_model.specs.WellFormed.{becomes_record, written_names}
use Rattle.cedar_schema_model.specs.Contexts.{is_record_type}
use Rattle.cedar_schema_decl.specs.Forms.{TypeForm, ActionForm}
use Rattle.cedar_schema_resolver.specs.Numbers.{StandsTwice}
use Rattle.cedar_schema_resolver.specs.Meanings.{Setting, told}
use Rattle.cedar_schema_resolver.specs.Refusals.{TellsUntold}
use Rattle.cedar_schema_resolver.specs.Solved.{TellsUnsolved}
use Rattle.cedar_schema_resolver.specs.declared.err.ResolveError.{ResolveError}
use Rattle.cedar_schema_resolver.specs.declared.err.ResolveError.TheVariants.{OutOfMemory, UnknownExtensionType, ReservedName, DuplicateCommonType, CycleInCommonTypeReferences}
use Rattle.cedar_schema_assembly.specs.Told.{schema_told}
use Rattle.cedar_schema_builder.specs.ResolvedLaws.{AreTold, StandsIn}
use Rattle.cedar_schema_builder.specs.Writing.{CommonForms, EntityForms, ActionForms, WritesAll, names_of_entities, uids_of_actions, names_declared, names_referred}

-- What the error names is at fault in the declarations, where these extension types are known. Out of memory names nothing.
abbrev pub NamesThere : List Name → Declarations → ResolveError → Type 0
NamesThere x d OutOfMemory = Unit {0}
NamesThere x d (UnknownExtensionType n) = Contains (extensions d) (plain_name_of n) × (Contains x (plain_name_of n) → ⊥)
NamesThere x d (ReservedName r) = Contains (written_names d) (refused_name_of r) × (is_reserved (refused_name_of r) ≡ true)
NamesThere x d (DuplicateCommonType n) = StandsTwice (common_names d) (name_of n)
NamesThere x d (CycleInCommonTypeReferences n) = Reaches (Uses d) (name_of n) (name_of n)

-- Entity types and actions have the names of those that are declared; an action that descends from itself does so there, a name in
-- them is written there, and what is refused of their types and of the common types is at fault there.
pub record AreNamesOf (s : Setting) (d : Declarations) (cs : CommonForms) (es : EntityForms) (as_ : ActionForms) : Type 0 where
  pub entities : names_of_entities es ≡ entity_names d
  pub actions : uids_of_actions as_ ≡ action_uids d
  pub cycles : (u : Uid) → ActionDescends (schema_told s es as_) u u → Reaches (HasParentAction d) u u
  pub written : (n : Name) → Contains (names_declared cs es as_ ++ names_referred es as_) n → Contains (written_names d) n
  pub commons : (r : ResolveError) → TellsUnsolved s.defined s.extensions cs r → NamesThere s.extensions d r
  pub types : (t : TypeForm Name) → StandsIn es as_ t → (r : ResolveError) → TellsUntold s t r → NamesThere s.extensions d r

-- They are so where they write the declarations.
abbrev pub NamesAreDeclared : Type 0
NamesAreDeclared = (s : Setting) (d : Declarations) (cs : CommonForms) (es : EntityForms) (as_ : ActionForms) → WritesAll s.defined d cs es as_ → AreNamesOf s d cs es as_

-- A context that isn't told as a record is that of a declared action of the same uid, which doesn't become one.
abbrev pub ContextsAreNamed : Type 0
ContextsAreNamed = (s : Setting) (d : Declarations) (cs : CommonForms) (es : EntityForms) (as_ : ActionForms) → AreTold s d cs es as_
    → (a : Uid × ActionForm Name (Name × Text)) → Contains as_ a → is_record_type (told s a.1.context) ≡ false → (b : ActionDeclaration) × Contains d.actions b × (action_uid b ≡ a.0) × (becomes_record d b ≡ false)
