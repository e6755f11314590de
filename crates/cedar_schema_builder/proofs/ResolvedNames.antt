-- What is resolved has the names of the declarations.
use Rattle.std.proofs.Common.{subst}
use Rattle.std.specs.Prelude.{Contains}
use Rattle.cedar_expr_model.specs.Name.{Name}
use Rattle.cedar_expr_names.specs.Views.{name_of}
use Rattle.cedar_schema_model.specs.BagLaws.{Uses, HasParentAction}
use Rattle.cedar_schema_model.specs.Declarations.{Declarations}
use Rattle.cedar_schema_model.specs.Descent.{HasActionParent}
use Rattle.cedar_schema_model.proofs.Decls.Reordered.{reaches_along}
use Rattle.cedar_schema_decl.specs.Forms.{TypeForm}
use Rattle.cedar_schema_resolver.specs.Numbers.{StandsTwice}
use Rattle.cedar_schema_decl.specs.Laws.{NamesMeanReferences, RefusedWhereUndeclared}
use Rattle.cedar_schema_resolver.specs.Laws.{UsesAreDeclared, RefusalsAreWritten}
use Rattle.cedar_schema_resolver.specs.Meanings.{Setting}
use Rattle.cedar_schema_resolver.specs.Refusals.{TellsUntold}
use Rattle.cedar_schema_resolver.specs.Solved.{TellsUnsolved}
use Rattle.cedar_schema_resolver.specs.Uses.{UsesIn}
use Rattle.cedar_schema_resolver.specs.declared.err.ResolveError.{ResolveError}
use Rattle.cedar_schema_resolver.specs.declared.err.ResolveError.TheVariants.{OutOfMemory, UnknownExtensionType, ReservedName, DuplicateCommonType, CycleInCommonTypeReferences}
use Rattle.cedar_schema_assembly.specs.Told.{schema_told}
use Rattle.cedar_schema_builder.specs.ResolvedNamed.{NamesThere, AreNamesOf}
use Rattle.cedar_schema_builder.specs.Writing.{CommonForms, EntityForms, ActionForms, WritesAll}
use Rattle.cedar_schema_builder.proofs.ResolvedFaults.{parent_declares, named, untold_named, untold_is_named}
use Rattle.cedar_schema_builder.proofs.Meant.{of_common, common_written, same_commons, same_entities, same_actions, extension_of_common}
use Rattle.cedar_schema_builder.proofs.Written.{untold_is}

module _ (names : NamesMeanReferences) (refused : RefusedWhereUndeclared) (uses : UsesAreDeclared) (law : RefusalsAreWritten) (s : Setting) (d : Declarations) (cs : CommonForms) (es : EntityForms) (as_ : ActionForms) (w : WritesAll s.defined d cs es as_) where
  -- what is refused of a definition
  definition_named : (r : ResolveError) (p : Name × TypeForm Name) → Contains cs p → TellsUntold s p.1 r → NamesThere s.extensions d r
  definition_named r p h u =
      let c = common_written names refused s.defined d cs es as_ w p h in
      untold_named names refused s d cs es as_ w c.0.definition (λ n k. extension_of_common d c.0 c.1 n k) r
      (untold_is law s d w.commons.declared c.0.namespace c.0.definition p.1 (of_common s.defined c.0 p c.2) r u)

  commons_named : (r : ResolveError) → TellsUnsolved s.defined s.extensions cs r → NamesThere s.extensions d r
  commons_named OutOfMemory u = tt
  commons_named (UnknownExtensionType n) u = definition_named (UnknownExtensionType n) u.0 u.1 u.2
  commons_named (ReservedName e) u = definition_named (ReservedName e) u.0 u.1 u.2
  commons_named (DuplicateCommonType n) u = subst (λ l. StandsTwice l (name_of n)) (same_commons names refused s.defined d cs es as_ w) u
  commons_named (CycleInCommonTypeReferences n) u = reaches_along (UsesIn s.defined cs) (Uses d) (λ m k. (uses s.defined d cs w.commons m k).0) (name_of n) (name_of n) u

  pub are_names : AreNamesOf s d cs es as_
  are_names = record {
    entities = same_entities names refused s.defined d cs es as_ w;
    actions = same_actions names refused s.defined d cs es as_ w;
    cycles = λ u h. reaches_along (HasActionParent (schema_told s es as_)) (HasParentAction d) (parent_declares names refused s d cs es as_ w) u u h;
    written = named names refused s d cs es as_ w;
    commons = commons_named;
    types = λ t h r u. untold_is_named names refused s d cs es as_ w law r t h u;
  }
