-- What is assembled of what is gathered is what is built.
use Rattle.std.proofs.Common.{◌≡◌, List, [], ◌∷◌, map, refl, sym, subst}
use Rattle.cedar_expr_model.specs.Name.{Name}
use Rattle.cedar_expr_leaves.specs.declared.conditional_name.ConditionalName.{ConditionalName}
use Rattle.cedar_schema_model.specs.BagLaws.{HasTwice}
use Rattle.cedar_schema_model.specs.Declarations.{Declarations}
use Rattle.cedar_schema_model.specs.Kept.{KeptType, KeptAction}
use Rattle.cedar_schema_decl.specs.Defined.{Defined}
use Rattle.cedar_schema_fragments.specs.WrittenDeclarations.{AreWritten}
use Rattle.cedar_schema_fragments.specs.declared.namespace_def.ValidatorSchemaFragment.{ValidatorSchemaFragment}
use Rattle.cedar_schema_resolver.specs.Meanings.{Setting, setting}
use Rattle.cedar_schema_assembly.specs.Pieces.{AreTypesOf, AreActionsOf}
use Rattle.cedar_schema_assembly.specs.Told.{entity_told, action_told}
use Rattle.cedar_schema_builder.specs.ResolvedLaws.{ResolvedDeclarationsTellTheSchema, BuiltAreWellFormed, AreTold, AreFaultless}
use Rattle.cedar_schema_builder.specs.Writing.{CommonForms, EntityForms, ActionForms}
use Rattle.cedar_schema_builder.specs.Built.{AreBuiltOf}
use Rattle.cedar_schema_builder.specs.Steps.{AreNamed, AreGathered, AreAssembled}

pub same_mapped : {A B C : Type 0} (f : A → B) (g : B → C) (h : A → C) → ((x : A) → g (f x) ≡ h x) → (xs : List A) → map g (map f xs) ≡ map h xs
same_mapped f g h e [] = refl
same_mapped f g h e (x ∷ xs) = λ i. e x i ∷ same_mapped f g h e xs i

module _ (tell : ResolvedDeclarationsTellTheSchema) (well : BuiltAreWellFormed) (x : List Name) (fs : List (ValidatorSchemaFragment ConditionalName ConditionalName)) (s : Defined) (cs : CommonForms) (es : EntityForms) (as_ : ActionForms) (ts : List KeptType) (ks : List KeptAction)
    (n : AreNamed fs) (g : AreGathered fs s cs es as_) (a : AreAssembled s x cs es as_ ts ks) where
  abbrev own : Setting
  own = setting a.commons s x

  told_so : (d : Declarations) → AreWritten fs d → AreTold own d cs es as_
  told_so d w = record { writes = g.writes d w; solved = a.solved }

  faultless : (d : Declarations) → AreWritten fs d → AreFaultless own d es as_
  faultless d w = record {
    types_once = λ h. (a.types.each as_).once (subst HasTwice (sym (same_mapped (entity_told own) (λ t. t.name) (λ e. e.0) (λ e. refl) es)) h);
    actions_once = λ h. (a.actions.each es).once (subst HasTwice (sym (same_mapped (action_told own) (λ b. b.uid) (λ b. b.0) (λ b. refl) as_)) h);
    apart = a.apart.none es;
    contexts = a.contexts_records.each;
    types_known = a.types_known.each;
    contexts_known = a.contexts_known.each;
    none_shadows = g.none_shadows;
    none_reserved = n.none_reserved x d w;
    no_action_type = n.no_action_type x d w;
  }

  pub built : AreBuiltOf x fs ts ks
  built = record {
    are_well_formed = λ d w. well own d cs es as_ (told_so d w) (faultless d w);
    types = λ d w. subst (λ t. AreTypesOf t ts) (tell own d cs es as_ (told_so d w)) (a.types.each as_);
    actions = λ d w. subst (λ t. AreActionsOf t ks) (tell own d cs es as_ (told_so d w)) (a.actions.each es);
  }
