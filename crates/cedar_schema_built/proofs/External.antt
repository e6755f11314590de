-- What is built of fragments has something that is declared elsewhere where their declarations have that fault.
use Rattle.std.proofs.Common.{◌≡◌, ◌↔◌, List, [], ◌∷◌, refl, sym, subst}
use Rattle.std.specs.Prelude.{Contains}
use Rattle.cedar_expr_model.specs.Name.{Name}
use Rattle.cedar_expr_model.proofs.Lists.{contains_head, contains_none}
use Rattle.cedar_expr_leaves.specs.declared.conditional_name.ConditionalName.{ConditionalName}
use Rattle.cedar_schema_model.specs.BagLaws.{HasSchemaFault}
use Rattle.cedar_schema_model.specs.Declarations.{Declarations}
use Rattle.cedar_schema_model.specs.Resolved.{schema_of}
use Rattle.cedar_schema_model.specs.WellFormed.{unresolved_external}
use Rattle.cedar_schema_model.specs.Kept.{Kept, Elsewhere, elsewhere, IsFirst}
use Rattle.cedar_schema_model.specs.KeptOf.{IsKeptOf}
use Rattle.cedar_schema_model.specs.KeptLaws.{HasElsewhere, ElsewhereIsKept, ExternalIsFault}
use Rattle.cedar_schema_fragments.specs.WrittenDeclarations.{AreWritten}
use Rattle.cedar_schema_fragments.specs.declared.namespace_def.ValidatorSchemaFragment.{ValidatorSchemaFragment}
use Rattle.cedar_schema_built.specs.BuiltOf.{IsBuiltOf}

-- a first, or none
none_first : (xs : List Elsewhere) → xs ≡ [] → (e : Elsewhere) → IsFirst xs e → ⊥
none_first xs none e f = let ys = f.0 in let is : xs ≡ e ∷ ys = f.1 in cc

-- a list of which none is the first
empty : (xs : List Elsewhere) → ((e : Elsewhere) → IsFirst xs e → ⊥) → xs ≡ []
empty [] h = refl
empty (e ∷ es) h = absurd (h e (es, refl))

has_first : (xs : List Elsewhere) (e : Elsewhere) → Contains xs e → (f : Elsewhere) × IsFirst xs f
has_first [] e h = absurd (contains_none e h)
has_first (f ∷ fs) e h = (f, (fs, refl))

first_there : (xs : List Elsewhere) (e : Elsewhere) → IsFirst xs e → Contains xs e
first_there xs e f = subst (λ l. Contains l e) (sym f.1) (contains_head e f.0)

module _ (kept : ElsewhereIsKept) (fault : ExternalIsFault) (x : List Name) (fs : List (ValidatorSchemaFragment ConditionalName ConditionalName)) (k : Kept) (b : IsBuiltOf x fs k) (d : Declarations) (w : AreWritten fs d) where
  of : IsKeptOf (schema_of d) k
  of = b.keeps d w

  to_fault : (e : Elsewhere) → IsFirst (elsewhere k) e → HasSchemaFault x d unresolved_external
  to_fault e f = (fault x d).1 (e, (kept (schema_of d) k of e).0 (first_there (elsewhere k) e f))

  from_fault : HasSchemaFault x d unresolved_external → (e : Elsewhere) × IsFirst (elsewhere k) e
  from_fault h = let e : (e : Elsewhere) × HasElsewhere (schema_of d) e = (fault x d).0 h in has_first (elsewhere k) e.0 ((kept (schema_of d) k of e.0).1 e.1)

  pub first_is_fault : ((e : Elsewhere) × IsFirst (elsewhere k) e) ↔ HasSchemaFault x d unresolved_external
  first_is_fault = (λ f. to_fault f.0 f.1, from_fault)

  pub complete_is_faultless : (elsewhere k ≡ []) ↔ (HasSchemaFault x d unresolved_external → ⊥)
  complete_is_faultless = (λ none h. let f = from_fault h in none_first (elsewhere k) none f.0 f.1, λ h. empty (elsewhere k) (λ e f. h (to_fault e f)))
