-- Faults of opening and of values, by their parts.
use Rattle.std.proofs.Common.{◌≡◌, Option, Result, Ok, Err, OnOk, inl, inr, ⊎_elim, subst}
use Rattle.cedar_expr_model.specs.Name.{Text}
use Rattle.cedar_expr_model.specs.Made.{Made}
use Rattle.cedar_evaluator_model.specs.Response.{PartialRequest}
use Rattle.cedar_evaluator_model.specs.Scope.{Entry, Context}
use Rattle.cedar_gate_model.specs.Session.{context_unknowns, entry_named, quote_in_name, name_of_variable, IsOtherKind}
use Rattle.cedar_gate_openings.specs.Faults.{opens, IsOpenFault, HaveFitNames, IsNameFault, IsValueFault, IsEntryFault, IsUnknownFault, IsContextFault}
use Rattle.cedar_gate_openings.specs.Values.{IsAgainstOne, IsNoEntity, IsNoContext, takes}
use Rattle.cedar_gate_openings.specs.declared.faults.OpenFault.{OpenFault}
use Rattle.cedar_gate_openings.specs.declared.faults.OpenFault.TheVariants as opening
use Rattle.cedar_gate_openings.specs.declared.faults.BindFault.{BindFault}
use Rattle.cedar_gate_openings.specs.declared.faults.BindFault.TheVariants as binding

it_opens : (r : PartialRequest) → HaveFitNames (context_unknowns r.context) → opens r
it_opens r h quote_in_name k = h.quotes k.0 k.1 k.2
it_opens r h name_of_variable k = h.variables k.0 k.1 k.2

pub opens_where_fit : {A E : Type 0} (q : Result A E) (r : PartialRequest) (c : Context) → c ≡ r.context → OnOk q (HaveFitNames (context_unknowns c)) → OnOk q (opens r)
opens_where_fit (Ok a) r c e h = it_opens r (subst (λ k. HaveFitNames (context_unknowns k)) e h)
opens_where_fit (Err x) r c e h = tt

pub name_fault : (r : PartialRequest) (f : OpenFault) → IsNameFault (context_unknowns r.context) f → IsOpenFault r f
name_fault r opening.OutOfMemory h = tt
name_fault r opening.QuoteInName h = h
name_fault r opening.NameOfVariable h = h

module _ (r : PartialRequest) (n : Text) (m : Made) where
  it_takes : (IsOtherKind (entry_named r n) m → ⊥) → (IsNoEntity (entry_named r n) m → ⊥) → (IsAgainstOne (context_unknowns r.context) n m → ⊥) → (IsNoContext n m → ⊥) → takes r n m
  it_takes a b c d = (⊎_elim a c, ⊎_elim b d)

  pub takes_where_fit : {A E : Type 0} (q : Result A E) (o : Option Entry) (c : Context) → o ≡ entry_named r n → c ≡ r.context
      → (IsOtherKind o m → ⊥) → (IsNoEntity o m → ⊥) → (IsAgainstOne (context_unknowns c) n m → ⊥) → OnOk q (IsNoContext n m → ⊥) → OnOk q (takes r n m)
  takes_where_fit (Ok a) o c eo ec h i j k =
      it_takes (subst (λ z. IsOtherKind z m → ⊥) eo h) (subst (λ z. IsNoEntity z m → ⊥) eo i) (subst (λ z. IsAgainstOne (context_unknowns z) n m → ⊥) ec j) k
  takes_where_fit (Err x) o c eo ec h i j k = tt

  pub entry_fault : (f : BindFault) → IsEntryFault (entry_named r n) m f → IsValueFault r n m f
  entry_fault binding.OutOfMemory h = tt
  entry_fault binding.NotOpen h = h
  entry_fault binding.AgainstAnnotation h = inl h
  entry_fault binding.NoEntityOrRecord h = inl h
  entry_fault binding.ContextFails h = h

  pub unknown_fault : (f : BindFault) → IsUnknownFault (context_unknowns r.context) n m f → IsValueFault r n m f
  unknown_fault binding.OutOfMemory h = tt
  unknown_fault binding.NotOpen h = h
  unknown_fault binding.AgainstAnnotation h = inr h
  unknown_fault binding.NoEntityOrRecord h = absurd h
  unknown_fault binding.ContextFails h = h

  pub context_fault : (f : BindFault) → IsContextFault n m f → IsValueFault r n m f
  context_fault binding.OutOfMemory h = tt
  context_fault binding.NotOpen h = h
  context_fault binding.AgainstAnnotation h = absurd h
  context_fault binding.NoEntityOrRecord h = inr h
  context_fault binding.ContextFails h = h
