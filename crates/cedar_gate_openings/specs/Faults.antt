-- Refusals of opening and of binding.
-- Rule: refusals of a session (docs/RULES.md).
use Rattle.std.specs.Prelude.{ℕ, List, Option, Contains}
use Rattle.cedar_expr_model.specs.Name.{Text}
use Rattle.cedar_expr_model.specs.Made.{Made}
use Rattle.cedar_expr_model.specs.Parts.{Unknown}
use Rattle.cedar_evaluator_model.specs.Response.{PartialRequest}
use Rattle.cedar_evaluator_model.specs.Scope.{Entry}
use Rattle.cedar_gate_model.specs.Session as session
use Rattle.cedar_gate_openings.specs.Values.{IsAgainst, IsAgainstOne, IsNoEntity, IsNoContext, IsOfWrongForm}
use Rattle.cedar_gate_openings.specs.declared.faults.OpenFault.{OpenFault}
use Rattle.cedar_gate_openings.specs.declared.faults.OpenFault.TheVariants as opening
use Rattle.cedar_gate_openings.specs.declared.faults.BindFault.{BindFault}
use Rattle.cedar_gate_openings.specs.declared.faults.BindFault.TheVariants as binding

abbrev pub open_fault_number : OpenFault → ℕ
open_fault_number opening.OutOfMemory = 0
open_fault_number opening.QuoteInName = 1
open_fault_number opening.NameOfVariable = 2

abbrev pub bind_fault_number : BindFault → ℕ
bind_fault_number binding.OutOfMemory = 0
bind_fault_number binding.NotOpen = 1
bind_fault_number binding.AgainstAnnotation = 2
bind_fault_number binding.NoEntityOrRecord = 3
bind_fault_number binding.ContextFails = 4

-- no fault of opening is there
abbrev pub opens : PartialRequest → Type 0
opens r = (f : session.OpenRefusal) → session.OpenFault r f → ⊥

-- The fault of opening is there. Out of memory says nothing.
abbrev pub IsOpenFault : PartialRequest → OpenFault → Type 0
IsOpenFault r opening.OutOfMemory = Unit {0}
IsOpenFault r opening.QuoteInName = session.OpenFault r session.quote_in_name
IsOpenFault r opening.NameOfVariable = session.OpenFault r session.name_of_variable

-- That no unknown of a context has a quote in its name, or the name of a variable; and that this fault of opening is there among its
-- unknowns.
pub record HaveFitNames (us : List Unknown) : Type 0 where
  pub quotes : (u : Unknown) → Contains us u → Contains u.name 34 → ⊥
  pub variables : (u : Unknown) → Contains us u → Contains session.variable_names u.name → ⊥

abbrev pub IsNameFault : List Unknown → OpenFault → Type 0
IsNameFault us opening.OutOfMemory = Unit {0}
IsNameFault us opening.QuoteInName = (u : Unknown) × Contains us u × Contains u.name 34
IsNameFault us opening.NameOfVariable = (u : Unknown) × Contains us u × Contains session.variable_names u.name

-- The fault of a value is there. Out of memory says nothing.
abbrev pub IsValueFault : PartialRequest → Text → Made → BindFault → Type 0
IsValueFault r n m binding.OutOfMemory = Unit {0}
IsValueFault r n m binding.NotOpen = ⊥
IsValueFault r n m binding.AgainstAnnotation = IsAgainst r n m
IsValueFault r n m binding.NoEntityOrRecord = IsOfWrongForm r n m
IsValueFault r n m binding.ContextFails = ⊥

-- The fault of a value is there for the entry of a variable, and for the unknowns of a context. Out of memory says nothing.
abbrev pub IsEntryFault : Option Entry → Made → BindFault → Type 0
IsEntryFault e m binding.OutOfMemory = Unit {0}
IsEntryFault e m binding.NotOpen = ⊥
IsEntryFault e m binding.AgainstAnnotation = session.IsOtherKind e m
IsEntryFault e m binding.NoEntityOrRecord = IsNoEntity e m
IsEntryFault e m binding.ContextFails = ⊥

abbrev pub IsUnknownFault : List Unknown → Text → Made → BindFault → Type 0
IsUnknownFault us n m binding.OutOfMemory = Unit {0}
IsUnknownFault us n m binding.NotOpen = ⊥
IsUnknownFault us n m binding.AgainstAnnotation = IsAgainstOne us n m
IsUnknownFault us n m binding.NoEntityOrRecord = ⊥
IsUnknownFault us n m binding.ContextFails = ⊥

abbrev pub IsContextFault : Text → Made → BindFault → Type 0
IsContextFault n m binding.OutOfMemory = Unit {0}
IsContextFault n m binding.NotOpen = ⊥
IsContextFault n m binding.AgainstAnnotation = ⊥
IsContextFault n m binding.NoEntityOrRecord = IsNoContext n m
IsContextFault n m binding.ContextFails = ⊥
