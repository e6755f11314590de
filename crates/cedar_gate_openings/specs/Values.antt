-- Which values a name takes.
-- Rule: refusals of a session (docs/RULES.md).
use Rattle.std.specs.Prelude.{◌≡◌, ◌&&◌, not, Bool, true, false, List, Option, Some, None, IsSome, Contains, codes}
use Rattle.std.specs.Str.{bytes_eq}
use Rattle.std.proofs.Common.{◌⊎◌}
use Rattle.cedar_expr_model.specs.Name.{Text, name_eq}
use Rattle.cedar_expr_model.specs.Uid.{Uid}
use Rattle.cedar_expr_model.specs.Made.{Made, made_record, bare}
use Rattle.cedar_expr_model.specs.Parts.{Unknown}
use Rattle.cedar_expr_model.specs.Substitution.{fits_annotation}
use Rattle.cedar_expr_model.specs.Value.{V}
use Rattle.cedar_store_model.specs.Reads.{uid_of}
use Rattle.cedar_evaluator_model.specs.Response.{PartialRequest}
use Rattle.cedar_evaluator_model.specs.Scope.{Entry, unknown_uid}
use Rattle.cedar_gate_model.specs.Session.{entry_named, context_unknowns, IsOtherKind, IsNoRecord}

-- an unknown of this name whose annotation the value is against
abbrev pub is_against_one : Text → V → Unknown → Bool
is_against_one n v u = bytes_eq n u.name && not (fits_annotation u.annotation v)

abbrev pub IsAgainstOne : List Unknown → Text → Made → Type 0
IsAgainstOne us n m = (u : Unknown) × Contains us u × (u.name ≡ n) × (fits_annotation u.annotation (bare m) ≡ false)

-- the value is against an annotation of the name
abbrev pub IsAgainst : PartialRequest → Text → Made → Type 0
IsAgainst r n m = IsOtherKind (entry_named r n) m ⊎ IsAgainstOne (context_unknowns r.context) n m

-- a variable gets no entity
abbrev pub IsNoEntity : Option Entry → Made → Type 0
IsNoEntity e m = IsSome e × (uid_of (bare m) ≡ None)

-- the context gets no record
abbrev pub IsNoContext : Text → Made → Type 0
IsNoContext n m = (n ≡ codes "context") × IsNoRecord m

-- a variable gets no entity, or the context no record
abbrev pub IsOfWrongForm : PartialRequest → Text → Made → Type 0
IsOfWrongForm r n m = IsNoEntity (entry_named r n) m ⊎ IsNoContext n m

-- no fault of a value is there
abbrev pub takes : PartialRequest → Text → Made → Type 0
takes r n m = (IsAgainst r n m → ⊥) × (IsOfWrongForm r n m → ⊥)

-- a uid of another type than the unknown entry has
abbrev pub is_other_kind : Entry → Uid → Bool
is_other_kind (unknown_uid (Some k)) u = not (name_eq u.kind k)
is_other_kind e u = false

-- a record as it was made
abbrev pub is_record : Made → Bool
is_record (made_record fs) = true
is_record m = false
