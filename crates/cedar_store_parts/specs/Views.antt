-- What counts of the records of validation: ids, places, names, uids, texts and numbers. The places of names and uids don't.
use Rattle.std.specs.Prelude.{ℕ, Bool, Option, List, [], ◌∷◌}
use Rattle.std.specs.Rc.{rc_str_bytes}
use Rattle.cedar_expr_model.specs.Name.{Text, Name}
use Rattle.cedar_expr_model.specs.Uid.{Uid}
use Rattle.cedar_expr_names.specs.Views.{plain_name_of, type_name_of, type_loc, uid_of, uid_loc}
use Rattle.cedar_expr_names.specs.declared.loc.Loc.{Loc}
use Rattle.cedar_store_parts.specs.Parts.{id_text}
use Rattle.cedar_store_parts.specs.declared.diagnostics.ValidationError.{ValidationError}
use Rattle.cedar_store_parts.specs.declared.diagnostics.ValidationErrorKind.{ValidationErrorKind}
use Rattle.cedar_store_parts.specs.declared.diagnostics.ValidationErrorKind.TheVariants as code
use Rattle.cedar_store_parts.specs.declared.diagnostics.ValidationWarning.{ValidationWarning}
use Rattle.cedar_store_parts.specs.declared.diagnostics.ValidationWarning.TheVariants.{ImpossiblePolicy, InvalidActionApplication}
use Rattle.cedar_store_parts.specs.declared.request_type.RequestType.{RequestType}
use Rattle.cedar_store_parts.specs.declared.validation_mode.ValidationMode.{ValidationMode}
use Rattle.cedar_store_parts.specs.declared.validation_mode.ValidationMode.TheVariants.{Strict, Permissive}

-- what is wrong with a policy
pub data Wrong : Type 0 where
  unknown_type : Name → Wrong
  unknown_action : Uid → Wrong
  unknown_member : Uid → Wrong
  unexpected_type : Wrong
  no_common_type : Wrong
  unsafe_attribute : Text → Wrong
  unsafe_tag : Wrong
  no_tags : Wrong
  unknown_function : Name → Wrong
  wrong_number : Wrong
  empty_set : Wrong
  no_literal : Wrong
  too_deep : Option ℕ → Wrong

abbrev pub wrong_of : ValidationErrorKind → Wrong
wrong_of (code.UnrecognizedEntityType n) = unknown_type (type_name_of n)
wrong_of (code.UnrecognizedActionId u) = unknown_action (uid_of u)
wrong_of (code.InvalidEnumEntity u) = unknown_member (uid_of u)
wrong_of code.UnexpectedType = unexpected_type
wrong_of code.IncompatibleTypes = no_common_type
wrong_of (code.UnsafeAttributeAccess a) = unsafe_attribute (rc_str_bytes a)
wrong_of code.UnsafeTagAccess = unsafe_tag
wrong_of code.NoTagsAllowed = no_tags
wrong_of (code.UndefinedFunction n) = unknown_function (plain_name_of n)
wrong_of code.WrongNumberArguments = wrong_number
wrong_of code.EmptySetForbidden = empty_set
wrong_of code.NonLitExtConstructor = no_literal
wrong_of (code.EntityDerefLevelViolation level) = too_deep level

-- an error: the policy's id, the place, and what is wrong there
pub record ErrorSeen : Type 0 where
  pub policy : Text
  pub place : Option Loc
  pub wrong : Wrong

abbrev pub error_of : ValidationError → ErrorSeen
error_of e = record { policy = id_text e.policy_id; place = e.source_loc; wrong = wrong_of e.kind }

-- a warning: the policy's id and place, and, where its scope fits no action, whether `in` would mend principal and resource
pub data WarningSeen : Type 0 where
  impossible : Text → Option Loc → WarningSeen
  fits_no_action : Text → Option Loc → Bool → Bool → WarningSeen

abbrev pub warning_of : ValidationWarning → WarningSeen
warning_of (ImpossiblePolicy i l) = impossible (id_text i) l
warning_of (InvalidActionApplication i l p r) = fits_no_action (id_text i) l p r

-- a type of requests: the principal's type, the action, and the resource's type
pub record KindSeen : Type 0 where
  pub principal : Name
  pub action : Uid
  pub resource : Name

abbrev pub kind_of : RequestType → KindSeen
kind_of r = record { principal = type_name_of r.principal; action = uid_of r.action; resource = type_name_of r.resource }

-- the places of these three
abbrev pub kind_places : RequestType → List (Option Loc)
kind_places r = type_loc r.principal ∷ uid_loc r.action ∷ type_loc r.resource ∷ []

-- whether types that differ may be joined
pub data ModeSeen : Type 0 where
  strict permissive : ModeSeen

abbrev pub mode_seen : ValidationMode → ModeSeen
mode_seen Strict = strict
mode_seen Permissive = permissive
