-- Records of validation are equal exactly where what counts of them is the same.
use lib.Dec.{eqb}
use Rattle.std.proofs.Common.{◌≡◌, ℕ, Bool, false, Option, Some, None, refl, ap, Decides}
use Rattle.std.proofs.lemmas.Bool.Decides.{Decides-and, Decides-like, Decides-eqb}
use Rattle.std.proofs.lemmas.Slice.Eq.{bytes_eq-Decides}
use Rattle.std.specs.Option.{option_eq}
use Rattle.std.specs.Rc.{rc_str_bytes}
use Rattle.std.specs.Cmp.{booleans_Decides}
use Rattle.cedar_expr_names.specs.declared.loc.Loc.{Loc}
use Rattle.cedar_expr_names.specs.contracts.loc.LocPartialEq.TheImpl as locs
use Rattle.cedar_store_parts.proofs.Compared.{types_decide, names_decide, uids_decide}
use Rattle.cedar_store_parts.specs.Parts.{id_text}
use Rattle.cedar_store_parts.specs.Views.{Wrong, wrong_of, error_of, warning_of, kind_of, mode_seen, unknown_type, unknown_action, unknown_member, unexpected_type, no_common_type, unsafe_attribute, unsafe_tag, no_tags, unknown_function, wrong_number, empty_set, no_literal, too_deep, impossible, fits_no_action}
use Rattle.cedar_store_parts.specs.declared.diagnostics.ValidationError.{ValidationError}
use Rattle.cedar_store_parts.specs.declared.diagnostics.ValidationErrorKind.{ValidationErrorKind}
use Rattle.cedar_store_parts.specs.declared.diagnostics.ValidationErrorKind.TheVariants as code
use Rattle.cedar_store_parts.specs.declared.diagnostics.ValidationWarning.{ValidationWarning}
use Rattle.cedar_store_parts.specs.declared.diagnostics.ValidationWarning.TheVariants.{ImpossiblePolicy, InvalidActionApplication}
use Rattle.cedar_store_parts.specs.declared.request_type.RequestType.{RequestType}
use Rattle.cedar_store_parts.specs.declared.validation_mode.ValidationMode.{ValidationMode}
use Rattle.cedar_store_parts.specs.declared.validation_mode.ValidationMode.TheVariants.{Strict, Permissive}
use Rattle.cedar_store_parts.specs.contracts.diagnostics.ValidationErrorPartialEq.TheImpl as errors
use Rattle.cedar_store_parts.specs.contracts.diagnostics.ValidationErrorKindPartialEq.TheImpl as kinds
use Rattle.cedar_store_parts.specs.contracts.diagnostics.ValidationWarningPartialEq.TheImpl as warnings
use Rattle.cedar_store_parts.specs.contracts.request_type.RequestTypePartialEq.TheImpl as requests
use Rattle.cedar_store_parts.specs.contracts.validation_mode.ValidationModePartialEq.TheImpl as modes

-- places
places_decide : (l m : Loc) → Decides ((locs.ghosts).eq l m) (l ≡ m)
places_decide l m = Decides-like _ (λ p i. record { start = p.0 i; end = p.1 i }) (λ e. (ap (λ k. k.start) e, ap (λ k. k.end) e)) (Decides-and _ _ (Decides-eqb l.start m.start) (Decides-eqb l.end m.end))

-- what may be there
maybe_decides : {X : Type 0} (E : X → X → Bool) → ((a b : X) → Decides (E a b) (a ≡ b)) → (x y : Option X) → Decides (option_eq E x y) (x ≡ y)
maybe_decides E d None None = (λ _. refl, λ _. refl)
maybe_decides E d None (Some y) = (λ h. cc, λ h. cc)
maybe_decides E d (Some x) None = (λ h. cc, λ h. cc)
maybe_decides E d (Some x) (Some y) = Decides-like _ (λ e. ap Some e) (λ e. cc) (d x y)

-- a number for each form of what is wrong
abbrev form : Wrong → ℕ
form (unknown_type n) = 0
form (unknown_action u) = 1
form (unknown_member u) = 2
form unexpected_type = 3
form no_common_type = 4
form (unsafe_attribute a) = 5
form unsafe_tag = 6
form no_tags = 7
form (unknown_function n) = 8
form wrong_number = 9
form empty_set = 10
form no_literal = 11
form (too_deep k) = 12

-- what is wrong in different forms is different
apart : (a b : Wrong) (t : Bool) → t ≡ false → eqb (form a) (form b) ≡ false → Decides t (a ≡ b)
apart a b t is differ = (λ h. cc, λ e. let same = (Decides-eqb (form a) (form b)).1 (ap form e) in cc)

-- what is wrong
kinds_decide : (a b : ValidationErrorKind) → Decides ((kinds.ghosts).eq a b) (wrong_of a ≡ wrong_of b)
kinds_decide (code.UnrecognizedEntityType n) (code.UnrecognizedEntityType m) = Decides-like _ (λ e. ap unknown_type e) (λ e. cc) (types_decide n m)
kinds_decide (code.UnrecognizedActionId u) (code.UnrecognizedActionId v) = Decides-like _ (λ e. ap unknown_action e) (λ e. cc) (uids_decide u v)
kinds_decide (code.InvalidEnumEntity u) (code.InvalidEnumEntity v) = Decides-like _ (λ e. ap unknown_member e) (λ e. cc) (uids_decide u v)
kinds_decide code.UnexpectedType code.UnexpectedType = (λ _. refl, λ _. refl)
kinds_decide code.IncompatibleTypes code.IncompatibleTypes = (λ _. refl, λ _. refl)
kinds_decide (code.UnsafeAttributeAccess a) (code.UnsafeAttributeAccess b) = Decides-like _ (λ e. ap unsafe_attribute e) (λ e. cc) (bytes_eq-Decides (rc_str_bytes a) (rc_str_bytes b))
kinds_decide code.UnsafeTagAccess code.UnsafeTagAccess = (λ _. refl, λ _. refl)
kinds_decide code.NoTagsAllowed code.NoTagsAllowed = (λ _. refl, λ _. refl)
kinds_decide (code.UndefinedFunction n) (code.UndefinedFunction m) = Decides-like _ (λ e. ap unknown_function e) (λ e. cc) (names_decide n m)
kinds_decide code.WrongNumberArguments code.WrongNumberArguments = (λ _. refl, λ _. refl)
kinds_decide code.EmptySetForbidden code.EmptySetForbidden = (λ _. refl, λ _. refl)
kinds_decide code.NonLitExtConstructor code.NonLitExtConstructor = (λ _. refl, λ _. refl)
kinds_decide (code.EntityDerefLevelViolation j) (code.EntityDerefLevelViolation k) = Decides-like _ (λ e. ap too_deep e) (λ e. cc) (maybe_decides _ Decides-eqb j k)
kinds_decide a b = apart (wrong_of a) (wrong_of b) _ refl refl

pub errors_decide : (a b : ValidationError) → Decides ((errors.ghosts).eq a b) (error_of a ≡ error_of b)
errors_decide a b = Decides-like _ (λ p i. record { policy = p.0 i; place = p.1.0 i; wrong = p.1.1 i }) (λ e. (ap (λ x. x.policy) e, (ap (λ x. x.place) e, ap (λ x. x.wrong) e)))
    (Decides-and _ _ (bytes_eq-Decides (id_text a.policy_id) (id_text b.policy_id)) (Decides-and _ _ (maybe_decides (locs.ghosts).eq places_decide a.source_loc b.source_loc) (kinds_decide a.kind b.kind)))

pub warnings_decide : (a b : ValidationWarning) → Decides ((warnings.ghosts).eq a b) (warning_of a ≡ warning_of b)
warnings_decide (ImpossiblePolicy i l) (ImpossiblePolicy j m) = Decides-like _ (λ p k. impossible (p.0 k) (p.1 k)) (λ e. (cc, cc)) (Decides-and _ _ (bytes_eq-Decides (id_text i) (id_text j)) (maybe_decides (locs.ghosts).eq places_decide l m))
warnings_decide (InvalidActionApplication i l p r) (InvalidActionApplication j m q s) =
    Decides-like _ (λ h k. fits_no_action (h.0 k) (h.1.0 k) (h.1.1.0 k) (h.1.1.1 k)) (λ e. (cc, (cc, (cc, cc))))
    (Decides-and _ _ (bytes_eq-Decides (id_text i) (id_text j)) (Decides-and _ _ (maybe_decides (locs.ghosts).eq places_decide l m) (Decides-and _ _ (booleans_Decides p q) (booleans_Decides r s))))
warnings_decide a b = (λ h. cc, λ h. cc)

pub requests_decide : (a b : RequestType) → Decides ((requests.ghosts).eq a b) (kind_of a ≡ kind_of b)
requests_decide a b = Decides-like _ (λ p i. record { principal = p.0 i; action = p.1.0 i; resource = p.1.1 i }) (λ e. (ap (λ x. x.principal) e, (ap (λ x. x.action) e, ap (λ x. x.resource) e)))
    (Decides-and _ _ (types_decide a.principal b.principal) (Decides-and _ _ (uids_decide a.action b.action) (types_decide a.resource b.resource)))

pub modes_decide : (a b : ValidationMode) → Decides ((modes.ghosts).eq a b) (mode_seen a ≡ mode_seen b)
modes_decide Strict Strict = (λ _. refl, λ _. refl)
modes_decide Permissive Permissive = (λ _. refl, λ _. refl)
modes_decide a b = (λ h. cc, λ h. cc)
