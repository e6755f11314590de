-- Which kinds of errors are typing's.
-- Rule: typing; the acceptance rules (docs/RULES.md).
use Rattle.std.specs.Prelude.{Bool, true, false}
use Rattle.cedar_store_parts.specs.declared.diagnostics.ValidationErrorKind.{ValidationErrorKind}
use Rattle.cedar_store_parts.specs.declared.diagnostics.ValidationErrorKind.TheVariants.{UnexpectedType, IncompatibleTypes, UnsafeAttributeAccess, UnsafeTagAccess, EmptySetForbidden}

-- whether typing finds errors of the kind; the others are the scope's and the level's
abbrev pub is_typing_kind : ValidationErrorKind → Bool
is_typing_kind UnexpectedType = true
is_typing_kind IncompatibleTypes = true
is_typing_kind (UnsafeAttributeAccess a) = true
is_typing_kind UnsafeTagAccess = true
is_typing_kind EmptySetForbidden = true
is_typing_kind k = false
