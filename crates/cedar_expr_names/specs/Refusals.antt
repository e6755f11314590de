-- What a refusal of a text or a name says.
use Rattle.std.specs.Prelude.{◌≡◌, true, false, Some, None}
use Rattle.cedar_expr_model.specs.Name.{Text, Name, name_read, is_word, is_identifier, reserved, is_reserved}
use Rattle.cedar_expr_model.specs.Names.{cedar_name, is_unqualified}
use Rattle.cedar_expr_names.specs.declared.err.NameError.{NameError}
use Rattle.cedar_expr_names.specs.declared.err.NameError.TheVariants.{OutOfMemory, NotNormalized, Reserved}
use Rattle.cedar_expr_names.specs.Views.{refused_name_of}

-- The fault is there where the text is read as an identifier. Out of memory says nothing.
abbrev pub RefusesIdentifier : Text → NameError → Type 0
RefusesIdentifier text OutOfMemory = Unit {0}
RefusesIdentifier text NotNormalized = is_identifier text ≡ false
RefusesIdentifier text (Reserved e) = ⊥

-- The fault is there where the text is read as an identifier or a keyword.
abbrev pub RefusesWord : Text → NameError → Type 0
RefusesWord text OutOfMemory = Unit {0}
RefusesWord text NotNormalized = is_word text ≡ false
RefusesWord text (Reserved e) = ⊥

-- The fault is there where the text is read as an identifier that is not reserved.
abbrev pub RefusesUnreservedIdentifier : Text → NameError → Type 0
RefusesUnreservedIdentifier text OutOfMemory = Unit {0}
RefusesUnreservedIdentifier text NotNormalized = is_identifier text ≡ false
RefusesUnreservedIdentifier text (Reserved e) = (text ≡ reserved) × (refused_name_of e ≡ cedar_name)

-- The fault is there where the text is read as any name.
abbrev pub RefusesText : Text → NameError → Type 0
RefusesText text OutOfMemory = Unit {0}
RefusesText text NotNormalized = name_read text ≡ None
RefusesText text (Reserved e) = ⊥

-- The fault is there where the text is read as a name that is not reserved.
abbrev pub RefusesPlainText : Text → NameError → Type 0
RefusesPlainText text OutOfMemory = Unit {0}
RefusesPlainText text NotNormalized = name_read text ≡ None
RefusesPlainText text (Reserved e) = (name_read text ≡ Some (refused_name_of e)) × (is_reserved (refused_name_of e) ≡ true)

-- The fault is there where the name may not be reserved.
abbrev pub RefusesReserved : Name → NameError → Type 0
RefusesReserved n OutOfMemory = Unit {0}
RefusesReserved n NotNormalized = ⊥
RefusesReserved n (Reserved e) = (is_reserved n ≡ true) × (refused_name_of e ≡ n)

-- The fault is there where the name may have no namespace.
abbrev pub RefusesNamespace : Name → NameError → Type 0
RefusesNamespace n OutOfMemory = Unit {0}
RefusesNamespace n NotNormalized = is_unqualified n ≡ false
RefusesNamespace n (Reserved e) = ⊥
