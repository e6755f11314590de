-- A text in quotes, computed.
use Rattle.std.proofs.Common.{◌≡◌, refl, codes}
use Rattle.std.specs.Str.{chars}
use Rattle.cedar_schema_model.specs.Types.{record_type, is_closed}
use Rattle.cedar_schema_model.specs.Texts.{type_text}
use Rattle.cedar_schema_model.specs.TextsWorked.{two_attributes}

pub two_are_shown : type_text (record_type two_attributes is_closed) ≡ codes "{\"a\": Long, \"b c\"?: Set<__cedar::internal::Any>}"
unfolding chars
two_are_shown = refl
