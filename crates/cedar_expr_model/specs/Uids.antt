-- What is a uid.
-- Rule: the uid text and its escape (docs/RULES.md).
use Rattle.std.specs.Prelude.{◌&&◌, ◌||◌, Bool}
use Rattle.std.specs.Char.{is_ascii}
use Rattle.std.specs.List.{list_all}
use Rattle.std.specs.Str.{is_utf8}
use Rattle.cedar_expr_model.specs.Name.{Text, is_well_formed}
use Rattle.cedar_expr_model.specs.Uid.{Uid}

-- the bytes are the UTF-8 of a text, ASCII or any other
abbrev pub is_text : Text → Bool
is_text t = list_all is_ascii t || is_utf8 t

-- a uid of a type and an id: the type's name is a name, and the id is a text
abbrev pub is_uid : Uid → Bool
is_uid u = is_well_formed u.kind && is_text u.id
