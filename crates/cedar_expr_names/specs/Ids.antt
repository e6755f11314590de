-- What identifiers hold.
use Rattle.std.specs.Rc.{rc_str_bytes}
use Rattle.cedar_expr_model.specs.Name.{Text}
use Rattle.cedar_expr_names.specs.declared.id.Id.{Id}

-- the text of an identifier
abbrev pub id_text : Id → Text
id_text i = rc_str_bytes i.text
