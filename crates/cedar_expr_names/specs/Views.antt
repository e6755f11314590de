-- What the types of this crate hold, as the model's texts, names and uids.
pub use Rattle.cedar_expr_names.specs.Parts.{id_text, name_of, name_bytes, name_loc}
use Rattle.std.specs.Prelude.{ℕ, Option}
use Rattle.std.specs.Rc.{rc_str_bytes}
use Rattle.cedar_expr_model.specs.Name as model
use Rattle.cedar_expr_model.specs.Name.{Text}
use Rattle.cedar_expr_model.specs.Uid.{Uid}
use Rattle.cedar_expr_names.specs.Parts.{id_text, name_of, name_loc}
use Rattle.cedar_expr_names.specs.declared.loc.Loc.{Loc}
use Rattle.cedar_expr_names.specs.declared.unreserved_id.UnreservedId.{UnreservedId}
use Rattle.cedar_expr_names.specs.declared.any_id.AnyId.{AnyId}
use Rattle.cedar_expr_names.specs.declared.name.Name.{Name}
use Rattle.cedar_expr_names.specs.declared.err.ReservedNameError.{ReservedNameError}
use Rattle.cedar_expr_names.specs.declared.quoted.Quoted.{Quoted}
use Rattle.cedar_expr_names.specs.declared.quoted.Escaped.{Escaped}
use Rattle.cedar_expr_names.specs.declared.entity.EntityType.{EntityType}
use Rattle.cedar_expr_names.specs.declared.entity.Eid.{Eid}
use Rattle.cedar_expr_names.specs.declared.entity.EntityUID.{EntityUID}

-- where a place begins and ends
abbrev pub loc_start : Loc → ℕ
loc_start l = l.start

abbrev pub loc_end : Loc → ℕ
loc_end l = l.end

-- the texts of the other kinds of identifiers
abbrev pub unreserved_id_text : UnreservedId → Text
unreserved_id_text u = id_text u.id

abbrev pub any_id_text : AnyId → Text
any_id_text i = rc_str_bytes i.text

-- the name that is not reserved
abbrev pub plain_name_of : Name → model.Name
plain_name_of n = name_of n.internal

-- the places of these
abbrev pub plain_name_loc : Name → Option Loc
plain_name_loc n = name_loc n.internal

abbrev pub type_loc : EntityType → Option Loc
type_loc t = plain_name_loc t.0

-- the name of an entity type
abbrev pub type_name_of : EntityType → model.Name
type_name_of t = plain_name_of t.0

-- the text of an entity's id
abbrev pub eid_text : Eid → Text
eid_text e = rc_str_bytes e.0

-- the uid that a code uid holds
abbrev pub uid_of : EntityUID → Uid
uid_of u = record { kind = type_name_of u.entity_type; id = eid_text u.eid }

-- the place of a code uid
abbrev pub uid_loc : EntityUID → Option Loc
uid_loc u = u.loc

-- the name that was refused as reserved
abbrev pub refused_name_of : ReservedNameError → model.Name
refused_name_of e = name_of e.name

-- the text that is shown in quotes
abbrev pub quoted_text : Quoted → Text
quoted_text q = q.0.now

-- the character that is shown as in quotes
abbrev pub escaped_char : Escaped → ℕ
escaped_char e = e.0
