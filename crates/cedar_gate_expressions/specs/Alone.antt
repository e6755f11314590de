-- What stands alone in an object.
use Rattle.std.specs.Prelude.{Option, Some, None}
use Rattle.serde_json.specs.Data.{Data, Members, no_members, member}
use Rattle.cedar_expr_model.specs.Name.{Text}

-- the one member of an object, where it has one alone
abbrev pub lone : Members → Option (Text × Data)
lone (member k d no_members) = Some (k, d)
lone ms = None
