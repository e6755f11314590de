-- The uids of a code set.
-- Rule: the store (docs/RULES.md).
use Rattle.std.specs.Prelude.{List, map}
use Rattle.cedar_expr_names.specs.Views.{uid_of}
use Rattle.cedar_expr_model.specs.Uid.{Uid}
use Rattle.cedar_store_entities.specs.declared.uid_set.UidSet.{UidSet}

-- the uids, in their order
abbrev pub uids_in : UidSet → List Uid
uids_in s = map uid_of s.uids.items
