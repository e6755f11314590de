-- Nothing is kept twice where what is kept stands in order.
use Rattle.cedar_schema_model.specs.Kept.{Kept}
use Rattle.cedar_schema_built.specs.InOrder.{IsInOrder}
use Rattle.cedar_schema_built.proofs.Rising.{name_total, uid_total, rises_once}
use Rattle.cedar_typechecker_model.specs.Seen.{names_kept, uids_kept, IsKeptOnce}

pub kept_once : (k : Kept) → IsInOrder k → IsKeptOnce k
kept_once k h = record { types = rises_once name_total (names_kept k) h.types; actions = rises_once uid_total (uids_kept k) h.actions }
