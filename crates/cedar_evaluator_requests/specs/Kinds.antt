-- What type a request is of.
-- Rule: partial evaluation (docs/RULES.md).
use Rattle.std.specs.Prelude.{Option, Some, None}
use Rattle.cedar_expr_model.specs.Uid.{Uid}
use Rattle.cedar_store_parts.specs.Views.{KindSeen}
use Rattle.cedar_evaluator_model.specs.Response.{PartialRequest}
use Rattle.cedar_evaluator_requests.specs.Views.{entry_uid}

-- that of these uids, if all three are known
abbrev pub kind_known : Option Uid → Option Uid → Option Uid → Option KindSeen
kind_known (Some p) (Some a) (Some r) = Some (record { principal = p.kind; action = a; resource = r.kind })
kind_known (Some p) (Some a) None = None
kind_known (Some p) None r = None
kind_known None a r = None

abbrev pub kind_asked : PartialRequest → Option KindSeen
kind_asked q = kind_known (entry_uid q.principal) (entry_uid q.action) (entry_uid q.resource)
