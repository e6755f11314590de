-- Which supplies are refused, by why rows aren't taken in.
use Rattle.cedar_expr_model.specs.Uid.{Uid}
use Rattle.std.specs.Prelude.{List}
use Rattle.std.specs.Map.{keys_of}
use Rattle.cedar_schema_model.specs.Schema.{Schema}
use Rattle.cedar_gate_model.specs.Session.{Supplied}
use Rattle.cedar_gate_wanted.specs.Supplying.{IsUnfit}
use Rattle.cedar_gate_wanted.specs.declared.supplied.Unfit.{Unfit}
use Rattle.cedar_gate_wanted.specs.declared.supplied.Unfit.TheVariants.{OutOfMemory, NotWanted, Lacking, Repeated}
use Rattle.cedar_gate_sessions.specs.Faults.{IsSupplyFaultBy, unfit_fault}

pub unfit_is : (z : Schema) (ws : List Uid) (qs : Supplied) (u : Unfit) → IsUnfit ws (keys_of qs) u → IsSupplyFaultBy z ws qs (unfit_fault u)
unfit_is z ws qs OutOfMemory h = tt
unfit_is z ws qs NotWanted h = h
unfit_is z ws qs Lacking h = h
unfit_is z ws qs Repeated h = h
