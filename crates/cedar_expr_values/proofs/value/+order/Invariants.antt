use Rattle.std.proofs.Common.{max}
use Rattle.cedar_expr_values.specs.declared.value.Record.TheDeep.{size-Set, size-Record}
use Rattle.cedar_expr_values.proofs.value.+order.Given as goal

-- what stands in either
abbrev pub decreases-compared::RecordOrd::cmp : goal.decreases-compared::RecordOrd::cmp
decreases-compared::RecordOrd::cmp g l =
    max (size-Record g.row.X.Denot g.X.ExtensionValue g.X.Ord g.X.PartialEq g.X.PartialOrd l.self.now) (size-Record g.row.X.Denot g.X.ExtensionValue g.X.Ord g.X.PartialEq g.X.PartialOrd l.other.now)

abbrev pub decreases-compared::RecordPartialOrd::partial_cmp : goal.decreases-compared::RecordPartialOrd::partial_cmp
decreases-compared::RecordPartialOrd::partial_cmp g l =
    max (size-Record g.row.X.Denot g.X.ExtensionValue g.X.Ord g.X.PartialEq g.X.PartialOrd l.self.now) (size-Record g.row.X.Denot g.X.ExtensionValue g.X.Ord g.X.PartialEq g.X.PartialOrd l.other.now)

abbrev pub decreases-compared::SetOrd::cmp : goal.decreases-compared::SetOrd::cmp
decreases-compared::SetOrd::cmp g l =
    max (size-Set g.row.X.Denot g.X.ExtensionValue g.X.Ord g.X.PartialEq g.X.PartialOrd l.self.now) (size-Set g.row.X.Denot g.X.ExtensionValue g.X.Ord g.X.PartialEq g.X.PartialOrd l.other.now)

abbrev pub decreases-compared::SetPartialOrd::partial_cmp : goal.decreases-compared::SetPartialOrd::partial_cmp
decreases-compared::SetPartialOrd::partial_cmp g l =
    max (size-Set g.row.X.Denot g.X.ExtensionValue g.X.Ord g.X.PartialEq g.X.PartialOrd l.self.now) (size-Set g.row.X.Denot g.X.ExtensionValue g.X.Ord g.X.PartialEq g.X.PartialOrd l.other.now)
