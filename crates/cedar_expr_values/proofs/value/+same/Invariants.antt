use Rattle.std.proofs.Common.{max}
use Rattle.cedar_expr_values.specs.declared.value.Record.TheDeep.{size-Set, size-Record}
use Rattle.cedar_expr_values.proofs.value.+same.Given as goal

-- what stands in either
abbrev pub decreases-compared::RecordPartialEq::eq : goal.decreases-compared::RecordPartialEq::eq
decreases-compared::RecordPartialEq::eq g l =
    max (size-Record g.row.X.Denot g.X.ExtensionValue g.X.Ord g.X.PartialEq g.X.PartialOrd l.self.now) (size-Record g.row.X.Denot g.X.ExtensionValue g.X.Ord g.X.PartialEq g.X.PartialOrd l.other.now)

abbrev pub decreases-compared::SetPartialEq::eq : goal.decreases-compared::SetPartialEq::eq
decreases-compared::SetPartialEq::eq g l =
    max (size-Set g.row.X.Denot g.X.ExtensionValue g.X.Ord g.X.PartialEq g.X.PartialOrd l.self.now) (size-Set g.row.X.Denot g.X.ExtensionValue g.X.Ord g.X.PartialEq g.X.PartialOrd l.other.now)
