use Rattle.std.proofs.Common.{◌≡◌, ◌++◌, List, map}
use Rattle.std.specs.Slice.Iter.{iter_rest}
use Rattle.cedar_schema_assembly.specs.Lists.{IsSetOf}
use Rattle.cedar_schema_assembly.proofs.sets.set_of.Given as goal

abbrev pub invariant-loop-part : goal.invariant-loop-part
invariant-loop-part g l = record {
  from_back : (put : List g.row.P.Denot) × (iter_rest l.part-iterator.iter ++ put ≡ l.parts) × IsSetOf (map g.P.Part.seen put) (map g.P.Part.seen l.set.keys);
}
