use Rattle.std.proofs.Common.{◌≡◌, length, map}
use Rattle.std.specs.Iterator.Adapters.{zip_first, zip_second}
use Rattle.std.specs.Slice.Iter.{iter_rest}
use Rattle.std.specs.Vec.Iter.{into_iter_items, into_iter_len}
use Rattle.cedar_expr_names.specs.Views.{uid_of}
use Rattle.cedar_schema_entries.specs.Views.{action_seen}
use Rattle.cedar_schema_resolver.specs.Meanings.{setting_of}
use Rattle.cedar_schema_assembly.specs.Lists.{sets_seen}
use Rattle.cedar_schema_assembly.specs.Made.{IsActionMade}
use Rattle.cedar_schema_assembly.specs.Seen.{actions_seen}
use Rattle.cedar_schema_assembly.proofs.Making.{MadeSoFar}
use Rattle.cedar_schema_assembly.proofs.action_entries.assembled.Given as goal

abbrev pub invariant-loop-entry : goal.invariant-loop-entry
invariant-loop-entry l = record {
  made : MadeSoFar (IsActionMade (setting_of l.resolver)) (actions_seen l.declared) (actions_seen (iter_rest (zip_first l.entry-iterator))) (sets_seen uid_of l.fn.below.items) (sets_seen uid_of (into_iter_items (zip_second l.entry-iterator))) (map action_seen l.actions.items);
  full : into_iter_len (zip_second l.entry-iterator) ≡ length (into_iter_items (zip_second l.entry-iterator));
}
