-- The table that is made is one that entities are looked up in.
use Rattle.std.proofs.Common.{Ok, Err, Result, refl, subst}
use Rattle.sqlite.specs.Compile.{table_defined_by}
use Rattle.sqlite.specs.Listing.{understood}
use Rattle.sqlite.specs.Table.{Table}
use Rattle.sqlite.specs.Tree.{Trees}
use Rattle.sqlite_resolve.specs.declared.error.CompileError.{CompileError}
use Rattle.sqlite_tied.specs.Compute.{everything}
use Rattle.cedar_database_host.specs.Laws.{make_text, alone, LooksUpWhatIsMade}
use Rattle.cedar_database_host.specs.Lookup.{IsLookup}

abbrev IsLookupWith : Trees → Result Table CompileError → Type 0
IsLookupWith trees (Ok t) = IsLookup (alone trees t)
IsLookupWith trees (Err e) = ⊥

made_is_looked_up : (trees : Trees) → IsLookupWith trees (table_defined_by make_text)
unfolding understood everything
made_is_looked_up trees = record { query = record { no_table = refl; ungrouped = refl; all = refl; unlimited = refl; from_first = refl }; table = refl }

pub looks_up_what_is_made : LooksUpWhatIsMade
looks_up_what_is_made trees t is = subst (IsLookupWith trees) is (made_is_looked_up trees)
