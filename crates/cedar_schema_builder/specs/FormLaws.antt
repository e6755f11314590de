-- What the laws say of fragments of which a schema is built, and of what is at fault in others.
-- Rule: well-formed declarations; schemas (docs/RULES.md).
use Rattle.std.specs.Prelude.{◌≡◌, List}
use Rattle.cedar_expr_model.specs.Name.{Name}
use Rattle.cedar_schema_model.specs.Kept.{KeptType, KeptAction}
use Rattle.cedar_schema_fragments.specs.Marked.{HasAll}
use Rattle.cedar_schema_builder.specs.Built.{AreBuiltOf, NamesFaultOf}
use Rattle.cedar_schema_builder.specs.OfFragments.{Fragments, sets_of, AreFormed, AreBuiltOfFormed, IsFaultInFragments}
use Rattle.cedar_schema_builder.specs.declared.err.SchemaError.{SchemaError}
use Rattle.cedar_schema_builder.specs.declared.err.SchemaError.TheVariants.{OutOfMemory}

-- What is built of such fragments is what is built of the declarations that they write, if they write any.
abbrev pub FormedAreBuilt : Type 0
FormedAreBuilt = (x : List Name) (fs : Fragments) (ts : List KeptType) (ks : List KeptAction) → AreBuiltOfFormed x fs ts ks → AreBuiltOf x fs ts ks

-- What is at fault in fragments is so in the declarations that they write, under the same name.
abbrev pub FaultsAreWritten : Type 0
FaultsAreWritten = (x : List Name) (fs : Fragments) → HasAll fs (sets_of fs) → (e : SchemaError) → IsFaultInFragments x fs e → NamesFaultOf x fs e

-- In such fragments nothing is at fault.
abbrev pub FormedAreFaultless : Type 0
FormedAreFaultless = (x : List Name) (fs : Fragments) → AreFormed x fs → (e : SchemaError) → IsFaultInFragments x fs e → e ≡ OutOfMemory
