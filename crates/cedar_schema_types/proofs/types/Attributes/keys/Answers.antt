use Rattle.std.proofs.Common.{map, sym, ap, ◌∙◌}
use Rattle.std.specs.Map.{keys_of}
use Rattle.std.specs.Rc.{rc_str_bytes}
use Rattle.cedar_schema_types.specs.AttributeLists.{names_in}
use Rattle.cedar_schema_types.specs.Types.{entries_of}
use Rattle.cedar_schema_types.proofs.Entries.{attributes_are, names_listed}
use Rattle.cedar_schema_types.proofs.types.Attributes.keys.Goals as goal

pub returns : goal.returns
returns c =
    ap (map rc_str_bytes) (c.keys.ensures.rest ∙ ap (λ m. keys_of m.entries) c.deref.ensures)
    ∙ names_listed (entries_of c.args.self.now)
    ∙ ap names_in (sym (attributes_are c.args.self.now))
