-- A search among attributes begins with all of them.
use Rattle.std.proofs.Common.{◌≡◌, List, Option, sym, ap, ◌∙◌}
use Rattle.std.specs.declared.alloc.Global.{Global}
use Rattle.std.specs.declared.rc.RcStr.{RcStr}
use Rattle.cedar_expr_model.specs.Name.{Name}
use Rattle.cedar_schema_types.specs.Types.{attributes_of, entries_of}
use Rattle.cedar_schema_types.specs.AttributeLists.{attributes_from, declared_pairs}
use Rattle.cedar_schema_types.specs.declared.types.Attributes.{Attributes}
use Rattle.cedar_schema_types.specs.declared.types.AttributeType.{AttributeType}
use Rattle.cedar_schema_types.proofs.Entries.{attributes_are}
use Rattle.cedar_schema_model.specs.Kept.{Kept}
use Rattle.cedar_schema_model.specs.Unsound.{Unsound, attributes_fault}

-- what is found in the entries that are left
abbrev left_to_search : List Name → Kept → List (RcStr Global × AttributeType) → Option Unsound
left_to_search x k es = attributes_fault x k (attributes_from (declared_pairs es))

pub attributes_start : (x : List Name) (k : Kept) (attrs : Attributes) (es : List (RcStr Global × AttributeType)) → es ≡ entries_of attrs → left_to_search x k es ≡ attributes_fault x k (attributes_of attrs)
attributes_start x k attrs es e = ap (left_to_search x k) e ∙ ap (attributes_fault x k) (sym (attributes_are attrs))
