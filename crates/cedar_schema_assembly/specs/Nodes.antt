-- What `cmp` tells of entity types, plain names and texts: equal ones are the same.
-- Rule: descent (docs/RULES.md).
use Rattle.std.proofs.Common.{◌≡◌, ◌∙◌, sym}
use Rattle.std.proofs.lemmas.Map.Text.{is_eq-slice_cmp}
use Rattle.std.proofs.lemmas.Slice.Eq.{bytes_eq-Decides}
use Rattle.std.specs.BTreeMap.{is_at}
use Rattle.std.specs.Bool.{Decides}
use Rattle.std.specs.Rc.{rc_str_bytes}
use Rattle.std.specs.Ordering.{nat_cmp}
use Rattle.std.specs.Cmp.Lexicographic.{slice_cmp}
use Rattle.std.specs.declared.alloc.Global.{Global}
use Rattle.std.specs.declared.cmp.Ordering.{Ordering}
use Rattle.std.specs.declared.rc.RcStr.{RcStr}
use Rattle.cedar_expr_names.specs.Views.{name_bytes, plain_name_of, type_name_of}
use Rattle.cedar_expr_names.specs.declared.entity.EntityType.{EntityType}
use Rattle.cedar_expr_names.specs.declared.name.Name.{Name as CodeName}
use Rattle.cedar_schema_resolver.specs.Told.{names_told}

-- what `cmp` computes
abbrev types_cmp : EntityType → EntityType → Ordering
types_cmp m n = slice_cmp nat_cmp (name_bytes m.0.internal) (name_bytes n.0.internal)

abbrev plain_names_cmp : CodeName → CodeName → Ordering
plain_names_cmp m n = slice_cmp nat_cmp (name_bytes m.internal) (name_bytes n.internal)

abbrev pub texts_cmp : RcStr Global → RcStr Global → Ordering
texts_cmp m n = slice_cmp nat_cmp (rc_str_bytes m) (rc_str_bytes n)

pub types_told : (m n : EntityType) → Decides (is_at (types_cmp m) n) (type_name_of m ≡ type_name_of n)
types_told m n = names_told m.0.internal n.0.internal

pub plain_names_told : (m n : CodeName) → Decides (is_at (plain_names_cmp m) n) (plain_name_of m ≡ plain_name_of n)
plain_names_told m n = names_told m.internal n.internal

pub texts_told : (m n : RcStr Global) → Decides (is_at (texts_cmp m) n) (rc_str_bytes m ≡ rc_str_bytes n)
texts_told m n =
    let d = bytes_eq-Decides (rc_str_bytes m) (rc_str_bytes n) in
    let e = is_eq-slice_cmp (rc_str_bytes m) (rc_str_bytes n) in
    (λ h. d.0 (sym e ∙ h), λ q. e ∙ d.1 q)
