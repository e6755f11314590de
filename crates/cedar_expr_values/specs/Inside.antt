-- What a set and a record hold inside.
-- Rule: values and equality (docs/RULES.md).
use Rattle.std.specs.Prelude.{◌≡◌, true, map}
use Rattle.std.specs.List.Sorted.{IsStrictlySortedBy}
use Rattle.std.specs.Map.{keys_of}
use Rattle.std.specs.Rc.{rc_str_bytes}
use Rattle.cedar_expr_model.specs.Canonical.{are_rising}
use Rattle.cedar_expr_model.specs.Made.{bares}
use Rattle.cedar_expr_model.specs.Order.{text_cmp}
use Rattle.cedar_expr_values.specs.Extension.{Extension}
use Rattle.cedar_expr_values.specs.Kept.{KeptSet, KeptRecord}
use Rattle.cedar_expr_values.specs.Values.{made, made_list}
use Rattle.cedar_expr_values.specs.Members.{kept_members, kept_fields}
use Rattle.cedar_expr_values.specs.declared.value.Set.TheInside.{Inside as SetInside}
use Rattle.cedar_expr_values.specs.declared.value.Record.TheInside.{Inside as RecordInside}

module _ {X : Type 0} (seen : X → Extension) where
  abbrev pub set_inside : SetInside X → KeptSet
  set_inside a = kept_members seen a.members.value.values.items

  abbrev pub record_inside : RecordInside X → KeptRecord
  record_inside a = kept_fields seen a.fields.value.entries

  -- the members rise
  abbrev pub MembersRise : SetInside X → Type 0
  MembersRise a = are_rising (bares (made_list (map (made seen) a.members.value.values.items))) ≡ true

  -- the names rise
  abbrev pub NamesRise : RecordInside X → Type 0
  NamesRise a = IsStrictlySortedBy (λ b c. text_cmp (rc_str_bytes b) (rc_str_bytes c)) (keys_of a.fields.value.entries)
