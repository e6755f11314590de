-- What is put under its own name among the entries of a map of common types, or of namespaces.
use Rattle.std.proofs.Common.{◌≡◌, ◌++◌, [], ◌∷◌, List, map, sym, ap, ◌∙◌}
use Rattle.std.proofs.lemmas.Map.Text.{is_eq-slice_cmp}
use Rattle.std.specs.BTreeMap.{insert_entry}
use Rattle.std.specs.Cmp.Lexicographic.{slice_cmp}
use Rattle.std.specs.Ordering.{is_eq, nat_cmp}
use Rattle.std.specs.declared.cmp.Ordering.{Ordering}
use Rattle.cedar_expr_model.specs.Name.{Name, name_eq}
use Rattle.cedar_expr_model.specs.UidOrder.{name_cmp}
use Rattle.cedar_expr_model.proofs.Equality.{name_eq-Decides}
use Rattle.cedar_expr_names.specs.Views.{name_of, name_bytes}
use Rattle.cedar_expr_names.specs.declared.internal_name.InternalName.{InternalName}
use Rattle.cedar_expr_names.proofs.Equality.{names_eq_is, names_cmp_is}
use Rattle.cedar_schema_built.specs.LocatedViews.{ListedCommon, ListedSpace, common_listed, space_listed}
use Rattle.cedar_schema_built.specs.declared.common_type.LocatedCommonType.{LocatedCommonType}
use Rattle.cedar_schema_built.specs.declared.namespace.LocatedNamespace.{LocatedNamespace}
use Rattle.cedar_schema_built.specs.Listed.{commons_in, spaces_in}
use Rattle.cedar_schema_built.specs.Put.{put, all_put}
use Rattle.cedar_schema_built.proofs.Putting.{all_put_more, map_more, put_in, named_put}

abbrev pub names_by : InternalName → InternalName → Ordering
names_by m n = slice_cmp nat_cmp (name_bytes m) (name_bytes n)

names_told : (m n : InternalName) → is_eq (names_by m n) ≡ name_eq (name_of m) (name_of n)
names_told m n = is_eq-slice_cmp (name_bytes m) (name_bytes n) ∙ names_eq_is m n

-- the names under which they stand, and their own
module _ {V A : Type 0} (seen : V → A) (name : A → Name) where
  abbrev pub keys : List (InternalName × V) → List Name
  keys es = map (λ e. name_of e.0) es

  abbrev pub named : List (InternalName × V) → List Name
  named es = map (λ e. name (seen e.1)) es

  abbrev pub all_seen : List V → List A
  all_seen vs = all_put name_cmp name [] (map seen vs)

  -- one more of them, under its name
  pub one_more : (es news : List (InternalName × V)) (k : InternalName) (v : V) (done : List V) → name_of k ≡ name (seen v) → keys es ≡ named es
      → map (λ e. seen e.1) es ≡ all_seen done → news ≡ insert_entry names_by es k v → map (λ e. seen e.1) news ≡ all_seen (done ++ v ∷ [])
  one_more es news k v done h n d e =
      ap (map (λ e. seen e.1)) e
      ∙ put_in name_of seen name names_by name_cmp names_cmp_is es k v h n
      ∙ ap (put name_cmp name (seen v)) d
      ∙ sym (all_put_more name_cmp name [] (map seen done) (seen v))
      ∙ ap (all_put name_cmp name []) (sym (map_more seen done v))

  pub one_named : (es news : List (InternalName × V)) (k : InternalName) (v : V) → name_of k ≡ name (seen v) → keys es ≡ named es → news ≡ insert_entry names_by es k v → keys news ≡ named news
  one_named es news k v h n e =
      ap keys e
      ∙ named_put name_of seen name names_by name_eq names_told (λ m n. (name_eq-Decides m n).0) es k v h n
      ∙ ap named (sym e)
