-- Well-formed names, and uids of such types, stand in the order of their texts.
use Rattle.std.proofs.Common.{◌≡◌, true, refl, sym, ap, ◌∙◌}
use Rattle.std.specs.Ordering.{ordering_then}
use Rattle.std.specs.Cmp.Lexicographic.{slice_cmp}
use Rattle.std.proofs.lemmas.Cmp.{tied_itself}
use Rattle.std.specs.declared.cmp.Ordering.{Ordering}
use Rattle.std.specs.declared.cmp.Ordering.TheVariants.{Less, Equal, Greater}
use Rattle.cedar_expr_model.specs.Name.{Name, name_text, is_well_formed}
use Rattle.cedar_expr_model.specs.Uid.{Uid}
use Rattle.cedar_expr_model.specs.UidOrder.{name_cmp, uid_cmp}
use Rattle.cedar_expr_model.specs.Order.{text_cmp, name_order, uid_order}
use Rattle.cedar_expr_model.proofs.UidText.{name_text_apart}
use Rattle.cedar_expr_model.proofs.Linear.{text_exact, name_total}

by_first : (r s : Ordering) → (r ≡ Equal → s ≡ Equal) → ordering_then r s ≡ r
by_first Less s f = refl
by_first Equal s f = f refl
by_first Greater s f = refl

parts_equal : (m n : Name) → name_text m ≡ name_text n → name_order m n ≡ Equal → ordering_then (slice_cmp text_cmp m.path n.path) (text_cmp m.base n.base) ≡ Equal
parts_equal m n e h = go (text_cmp (name_text m) (name_text n)) _ h
  where
    go : (r s : Ordering) → ordering_then r s ≡ Equal → s ≡ Equal
    go Less s h = cc
    go Equal s h = h
    go Greater s h = cc

pub names_by_text : (m n : Name) → is_well_formed m ≡ true → is_well_formed n ≡ true → name_order m n ≡ name_cmp m n
names_by_text m n h k =
    by_first (text_cmp (name_text m) (name_text n)) _
    (λ e. let t = text_exact (name_text m) (name_text n) e in parts_equal m n t (ap (name_order m) (sym (name_text_apart m n h k t)) ∙ tied_itself name_total m))

pub uids_by_text : (u v : Uid) → is_well_formed u.kind ≡ true → is_well_formed v.kind ≡ true → uid_order u v ≡ uid_cmp u v
uids_by_text u v h k = ap (λ r. ordering_then r (text_cmp u.id v.id)) (names_by_text u.kind v.kind h k)
