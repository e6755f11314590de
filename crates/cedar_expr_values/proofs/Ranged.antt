-- What stands in values is in range: uids, literals that are no whole numbers, and the parts of sets and records.
use Rattle.std.proofs.Common.{◌≡◌, ◌≢◌, ◌&&◌, ℕ, ℤ, ◌+◌, ◌<◌, ◌≤◌, Bool, true, List, [], ◌∷◌, map, length, take, get_or, refl, sym, ap, ◌∙◌}
use Rattle.std.specs.List.{list_all}
use Rattle.std.specs.Rc.{rc_str_bytes}
use Rattle.std.specs.declared.alloc.Global.{Global}
use Rattle.std.specs.declared.rc.RcStr.{RcStr}
use Rattle.std.proofs.lemmas.List.{take_all}
use Rattle.std.proofs.lemmas.List.Folds.{list_all_more}
use Rattle.std.proofs.lemmas.Str.{IsUtf8-string_bytes}
use Rattle.cedar_expr_model.specs.Made as model
use Rattle.cedar_expr_model.specs.Name.{is_well_formed}
use Rattle.cedar_expr_model.specs.Uids.{is_text, is_uid}
use Rattle.cedar_expr_model.specs.Ranges.{is_literal_in_range, is_in_range, are_in_range, have_in_range}
use Rattle.cedar_expr_model.proofs.Lists.{hold_both}
use Rattle.cedar_expr_model.proofs.Ranges.{utf8_is_text}
use Rattle.cedar_expr_names.specs.Views.{eid_text, plain_name_of, uid_of}
use Rattle.cedar_expr_names.specs.declared.name.Name.{Name}
use Rattle.cedar_expr_names.specs.declared.entity.EntityUID.{EntityUID}
use Rattle.cedar_expr_names.proofs.Equality.{well_formed}
use Rattle.cedar_expr_leaves.specs.Literals.{literal_of}
use Rattle.cedar_expr_leaves.specs.declared.literal.Literal.{Literal}
use Rattle.cedar_expr_leaves.specs.declared.literal.Literal.TheVariants.{Bool as Truth, Long, String, EntityUID as Entity}
use Rattle.cedar_expr_values.specs.Extension.{Extension}
use Rattle.cedar_expr_values.specs.Values.{made, bare, made_list, made_fields, made_pair, values_of}
use Rattle.cedar_expr_values.specs.declared.value.Value.{Value}

-- each text is one, and each uid
pub each_is_text : (s : RcStr Global) → is_text (rc_str_bytes s) ≡ true
each_is_text s = utf8_is_text (rc_str_bytes s) (IsUtf8-string_bytes s.text.value)

pub each_is_named : (n : Name) → is_well_formed (plain_name_of n) ≡ true
each_is_named n = well_formed n.internal

pub each_is_uid : (u : EntityUID) → is_uid (uid_of u) ≡ true
each_is_uid u = hold_both _ (is_text (eid_text u.eid)) (each_is_named u.entity_type.0) (each_is_text u.eid.0)

-- so each literal that is no whole number
pub other_in_range : (l : Literal) → ((n : ℤ) → l ≢ Long n) → is_literal_in_range (literal_of l) ≡ true
other_in_range (Truth b) h = refl
other_in_range (Long n) h = absurd (h n refl)
other_in_range (String s) h = each_is_text s
other_in_range (Entity u) h = each_is_uid u.value

-- one more of a list by its place, and all of it
pub one_more : {A : Type 0} (p : A → Bool) (xs : List A) (i : ℕ) (x d : A) → i < length xs → x ≡ get_or xs i d → list_all p (take i xs) ≡ true → p x ≡ true → list_all p (take (i + 1) xs) ≡ true
one_more p xs i x d h at f g = list_all_more p xs i d h ∙ hold_both (list_all p (take i xs)) (p (get_or xs i d)) f (ap p (sym at) ∙ g)

pub through_all : {A : Type 0} (p : A → Bool) (xs : List A) (i : ℕ) → length xs ≤ i → list_all p (take i xs) ≡ true → list_all p xs ≡ true
through_all p xs i h f = ap (list_all p) (sym (take_all i xs h)) ∙ f

module _ {X : Type 0} (seen : X → Extension) where
  -- each of these values is in range
  abbrev pub all_in_range : List (Value X) → Bool
  all_in_range vs = list_all (λ v. is_in_range (bare seen v)) vs

  -- so are the members of a set and the fields of a record
  pub members_in_range : (vs : List (Value X)) → are_in_range (model.bares (made_list (map (made seen) vs))) ≡ all_in_range vs
  members_in_range [] = refl
  members_in_range (v ∷ vs) = ap (λ t. is_in_range (bare seen v) && t) (members_in_range vs)

  pub fields_in_range : (es : List (RcStr Global × Value X)) → have_in_range (model.bare_fields (made_fields (map (made_pair seen) es))) ≡ all_in_range (values_of es)
  fields_in_range [] = refl
  fields_in_range (e ∷ es) = ap (λ t. t && (is_in_range (bare seen e.1) && have_in_range (model.bare_fields (made_fields (map (made_pair seen) es))))) (each_is_text e.0) ∙ ap (λ t. is_in_range (bare seen e.1) && t) (fields_in_range es)
