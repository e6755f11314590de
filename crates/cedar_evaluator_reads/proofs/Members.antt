-- The members of a set of entities, and whether one is above a uid.
use Rattle.std.proofs.Common.{◌≡◌, Bool, true, false, ◌&&◌, ◌||◌, List, [], ◌∷◌, map, Option, Some, None, option_map, refl, sym, ap, ◌∙◌}
use Rattle.std.specs.Prelude.{is_some, option_and_then}
use Rattle.std.specs.List.{list_all, list_any}
use Rattle.std.specs.Option.{option_map_or}
use Rattle.cedar_expr_model.specs.Uid.{Uid, uid_eq}
use Rattle.cedar_expr_model.specs.Lists.{all_given}
use Rattle.cedar_expr_model.specs.Made as model
use Rattle.cedar_expr_model.specs.Made.{Made, Mades, made_set, bare_fields}
use Rattle.cedar_expr_model.specs.Value.{values_list}
use Rattle.cedar_expr_values.specs.Extension.{Extension}
use Rattle.cedar_expr_values.specs.Values.{bare, made, made_kind, mades, made_list}
use Rattle.cedar_expr_values.specs.declared.value.ValueKind.{ValueKind}
use Rattle.cedar_expr_values.specs.declared.value.ValueKind.TheVariants.{Set as SetKind}
use Rattle.cedar_expr_values.specs.declared.value.Set.{Set}
use Rattle.cedar_expr_values.specs.declared.value.Value.{Value}
use Rattle.cedar_store_model.specs.Outcome.{err, wrong_type}
use Rattle.cedar_store_model.specs.Operators.{says}
use Rattle.cedar_store_model.specs.Reads.{uid_of, uids_in, is_in_some}

module _ {X : Type 0} (seen : X → Extension) where
  -- the members of a set
  pub members_are : (vs : List (Value X)) → values_list (model.bares (made_list (map (made seen) vs))) ≡ map (bare seen) vs
  members_are [] = refl
  members_are (v ∷ vs) = ap (λ ws. bare seen v ∷ ws) (members_are vs)

  pub set_uids : (k : ValueKind X) (s : Set X) (v : Made) (vs : List (Value X)) → made_kind seen k ≡ v → k ≡ SetKind s → mades seen s ≡ made_list (map (made seen) vs) → uids_in (model.bare v) ≡ all_given uid_of (map (bare seen) vs)
  set_uids k s v vs h is m = ap (λ d. uids_in (model.bare d)) (sym h ∙ ap (made_kind seen) is ∙ ap made_set m) ∙ ap (all_given uid_of) (members_are vs)

  -- whether all of a list are entities, and whether one is among them or below them
  module _ (ancestors : List Uid) (u : Uid) where
    abbrev pub below : Uid → Bool
    below w = uid_eq u w || list_any (uid_eq w) ancestors

    abbrev pub below_value : Value X → Bool
    below_value v = option_map_or below (uid_of (bare seen v)) false

    all_uids : (vs : List (Value X)) → list_all (λ v. is_some (uid_of (bare seen v))) vs ≡ is_some (all_given uid_of (map (bare seen) vs))
    all_uids [] = refl
    all_uids (v ∷ vs) = go (uid_of (bare seen v)) (all_given uid_of (map (bare seen) vs)) (list_all (λ w. is_some (uid_of (bare seen w))) vs) (all_uids vs)
      where
        go : (o : Option Uid) (os : Option (List Uid)) (b : Bool) → b ≡ is_some os → (is_some o && b) ≡ is_some (option_and_then (λ w. option_map (λ ws. w ∷ ws) os) o)
        go None os b h = refl
        go (Some w) None b h = h
        go (Some w) (Some ws) b h = h

    any_below : (vs : List (Value X)) (us : List Uid) → all_given uid_of (map (bare seen) vs) ≡ Some us → list_any below_value vs ≡ list_any below us
    any_below [] us h = let e : [] ≡ us = cc in ap (list_any below) e
    any_below (v ∷ vs) us h = go (uid_of (bare seen v)) refl (all_given uid_of (map (bare seen) vs)) h (any_below vs)
      where
        go : (o : Option Uid) → uid_of (bare seen v) ≡ o → (os : Option (List Uid)) → option_and_then (λ w. option_map (λ ws. w ∷ ws) os) o ≡ Some us → ((ws : List Uid) → os ≡ Some ws → list_any below_value vs ≡ list_any below ws) → list_any below_value (v ∷ vs) ≡ list_any below us
        go None p os k l = absurd (cc)
        go (Some w) p None k l = absurd (cc)
        go (Some w) p (Some ws) k l = let e : w ∷ ws ≡ us = cc in (λ i. option_map_or below (p i) false || l ws refl i) ∙ ap (list_any below) e

    pub all_entities : (vs : List (Value X)) (b c : Bool) → b ≡ list_all (λ v. is_some (uid_of (bare seen v))) vs → b ≡ true → c ≡ list_any below_value vs → is_in_some ancestors u (all_given uid_of (map (bare seen) vs)) ≡ says c
    all_entities vs b c h is k = go (all_given uid_of (map (bare seen) vs)) refl (sym (all_uids vs) ∙ sym h ∙ is)
      where
        go : (o : Option (List Uid)) → all_given uid_of (map (bare seen) vs) ≡ o → is_some o ≡ true → is_in_some ancestors u o ≡ says c
        go None p q = absurd (cc)
        go (Some us) p q = ap says (sym (k ∙ any_below vs us p))

    pub not_entities : (vs : List (Value X)) (b : Bool) → b ≡ list_all (λ v. is_some (uid_of (bare seen v))) vs → b ≡ false → is_in_some ancestors u (all_given uid_of (map (bare seen) vs)) ≡ err wrong_type
    not_entities vs b h is = go (all_given uid_of (map (bare seen) vs)) (sym (all_uids vs) ∙ sym h ∙ is)
      where
        go : (o : Option (List Uid)) → is_some o ≡ false → is_in_some ancestors u o ≡ err wrong_type
        go None q = refl
        go (Some us) q = absurd (cc)
