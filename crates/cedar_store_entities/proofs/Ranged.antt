-- What stands in a store is in range.
use Rattle.std.proofs.Common.{◌≡◌, ◌&&◌, Bool, true, List, [], ◌∷◌, map, refl, sym, ap, ◌∙◌}
use Rattle.std.specs.List.{list_all, zip}
use Rattle.std.specs.declared.alloc.Global.{Global}
use Rattle.std.specs.declared.rc.RcStr.{RcStr}
use Rattle.cedar_expr_names.specs.Views.{uid_of}
use Rattle.cedar_expr_names.specs.declared.entity.EntityUID.{EntityUID}
use Rattle.cedar_expr_model.specs.Name.{Text}
use Rattle.cedar_expr_model.specs.Made.{Made}
use Rattle.cedar_expr_model.specs.Value.{V}
use Rattle.cedar_expr_model.specs.ValueParts.{Part}
use Rattle.cedar_expr_model.specs.Uids.{is_uid}
use Rattle.cedar_expr_model.proofs.Lists.{hold_both}
use Rattle.cedar_expr_partial.specs.declared.partial_value.PartialValue.{PartialValue}
use Rattle.cedar_expr_values.specs.declared.extension.ExtValue.{ExtValue}
use Rattle.cedar_expr_values.proofs.Ranged.{each_is_text, each_is_uid}
use Rattle.cedar_store_model.specs.OfLaws.InRange.{is_part_in_range, are_parts_in_range, is_entity_in_range, are_entities_in_range, is_store_in_range}
use Rattle.cedar_store_entities.specs.Recorded.{uids_of_kin}
use Rattle.cedar_store_entities.specs.Views.{part_seen, part_pair, bare_part, kin_seen, entity_seen, entity_of, entity_pair}
use Rattle.cedar_store_entities.specs.Stores.{store_seen}
use Rattle.cedar_store_entities.specs.declared.entities.Entities.{Entities}
use Rattle.cedar_store_entities.specs.declared.entity.Entity.{Entity}

-- parts with their names, and without the calls that make extension values
abbrev Named : Type 0
Named = RcStr Global × PartialValue ExtValue

abbrev pub bare_parts : List (Text × Part Made) → List (Text × Part V)
bare_parts ps = map (λ p. (p.0, bare_part p.1)) ps

abbrev pub parts_in_range : List Named → Bool
parts_in_range ps = list_all (λ p. is_part_in_range (bare_part (part_seen p.1))) ps

-- their names are texts
pub named_in_range : (ps : List Named) → are_parts_in_range (bare_parts (map part_pair ps)) ≡ parts_in_range ps
named_in_range [] = refl
named_in_range (p ∷ ps) =
    ap (λ t. (t && is_part_in_range (bare_part (part_seen p.1))) && are_parts_in_range (bare_parts (map part_pair ps))) (each_is_text p.0)
    ∙ ap (λ t. is_part_in_range (bare_part (part_seen p.1)) && t) (named_in_range ps)

-- each uid is one
pub uids_are_uids : (us : List EntityUID) → list_all is_uid (map uid_of us) ≡ true
uids_are_uids [] = refl
uids_are_uids (u ∷ us) = hold_both (is_uid (uid_of u)) (list_all is_uid (map uid_of us)) (each_is_uid u) (uids_are_uids us)

zipped_are_uids : (us : List EntityUID) (bs : List Bool) → list_all is_uid (uids_of_kin (zip (map uid_of us) bs)) ≡ true
zipped_are_uids [] bs = refl
zipped_are_uids (u ∷ us) [] = refl
zipped_are_uids (u ∷ us) (b ∷ bs) = hold_both (is_uid (uid_of u)) (list_all is_uid (uids_of_kin (zip (map uid_of us) bs))) (each_is_uid u) (zipped_are_uids us bs)

pub kin_are_uids : (e : Entity) → list_all is_uid (uids_of_kin (kin_seen e)) ≡ true
kin_are_uids e = zipped_are_uids e.ancestors.uids.uids.items e.ancestors.are_parents.items

pub entity_in_range : (e : Entity) (ps qs : List (Text × Part Made)) → ps ≡ (entity_seen e).attributes → qs ≡ (entity_seen e).tags
    → are_parts_in_range (bare_parts ps) ≡ true → are_parts_in_range (bare_parts qs) ≡ true → is_entity_in_range (entity_of e) ≡ true
entity_in_range e ps qs h k a t =
    hold_both (are_parts_in_range (entity_of e).attributes) _ (ap (λ xs. are_parts_in_range (bare_parts xs)) (sym h) ∙ a)
    (hold_both (are_parts_in_range (entity_of e).tags) _ (ap (λ xs. are_parts_in_range (bare_parts xs)) (sym k) ∙ t) (kin_are_uids e))

-- entities in range, under their uids
abbrev pub all_in_range : List Entity → Bool
all_in_range es = list_all (λ e. is_entity_in_range (entity_of e)) es

pub pairs_in_range : (es : List Entity) → are_entities_in_range (map entity_pair es) ≡ all_in_range es
pairs_in_range [] = refl
pairs_in_range (e ∷ es) =
    ap (λ t. (t && is_entity_in_range (entity_of e)) && are_entities_in_range (map entity_pair es)) (each_is_uid e.uid) ∙ ap (λ t. is_entity_in_range (entity_of e) && t) (pairs_in_range es)

pub store_in_range : (s : Entities) (es : List Entity) → map entity_pair es ≡ (store_seen s).entities → all_in_range es ≡ true → is_store_in_range (store_seen s) ≡ true
store_in_range s es h all = hold_both (are_entities_in_range (store_seen s).entities) _ (ap are_entities_in_range (sym h) ∙ pairs_in_range es ∙ all) (uids_are_uids s.absent.uids.items)
