use Rattle.std.proofs.Common.{[], ◌∷◌, ◌++◌, map, ap, sym, subst, ◌∙◌}
use Rattle.std.specs.Prelude.{Contains}
use Rattle.std.specs.BTreeMap.{get}
use Rattle.std.specs.List.{list_all}
use Rattle.cedar_expr_model.proofs.Lists.{contains_head}
use Rattle.cedar_expr_names.specs.Views.{uid_of}
use Rattle.cedar_schema_model.specs.BagLaws.{HasTwice}
use Rattle.cedar_store_entities.specs.Views.{entity_pair, kin_seen}
use Rattle.cedar_schema_model.specs.Kept.{KeptAction, kept_as_entity, kept_action_entities, kept_action_ancestors}
use Rattle.cedar_schema_built.specs.Ancestors.{uids_by}
use Rattle.cedar_schema_built.specs.Entities.{recorded_entity, are_indirect}
use Rattle.cedar_schema_built.specs.Views.{schema_kept}
use Rattle.cedar_schema_built.proofs.Gathered.{keys_are, keys_once, names_once, left_below, rest_once, mapped}
use Rattle.cedar_schema_built.proofs.Going.{listed_more}
use Rattle.cedar_schema_built.proofs.Putting.{map_more}
use Rattle.cedar_schema_built.proofs.Rows.{entity_recorded, all_more}
use Rattle.cedar_schema_built.proofs.entities.as_entities.Goals as goal

pub loop-uid-init : goal.loop-uid-init
loop-uid-init c =
    let k = schema_kept c.args.schema.now in
    let rest = c.into_iter-uid-iterator.ensures.into_iter_gives ∙ c.keys-uid-items.ensures.rest in
    record {
      indirect = ap (list_all (λ e. are_indirect (kin_seen e))) c.new-entities.ensures.items;
      made = (λ i. map entity_pair (c.new-entities.ensures.items i) ++ map (λ u. (u, kept_as_entity k u)) (map uid_of (rest i)))
          ∙ ap (map (λ u. (u, kept_as_entity k u))) (keys_are c.args.schema.now.action_ids.entries c.args.schema.now.actions_named)
          ∙ mapped (λ u. (u, kept_as_entity k u)) (λ (a : KeptAction). a.uid) k.actions;
      left = λ q _. c.requires.each q;
      once = subst (λ us. HasTwice (map uid_of us) → ⊥) (sym rest) (keys_once c.args.schema.now.action_ids.entries c.keys-uid-items.ensures.ordered);
    }

pub loop-uid-preserved : goal.loop-uid-preserved
loop-uid-preserved c =
    let k = schema_kept c.args.schema.now in
    let w = uid_of c.in-Some.uid.now in
    let is = c.in-Some.ensures.steps in
    let once = names_once c.args.schema.now.action_ids.entries c.args.schema.now.actions_named c.keys-uid-items.ensures.ordered in
    let here = c.loop-uid.invariant.left c.in-Some.uid.now (subst (λ us. Contains (map uid_of us) w) (sym is) (contains_head w (map uid_of c.next.new.self))) in
    let one = c.in_ok-as_entity.ensures.entity ∙ ap (recorded_entity w) here ∙ entity_recorded k w once in
    record {
      indirect = ap (list_all (λ e. are_indirect (kin_seen e))) c.in_ok-push.ensures.items ∙ all_more (λ e. are_indirect (kin_seen e)) c.loop-uid.entities.items c.in_ok-as_entity.field-0 c.loop-uid.invariant.indirect c.in_ok-as_entity.ensures.indirect;
      made = listed_more (λ u. (u, kept_as_entity k u)) (map entity_pair c.loop-uid.entities.items) (map entity_pair c.push.new.self.items) (kept_action_entities k) (map uid_of c.loop-uid.uid-iterator) (map uid_of c.next.new.self) w
          c.loop-uid.invariant.made (ap (map uid_of) is)
          (ap (map entity_pair) c.in_ok-push.ensures.items ∙ map_more entity_pair c.loop-uid.entities.items c.in_ok-as_entity.field-0 ∙ ap (λ x. map entity_pair c.loop-uid.entities.items ++ x ∷ []) one);
      left = left_below c.loop-uid.uid-iterator c.next.new.self c.in-Some.uid.now is c.loop-uid.invariant.once (get uids_by c.loop-uid.above) (get uids_by c.as_entity.new.above) c.as_entity.ensures.others (kept_action_ancestors k) c.loop-uid.invariant.left;
      once = rest_once c.loop-uid.uid-iterator c.next.new.self c.in-Some.uid.now is c.loop-uid.invariant.once;
    }
