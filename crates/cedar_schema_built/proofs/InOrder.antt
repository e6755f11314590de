-- What a built schema keeps stands in order, and so do its environments.
use Rattle.std.proofs.Common.{◌≡◌, ◌&&◌, Bool, true, List, [], ◌∷◌, map, sym, ap, ◌∙◌, subst}
use Rattle.std.specs.Prelude.{Contains}
use Rattle.std.specs.Cmp.{IsTotalOrder}
use Rattle.std.specs.List.{list_all}
use Rattle.std.specs.List.Sorted.{IsStrictlySortedBy}
use Rattle.std.specs.Map.{keys_of}
use Rattle.std.specs.Ordering.{ordering_then}
use Rattle.std.specs.declared.cmp.Ordering.TheVariants.{Less}
use Rattle.std.proofs.lemmas.Cmp.{on_total, then_total, tied_itself}
use Rattle.cedar_expr_model.specs.Name.{Name}
use Rattle.cedar_expr_model.specs.Uid.{Uid}
use Rattle.cedar_expr_model.specs.UidOrder.{name_cmp, uid_cmp}
use Rattle.cedar_expr_model.specs.Lists.{rises}
use Rattle.cedar_expr_model.proofs.Lists.{all_each, both_hold, map_from, flat_from}
use Rattle.cedar_expr_names.specs.Views.{type_name_of}
use Rattle.cedar_schema_types.proofs.Unions.{types_by}
use Rattle.cedar_schema_model.specs.Kept.{KeptType, KeptAction, Kept, RequestKind, kinds_with, kinds_of, kept_environments}
use Rattle.cedar_schema_entries.specs.InOrder.{type_in_order, action_in_order}
use Rattle.cedar_schema_entries.specs.Views.{entity_type_seen}
use Rattle.cedar_schema_entries.proofs.Among.{uids_by}
use Rattle.cedar_schema_entries.proofs.InOrder.{types_rise, uids_rise}
use Rattle.cedar_schema_built.specs.Entries.{types_in, actions_in}
use Rattle.cedar_schema_built.specs.InOrder.{IsInOrder, kind_cmp}
use Rattle.cedar_schema_built.specs.Views.{schema_kept}
use Rattle.cedar_schema_built.specs.declared.schema.ValidatorSchema.{ValidatorSchema}
use Rattle.cedar_schema_built.proofs.Gathered.{keys_are}
use Rattle.cedar_schema_built.proofs.Putting.{of_keys, of_names}
use Rattle.cedar_schema_built.proofs.Rising.{name_total, uid_total, rises_seen, map_rises, flat_rises}

-- the next of what is gone over passes; and once the last is reached, each does
pub all_next : {X Y : Type 0} (f : Y → Bool) (seen : X → Y) (rest later : List X) (x : X) (whole : Bool) → list_all f (map seen rest) ≡ whole → rest ≡ x ∷ later → f (seen x) ≡ true → list_all f (map seen later) ≡ whole
all_next f seen rest later x whole h is one = ap (λ b. b && list_all f (map seen later)) (sym one) ∙ ap (λ xs. list_all f (map seen xs)) (sym is) ∙ h

pub all_end : {X Y : Type 0} (f : Y → Bool) (seen : X → Y) (rest : List X) (whole : Bool) → list_all f (map seen rest) ≡ whole → rest ≡ [] → whole ≡ true
all_end f seen rest whole h is = sym h ∙ ap (λ xs. list_all f (map seen xs)) is

abbrev kind_at : Uid → Name → Name → RequestKind
kind_at u p r = record { principal = p; action = u; resource = r }

kind_total : IsTotalOrder kind_cmp
kind_total = then_total (on_total (λ (r : RequestKind). r.action) uid_total) (then_total (on_total (λ (r : RequestKind). r.principal) name_total) (on_total (λ (r : RequestKind). r.resource) name_total))

-- kinds of one action and one type of principals, of one action, and of actions one of which stands before the other
by_resource : (u : Uid) (p r s : Name) → name_cmp r s ≡ Less → kind_cmp (kind_at u p r) (kind_at u p s) ≡ Less
by_resource u p r s e =
    ap (λ o. ordering_then o (ordering_then (name_cmp p p) (name_cmp r s))) (tied_itself uid_total u)
    ∙ ap (λ o. ordering_then o (name_cmp r s)) (tied_itself name_total p)
    ∙ e

by_principal : (u : Uid) (p q r s : Name) → name_cmp p q ≡ Less → kind_cmp (kind_at u p r) (kind_at u q s) ≡ Less
by_principal u p q r s e =
    ap (λ o. ordering_then o (ordering_then (name_cmp p q) (name_cmp r s))) (tied_itself uid_total u)
    ∙ ap (λ o. ordering_then o (name_cmp r s)) e

by_action : (j k : RequestKind) → uid_cmp j.action k.action ≡ Less → kind_cmp j k ≡ Less
by_action j k e = ap (λ o. ordering_then o (ordering_then (name_cmp j.principal k.principal) (name_cmp j.resource k.resource))) e

with_rise : (u : Uid) (rs : List Name) (p : Name) → rises name_cmp rs ≡ true → rises kind_cmp (kinds_with u rs p) ≡ true
with_rise u rs p r = map_rises name_cmp kind_cmp (kind_at u p) (by_resource u p) rs r

with_keeps : (u : Uid) (rs : List Name) (p q : Name) → name_cmp p q ≡ Less → (j k : RequestKind) → Contains (kinds_with u rs p) j → Contains (kinds_with u rs q) k → kind_cmp j k ≡ Less
with_keeps u rs p q e j k c d =
    let f = map_from (kind_at u p) rs j c in
    let g = map_from (kind_at u q) rs k d in
    subst (λ x. kind_cmp x k ≡ Less) f.2 (subst (λ x. kind_cmp (kind_at u p f.0) x ≡ Less) g.2 (by_principal u p q f.0 g.0 e))

kinds_rise : (a : KeptAction) → action_in_order a ≡ true → rises kind_cmp (kinds_of a) ≡ true
kinds_rise a h =
    let p = both_hold (rises name_cmp a.applied.principals) _ h in
    let q = both_hold (rises name_cmp a.applied.resources) _ p.1 in
    flat_rises name_total kind_total (kinds_with a.uid a.applied.resources) (with_keeps a.uid a.applied.resources) a.applied.principals p.0 (λ n k. with_rise a.uid a.applied.resources n q.0)

action_is : (a : KeptAction) (j : RequestKind) → Contains (kinds_of a) j → j.action ≡ a.uid
action_is a j c =
    let f = flat_from (kinds_with a.uid a.applied.resources) a.applied.principals j c in
    let g = map_from (kind_at a.uid f.0) a.applied.resources j f.2 in
    ap (λ (k : RequestKind). k.action) (sym g.2)

kinds_keep : (a b : KeptAction) → uid_cmp a.uid b.uid ≡ Less → (j k : RequestKind) → Contains (kinds_of a) j → Contains (kinds_of b) k → kind_cmp j k ≡ Less
kinds_keep a b e j k c d = by_action j k ((λ i. uid_cmp (action_is a j c i) (action_is b k d i)) ∙ e)

pub environments_rise : (k : Kept) → IsInOrder k → rises kind_cmp (kept_environments k) ≡ true
environments_rise k h =
    flat_rises (on_total (λ (a : KeptAction). a.uid) uid_total) kind_total kinds_of kinds_keep k.actions
    (sym (rises_seen uid_cmp (λ (a : KeptAction). a.uid) k.actions) ∙ h.actions)
    (λ a c. kinds_rise a (all_each action_in_order k.actions h.each_action a c))

-- a schema whose keys rise, and of which each entity type and action stands in order
pub schema_in_order : (s : ValidatorSchema) → IsStrictlySortedBy types_by (keys_of s.entity_types.entries) → IsStrictlySortedBy uids_by (keys_of s.action_ids.entries)
    → list_all type_in_order (types_in s.entity_types.entries) ≡ true → list_all action_in_order (actions_in s.action_ids.entries) ≡ true → IsInOrder (schema_kept s)
schema_in_order s t a each_type each_action =
    let ts = s.entity_types.entries in
    let as_ = s.action_ids.entries in
    record {
      types = ap (rises name_cmp) (sym (of_keys type_name_of ts ∙ s.types_named ∙ of_names entity_type_seen (λ (t : KeptType). t.name) ts)) ∙ types_rise (keys_of ts) t;
      each_type = each_type;
      actions = ap (rises uid_cmp) (sym (keys_are as_ s.actions_named)) ∙ uids_rise (keys_of as_) a;
      each_action = each_action;
    }
