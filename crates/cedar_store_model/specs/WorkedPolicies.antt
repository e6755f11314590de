-- The policies of the worked examples.
-- Rule: conditions; policies and templates; the answer (docs/RULES.md).
use Rattle.std.specs.Prelude.{[], ◌∷◌, codes, Option, Some, None}
use Rattle.cedar_expr_model.specs.Name.{Text}
use Rattle.cedar_expr_model.specs.Uid.{Uid}
use Rattle.cedar_expr_model.specs.Tree.{principal, resource, context, resource_slot, equal, plus, Tree, var, slot, choice, binary, get_attr}
use Rattle.cedar_store_model.specs.World.{World}
use Rattle.cedar_store_model.specs.Policy.{Policy, Effect, permit, forbid, any, exactly, inside, of_kind, of_kind_inside, named, own_slot, any_action, exactly_action, inside_actions, SlotBindings, no_bindings}
use Rattle.cedar_store_model.specs.PolicySet.{PolicySet, linked}
use Rattle.cedar_store_model.specs.Worked.{plain, world, user, user_a, team, doc_d, view, edit, number, ok_of, boss_of}

-- a policy for any request
abbrev pub policy : Text → Effect → Option Tree → Policy
policy id effect body = record { id = id; effect = effect; annotations = []; principal = any; action = any_action; resource = any; body = body; bindings = no_bindings }

-- permit when `9223372036854775807 + 1 == 0`
abbrev pub too_large : Policy
too_large = policy (codes "p4") permit (Some (binary equal (binary plus (number 9223372036854775807) (number 1)) (number 0)))

-- permit when `resource.owner.boss == principal`
abbrev pub owners_boss : Policy
owners_boss = policy (codes "p0") permit (Some (binary equal (boss_of (get_attr (var resource) (codes "owner"))) (var principal)))

-- `permit(principal == User::"a", action, resource)`
abbrev pub for_a : Policy
for_a = record (policy (codes "p1") permit None) { principal = exactly (named user_a) }

-- permit when `principal.ok`, and forbid so
abbrev pub if_ok : Policy
if_ok = policy (codes "p6") permit (Some (ok_of (var principal)))

abbrev pub not_if_ok : Policy
not_if_ok = policy (codes "p2") forbid (Some (ok_of (var principal)))

-- permit when `(if principal.ok then principal.boss else resource.owner.boss).ok`
abbrev pub by_boss : Policy
by_boss = policy (codes "p7") permit (Some (ok_of (choice (ok_of (var principal)) (boss_of (var principal)) (boss_of (get_attr (var resource) (codes "owner"))))))

-- permit, and forbid, when `context.bad == 2`; permit, and forbid, always
abbrev pub bad_context : Tree
bad_context = binary equal (get_attr (var context) (codes "bad")) (number 2)

abbrev pub always : Policy
always = policy (codes "1") permit None

abbrev pub if_bad : Policy
if_bad = policy (codes "2") permit (Some bad_context)

abbrev pub not_if_bad : Policy
not_if_bad = policy (codes "3") forbid (Some bad_context)

abbrev pub never : Policy
never = policy (codes "4") forbid None

-- permit when `1`
abbrev pub no_truth : Policy
no_truth = policy (codes "n") permit (Some (number 1))

-- the template `permit(principal in ?principal, action, resource)`
abbrev pub template : Policy
template = record (policy (codes "t") permit None) { principal = inside own_slot }

abbrev pub to_a : SlotBindings
to_a = record { principal = Some user_a; resource = None }

abbrev pub to_team : SlotBindings
to_team = record { principal = Some team; resource = None }

abbrev pub to_both : SlotBindings
to_both = record { principal = Some user_a; resource = Some doc_d }

abbrev pub linked_l : Policy
linked_l = linked template (codes "l") to_a

-- `permit(principal is User in ?principal, action in [Action::"view", Action::"edit"], resource is User)` when `principal == ?resource`
abbrev pub many_parts : Policy
many_parts = record {
  id = codes "m";
  effect = permit;
  annotations = (codes "note", codes "x") ∷ [];
  principal = of_kind_inside user own_slot;
  action = inside_actions (view ∷ edit ∷ []);
  resource = of_kind user;
  body = Some (binary equal (var principal) (slot resource_slot));
  bindings = no_bindings;
}

-- `forbid(principal, action == Action::"edit", resource == ?resource)`
abbrev pub no_edit : Policy
no_edit = record (policy (codes "e") forbid None) { action = exactly_action edit; resource = exactly own_slot }

-- two uids whose types have one text; the first type is no well-formed name
abbrev pub of_joined : Uid
of_joined = record { kind = plain (codes "a::b"); id = codes "x" }

abbrev pub of_parted : Uid
of_parted = record { kind = record { path = codes "a" ∷ []; base = codes "b" }; id = codes "x" }

-- `permit(principal == U, action, resource)` and `permit(principal, action in [U, V], resource)` of these two
abbrev pub for_joined : Policy
for_joined = record always { principal = exactly (named of_joined) }

abbrev pub for_actions : Policy
for_actions = record always { action = inside_actions (of_joined ∷ of_parted ∷ []) }

abbrev pub by_parted : World
by_parted = record world { principal = Some of_parted; action = Some of_parted }

abbrev pub by_joined : World
by_joined = record world { principal = Some of_joined; action = Some of_joined }

abbrev pub empty_set : PolicySet
empty_set = record { templates = []; policies = [] }

abbrev pub with_t : PolicySet
with_t = record { templates = template ∷ []; policies = [] }

abbrev pub with_l : PolicySet
with_l = record { templates = template ∷ []; policies = linked_l ∷ [] }
