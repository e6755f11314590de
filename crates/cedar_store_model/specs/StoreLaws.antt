-- What the laws of stores, and of scopes that match a request, say.
-- Rule: the store; what is known; conditions (docs/RULES.md).
use Rattle.std.specs.Prelude.{◌≡◌, ◌↔◌, List, Contains, true, Option, Some, IsSome}
use Rattle.std.specs.List.{list_all}
use Rattle.std.specs.Map.{lookup}
use Rattle.std.proofs.Common.{◌⊎◌}
use Rattle.cedar_expr_model.specs.Name.{Text}
use Rattle.cedar_expr_model.specs.Uid.{Uid, uid_eq}
use Rattle.cedar_expr_model.specs.Value.{V}
use Rattle.cedar_expr_model.specs.Table.{Table}
use Rattle.cedar_store_model.specs.World.{World, Request, Entity, held}
use Rattle.cedar_store_model.specs.Knowledge.{holds_values, IsWhole}
use Rattle.cedar_store_model.specs.OfLaws.Extends.{Keeps, Extends}
use Rattle.cedar_store_model.specs.Store.{Entities, all_of, some_of, are_distinct, OpenRequest, as_open, world_of}
use Rattle.cedar_store_model.specs.Policy.{Policy, Target, named, own_slot, Scope, any, exactly, inside, of_kind, of_kind_inside, ActionScope, any_action, exactly_action, inside_actions, body_tree}
use Rattle.cedar_store_model.specs.Answer.{with_slots, IsSatisfied}
use Rattle.cedar_store_model.specs.AnswerLaws.{Holds}

-- what the first request has is the same in the second
pub record KeepsRequest (q r : OpenRequest) : Type 0 where
  pub principal : Keeps q.principal r.principal
  pub action : Keeps q.action r.action
  pub resource : Keeps q.resource r.resource
  pub context : Keeps q.context r.context

-- each of the entities stands among those
abbrev pub ArePartOf : Entities → Entities → Type 0
ArePartOf es ds = (e : Uid × Entity V) → Contains es e → Contains ds e

-- none of the uids stands among those
abbrev pub NoneStands : List Uid → Entities → Type 0
NoneStands us ds = (u : Uid) (e : Entity V) → Contains us u → Contains ds (u, e) → ⊥

-- the look-up finds exactly the entity that stands under the uid
abbrev pub LookupIsExact : Type 0
LookupIsExact = (es : Entities) → are_distinct es ≡ true → (u : Uid) (e : Entity V) → (lookup (uid_eq u) es ≡ Some e → Contains es (u, e)) × (Contains es (u, e) → lookup (uid_eq u) es ≡ Some e)

-- what is known of a request and of a store is extended by the whole store, which lacks each recorded absence
abbrev pub WholeExtendsPartial : Type 0
WholeExtendsPartial = (table : Table) (some_unknowns unknowns : Text → Option V) (q r : OpenRequest) (loaded all : Entities) (absent : List Uid)
    → ((n : Text) → Keeps (some_unknowns n) (unknowns n)) → KeepsRequest q r → ArePartOf loaded all → NoneStands absent all → are_distinct all ≡ true
    → Extends (world_of table some_unknowns q (some_of loaded absent)) (world_of table unknowns r (all_of all))

-- the world of a request over a whole store of values, with each unknown bound, is whole
abbrev pub WholeStoresAreWhole : Type 0
WholeStoresAreWhole = (table : Table) (unknowns : Text → Option V) (r : Request) (es : Entities)
    → ((n : Text) → IsSome (unknowns n)) → list_all (λ e. holds_values e.1) es ≡ true
    → IsWhole (world_of table unknowns (as_open r) (all_of es))

-- one uid is the other, or has it as a recorded ancestor
abbrev pub IsIn : World → Uid → Uid → Type 0
IsIn w u v = (u ≡ v) ⊎ ((e : Entity V) × (w.store u ≡ held e) × Contains e.ancestors v)

-- the uid of a target, where the slot is bound so
abbrev pub target_uid : Option Uid → Target → Option Uid
target_uid bound (named u) = Some u
target_uid bound own_slot = bound

-- the uid is in the target's
abbrev pub IsInTarget : World → Option Uid → Uid → Type 0
IsInTarget w target u = (v : Uid) × (target ≡ Some v) × IsIn w u v

-- The part of a scope, whose slot is bound so, matches the uid.
abbrev pub Matches : World → Option Uid → Scope → Uid → Type 0
Matches w bound any u = Unit {0}
Matches w bound (exactly t) u = target_uid bound t ≡ Some u
Matches w bound (inside t) u = IsInTarget w (target_uid bound t) u
Matches w bound (of_kind n) u = u.kind ≡ n
Matches w bound (of_kind_inside n t) u = (u.kind ≡ n) × IsInTarget w (target_uid bound t) u

-- The action part matches the uid.
abbrev pub MatchesAction : World → ActionScope → Uid → Type 0
MatchesAction w any_action u = Unit {0}
MatchesAction w (exactly_action v) u = u ≡ v
MatchesAction w (inside_actions vs) u = (v : Uid) × Contains vs v × IsIn w u v

-- the three uids of the request
pub record AsksFor (w : World) (a b c : Uid) : Type 0 where
  pub principal : w.principal ≡ Some a
  pub action : w.action ≡ Some b
  pub resource : w.resource ≡ Some c

-- where everything is known a policy is satisfied exactly where each part of its scope matches and its body means true
abbrev pub SatisfiedByMatching : Type 0
SatisfiedByMatching = (w : World) (p : Policy) (a b c : Uid) → IsWhole w → AsksFor w a b c
    → IsSatisfied w p ↔ (Matches w p.bindings.principal p.principal a × MatchesAction w p.action b × Matches w p.bindings.resource p.resource c × Holds (with_slots w p.bindings) (body_tree p.body))
