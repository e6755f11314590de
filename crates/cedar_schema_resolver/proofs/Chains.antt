-- Chains of one kind of step are chains of another.
use Rattle.std.proofs.Common.{List, [], ◌∷◌, sym, ap, ◌∙◌, subst}
use Rattle.std.specs.Prelude.{Contains}
use Rattle.cedar_expr_model.specs.Name.{Name}
use Rattle.cedar_expr_model.specs.Uid.{Uid}
use Rattle.cedar_expr_model.proofs.Lists.{map_has, map_from}
use Rattle.cedar_schema_model.specs.Schema.{EntityType, Action, Schema}
use Rattle.cedar_schema_model.specs.Descent.{Chain, HasParent, HasActionParent}
use Rattle.cedar_schema_resolver.specs.Descent.{HasParentIn}
use Rattle.cedar_schema_resolver.specs.HierarchyLaws.{types_with_parents, actions_with_parents, TypesDescendSo, ActionsDescendSo}

chain_as : {X : Type 0} (p q : X → X → Type 0) → ((x y : X) → p x y → q x y) → (x : X) (zs : List X) (y : X) → Chain p x zs y → Chain q x zs y
chain_as p q f x [] y c = f x y c
chain_as p q f x (z ∷ zs) y c = (f x z c.0, chain_as p q f z zs y c.1)

type_to : (s : Schema) (m n : Name) → HasParentIn (types_with_parents s) m n → HasParent s m n
type_to s m n h = let t = map_from (λ (t : EntityType). (t.name, t.parents)) s.types h.0 h.1 in (t.0, t.1, h.2 ∙ ap (λ p. p.0) (sym t.2), subst (λ (ns : List Name). Contains ns n) (ap (λ p. p.1) (sym t.2)) h.3)

type_back : (s : Schema) (m n : Name) → HasParent s m n → HasParentIn (types_with_parents s) m n
type_back s m n h = ((h.0.name, h.0.parents), map_has (λ (t : EntityType). (t.name, t.parents)) s.types h.0 h.1, h.2, h.3)

action_to : (s : Schema) (u v : Uid) → HasParentIn (actions_with_parents s) u v → HasActionParent s u v
action_to s u v h = let a = map_from (λ (a : Action). (a.uid, a.parents)) s.actions h.0 h.1 in (a.0, a.1, h.2 ∙ ap (λ p. p.0) (sym a.2), subst (λ (us : List Uid). Contains us v) (ap (λ p. p.1) (sym a.2)) h.3)

action_back : (s : Schema) (u v : Uid) → HasActionParent s u v → HasParentIn (actions_with_parents s) u v
action_back s u v h = ((h.0.uid, h.0.parents), map_has (λ (a : Action). (a.uid, a.parents)) s.actions h.0 h.1, h.2, h.3)

pub types_so : TypesDescendSo
types_so s m n = (λ h. (h.0, chain_as (HasParentIn (types_with_parents s)) (HasParent s) (type_to s) m h.0 n h.1), λ h. (h.0, chain_as (HasParent s) (HasParentIn (types_with_parents s)) (type_back s) m h.0 n h.1))

pub actions_so : ActionsDescendSo
actions_so s u v = (λ h. (h.0, chain_as (HasParentIn (actions_with_parents s)) (HasActionParent s) (action_to s) u h.0 v h.1), λ h. (h.0, chain_as (HasActionParent s) (HasParentIn (actions_with_parents s)) (action_back s) u h.0 v h.1))
