-- Declared actions in a conforming store.
use Rattle.std.proofs.Common.{◌≡◌, List, [], ◌∷◌, true, refl, sym, ap, subst}
use Rattle.std.specs.Prelude.{Contains, if◌then◌else◌}
use Rattle.std.specs.Option.{option_map_or}
use Rattle.cedar_expr_model.specs.Uid.{Uid}
use Rattle.cedar_expr_model.proofs.Lists.{contains_head}
use Rattle.cedar_expr_model.specs.Value.{V}
use Rattle.cedar_store_model.specs.World.{Entity, Found, held}
use Rattle.cedar_schema_model.specs.Schema.{Schema, declares_action, type_named}
use Rattle.cedar_schema_model.specs.Conforming.{among_actions, of_kind, nowhere, place_of, attributes_at, tags_at, type_at}
use Rattle.cedar_schema_model.specs.DeclLaws.{MayDescend, MustDescend, IsOf, IsGoodEntity, IsActionEntity, StoreConforms}
use Rattle.cedar_schema_model.proofs.Decls.Direct.{good_entity}

none_there : {X : Type 0} (xs : List X) → ((x : X) → Contains xs x → ⊥) → xs ≡ []
none_there [] h = refl
none_there (x ∷ xs) h = absurd (h x (contains_head x xs))

pub action_entity_is : (s : Schema) (u : Uid) (e : Entity V) → declares_action s u ≡ true → IsGoodEntity s u e → IsActionEntity s u e
action_entity_is s u e a g =
    let at : place_of s u ≡ among_actions = ap (λ b. if b then among_actions else option_map_or (λ t. of_kind t.kind) (type_named s u.kind) nowhere) a in
    record {
      attributes = none_there e.attributes (λ p h. subst (λ q. IsOf (type_at (attributes_at q) p.0) p.1) at (g.attributes p h));
      tags = none_there e.tags (λ p h. subst (λ q. IsOf (tags_at q) p.1) at (g.tags p h));
      ancestors = λ v. (λ h. subst (λ q. MayDescend s u q v) at (g.allowed v h), λ h. g.whole v (subst (λ q. MustDescend s u q v) (sym at) h));
    }

pub stores_hold : (s : Schema) (store : Uid → Found V) → StoreConforms s store → (u : Uid) → declares_action s u ≡ true → (e : Entity V) × (store u ≡ held e) × IsActionEntity s u e
stores_hold s store c u a = let h = c.actions u a in (h.0, h.1, action_entity_is s u h.0 a (good_entity s u h.0 (c.each u h.0 h.1)))
