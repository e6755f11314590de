-- What is kept of a schema twice is the same.
use Rattle.std.proofs.Common.{◌≡◌, ◌↔◌, List, refl, sym, ◌∙◌, subst}
use Rattle.std.specs.Prelude.{Contains}
use Rattle.cedar_expr_model.specs.Name.{Text, Name}
use Rattle.cedar_schema_model.specs.BagLaws.{IsReordered}
use Rattle.cedar_schema_model.specs.Declarations.{Declarations}
use Rattle.cedar_schema_model.specs.Descent.{type_names, action_uids, Descends, ActionDescends}
use Rattle.cedar_schema_model.specs.Resolved.{schema_of}
use Rattle.cedar_schema_model.specs.Schema.{EntityKind, standard, enumerated, external, Schema}
use Rattle.cedar_schema_model.specs.WellFormed.{IsWellFormed}
use Rattle.cedar_schema_model.specs.Kept.{KeptType, KeptAction, Kept}
use Rattle.cedar_schema_model.specs.KeptOf.{IsSameKind, IsKeptOf}
use Rattle.cedar_schema_builder.specs.Alike.{AreSameTypes, AreSameActions, IsWithin, AreAlike}
use Rattle.cedar_schema_builder.proofs.Keeping.{order_is_free}

-- over what is the same of both
across : {A B C : Type 0} → A ↔ B → C ↔ B → A ↔ C
across f g = (λ a. g.1 (f.0 a), λ c. f.1 (g.0 c))

-- two lists that are the members of one kind
members_same : (ids js : List Text) → enumerated ids ≡ enumerated js → ids ≡ js
members_same ids js e = cc

kinds_same : (a b c : EntityKind) → IsSameKind a c → IsSameKind b c → IsSameKind a b
kinds_same (standard as_ t) (standard bs u) c h k = sym k ∙ h
kinds_same (standard as_ t) (enumerated ids) c h k = absurd (let p = k.1 in cc)
kinds_same (standard as_ t) external c h k = absurd (cc)
kinds_same (enumerated ids) (standard bs u) c h k = absurd (let p = h.1 in cc)
kinds_same (enumerated ids) (enumerated js) c h k =
    let e : h.0 ≡ k.0 = members_same h.0 k.0 (sym h.1 ∙ k.1) in
    (js, refl, λ id. across (h.2 id) (subst (λ l. Contains js id ↔ Contains l id) (sym e) (k.2 id)))
kinds_same (enumerated ids) external c h k = absurd (let p = h.1 in cc)
kinds_same external (standard bs u) c h k = absurd (cc)
kinds_same external (enumerated ids) c h k = absurd (let p = k.1 in cc)
kinds_same external external c h k = refl

module _ (s : Schema) (k l : Kept) (h : IsKeptOf s k) (g : IsKeptOf s l) where
  type_within : (t : KeptType) → Contains k.types t → (u : KeptType) × Contains l.types u × AreSameTypes t u
  type_within t i =
      let e = h.types t i in
      let u = g.all_types e.0 e.1 in
      let name : t.name ≡ u.0.name = e.2.name ∙ sym u.2.name in (
        u.0,
        u.1,
        record {
          name = name;
          kind = kinds_same t.kind u.0.kind e.0.kind e.2.kind u.2.kind;
          below = λ n. across (h.types_below t i n) (subst (λ m. Contains u.0.descendants n ↔ (Contains (type_names s) n × Descends s n m)) (sym name) (g.types_below u.0 u.1 n));
        },
      )

  action_within : (a : KeptAction) → Contains k.actions a → (b : KeptAction) × Contains l.actions b × AreSameActions a b
  action_within a i =
      let e = h.actions a i in
      let b = g.all_actions e.0 e.1 in
      let uid : a.uid ≡ b.0.uid = e.2.uid ∙ sym b.2.uid in (
        b.0,
        b.1,
        record {
          uid = uid;
          principals = λ n. across (e.2.principals n) (b.2.principals n);
          resources = λ n. across (e.2.resources n) (b.2.resources n);
          context = e.2.context ∙ sym b.2.context;
          is_external = e.2.is_external ∙ sym b.2.is_external;
          below = λ u. across (h.actions_below a i u) (subst (λ v. Contains b.0.descendants u ↔ (Contains (action_uids s) u × ActionDescends s u v)) (sym uid) (g.actions_below b.0 b.1 u));
        },
      )

  within : IsWithin k l
  within = record { types = type_within; actions = action_within }

pub built_alike : (x : List Name) (d e : Declarations) → IsReordered d e → IsWellFormed x d → (k l : Kept) → IsKeptOf (schema_of d) k → IsKeptOf (schema_of e) l → AreAlike k l
built_alike x d e m w k l h g = let j = order_is_free x d e m w k h in (within (schema_of e) k l j g, within (schema_of e) l k g j)
