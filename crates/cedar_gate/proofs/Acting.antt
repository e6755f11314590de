-- The actions of what is kept are those that are declared.
use Rattle.std.proofs.Common.{◌≡◌, ◌∙◌, Bool, true, false, List, [], ◌∷◌, map, Contains, Option, Some, None, Result, Ok, Err, IfOk, if◌then◌else◌, refl, sym, ap, subst, inl, inr}
use Rattle.std.specs.Prelude.{is_none, unwrap_or}
use Rattle.std.specs.List.{list_any}
use Rattle.std.specs.Map.{lookup}
use Rattle.std.specs.declared.alloc.AllocError.{AllocError}
use Rattle.std.specs.declared.alloc.Global.{Global}
use Rattle.std.specs.declared.vec.Vec.{Vec}
use Rattle.cedar_expr_model.specs.Uid.{Uid, uid_eq}
use Rattle.cedar_expr_model.specs.ListLaws.{AreDistinct}
use Rattle.cedar_expr_model.specs.Value.{V}
use Rattle.cedar_expr_model.proofs.Equality.{uid_eq-Decides}
use Rattle.cedar_expr_model.proofs.Lists.{map_from, found-Decides}
use Rattle.cedar_expr_model.proofs.Repeating.{repeats_decide}
use Rattle.cedar_store_entities.specs.Views.{entity_pair}
use Rattle.cedar_store_entities.specs.declared.entity.Entity as code
use Rattle.cedar_store_model.specs.Store.{Entities, are_distinct}
use Rattle.cedar_store_model.specs.World.{Entity}
use Rattle.cedar_store_model.proofs.Stores.{found_stands, stands_found}
use Rattle.cedar_schema_model.specs.ActionEntities.{as_entity}
use Rattle.cedar_schema_model.specs.BagLaws.{HasTwice}
use Rattle.cedar_schema_model.specs.Declarations.{Declarations}
use Rattle.cedar_schema_model.specs.Resolved.{schema_of}
use Rattle.cedar_schema_model.specs.Schema.{Schema, declares_action}
use Rattle.cedar_schema_model.specs.Kept.{Kept}
use Rattle.cedar_gate_accepted.specs.Alike.{IsKeptByTests}
use Rattle.cedar_gate_model.specs.Alike.{ConformsAlike, AreActionEntities}
use Rattle.cedar_gate_model.specs.ConformingLaws.{DeclaredConformAlike}
use Rattle.cedar_gate_sessions.specs.Loaded.{HasActions, IsSame}

-- what can't be otherwise is so: of tests, of empty lists, and of what stands in a list
true_of : (b : Bool) → ((b ≡ true → ⊥) → ⊥) → b ≡ true
true_of true h = refl
true_of false h = absurd (h (λ e. cc))

false_of : (b : Bool) → ((b ≡ false → ⊥) → ⊥) → b ≡ false
false_of false h = refl
false_of true h = absurd (h (λ e. cc))

none_of : {X : Type 0} (xs : List X) → ((xs ≡ [] → ⊥) → ⊥) → xs ≡ []
none_of [] h = refl
none_of (x ∷ xs) h = absurd (h (λ e. cc))

there_of : (us : List Uid) (u : Uid) → ((Contains us u → ⊥) → ⊥) → Contains us u
there_of us u h = (found-Decides uid_eq uid_eq-Decides u us).0 (true_of (list_any (uid_eq u) us) (λ n. h (λ k. n ((found-Decides uid_eq uid_eq-Decides u us).1 k))))

-- where nothing stands twice all are distinct
distinct_of : (us : List Uid) → (HasTwice us → ⊥) → AreDistinct us
distinct_of [] h = tt
distinct_of (u ∷ us) h = ((λ k. h (inl k)), distinct_of us (λ t. h (inr t)))

module _ (s : Schema) (es : Entities) (tested : (AreActionEntities s es → ⊥) → ⊥) where
  abbrev found : Uid → Option (Entity V)
  found u = lookup (uid_eq u) es

  -- the action that is found, and the model's where there is none
  abbrev acts : Uid → Entity V
  acts u = unwrap_or (found u) (as_entity s u)

  distinct : are_distinct es ≡ true
  distinct = true_of (are_distinct es) (λ n. tested (λ w. n (ap is_none ((repeats_decide uid_eq uid_eq-Decides (map (λ d. d.0) es)).1 (distinct_of (map (λ d. d.0) es) w.once)))))

  -- what is found is declared
  declared : (u : Uid) (e : Entity V) → found u ≡ Some e → declares_action s u ≡ true
  declared u e f = true_of (declares_action s u) (λ n. tested (λ w. n (w.each (u, e) (found_stands es u e f)).0))

  -- and what isn't found is not
  undeclared : (u : Uid) → found u ≡ None → declares_action s u ≡ false
  undeclared u f = false_of (declares_action s u) (λ n. tested (λ w. n (apart (declares_action s u) (λ e. lacks w e))))
    where
      apart : (b : Bool) → (b ≡ true → ⊥) → b ≡ false
      apart true h = absurd (h refl)
      apart false h = refl

      lacks : AreActionEntities s es → declares_action s u ≡ true → ⊥
      lacks w e =
          let r = map_from (λ (d : Uid × Entity V). d.0) es u (w.all u e) in
          let at : found u ≡ Some (r.0).1 = stands_found es distinct u (r.0).1 (subst (λ v. Contains es (v, (r.0).1)) r.2 r.1) in
          let lie : None ≡ Some (r.0).1 = sym f ∙ at in
          cc

  each_case : (u : Uid) (o : Option (Entity V)) → found u ≡ o → o ≡ (if declares_action s u then Some (unwrap_or o (as_entity s u)) else None)
  each_case u (Some e) f = ap (λ b. if b then Some e else None) (sym (declared u e f))
  each_case u None f = ap (λ b. if b then Some (as_entity s u) else None) (sym (undeclared u f))

  same_case : (u : Uid) (o : Option (Entity V)) → found u ≡ o → IsSame (unwrap_or o (as_entity s u)) (as_entity s u)
  same_case u None f = record { attributes = refl; tags = refl; ancestors = λ v. ((λ k. k), (λ k. k)) }
  same_case u (Some e) f = record {
    attributes = none_of e.attributes (λ n. tested (λ w. n ((w.each (u, e) (found_stands es u e f)).1).attributes));
    tags = none_of e.tags (λ n. tested (λ w. n ((w.each (u, e) (found_stands es u e f)).1).tags));
    ancestors = λ v. (
      (λ k. there_of (as_entity s u).ancestors v (λ n. tested (λ w. n ((((w.each (u, e) (found_stands es u e f)).1).ancestors v).0 k)))),
      (λ k. there_of e.ancestors v (λ n. tested (λ w. n ((((w.each (u, e) (found_stands es u e f)).1).ancestors v).1 k)))),
    );
  }

  pub has_actions : HasActions s es
  has_actions = record {
    acts = acts;
    same = λ u d. same_case u (found u) refl;
    each = λ u. each_case u (found u) refl;
    distinct = distinct;
  }

-- the actions that are listed are those of the schema of declarations, where it isn't out of memory
pub actions_told : DeclaredConformAlike → (d : Declarations) (k : Kept) → IsKeptByTests (schema_of d) k → (q : Result (Vec code.Entity Global) AllocError)
    → ((s : Schema) → ConformsAlike s k → IfOk q (λ es. AreActionEntities s (map entity_pair es.items))) → IfOk q (λ es. HasActions (schema_of d) (map entity_pair es.items))
actions_told law d k h (Ok es) says = has_actions (schema_of d) (map entity_pair es.items) (λ n. h.tested (λ w. n (says (schema_of d) (law d k w))))
actions_told law d k h (Err x) says = tt
