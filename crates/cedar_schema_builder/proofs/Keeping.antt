-- What is kept of a schema is kept of it in another order.
use Rattle.std.proofs.Common.{List, subst}
use Rattle.std.specs.Prelude.{Contains}
use Rattle.std.specs.List.Sorted.{IsPermutation}
use Rattle.std.proofs.lemmas.List.Sorted.{IsPermutation-sym, IsPermutation-map, Contains-permutation}
use Rattle.cedar_expr_model.specs.Name.{Name, name_eq}
use Rattle.cedar_expr_model.specs.Uid.{Uid, uid_eq}
use Rattle.cedar_expr_model.proofs.Equality.{name_eq-Decides, uid_eq-Decides}
use Rattle.cedar_schema_model.specs.BagLaws.{IsReordered}
use Rattle.cedar_schema_model.specs.Declarations.{Declarations}
use Rattle.cedar_schema_model.specs.Descent.{type_names, action_uids, HasParent, Descends, HasActionParent, ActionDescends}
use Rattle.cedar_schema_model.specs.Resolved.{schema_of}
use Rattle.cedar_schema_model.specs.Schema.{EntityType, Action, Schema}
use Rattle.cedar_schema_model.specs.WellFormed.{IsWellFormed}
use Rattle.cedar_schema_model.proofs.Decls.Reordered.{reaches_along, twice_moved}
use Rattle.cedar_schema_model.proofs.Decls.SameSchema.{types_moved, actions_moved}
use Rattle.cedar_schema_model.specs.Kept.{Kept}
use Rattle.cedar_schema_model.specs.KeptOf.{IsKeptOf}
use Rattle.cedar_schema_resolver.specs.Meanings.{Setting}
use Rattle.cedar_schema_assembly.specs.Pieces.{AreTypesOf, AreActionsOf, PiecesAreKept}
use Rattle.cedar_schema_assembly.specs.Told.{schema_told}
use Rattle.cedar_schema_builder.specs.ResolvedLaws.{AreTold, ResolvedDeclarationsTellTheSchema}
use Rattle.cedar_schema_builder.specs.Writing.{CommonForms, EntityForms, ActionForms}

module _ (s r : Schema) (types : IsPermutation s.types r.types) (actions : IsPermutation s.actions r.actions) where
  name_moved : (n : Name) → Contains (type_names s) n → Contains (type_names r) n
  name_moved n h = Contains-permutation (type_names s) (type_names r) n (IsPermutation-map (λ (t : EntityType). t.name) s.types r.types types) h

  uid_moved : (u : Uid) → Contains (action_uids s) u → Contains (action_uids r) u
  uid_moved u h = Contains-permutation (action_uids s) (action_uids r) u (IsPermutation-map (λ (a : Action). a.uid) s.actions r.actions actions) h

  below_moved : (m n : Name) → Descends s m n → Descends r m n
  below_moved m n h = reaches_along (HasParent s) (HasParent r) (λ x y p. (p.0, Contains-permutation s.types r.types p.0 types p.1, p.2, p.3)) m n h

  action_below_moved : (u v : Uid) → ActionDescends s u v → ActionDescends r u v
  action_below_moved u v h = reaches_along (HasActionParent s) (HasActionParent r) (λ x y p. (p.0, Contains-permutation s.actions r.actions p.0 actions p.1, p.2, p.3)) u v h

module _ (s r : Schema) (types : IsPermutation s.types r.types) (actions : IsPermutation s.actions r.actions) where
  back_types : IsPermutation r.types s.types
  back_types = IsPermutation-sym s.types r.types types

  back_actions : IsPermutation r.actions s.actions
  back_actions = IsPermutation-sym s.actions r.actions actions

  pub kept_moved : (k : Kept) → IsKeptOf s k → IsKeptOf r k
  kept_moved k h = record {
    types = λ t i. let e = h.types t i in (e.0, Contains-permutation s.types r.types e.0 types e.1, e.2);
    all_types = λ e i. h.all_types e (Contains-permutation r.types s.types e back_types i);
    types_once = λ t. h.types_once (twice_moved name_eq name_eq-Decides (type_names r) (type_names s) (IsPermutation-map (λ (e : EntityType). e.name) r.types s.types back_types) t);
    types_below = λ t i m. (
      λ j. let b = (h.types_below t i m).0 j in (name_moved s r types actions m b.0, below_moved s r types actions m t.name b.1),
      λ b. (h.types_below t i m).1 (name_moved r s back_types back_actions m b.0, below_moved r s back_types back_actions m t.name b.1),
    );
    actions = λ a i. let b = h.actions a i in (b.0, Contains-permutation s.actions r.actions b.0 actions b.1, b.2);
    all_actions = λ b i. h.all_actions b (Contains-permutation r.actions s.actions b back_actions i);
    actions_once = λ t. h.actions_once (twice_moved uid_eq uid_eq-Decides (action_uids r) (action_uids s) (IsPermutation-map (λ (a : Action). a.uid) r.actions s.actions back_actions) t);
    actions_below = λ a i u. (
      λ j. let b = (h.actions_below a i u).0 j in (uid_moved s r types actions u b.0, action_below_moved s r types actions u a.uid b.1),
      λ b. (h.actions_below a i u).1 (uid_moved r s back_types back_actions u b.0, action_below_moved r s back_types back_actions u a.uid b.1),
    );
  }

pub order_is_free : (x : List Name) (d e : Declarations) → IsReordered d e → IsWellFormed x d → (k : Kept) → IsKeptOf (schema_of d) k → IsKeptOf (schema_of e) k
order_is_free x d e m w k h = kept_moved (schema_of d) (schema_of e) (types_moved x d e m w) (actions_moved x d e m w) k h

-- what is kept of the schema that is told is what is kept of that of the declarations
pub built_is : ResolvedDeclarationsTellTheSchema → PiecesAreKept → (s : Setting) (d : Declarations) (cs : CommonForms) (es : EntityForms) (as_ : ActionForms) → AreTold s d cs es as_
    → (k : Kept) → AreTypesOf (schema_told s es as_) k.types → AreActionsOf (schema_told s es as_) k.actions → IsKeptOf (schema_of d) k
built_is tells pieces s d cs es as_ t k ts us = subst (λ r. IsKeptOf r k) (tells s d cs es as_ t) (pieces (schema_told s es as_) k ts us)
