-- Leaves: what is written, variables and slots mean values of their types.
use Rattle.std.proofs.Common.{◌≡◌, ◌||◌, Bool, true, false, List, [], ◌∷◌, map, Option, Some, None, refl, sym, ap, ◌∙◌, subst}
use Rattle.std.specs.Prelude.{option_map, option_and_then, if◌then◌else◌, Contains, IsSome}
use Rattle.cedar_expr_model.specs.Name.{Name}
use Rattle.cedar_expr_model.specs.Uid.{Uid}
use Rattle.cedar_expr_model.specs.Value.{Literal, truth, long, text, entity, V, prim}
use Rattle.cedar_expr_model.specs.Canonical.{members_made, set_made}
use Rattle.cedar_expr_model.specs.Table.{Table}
use Rattle.cedar_expr_model.specs.Tree.{Var, principal, action, resource, context, SlotId, Tree, lit, var, set_literal, Trees, no_trees, tree}
use Rattle.cedar_expr_model.proofs.Lists.{contains_head, contains_cases, contains_none, map_has, map_from}
use Rattle.cedar_expr_model.proofs.Sets.{made_from, made_has}
use Rattle.cedar_store_model.specs.Outcome.{val, bind}
use Rattle.cedar_store_model.specs.World.{World}
use Rattle.cedar_store_model.proofs.Named.{bound_value, known_uid}
use Rattle.cedar_store_model.specs.Reads.{uids_in}
use Rattle.cedar_store_model.specs.Meaning.{slot_value, variable, outcome_of, outcomes_of}
use Rattle.cedar_schema_model.specs.Types.{Ty, entity_type}
use Rattle.cedar_schema_model.specs.Schema.{Schema, declares_type, declares_action}
use Rattle.cedar_schema_model.specs.Environment.{Environment}
use Rattle.cedar_schema_model.specs.HasType.{HasType}
use Rattle.cedar_schema_model.proofs.Decls.Environments.{declares_action-Decides}
use Rattle.cedar_schema_model.proofs.Types.Lookups.{inside}
use Rattle.cedar_typechecker_model.specs.Rules.{Setting, literal_type, var_type, slot_type, written_uid, written_action, action_literal, written_actions}
use Rattle.cedar_typechecker_model.specs.Verdicts.{strictly}
use Rattle.cedar_typechecker_model.specs.Soundness.{Suits}
use Rattle.cedar_typechecker_model.proofs.Sound.Operators.{known_good, Writes}
use Rattle.cedar_typechecker_model.proofs.Sound.Membership.{uids_of, WritesAction, Actions, WritesActions}
use Rattle.cedar_typechecker_model.proofs.Sound.Attributes.{Fine, fine_as}
use Rattle.cedar_expr_model.specs.Lists.{all_given}
use Rattle.cedar_expr_model.specs.Parts.{listed}

pub literal_fine : (s : Setting) (p : Literal) (ty : Ty) → literal_type s p ≡ Some ty → Fine ty (Some (val (prim p)))
literal_fine s (truth b) ty e = fine_as _ ty (Some (val (prim (truth b)))) (inside e) (known_good b)
literal_fine s (long n) ty e = fine_as _ ty (Some (val (prim (long n)))) (inside e) tt
literal_fine s (text t) ty e = fine_as _ ty (Some (val (prim (text t)))) (inside e) tt
literal_fine s (entity u) ty e = by (declares_type s.schema u.kind || declares_action s.schema u) e
  where
    by : (b : Bool) → (if b then Some (entity_type u.kind) else None) ≡ Some ty → Fine ty (Some (val (prim (entity u))))
    by true q = fine_as _ ty (Some (val (prim (entity u)))) (inside q) (contains_head u.kind [])
    by false q = cc

-- nothing is something: an expression of another form writes no uid
never : {A : Type 0} {P : Type 0} {a : A} → None ≡ Some a → P
never h = cc

of_kind_alone : (n m : Name) → n ≡ m → Contains (m ∷ []) n
of_kind_alone n m e = subst (Contains (m ∷ [])) (sym e) (contains_head m [])

known_fine : (n : Name) (o : Option Uid) → ((u : Uid) → o ≡ Some u → u.kind ≡ n) → Fine (entity_type n) (known_uid o)
known_fine n None f = tt
known_fine n (Some u) f = of_kind_alone u.kind n (f u refl)

context_fine : (t : Ty) (o : Option V) → ((v : V) → o ≡ Some v → HasType v t) → Fine t (bound_value o)
context_fine t None f = tt
context_fine t (Some v) f = f v refl

slot_fine : (t : Ty) (o : Option Uid) → IsSome o → ((u : Uid) → o ≡ Some u → HasType (prim (entity u)) t) → Fine t (Some (slot_value o))
slot_fine t None h f = cc
slot_fine t (Some u) h f = f u refl

pub uid_known : (o : Option Uid) (v : V) → known_uid o ≡ Some (val v) → (u : Uid) × (o ≡ Some u) × (v ≡ prim (entity u))
uid_known None v e = cc
uid_known (Some u) v e = (u, refl, (let q : prim (entity u) ≡ v = cc in sym q))

module _ (s : Schema) (x : Table) (e : Environment) (w : World) (suits : Suits s x e w) where
  pub variable_fine : (y : Var) → Fine (var_type (strictly s x e) y) (variable w y)
  variable_fine principal = known_fine e.principal w.principal suits.principal
  variable_fine action = known_fine e.action.kind w.action (λ u q. ap (λ (v : Uid). v.kind) (suits.action u q))
  variable_fine resource = known_fine e.resource w.resource suits.resource
  variable_fine context = context_fine _ w.context suits.context

  pub bound_fine : (i : SlotId) → IsSome (w.slots i) → Fine (slot_type (strictly s x e) i) (Some (slot_value (w.slots i)))
  bound_fine i h = slot_fine (slot_type (strictly s x e) i) (w.slots i) h (suits.slots i)

  pub action_declared : declares_action s e.action ≡ true
  action_declared =
      let a = suits.environment in
      subst (λ u. declares_action s u ≡ true) (sym a.2) ((declares_action-Decides s a.0.uid).1 (map_has (λ b. b.uid) s.actions a.0 a.1))

  -- what an expression writes is what it means
  pub writes_uid : (t : Tree) (v : V) → outcome_of w t ≡ Some (val v) → Writes (written_uid (strictly s x e) t) v
  writes_uid (lit (entity y)) v q u h = (let p : y ≡ u = inside h in let k : prim (entity y) ≡ v = cc in sym k ∙ ap (λ z. prim (entity z)) p)
  writes_uid (var action) v q u h =
      let k = uid_known w.action v q in
      k.2 ∙ ap (λ z. prim (entity z)) (suits.action k.0 k.1 ∙ inside h)
  writes_uid t v q u h = never h

  literal_writes : (y : Uid) (b : Bool) (v : V) (u : Uid) → declares_action s y ≡ b → Some (val (prim (entity y))) ≡ Some (val v) → (if b then Some y else None) ≡ Some u → (v ≡ prim (entity u)) × (declares_action s u ≡ true)
  literal_writes y true v u k q h = let p : y ≡ u = inside h in ((let z : prim (entity y) ≡ v = cc in sym z ∙ ap (λ a. prim (entity a)) p), subst (λ a. declares_action s a ≡ true) p k)
  literal_writes y false v u k q h = cc

  pub writes_action : (t : Tree) (v : V) → outcome_of w t ≡ Some (val v) → WritesAction s (written_action (strictly s x e) t) v
  writes_action (lit (entity y)) v q u h = literal_writes y (declares_action s y) v u refl q h
  writes_action (var action) v q u h =
      let k = uid_known w.action v q in
      let p : e.action ≡ u = inside h in
      (k.2 ∙ ap (λ z. prim (entity z)) (suits.action k.0 k.1 ∙ p), subst (λ a. declares_action s a ≡ true) p action_declared)
  writes_action t v q u h = never h

  -- a literal, and several
  literal_action : (t : Tree) (u : Uid) → action_literal (strictly s x e) t ≡ Some u → (outcome_of w t ≡ Some (val (prim (entity u)))) × (declares_action s u ≡ true)
  literal_action (lit (entity y)) u h = by (declares_action s y) refl h
    where
      by : (b : Bool) → declares_action s y ≡ b → (if b then Some y else None) ≡ Some u → (Some (val (prim (entity y))) ≡ Some (val (prim (entity u)))) × (declares_action s u ≡ true)
      by true k r = let p : y ≡ u = inside r in (ap (λ a. Some (val (prim (entity a)))) p, subst (λ a. declares_action s a ≡ true) p k)
      by false k r = cc
  literal_action t u h = never h

  one_action : (o : Option Uid) (v : V) (us : List Uid) → ((u : Uid) → o ≡ Some u → (v ≡ prim (entity u)) × (declares_action s u ≡ true)) → option_map (λ u. u ∷ []) o ≡ Some us → Actions s us v
  one_action None v us f h = cc
  one_action (Some u) v us f h =
      let k = f u refl in
      subst (λ l. Actions s l v) (inside h)
      (record {
        list = u ∷ [];
        are = ap uids_in k.0;
        same = λ z. (λ i. i, λ i. i);
        declared = λ z i. contains_cases (declares_action s z ≡ true) u [] z i (λ p. subst (λ a. declares_action s a ≡ true) p k.1) (λ n. absurd (contains_none z n));
      })

  -- the literals of a set: they mean these uids, all declared
  abbrev AllWritten : Trees → List Uid → Type 0
  AllWritten ts us = (outcomes_of w ts ≡ Some (val (map (λ u. prim (entity u)) us))) × ((z : Uid) → Contains us z → declares_action s z ≡ true)

  all_written : (ts : Trees) (us : List Uid) → all_given (action_literal (strictly s x e)) (listed ts) ≡ Some us → AllWritten ts us
  all_written no_trees us h = subst (AllWritten no_trees) (inside h) (refl, λ z i. absurd (contains_none z i))
  all_written (tree t ts) us h = by (action_literal (strictly s x e) t) (literal_action t) (all_given (action_literal (strictly s x e)) (listed ts)) (all_written ts) h
    where
      by : (o : Option Uid) → ((u : Uid) → o ≡ Some u → (outcome_of w t ≡ Some (val (prim (entity u)))) × (declares_action s u ≡ true)) → (p : Option (List Uid)) → ((vs : List Uid) → p ≡ Some vs → AllWritten ts vs)
          → option_and_then (λ u. option_map (λ vs. u ∷ vs) p) o ≡ Some us → AllWritten (tree t ts) us
      by None f p g k = cc
      by (Some u) f None g k = cc
      by (Some u) f (Some vs) g k =
          let a = f u refl in
          let b = g vs refl in
          subst (AllWritten (tree t ts)) (inside k) (
            (λ i. bind (a.0 i) (λ v. bind (b.0 i) (λ l. Some (val (v ∷ l))))),
            λ z i. contains_cases (declares_action s z ≡ true) u vs z i (λ p. subst (λ y. declares_action s y ≡ true) p a.1) (b.1 z),
          )

  set_actions : (us : List Uid) → ((z : Uid) → Contains us z → declares_action s z ≡ true) → Actions s us (set_made (map (λ u. prim (entity u)) us))
  set_actions us d =
      let vs = map (λ (u : Uid). prim (entity u)) us in
      let r = uids_of (members_made vs) (λ v i. let k = map_from (λ (u : Uid). prim (entity u)) us v (made_from v vs i) in (k.0, sym k.2)) in
      record {
        list = r.list;
        are = r.are;
        same = λ z. (
          λ i. (let k = map_from (λ (u : Uid). prim (entity u)) us (prim (entity z)) (made_from (prim (entity z)) vs (r.only z i)) in let p : k.0 ≡ z = (let q : prim (entity k.0) ≡ prim (entity z) = k.2 in cc) in subst (Contains us) p k.1),
          λ i. r.has z (made_has (prim (entity z)) vs (map_has (λ (u : Uid). prim (entity u)) us z i)),
        );
        declared = d;
      }

  pub writes_actions : (t : Tree) (v : V) → outcome_of w t ≡ Some (val v) → WritesActions s (written_actions (strictly s x e) t) v
  writes_actions (set_literal ts) v q us h =
      let k = all_written ts us h in
      let p : set_made (map (λ u. prim (entity u)) us) ≡ v = (let z = sym (ap (λ o. bind o (λ vs. Some (val (set_made vs)))) k.0) ∙ q in cc) in
      subst (Actions s us) p (set_actions us k.1)
  writes_actions (lit p) v q us h = one_action (action_literal (strictly s x e) (lit p)) v us (λ u i. let k = literal_action (lit p) u i in ((let z = sym q ∙ k.0 in cc), k.1)) h
  writes_actions t v q us h = never h
