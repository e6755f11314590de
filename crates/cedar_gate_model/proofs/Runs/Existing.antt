-- The scope of a session has a completion, whatever was bound and asked for by then.
use Rattle.std.proofs.Common.{◌≡◌, ◌∙◌, ◌||◌, true, false, Option, Some, None, codes, option_map, inl, inr, refl, sym, ap, subst}
use Rattle.std.specs.Prelude.{Contains, is_some}
use Rattle.std.specs.Option.{option_map_or}
use Rattle.std.specs.Str.{bytes_eq}
use Rattle.std.proofs.lemmas.Slice.Eq.{bytes_eq-Decides}
use Rattle.cedar_expr_model.specs.Parts.{Unknown, unknowns}
use Rattle.cedar_expr_model.proofs.Lists.{any_from}
use Rattle.cedar_expr_model.specs.Name.{Text}
use Rattle.cedar_expr_model.specs.Uid.{Uid}
use Rattle.cedar_expr_model.specs.Value.{V, prim, entity, record_of}
use Rattle.cedar_expr_model.specs.Tree.{record_literal, TreeFields}
use Rattle.cedar_expr_model.specs.Made.{Made, made_prim, made_set, made_record, made_extension, bare, bare_fields}
use Rattle.cedar_store_model.specs.World.{World, Found}
use Rattle.cedar_store_model.specs.OfLaws.Extends.{Keeps}
use Rattle.cedar_store_model.specs.Reads.{uid_of}
use Rattle.cedar_evaluator_model.specs.OfLaws.Completable.{is_free_name, EntryAgrees, ContextAgrees, Agree}
use Rattle.cedar_evaluator_model.specs.OfLaws.Completing as evaluator
use Rattle.cedar_evaluator_model.specs.Known.{known_found}
use Rattle.cedar_evaluator_model.specs.Scope.{Scope, Entry, uid, unknown_uid, Context, closed, residual_fields, unknown_context, Left, value_left, residual, stopped}
use Rattle.cedar_evaluator_model.specs.OfLaws.Whole.{HoldsValues}
use Rattle.cedar_evaluator_model.proofs.Completable.{completions_exist}
use Rattle.cedar_gate_model.specs.Session.{Setup, State, value_of, uid_in, context_left, entry_now, context_now, scope_now, variable_names, context_unknowns, name_of_variable, entry_named, is_open_entry, is_open_context}
use Rattle.cedar_gate_model.specs.RunsAnswer.{Course, session_of, IsAdmitted, IsOpened, IsKnownStore, ContextIsPossible}
use Rattle.cedar_gate_model.proofs.Runs.Completing.{IsTaken, taken_value, any_name, no_name_of_variable}
use Rattle.cedar_gate_model.proofs.Runs.Contexts.{bound_context, left_context}
use Rattle.cedar_gate_model.proofs.Runs.Names.{is_entity, bare_state, stands, quote_free, no_lie}
use Rattle.cedar_gate_model.proofs.Runs.Knowing.{open_is_uid, known_values}

module _ (c : Course) (admitted : IsAdmitted c) (s : State) (store : Uid → Found Made) (start : IsOpened (session_of c) s) (stands_on : IsKnownStore c s store) (given : Text → V) where
  abbrev x : Setup
  x = session_of c

  abbrev scope : Scope
  scope = scope_now x s store

  abbrev mine : State
  mine = bare_state x start.opened s start.bound

  taken : (n : Text) (m : Made) → value_of s n ≡ Some m → IsTaken x n m
  taken n m e = (taken_value x mine (stands x start.opened s start.bound) n m e).0

  -- a name that was never open has no value
  unvalued : (n : Text) → ((is_open_entry (entry_named x.start n) || is_open_context x.start.context n) ≡ true → ⊥) → value_of s n ≡ None
  unvalued n shut = by_value (value_of s n) refl
    where
      by_value : (o : Option Made) → value_of s n ≡ o → o ≡ None
      by_value None e = refl
      by_value (Some m) e = absurd (shut (taken n m e).was_open)

  entry_agrees : (n : Text) (e : Entry) → entry_named x.start n ≡ Some e → (is_open_context x.start.context n ≡ true → ⊥) → EntryAgrees scope n (entry_now s n e)
  entry_agrees n (uid u) q shut =
      subst (λ o. Keeps (option_map bare o) (Some (prim (entity u)))) (sym (unvalued n (λ o. shut (ap (λ k. is_open_entry k || is_open_context x.start.context n) (sym q) ∙ o)))) tt
  entry_agrees n (unknown_uid k) q shut = by_value (value_of s n) refl
    where
      by_uid : (m : Made) → value_of s n ≡ Some m → (r : Option Uid) → uid_of (bare m) ≡ r → EntryAgrees scope n (option_map_or uid r (unknown_uid k))
      by_uid m e None f = absurd ((taken n m e).right (inl (ap is_some q, f)))
      by_uid m e (Some u) f = subst (λ o. Keeps (option_map bare o) (Some (prim (entity u)))) (sym e) (ap Some (sym (is_entity (bare m) u f)))

      by_value : (o : Option Made) → value_of s n ≡ o → EntryAgrees scope n (option_map_or uid (uid_in o) (unknown_uid k))
      by_value None e = e
      by_value (Some m) e = by_uid m e (uid_of (bare m)) refl

  no_variable : (n : Text) → Contains variable_names n → bytes_eq n (codes "context") ≡ false → is_open_context x.start.context n ≡ true → ⊥
  no_variable n v f = no_name_of_variable x mine (stands x start.opened s start.bound) start.opened n v f x.start.context refl

  -- the name of a context that isn't unknown has no value
  context_unvalued : (k : Context) → x.start.context ≡ k → (k ≡ unknown_context → ⊥) → value_of s (codes "context") ≡ None
  context_unvalued (closed fs) q n = unvalued (codes "context") (λ o. no_lie (sym o ∙ ap (λ k. is_open_context k (codes "context")) q))
  context_unvalued (residual_fields fs) q n =
      unvalued (codes "context")
      (λ o.
      let r = any_from (λ (u : Unknown). bytes_eq (codes "context") u.name) (unknowns (record_literal fs)) (ap (λ k. is_open_context k (codes "context")) (sym q) ∙ o) in
      start.opened name_of_variable (r.0, subst (λ k. Contains (context_unknowns k) r.0) (sym q) r.1, subst (Contains variable_names) ((bytes_eq-Decides (codes "context") (r.0).name).0 r.2) (any_name (codes "context") refl)))
  context_unvalued unknown_context q n = absurd (n refl)

  agrees_unvalued : (v : V) → value_of s (codes "context") ≡ None → Keeps (option_map bare (value_of s (codes "context"))) (Some v)
  agrees_unvalued v e = subst (λ o. Keeps (option_map bare o) (Some v)) (sym e) tt

  module _ (possible : ContextIsPossible x s given) where
    left_agrees : (fs : TreeFields) → x.start.context ≡ residual_fields fs → value_of s (codes "context") ≡ None → (l : Left) → context_left x.functions s fs ≡ l → ContextAgrees scope given (left_context l)
    left_agrees fs q none (value_left (made_record gs)) e = agrees_unvalued (record_of (bare_fields gs)) none
    left_agrees fs q none (value_left m) e = none
    left_agrees fs q none (residual (record_literal gs)) e = (none, possible gs (ap (context_now x.functions s) q ∙ ap left_context e))
    left_agrees fs q none (residual r) e = none
    left_agrees fs q none (stopped why) e = none

    bound_agrees : x.start.context ≡ unknown_context → (o : Option Made) → value_of s (codes "context") ≡ o → ContextAgrees scope given (bound_context o)
    bound_agrees q None e = e
    bound_agrees q (Some (made_record gs)) e = subst (λ o. Keeps (option_map bare o) (Some (record_of (bare_fields gs)))) (sym e) refl
    bound_agrees q (Some (made_prim p)) e = absurd ((taken (codes "context") (made_prim p) e).right (inr (refl, tt)))
    bound_agrees q (Some (made_set ms)) e = absurd ((taken (codes "context") (made_set ms) e).right (inr (refl, tt)))
    bound_agrees q (Some (made_extension n k f ps)) e = absurd ((taken (codes "context") (made_extension n k f ps) e).right (inr (refl, tt)))

    context_agrees : (k : Context) → x.start.context ≡ k → ContextAgrees scope given (context_now x.functions s k)
    context_agrees (closed fs) q = agrees_unvalued (record_of (bare_fields fs)) (context_unvalued (closed fs) q (λ e. cc))
    context_agrees (residual_fields fs) q = left_agrees fs q (context_unvalued (residual_fields fs) q (λ e. cc)) (context_left x.functions s fs) refl
    context_agrees unknown_context q = bound_agrees q (value_of s (codes "context")) refl

    pub parts_agree : ((n : Text) → is_free_name n ≡ true → Keeps (option_map bare (value_of s n)) (Some (given n))) → Agree scope given
    parts_agree free = record {
      uids = λ u q. open_is_uid x s u (sym (stands_on.known u) ∙ ap known_found q);
      names = quote_free x start.opened s start.bound;
      free = free;
      principal = entry_agrees (codes "principal") x.start.principal refl (no_variable (codes "principal") (any_name (codes "principal") refl) refl);
      action = entry_agrees (codes "action") x.start.action refl (no_variable (codes "action") (any_name (codes "action") refl) refl);
      resource = entry_agrees (codes "resource") x.start.resource refl (no_variable (codes "resource") (any_name (codes "resource") refl) refl);
      context = context_agrees x.start.context refl;
      store = λ u. subst HoldsValues (sym (stands_on.known u)) (known_values x s u (admitted.store u));
    }

pub sessions_have_completions : (c : Course) (s : State) (store : Uid → Found Made) (given : Text → V) → IsAdmitted c → IsOpened (session_of c) s → IsKnownStore c s store
    → ((n : Text) → is_free_name n ≡ true → Keeps (option_map bare (value_of s n)) (Some (given n))) → ContextIsPossible (session_of c) s given
    → (w : World) × evaluator.Completes w (scope_now (session_of c) s store)
sessions_have_completions c s store given admitted start known free possible =
    let r = completions_exist (scope_now (session_of c) s store) given (parts_agree c admitted s store start known given possible free) in
    (r.0, r.1)
