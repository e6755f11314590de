-- What a session knows of the store. Every completion of its state knows it, and all else that the session knows.
use Rattle.std.proofs.Common.{◌≡◌, ◌∙◌, ◌⊎◌, ◌||◌, Bool, true, false, cond, Option, Some, None, codes, inl, inr, ⊎_elim, refl, sym, ap, subst, option_map}
use Rattle.std.specs.List.{list_any}
use Rattle.std.specs.Map.{lookup}
use Rattle.std.specs.Str.{bytes_eq}
use Rattle.cedar_expr_model.specs.Lists.{when}
use Rattle.cedar_expr_model.specs.Name.{Text}
use Rattle.cedar_expr_model.specs.Uid.{Uid, uid_eq}
use Rattle.cedar_expr_model.specs.Uids.{is_uid}
use Rattle.cedar_expr_model.specs.Value.{V}
use Rattle.cedar_expr_model.specs.ValueParts.{Part, known, left}
use Rattle.cedar_expr_model.specs.Made.{Made, bare}
use Rattle.cedar_expr_model.proofs.Lists.{found-Decides}
use Rattle.cedar_expr_model.proofs.Equality.{uid_eq-Decides}
use Rattle.cedar_store_model.specs.Knowledge.{holds_values}
use Rattle.cedar_store_model.specs.OfLaws.Extends.{Keeps, KeepsPart, KeepsEntity, KeepsFound, Extends}
use Rattle.cedar_store_model.specs.Store.{found_as, if_uid, unloaded, whole}
use Rattle.cedar_store_model.specs.World.{World, Entity, Found, held, missing, not_loaded}
use Rattle.cedar_schema_model.specs.ActionEntities.{as_entity}
use Rattle.cedar_schema_model.specs.Schema.{declares_action}
use Rattle.cedar_evaluator_model.specs.OfLaws.Whole.{HoldsValues}
use Rattle.cedar_gate_model.specs.Knowing.{without_slots}
use Rattle.cedar_gate_model.specs.Moment.{context_known, entry_known}
use Rattle.cedar_gate_model.specs.RunsAnswer.{Course, session_of, IsAdmitted, IsOpened}
use Rattle.cedar_gate_model.specs.Session.{Setup, State, value_of, whole_store, known_now, CompletesNow}
use Rattle.cedar_gate_model.proofs.Gate.LegalRuns.{moment_of, bound_or_open, entry_same}
use Rattle.cedar_gate_model.proofs.Runs.Completing.{neither}
use Rattle.cedar_gate_model.proofs.Runs.Legal as legal
use Rattle.cedar_gate_model.proofs.Runs.Names.{bare_state, stands, sound_of, completes_bare}

-- what is known of what wasn't asked for, by whether it is a uid
abbrev unloaded_if : Bool → Found V
unloaded_if i = cond i not_loaded missing

-- What is known of a uid, by whether it is a declared action, was asked for, and is a uid; and by the action and what the store holds.
abbrev known_if : Bool → Bool → Bool → Entity V → Option (Entity V) → Found V
known_if d a i e o = cond (d || a) (cond d (held e) (cond i (found_as whole o) missing)) (unloaded_if i)

whole_if : (d a i : Bool) (e : Entity V) (o : Option (Entity V)) → (known_if d a i e o ≡ not_loaded → ⊥) → known_if d a i e o ≡ cond d (held e) (cond i (found_as whole o) missing)
whole_if true a i e o h = refl
whole_if false true i e o h = refl
whole_if false false true e o h = absurd (h refl)
whole_if false false false e o h = refl

uid_if : (d a i : Bool) (e : Entity V) (o : Option (Entity V)) → known_if d a i e o ≡ not_loaded → i ≡ true
uid_if d a true e o q = refl
uid_if true a false e o q = cc
uid_if false true false e o q = cc
uid_if false false false e o q = cc

values_if : (d a i : Bool) (e : Entity V) (o : Option (Entity V)) → holds_values e ≡ true → ((f : Entity V) → o ≡ Some f → holds_values f ≡ true) → HoldsValues (known_if d a i e o)
values_if true a i e o h k = h
values_if false true true e None h k = tt
values_if false true true e (Some f) h k = k f refl
values_if false true false e o h k = tt
values_if false false true e o h k = tt
values_if false false false e o h k = tt

module _ (x : Setup) (s : State) (u : Uid) where
  -- what is known is as it is in the whole store
  pub known_whole : ((known_now x s).store u ≡ not_loaded → ⊥) → (known_now x s).store u ≡ whole_store x u
  known_whole = whole_if (declares_action x.schema u) (list_any (uid_eq u) s.asked) (is_uid u) (as_entity x.schema u) (x.store u)

  -- what isn't known is a uid
  pub open_is_uid : (known_now x s).store u ≡ not_loaded → is_uid u ≡ true
  open_is_uid = uid_if (declares_action x.schema u) (list_any (uid_eq u) s.asked) (is_uid u) (as_entity x.schema u) (x.store u)

  -- what is held has values alone
  pub known_values : ((e : Entity V) → x.store u ≡ Some e → holds_values e ≡ true) → HoldsValues ((known_now x s).store u)
  known_values = values_if (declares_action x.schema u) (list_any (uid_eq u) s.asked) (is_uid u) (as_entity x.schema u) (x.store u) refl

either_is : (a b : Bool) → (a || b) ≡ true → (a ≡ false → b ≡ true)
either_is true b e f = cc
either_is false b e f = e

part_keeps : (o : Option (Part V)) → KeepsPart o o
part_keeps None = refl
part_keeps (Some (known v)) = refl
part_keeps (Some (left t)) = refl

entity_keeps : (e : Entity V) → KeepsEntity e e
entity_keeps e = record { attributes = λ a. part_keeps (lookup (bytes_eq a) e.attributes); tags = λ a. part_keeps (lookup (bytes_eq a) e.tags); ancestors = refl }

found_keeps : (f g : Found V) → f ≡ g → KeepsFound f g
found_keeps (held e) g q = (e, sym q, entity_keeps e)
found_keeps missing g q = sym q
found_keeps not_loaded g q = tt

keeps_when : {A : Type 0} (b : Bool) (k o : Option A) → k ≡ when b o → Keeps k o
keeps_when true (Some a) o e = sym e
keeps_when true None o e = tt
keeps_when false (Some a) o e = cc
keeps_when false None o e = tt

module _ (x : Setup) (s : State) (w : World) (complete : CompletesNow x s w) where
  abbrev loaded_at : Uid → Bool
  loaded_at u = declares_action x.schema u || list_any (uid_eq u) s.asked

  pub same_there : (u : Uid) → (declares_action x.schema u || list_any (uid_eq u) s.asked) ≡ true → w.store u ≡ whole_store x u
  same_there u e = by_test (declares_action x.schema u) refl
    where
      by_test : (b : Bool) → declares_action x.schema u ≡ b → w.store u ≡ whole_store x u
      by_test true q = (complete.request).actions u q ∙ sym (ap (λ b. cond b (held (as_entity x.schema u)) (if_uid u (found_as whole (x.store u)))) q)
      by_test false q = complete.asked u ((found-Decides uid_eq uid_eq-Decides u s.asked).0 (either_is _ _ e q))

  -- what is known of the store is so in the world
  pub known_there : (u : Uid) → ((known_now x s).store u ≡ w.store u) ⊎ ((known_now x s).store u ≡ not_loaded)
  known_there u = by_loaded (loaded_at u) refl
    where
      by_uid : (i : Bool) → is_uid u ≡ i → declares_action x.schema u ≡ false → (unloaded_if i ≡ w.store u) ⊎ (unloaded_if i ≡ not_loaded)
      by_uid true e undeclared = inr refl
      by_uid false e undeclared = inl (sym ((complete.request).uids u undeclared e))

      by_loaded : (b : Bool) → loaded_at u ≡ b → (cond b (whole_store x u) (unloaded u) ≡ w.store u) ⊎ (cond b (whole_store x u) (unloaded u) ≡ not_loaded)
      by_loaded true e = inl (sym (same_there u e))
      by_loaded false e = by_uid (is_uid u) refl (neither (declares_action x.schema u) (list_any (uid_eq u) s.asked) e).0

  pub store_kept : (u : Uid) → KeepsFound ((known_now x s).store u) (w.store u)
  store_kept u = ⊎_elim (λ q. found_keeps _ _ q) (λ k. subst (λ f. KeepsFound f (w.store u)) (sym k) tt) (known_there u)

  value_kept : (n : Text) (o : Option Made) → value_of s n ≡ o → Keeps (option_map bare o) (w.unknowns n)
  value_kept n None e = tt
  value_kept n (Some m) e =
      ⊎_elim (λ r. (let q : r.0 ≡ m = (let z : Some r.0 ≡ Some m = sym r.1 ∙ e in cc) in (r.3).0 ∙ ap (λ k. Some (bare k)) q)) (λ r. (let z : Some m ≡ None = sym e ∙ r.0 in cc)) (bound_or_open w n s.bound complete.bound)

pub knows_more : (c : Course) (s : State) (w : World) → IsAdmitted c → IsOpened (session_of c) s → CompletesNow (session_of c) s w → Extends (known_now (session_of c) s) (without_slots w)
knows_more c s w admitted start complete =
    let x = session_of c in
    let mine = bare_state x start.opened s start.bound in
    let at = λ (n : Text). bound_or_open w n s.bound complete.bound in
    let r = complete.request in
    record {
      principal = keeps_when (entry_known (moment_of s) (codes "principal") x.start.principal) _ _ (entry_same s w (codes "principal") x.start.principal w.principal (at (codes "principal")) (λ m k. k.1.0 refl) r.principal);
      action = keeps_when (entry_known (moment_of s) (codes "action") x.start.action) _ _ (entry_same s w (codes "action") x.start.action w.action (at (codes "action")) (λ m k. k.1.1 refl) r.action);
      resource = keeps_when (entry_known (moment_of s) (codes "resource") x.start.resource) _ _ (entry_same s w (codes "resource") x.start.resource w.resource (at (codes "resource")) (λ m k. k.1.2 refl) r.resource);
      context = keeps_when (context_known (moment_of mine) x.start.context) _ _
          (legal.context_same c admitted mine w (stands x start.opened s start.bound) (sound_of x start.opened s.bound start.bound) (completes_bare x start.opened s start.bound w complete) x.start.context refl admitted.context r.context);
      slots = λ z. refl;
      unknowns = λ n. value_kept x s w complete n (value_of s n) refl;
      table = r.table;
      store = store_kept x s w complete;
    }
