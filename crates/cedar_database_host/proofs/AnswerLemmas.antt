-- Look-ups one after the other, and what a host answers.
use Rattle.std.proofs.Common.{◌≡◌, ◌∙◌, Bool, List, Option, None, Some, true, false, IsTrue, refl, sym, ap, subst, arith}
use Rattle.std.specs.Prelude.{ℕ, not, option_map, option_and_then, if◌then◌else◌}
use Rattle.cedar_expr_names.specs.Views.{uid_of}
use Rattle.cedar_expr_names.specs.declared.entity.EntityUID.{EntityUID}
use Rattle.cedar_expr_model.specs.Made.{Made}
use Rattle.cedar_expr_model.specs.Uid.{Uid, uid_eq, uid_text}
use Rattle.cedar_store_model.specs.World as world
use Rattle.cedar_evaluator_model.specs.Functions.{Functions}
use Rattle.cedar_gate_runs.specs.Hosts.{answered_of, answer_from}
use Rattle.cedar_store_entities.specs.Views.{entity_uid, entity_seen}
use Rattle.cedar_store_entities.specs.declared.entity.Entity.{Entity}
use Rattle.sqlite.specs.Effect.{Database}
use Rattle.sqlite.specs.Held.{Held, state}
use Rattle.sqlite.specs.Store.{Ghosts}
use Rattle.sqlite.specs.State.{State, HasCleanDisk}
use Rattle.cedar_database_host.specs.Hosts.{IsSound}
use Rattle.cedar_database_host.specs.Lookup.{IsLookup, IsSettled, LooksOnly, body_at}
use Rattle.cedar_database_host.specs.Reading.{text_read, with_uid, entity_in}
use Rattle.cedar_database_host.specs.Table.{entities_of}

-- what was clean before
pub clean_before : (old new : State) → LooksOnly old new → HasCleanDisk new → HasCleanDisk old
clean_before old new l clean = let h = l.clean in omega (arith, h, clean)

pub looks_none : (s : State) → LooksOnly s s
looks_none s = record { clean = omega arith; stays = λ clean is_open settled. record { was_open = is_open; now = refl; committed = refl } }

pub settled_on : (a b : State) → LooksOnly a b → HasCleanDisk b → IsSettled a → IsSettled b
settled_on a b l clean settled is_open =
    let s = l.stays clean is_open settled in
    s.now ∙ settled s.was_open ∙ sym s.committed

pub looks_on : (a b c : State) → LooksOnly a b → LooksOnly b c → LooksOnly a c
looks_on a b c first second = record {
  clean = (let f = first.clean in let s = second.clean in omega (arith, f, s));
  stays = λ clean is_open settled.
      let mid = clean_before b c second clean in
      let s = second.stays clean is_open (settled_on a b first mid settled) in
      let f = first.stays mid s.was_open settled in
      record { was_open = f.was_open; now = s.now ∙ f.now; committed = s.committed ∙ f.committed };
}

module _ (x : Functions) (u : Uid) (text : List ℕ) where
  pub own_read : (e : Uid × world.Entity Made) → text_read x text ≡ Some e → uid_eq e.0 u ≡ true → entity_in x u text ≡ Some e.1
  own_read e read own = ap (option_and_then (with_uid u)) read ∙ ap (λ (b : Bool). if b then Some e.1 else None) own

  pub other_read : (e : Uid × world.Entity Made) → text_read x text ≡ Some e → uid_eq e.0 u ≡ false → entity_in x u text ≡ None
  other_read e read other = ap (option_and_then (with_uid u)) read ∙ ap (λ (b : Bool). if b then Some e.1 else None) other

  pub none_read : text_read x text ≡ None → entity_in x u text ≡ None
  none_read read = ap (option_and_then (with_uid u)) read

-- the body that was found under a key stands under the text that the key is
pub found_under : (d : Database) (key bytes text body : List ℕ) (o : Option (List ℕ)) → body_at d key ≡ o → o ≡ Some body → key ≡ bytes → bytes ≡ text → body_at d text ≡ Some body
found_under d key bytes text body o found is same_bytes same_text = subst (λ k. body_at d k ≡ Some body) (same_bytes ∙ same_text) (found ∙ is)

module _ (x : Functions) (d : Database) (u : Uid) (asked : EntityUID) (same : uid_of asked ≡ u) where
  pub answered_with : (body : List ℕ) (e : Entity) → body_at d (uid_text u) ≡ Some body → entity_in x u body ≡ Some (entity_seen e) → entity_uid e ≡ u → answered_of (asked, Some e) ≡ answer_from (entities_of x d) u
  answered_with body e shown read own =
      let found : entities_of x d u ≡ Some (entity_seen e) = ap (option_and_then (entity_in x u)) shown ∙ read in
      let first : ◌≡◌ {A = Uid × Option (Uid × world.Entity Made)} (uid_of asked, Some (entity_uid e, entity_seen e)) (u, Some (u, entity_seen e)) = λ i. (same i, Some (own i, entity_seen e)) in
      first ∙ ap (λ (o : Option (world.Entity Made)). (u, option_map (λ (z : world.Entity Made). (u, z)) o)) (sym found)

  pub answered_without : body_at d (uid_text u) ≡ None → answered_of (asked, None) ≡ answer_from (entities_of x d) u
  answered_without shown =
      let found : entities_of x d u ≡ None = ap (option_and_then (entity_in x u)) shown in
      let first : ◌≡◌ {A = Uid × Option (Uid × world.Entity Made)} (uid_of asked, None) (u, None) = λ i. (same i, None) in
      first ∙ ap (λ (o : Option (world.Entity Made)). (u, option_map (λ (z : world.Entity Made). (u, z)) o)) (sym found)

-- a host that is honest now was so before, with the same store
module _ {S : Type 0} (g : Ghosts S) (old new : Held S) (l : LooksOnly (state g old) (state g new)) (settled : IsSettled (state g old)) where
  pub sound_before : IsSound g new → IsSound g old
  sound_before s =
      let k = l.stays s.clean s.is_open settled in
      record { clean = clean_before (state g old) (state g new) l s.clean; is_open = k.was_open; table = subst IsLookup k.now s.table }

  pub same_entities : (x : Functions) → IsSound g new → entities_of x (state g new).now ≡ entities_of x (state g old).now
  same_entities x s = ap (entities_of x) (l.stays s.clean s.is_open settled).now

-- no transaction is open
pub settled_at : (s : State) (b : Bool) → (IsTrue b → IsTrue s.is_open → s.now ≡ s.committed) → not b ≡ false → IsSettled s
settled_at s true settled e = settled refl
settled_at s false settled e = absurd (let no : ⊥ = cc in no)
