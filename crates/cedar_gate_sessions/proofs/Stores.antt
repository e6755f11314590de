-- What is known of the entities that are loaded.
use Rattle.std.proofs.Common.{◌≡◌, ◌∙◌, ◌||◌, Bool, true, false, cond, List, [], ◌∷◌, Option, Some, None, option_map, if◌then◌else◌, refl, sym, ap, subst}
use Rattle.std.specs.Prelude.{◌↔◌, Contains}
use Rattle.std.specs.List.{list_any}
use Rattle.cedar_expr_model.specs.Name.{Text}
use Rattle.cedar_expr_model.specs.Uid.{Uid, uid_eq}
use Rattle.cedar_expr_model.specs.Made.{Made}
use Rattle.cedar_expr_model.specs.Uids.{is_uid}
use Rattle.cedar_expr_model.specs.Value.{V}
use Rattle.cedar_expr_model.specs.ValueParts.{Part}
use Rattle.cedar_expr_model.proofs.Equality.{uid_eq-Decides}
use Rattle.cedar_expr_model.proofs.Lists.{found-Decides}
use Rattle.cedar_store_model.specs.Store.{Extent, if_uid, found_as, whole, partial}
use Rattle.cedar_store_model.specs.World.{Entity, Found, held, missing, not_loaded}
use Rattle.cedar_schema_model.specs.ActionEntities.{action_ancestors}
use Rattle.cedar_schema_model.specs.Schema.{Schema, declares_action}
use Rattle.cedar_evaluator_model.specs.Known.{known_found, known_entity, known_parts}
use Rattle.cedar_gate_model.specs.Session.{Setup, State, known_now, whole_store}
use Rattle.cedar_typechecker_model.specs.Slice.{mentioned_by_found}
use Rattle.cedar_gate_sessions.specs.Loaded.{AreActions, loaded_at, mentioned_there}
use Rattle.cedar_gate_sessions.specs.Sessions.{extent_at}
use Rattle.cedar_gate_sessions.proofs.Steady.{AreAlike, IsAlike, alike_self}

-- an entity that is there, or none in a partial or in a whole store
abbrev pub found_made : Extent → Option (Entity Made) → Found Made
found_made t (Some e) = held e
found_made whole None = missing
found_made partial None = not_loaded

-- a declared action with its ancestors in the order of the schema, and a store in which the declared actions stand so
abbrev pub action_made : Schema → Uid → Entity Made
action_made s u = record { attributes = []; tags = []; ancestors = action_ancestors s u }

abbrev pub steady : Schema → (Uid → Found Made) → Uid → Found Made
steady s store u = if declares_action s u then held (action_made s u) else store u

abbrev unloaded_if : Bool → Found V
unloaded_if i = cond i not_loaded missing

abbrev Loads : Bool → Option (Entity V) → Option (Entity Made) → Type 0
Loads a st o = option_map known_entity o ≡ (if a then st else None)

partly : (i a : Bool) (st : Option (Entity V)) (o : Option (Entity Made)) → Loads a st o
    → known_found (cond i (found_made (extent_at a) o) missing) ≡ (if a then cond i (found_as whole st) missing else unloaded_if i)
partly true true (Some f) (Some e) h = let q : known_entity e ≡ f = cc in ap held q
partly true true (Some f) None h = absurd (cc)
partly true true None (Some e) h = absurd (cc)
partly true true None None h = refl
partly true false st (Some e) h = absurd (cc)
partly true false st None h = refl
partly false true st o h = refl
partly false false st o h = refl

wholly : (i a : Bool) (st : Option (Entity V)) (o : Option (Entity Made)) → Loads a st o → known_found (cond i (found_made whole o) missing) ≡ (if a then cond i (found_as whole st) missing else missing)
wholly true true (Some f) (Some e) h = let q : known_entity e ≡ f = cc in ap held q
wholly true true (Some f) None h = absurd (cc)
wholly true true None (Some e) h = absurd (cc)
wholly true true None None h = refl
wholly true false st (Some e) h = absurd (cc)
wholly true false st None h = refl
wholly false true st o h = refl
wholly false false st o h = refl

no_parts : (ps : List (Text × Part Made)) → known_parts ps ≡ [] → ps ≡ []
no_parts [] h = refl
no_parts (p ∷ ps) h = absurd (cc)

-- lists with the same members have the same test
any_same : (u : Uid) (us ws : List Uid) → ((v : Uid) → Contains us v ↔ Contains ws v) → list_any (uid_eq u) us ≡ list_any (uid_eq u) ws
any_same u us ws h = go (list_any (uid_eq u) us) (list_any (uid_eq u) ws) refl refl
  where
    go : (a b : Bool) → list_any (uid_eq u) us ≡ a → list_any (uid_eq u) ws ≡ b → a ≡ b
    go true true e f = refl
    go false false e f = refl
    go true false e f = sym ((found-Decides uid_eq uid_eq-Decides u ws).1 ((h u).0 ((found-Decides uid_eq uid_eq-Decides u us).0 e))) ∙ f
    go false true e f = sym e ∙ (found-Decides uid_eq uid_eq-Decides u us).1 ((h u).1 ((found-Decides uid_eq uid_eq-Decides u ws).0 f))

module _ (x : Setup) (s : State) (acts : Uid → Entity V) (same : AreActions x.schema acts) (u : Uid) (o : Option (Entity Made)) (loaded : option_map known_entity o ≡ loaded_at acts x s u) where
  -- a declared action that is loaded is the steady one, but for the order
  action_alike : (e : Entity Made) → known_entity e ≡ acts u → declares_action x.schema u ≡ true → AreAlike e (action_made x.schema u)
  action_alike e h d =
      let is = same u d in
      record {
        attributes = no_parts e.attributes (ap (λ (z : Entity V). z.attributes) h ∙ is.attributes);
        tags = no_parts e.tags (ap (λ (z : Entity V). z.tags) h ∙ is.tags);
        ancestors = λ v. any_same v e.ancestors (action_ancestors x.schema u) (subst (λ (z : Entity V). (w : Uid) → Contains z.ancestors w ↔ Contains (action_ancestors x.schema u) w) (sym h) is.ancestors);
      }

  loaded_if : (d : Bool) → declares_action x.schema u ≡ d → option_map known_entity o ≡ (if d then Some (acts u) else (if list_any (uid_eq u) s.asked then x.store u else None))
  loaded_if d e = loaded ∙ ap (λ b. if b then Some (acts u) else (if list_any (uid_eq u) s.asked then x.store u else None)) e

  action_there : (t : Extent) (p : Option (Entity Made)) → option_map known_entity p ≡ Some (acts u) → declares_action x.schema u ≡ true → IsAlike (found_made t p) (held (action_made x.schema u))
  action_there t None h d = absurd (cc)
  action_there t (Some e) h d = let q : known_entity e ≡ acts u = cc in action_alike e q d

  alike_if : (t : Extent) → (declares_action x.schema u ≡ true → is_uid u ≡ true) → (d i : Bool) → declares_action x.schema u ≡ d → is_uid u ≡ i
      → IsAlike (cond i (found_made t o) missing) (if d then held (action_made x.schema u) else cond i (found_made t o) missing)
  alike_if t uid false i e f = alike_self _
  alike_if t uid true true e f = action_there t o (loaded_if true e) e
  alike_if t uid true false e f = let lie : true ≡ false = sym (uid e) ∙ f in absurd (cc)

  pub store_alike : (t : Extent) → (declares_action x.schema u ≡ true → is_uid u ≡ true) → IsAlike (if_uid u (found_made t o)) (if declares_action x.schema u then held (action_made x.schema u) else if_uid u (found_made t o))
  store_alike t uid = alike_if t uid (declares_action x.schema u) (is_uid u) refl refl

  partly_if : (d : Bool) → declares_action x.schema u ≡ d
      → known_found (if d then held (action_made x.schema u) else if_uid u (found_made (extent_at (list_any (uid_eq u) s.asked)) o)) ≡ (if d || list_any (uid_eq u) s.asked then (if d then held (known_entity (action_made x.schema u)) else if_uid u (found_as whole (x.store u))) else unloaded_if (is_uid u))
  partly_if true e = refl
  partly_if false e = partly (is_uid u) (list_any (uid_eq u) s.asked) (x.store u) o (loaded_if false e)

  wholly_if : (d : Bool) → declares_action x.schema u ≡ d
      → known_found (if d then held (action_made x.schema u) else if_uid u (found_made whole o)) ≡ (if d || list_any (uid_eq u) s.asked then (if d then held (known_entity (action_made x.schema u)) else if_uid u (found_as whole (x.store u))) else missing)
  wholly_if true e = refl
  wholly_if false e = wholly (is_uid u) (list_any (uid_eq u) s.asked) (x.store u) o (loaded_if false e)

  -- what is known of what is loaded, in a store of which what wasn't asked for isn't known, and in a whole one
  pub known_partly : known_found (if declares_action x.schema u then held (action_made x.schema u) else if_uid u (found_made (extent_at (list_any (uid_eq u) s.asked)) o)) ≡ (known_now x s).store u
  known_partly = partly_if (declares_action x.schema u) refl

  pub known_wholly : known_found (if declares_action x.schema u then held (action_made x.schema u) else if_uid u (found_made whole o)) ≡ (if declares_action x.schema u || list_any (uid_eq u) s.asked then whole_store x u else missing)
  known_wholly = wholly_if (declares_action x.schema u) refl

whole_mentions : (o : Option (Entity V)) → mentioned_there o ≡ mentioned_by_found (found_as whole o)
whole_mentions (Some e) = refl
whole_mentions None = refl

-- what the store answers for a uid that is no declared action's mentions the same
pub mentions_stored : (x : Setup) (u : Uid) → declares_action x.schema u ≡ false → is_uid u ≡ true → mentioned_there (x.store u) ≡ mentioned_by_found (whole_store x u)
mentions_stored x u d i = rw (d, i) (whole_mentions (x.store u))
