-- What is supplied, in the code and in the model.
use Rattle.std.proofs.Common.{◌≡◌, ◌∙◌, Bool, true, false, cond, List, [], ◌∷◌, ◌++◌, map, Contains, Option, Some, None, option_map, refl, sym, ap, subst}
use Rattle.std.specs.Map.{lookup, keys_of}
use Rattle.std.specs.declared.alloc.Global.{Global}
use Rattle.std.specs.declared.vec.Vec.{Vec}
use Rattle.cedar_expr_model.specs.Uid.{Uid, uid_eq}
use Rattle.cedar_expr_model.specs.Uids.{is_uid}
use Rattle.cedar_expr_model.specs.Value.{V}
use Rattle.cedar_expr_model.proofs.Lists.{contains_head, contains_tail, map_from, map_has}
use Rattle.cedar_expr_names.specs.Views.{uid_of}
use Rattle.cedar_expr_names.specs.declared.entity.EntityUID.{EntityUID}
use Rattle.cedar_store_entities.specs.Views.{Kept, entity_uid, entity_of, entity_kept, entity_pair, kept_pair}
use Rattle.cedar_store_entities.specs.declared.entity.Entity.{Entity}
use Rattle.cedar_store_model.specs.World as world
use Rattle.cedar_schema_model.specs.Schema.{declares_action}
use Rattle.cedar_gate_wanted.specs.Rows.{uids}
use Rattle.cedar_gate_model.specs.Runs.{supplied_by}
use Rattle.cedar_gate_model.specs.Session.{Setup}
use Rattle.cedar_gate_wanted.specs.Laws.{AreAnswers}
use Rattle.cedar_gate_wanted.specs.Supplying.{rows_of, keys_in}
use Rattle.cedar_gate_sessions.specs.Entities.{supplied_pair, supplied_of, supplied_uids, supplied_entities, mentioned_by_this, row_pair, mentions_pair}
use Rattle.cedar_gate_sessions.specs.Loaded.{mentioned_there}
use Rattle.cedar_gate_sessions.proofs.Stores.{mentions_stored}
use Rattle.cedar_gate_sessions.proofs.Supplying.{entities_of}

-- the entities of what is supplied
pub pairs_of : (ps : List (EntityUID × Option Entity)) → map entity_pair (supplied_entities ps) ≡ entities_of (supplied_of ps)
pairs_of [] = refl
pairs_of ((u, None) ∷ ps) = pairs_of ps
pairs_of ((u, Some e) ∷ ps) = ap (λ es. entity_pair e ∷ es) (pairs_of ps)

pub map_both : {A B : Type 0} (f : A → B) (xs ys : List A) → map f (xs ++ ys) ≡ map f xs ++ map f ys
map_both f [] ys = refl
map_both f (x ∷ xs) ys = ap (λ l. f x ∷ l) (map_both f xs ys)

-- the uids of what is supplied, and of its rows
pub supplied_keys : (ps : List (EntityUID × Option Entity)) → keys_of (supplied_of ps) ≡ supplied_uids ps
supplied_keys [] = refl
supplied_keys (p ∷ ps) = ap (λ l. uid_of p.0 ∷ l) (supplied_keys ps)

row_keys : (rs : List (EntityUID × Vec EntityUID Global)) → map (λ (p : Uid × List Uid). p.0) (map row_pair rs) ≡ keys_in rs
row_keys [] = refl
row_keys (r ∷ rs) = ap (λ l. uid_of r.0 ∷ l) (row_keys rs)

mention_keys : (ps : List (EntityUID × Option Entity)) → map (λ (p : Uid × List Uid). p.0) (map mentions_pair ps) ≡ supplied_uids ps
mention_keys [] = refl
mention_keys (p ∷ ps) = ap (λ l. uid_of p.0 ∷ l) (mention_keys ps)

pub keys_same : (rs : List (EntityUID × Vec EntityUID Global)) (ps : List (EntityUID × Option Entity)) → map row_pair rs ≡ map mentions_pair ps → keys_in rs ≡ supplied_uids ps
keys_same rs ps e = sym (row_keys rs) ∙ ap (map (λ (p : Uid × List Uid). p.0)) e ∙ mention_keys ps

module _ (x : Setup) (ps : List (EntityUID × Option Entity)) (answered : supplied_of ps ≡ supplied_by x (supplied_uids ps)) where
  bare_of : (o : Option Entity) (u : Uid) (s : Option (world.Entity V)) → option_map entity_pair o ≡ option_map (λ e. (u, e)) s → option_map entity_of o ≡ s
  bare_of None u None e = refl
  bare_of None u (Some d) e = absurd (cc)
  bare_of (Some o) u None e = absurd (cc)
  bare_of (Some o) u (Some d) e =
      let q : ◌≡◌ {A = Option (Uid × world.Entity V)} (Some (entity_pair o)) (Some (u, d)) = e in
      let r : ◌≡◌ {A = Uid × world.Entity V} (entity_pair o) (u, d) = cc in
      ap (λ (p : Uid × world.Entity V). Some p.1) r

  -- what is supplied for a uid is what the store answers
  pub answer_is : (p : EntityUID × Option Entity) → Contains ps p → option_map entity_of p.1 ≡ x.store (uid_of p.0)
  answer_is p k =
      let there : Contains (supplied_by x (supplied_uids ps)) (supplied_pair p) = subst (λ qs. Contains qs (supplied_pair p)) answered (map_has supplied_pair ps p k) in
      let (v, c, e) = map_from (λ u. (u, option_map (λ e. (u, e)) (x.store u))) (supplied_uids ps) (supplied_pair p) there in
      let same : v ≡ uid_of p.0 = ap (λ (q : Uid × Option (Uid × world.Entity V)). q.0) e in
      bare_of p.1 v (x.store v) (sym (ap (λ (q : Uid × Option (Uid × world.Entity V)). q.1) e)) ∙ ap x.store same

  -- so its rows are those of the store's answers
  pub rows_answer : (rs : List (EntityUID × Vec EntityUID Global)) → map row_pair rs ≡ map mentions_pair ps → ((u : Uid) → Contains (supplied_uids ps) u → (declares_action x.schema u ≡ false) × (is_uid u ≡ true)) → AreAnswers x (rows_of rs)
  rows_answer rs e apart = record {
    each = λ u r k.
        let (q, c, is) = map_from (λ (p : EntityUID × Vec EntityUID Global). (uid_of p.0, p.1)) rs (u, r) k in
        let here : Contains (map mentions_pair ps) (row_pair q) = subst (λ zs. Contains zs (row_pair q)) e (map_has row_pair rs q c) in
        let (p, d, at) = map_from mentions_pair ps (row_pair q) here in
        let uid : uid_of p.0 ≡ u = ap (λ (z : Uid × List Uid). z.0) at ∙ ap (λ (z : Uid × Vec EntityUID Global). z.0) is in
        let row : mentioned_by_this p.1 ≡ uids r.items = ap (λ (z : Uid × List Uid). z.1) at ∙ ap (λ (z : Uid × Vec EntityUID Global). uids z.1.items) is in
        let a = apart u (subst (Contains (supplied_uids ps)) uid (map_has (λ (z : EntityUID × Option Entity). uid_of z.0) ps p d)) in
        sym row ∙ ap mentioned_there (answer_is p d ∙ ap x.store uid) ∙ mentions_stored x u a.0 a.1;
  }

-- an entity that is kept was supplied
pub kept_from : (ps : List (EntityUID × Option Entity)) (u : Uid) (k : Kept) → lookup (uid_eq u) (map kept_pair (supplied_entities ps)) ≡ Some k → (p : EntityUID × Option Entity) × (e : Entity) × Contains ps p × (p.1 ≡ Some e) × (entity_kept e ≡ k)
kept_from [] u k h = absurd (cc)
kept_from ((v, None) ∷ ps) u k h = let (p, e, c, is, at) = kept_from ps u k h in (p, e, contains_tail (v, None) ps p c, is, at)
kept_from ((v, Some d) ∷ ps) u k h = go (uid_eq u (entity_uid d)) h (kept_from ps u k)
  where
    rest : List (Uid × Kept)
    rest = map kept_pair (supplied_entities ps)

    go : (b : Bool) → cond b (Some (entity_kept d)) (lookup (uid_eq u) rest) ≡ Some k → (lookup (uid_eq u) rest ≡ Some k → (p : EntityUID × Option Entity) × (e : Entity) × Contains ps p × (p.1 ≡ Some e) × (entity_kept e ≡ k))
        → (p : EntityUID × Option Entity) × (e : Entity) × Contains ((v, Some d) ∷ ps) p × (p.1 ≡ Some e) × (entity_kept e ≡ k)
    go true q later = ((v, Some d), d, contains_head (v, Some d) ps, refl, cc)
    go false q later = let (p, e, c, is, at) = later q in (p, e, contains_tail (v, Some d) ps p c, is, at)
