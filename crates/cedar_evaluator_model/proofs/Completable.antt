-- A scope whose parts agree is completed by a world: names mean what they have to.
use Rattle.std.proofs.Common.{◌≡◌, ◌∙◌, ◌==◌, ◌++◌, Bool, true, false, cond, not, ◌&&◌, ◌||◌, List, [], ◌∷◌, Option, Some, None, codes, option_map, refl, sym, ap, subst}
use Rattle.std.specs.Prelude.{IsSome, unwrap_or}
use Rattle.std.specs.List.{list_all, list_any}
use Rattle.std.specs.Map.{lookup}
use Rattle.std.specs.Str.{bytes_eq}
use Rattle.std.proofs.lemmas.List.Folds.{list_any-append}
use Rattle.std.proofs.lemmas.Slice.Eq.{bytes_eq-Decides}
use Rattle.cedar_expr_model.specs.Name.{Text, Name, colons, name_text}
use Rattle.cedar_expr_model.specs.Uid.{Uid, uid_text}
use Rattle.cedar_expr_model.specs.Uids.{is_uid}
use Rattle.cedar_expr_model.specs.Value.{V, prim, entity, record_of, no_fields, truth_value}
use Rattle.cedar_expr_model.specs.Made.{Made, bare, bare_fields}
use Rattle.cedar_expr_model.specs.ValueParts.{Part, known, left}
use Rattle.cedar_expr_model.proofs.Lists.{both_hold}
use Rattle.cedar_expr_model.proofs.UidRead.{uid_read, uids_are_read}
use Rattle.cedar_expr_model.proofs.UidText.{inside, uid_text_is}
use Rattle.cedar_store_model.specs.World.{World, Entity, Found, held, missing, not_loaded, by_found}
use Rattle.cedar_store_model.specs.Knowledge.{IsWhole, IsSettled, is_known, holds_values}
use Rattle.cedar_store_model.specs.OfLaws.Extends.{Keeps}
use Rattle.cedar_evaluator_model.specs.Scope.{Scope, Entry, uid, unknown_uid, Context, closed, residual_fields, unknown_context}
use Rattle.cedar_evaluator_model.specs.Known.{known_part, known_parts, known_entity, known_found}
use Rattle.cedar_evaluator_model.specs.OfLaws.Whole.{HoldsValues}
use Rattle.cedar_evaluator_model.specs.OfLaws.Completing.{EntryMeans, ContextMeans, PartMeans, PartsMean, EntityMeans, FoundMeans, Completes, IsOfKind}
use Rattle.cedar_evaluator_model.specs.OfLaws.Completable.{has_quote, names_variable, is_free_name, EntryAgrees, ContextAgrees, Agree}

-- the text of a uid has a double quote
either_true : (a b : Bool) → (a || true) ≡ true
either_true true b = refl
either_true false b = refl

pub quote_in_uid : (u : Uid) → has_quote (uid_text u) ≡ true
quote_in_uid u =
    ap has_quote (uid_text_is u) ∙ list_any-append (λ b. b == 34) (name_text u.kind ++ colons) (34 ∷ inside u)
    ∙ either_true (list_any (λ b. b == 34) (name_text u.kind ++ colons)) true

-- What names mean in a world: a text of a uid that uid, the name of a variable its value, and any other what it means there.
abbrev pub some_entity : Option Uid → Option V
some_entity o = option_map (λ u. prim (entity u)) o

abbrev pub read_entity : Text → Option V
read_entity n = Some (unwrap_or (some_entity (uid_read n)) (truth_value false))

abbrev pub variable_means : World → Text → Option V
variable_means w n =
    cond (bytes_eq n (codes "principal")) (some_entity w.principal)
    (cond (bytes_eq n (codes "action")) (some_entity w.action)
    (cond (bytes_eq n (codes "resource")) (some_entity w.resource)
    (cond (bytes_eq n (codes "context")) w.context (w.unknowns n))))

abbrev pub name_means : World → Text → Option V
name_means w n = cond (has_quote n) (read_entity n) (variable_means w n)

abbrev pub named : World → World
named w = record w { unknowns = name_means w }

pub uid_is_named : (w : World) (u : Uid) → is_uid u ≡ true → name_means w (uid_text u) ≡ Some (prim (entity u))
uid_is_named w u h =
    ap (λ b. cond b (read_entity (uid_text u)) (variable_means w (uid_text u))) (quote_in_uid u)
    ∙ ap (λ o. Some (unwrap_or (some_entity o) (truth_value false))) (uids_are_read u h)

-- a choice that doesn't matter
pick : (b : Bool) (x y z : Option V) → (b ≡ true → x ≡ z) → (b ≡ false → y ≡ z) → cond b x y ≡ z
pick true x y z f g = f refl
pick false x y z f g = g refl

not_true : (b : Bool) → not b ≡ true → b ≡ false
not_true true e = cc
not_true false e = refl

none_of : (a b : Bool) → (a || b) ≡ false → (a ≡ false) × (b ≡ false)
none_of true b e = cc
none_of false b e = (refl, e)

clash : {P : Type 0} (b : Bool) → b ≡ false → b ≡ true → P
clash b e f = absurd (let k : true ≡ false = sym f ∙ e in cc)

pub free_is_kept : (w : World) (n : Text) → is_free_name n ≡ true → name_means w n ≡ w.unknowns n
free_is_kept w n h =
    let p = both_hold (not (has_quote n)) _ h in
    let q = not_true (has_quote n) p.0 in
    let a = none_of (bytes_eq n (codes "principal")) _ (not_true (names_variable n) p.1) in
    let b = none_of (bytes_eq n (codes "action")) _ a.1 in
    let c = none_of (bytes_eq n (codes "resource")) _ b.1 in
    let d = none_of (bytes_eq n (codes "context")) false c.1 in
    pick (has_quote n) _ _ _ (clash _ q) (λ e. pick (bytes_eq n (codes "principal")) _ _ _ (clash _ a.0)
    (λ e. pick (bytes_eq n (codes "action")) _ _ _ (clash _ b.0) (λ e. pick (bytes_eq n (codes "resource")) _ _ _ (clash _ c.0)
    (λ e. pick (bytes_eq n (codes "context")) _ _ _ (clash _ d.0) (λ e. refl)))))

-- a name is free, or has a quote, or is that of a variable
pub by_name : (P : Text → Type 0) → ((n : Text) → has_quote n ≡ true → P n) → P (codes "principal") → P (codes "action") → P (codes "resource") → P (codes "context")
    → ((n : Text) → is_free_name n ≡ true → P n) → (n : Text) → P n
by_name P q a b c d f n = quoted (has_quote n) refl
  where
    is : (m : Text) → bytes_eq n m ≡ true → P m → P n
    is m e p = subst P (sym ((bytes_eq-Decides n m).0 e)) p

    fourth : has_quote n ≡ false → (z : Bool) → bytes_eq n (codes "principal") ≡ false → bytes_eq n (codes "action") ≡ false → bytes_eq n (codes "resource") ≡ false → bytes_eq n (codes "context") ≡ z → P n
    fourth h true i j k e = is (codes "context") e d
    fourth h false i j k e = f n (λ t. not (h t) && not (i t || (j t || (k t || (e t || false)))))

    third : has_quote n ≡ false → (z : Bool) → bytes_eq n (codes "principal") ≡ false → bytes_eq n (codes "action") ≡ false → bytes_eq n (codes "resource") ≡ z → P n
    third h true i j e = is (codes "resource") e c
    third h false i j e = fourth h (bytes_eq n (codes "context")) i j e refl

    second : has_quote n ≡ false → (z : Bool) → bytes_eq n (codes "principal") ≡ false → bytes_eq n (codes "action") ≡ z → P n
    second h true i e = is (codes "action") e b
    second h false i e = third h (bytes_eq n (codes "resource")) i e refl

    first : has_quote n ≡ false → (z : Bool) → bytes_eq n (codes "principal") ≡ z → P n
    first h true e = is (codes "principal") e a
    first h false e = second h (bytes_eq n (codes "action")) e refl

    quoted : (z : Bool) → has_quote n ≡ z → P n
    quoted true e = q n e
    quoted false e = first e (bytes_eq n (codes "principal")) refl

-- where everything is known, each name means something
some_either : (b : Bool) (x y : Option V) → IsSome x → IsSome y → IsSome (cond b x y)
some_either true x y h k = h
some_either false x y h k = k

entity_there : (o : Option Uid) → IsSome o → IsSome (some_entity o)
entity_there None h = cc
entity_there (Some u) h = refl

pub named_whole : (w : World) → IsWhole w → IsWhole (named w)
named_whole w h = record {
  principal = h.principal;
  action = h.action;
  resource = h.resource;
  context = h.context;
  unknowns = λ n. some_either (has_quote n) _ _ refl
      (some_either (bytes_eq n (codes "principal")) _ _ (entity_there w.principal h.principal)
      (some_either (bytes_eq n (codes "action")) _ _ (entity_there w.action h.action)
      (some_either (bytes_eq n (codes "resource")) _ _ (entity_there w.resource h.resource)
      (some_either (bytes_eq n (codes "context")) _ _ h.context (h.unknowns n)))));
  store = h.store;
}

-- an entity of values means those values
part_here : (w : World) (b : Bool) (q : Part Made) (o : Option (Part Made)) (p : Option (Part V)) → is_known (known_part q) ≡ true → PartMeans w o p → PartMeans w (cond b (Some q) o) (cond b (Some (known_part q)) p)
part_here w true (known m) o p h r = refl
part_here w true (left t) o p h r = cc
part_here w false q o p h r = r

parts_mean : (w : World) (ps : List (Text × Part Made)) → list_all (λ (p : Text × Part V). is_known p.1) (known_parts ps) ≡ true → PartsMean w ps (known_parts ps)
parts_mean w [] h a = refl
parts_mean w (p ∷ ps) h a =
    let k = both_hold (is_known (known_part p.1)) (list_all (λ (q : Text × Part V). is_known q.1) (known_parts ps)) h in
    part_here w (bytes_eq a p.0) p.1 (lookup (bytes_eq a) ps) (lookup (bytes_eq a) (known_parts ps)) k.0 (parts_mean w ps k.1 a)

pub values_mean : (w : World) (e : Entity Made) → holds_values (known_entity e) ≡ true → EntityMeans w e (known_entity e)
values_mean w e h =
    let k = both_hold (list_all (λ (q : Text × Part V). is_known q.1) (known_parts e.attributes)) (list_all (λ (q : Text × Part V). is_known q.1) (known_parts e.tags)) h in
    record { attributes = parts_mean w e.attributes k.0; tags = parts_mean w e.tags k.1; ancestors = refl }

-- The store of a world is what the scope's is, as far as that is loaded.
abbrev pub FoundFits : Found Made → Found V → Type 0
FoundFits (held e) f = f ≡ held (known_entity e)
FoundFits missing f = f ≡ missing
FoundFits not_loaded f = Unit {0}

pub found_means : (w : World) (u : Uid) (f : Found Made) (g : Found V) → HoldsValues (known_found f) → (f ≡ not_loaded → is_uid u ≡ true) → FoundFits f g → FoundMeans (named w) u f g
found_means w u (held e) g h i k = (known_entity e, k, values_mean (named w) e h)
found_means w u missing g h i k = k
found_means w u not_loaded g h i k = uid_is_named w u (i refl)

-- the uid of an entry, one of its type where it is unknown
entry_uid : Entry → Uid
entry_uid (uid u) = u
entry_uid (unknown_uid (Some k)) = record { kind = k; id = [] }
entry_uid (unknown_uid None) = record { kind = record { path = []; base = [] }; id = [] }

of_kind : (k : Option Name) → IsOfKind k (entry_uid (unknown_uid k))
unfolding entry_uid
of_kind None = tt
of_kind (Some k) = refl

entry_means : (w : World) (n : Text) (e : Entry) (o : Option Uid) → o ≡ Some (entry_uid e) → name_means w n ≡ some_entity o → EntryMeans (named w) n e o
unfolding entry_uid
entry_means w n (uid u) o h k = h
entry_means w n (unknown_uid q) o h k = (entry_uid (unknown_uid q), h, of_kind q, k ∙ ap some_entity h)

module _ (s : Scope) (given : Text → V) where
  entry_keeps : (n : Text) (e : Entry) → EntryAgrees s n e → Keeps (option_map bare (s.values n)) (Some (prim (entity (entry_uid e))))
  unfolding entry_uid
  entry_keeps n (uid u) h = h
  entry_keeps n (unknown_uid k) h = subst (λ o. Keeps (option_map bare o) (Some (prim (entity (entry_uid (unknown_uid k)))))) (sym h) tt

  context_value : (c : Context) → ContextAgrees s given c → V
  context_value (closed fs) h = record_of (bare_fields fs)
  context_value (residual_fields fs) h = h.1.0
  context_value unknown_context h = record_of no_fields

  context_keeps : (c : Context) (h : ContextAgrees s given c) → Keeps (option_map bare (s.values (codes "context"))) (Some (context_value c h))
  unfolding context_value
  context_keeps (closed fs) h = h
  context_keeps (residual_fields fs) h = subst (λ o. Keeps (option_map bare o) (Some (h.1.0))) (sym h.0) tt
  context_keeps unknown_context h = subst (λ o. Keeps (option_map bare o) (Some (record_of no_fields))) (sym h) tt

  context_means : (w : World) → w.table ≡ s.table → ((n : Text) → w.unknowns n ≡ Some (given n)) → (c : Context) (h : ContextAgrees s given c) → w.context ≡ Some (context_value c h) → ContextMeans (named w) c w.context
  unfolding context_value
  context_means w t g (closed fs) h e = e
  context_means w t g (residual_fields fs) h e = (h.1.0, e, h.1.1 (named w) t (λ n f. free_is_kept w n f ∙ g n))
  context_means w t g unknown_context h e = (no_fields, e, e)

  settle : Found Made → Found V
  settle found = by_found (λ e. held (known_entity e)) missing missing found

  settled : (f : Found Made) → HoldsValues (known_found f) → IsSettled (settle f)
  unfolding settle
  settled (held e) h = h
  settled missing h = tt
  settled not_loaded h = tt

  settle_fits : (f : Found Made) → FoundFits f (settle f)
  unfolding settle
  settle_fits (held e) = refl
  settle_fits missing = refl
  settle_fits not_loaded = tt

  module _ (agree : Agree s given) where
    abbrev base : World
    base = record {
      principal = Some (entry_uid s.principal);
      action = Some (entry_uid s.action);
      resource = Some (entry_uid s.resource);
      context = Some (context_value s.context agree.context);
      slots = s.slots;
      unknowns = λ n. Some (given n);
      table = s.table;
      store = λ u. settle (s.store u);
    }

    base_whole : IsWhole base
    base_whole = record { principal = refl; action = refl; resource = refl; context = refl; unknowns = λ n. refl; store = λ u. settled (s.store u) (agree.store u) }

    kept : (n : Text) → Keeps (option_map bare (s.values n)) (name_means base n)
    kept = by_name (λ n. Keeps (option_map bare (s.values n)) (name_means base n))
        (λ n q. subst (λ o. Keeps (option_map bare o) (name_means base n)) (sym (agree.names n q)) tt)
        (entry_keeps (codes "principal") s.principal agree.principal)
        (entry_keeps (codes "action") s.action agree.action)
        (entry_keeps (codes "resource") s.resource agree.resource)
        (context_keeps s.context agree.context)
        (λ n f. subst (Keeps (option_map bare (s.values n))) (sym (free_is_kept base n f)) (agree.free n f))

    completes : Completes (named base) s
    completes = record {
      whole = named_whole base base_whole;
      principal = entry_means base (codes "principal") s.principal base.principal refl refl;
      action = entry_means base (codes "action") s.action base.action refl refl;
      resource = entry_means base (codes "resource") s.resource base.resource refl refl;
      context = context_means base refl (λ n. refl) s.context agree.context refl;
      slots = λ x. refl;
      unknowns = kept;
      table = refl;
      store = λ u. found_means base u (s.store u) (settle (s.store u)) (agree.store u) (agree.uids u) (settle_fits (s.store u));
    }

  pub completions_exist : Agree s given → (w : World) × Completes w s × ((n : Text) → is_free_name n ≡ true → w.unknowns n ≡ Some (given n))
  completions_exist agree = (named (base agree), completes agree, λ n f. free_is_kept (base agree) n f)
