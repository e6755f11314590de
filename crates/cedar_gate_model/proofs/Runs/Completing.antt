-- What was bound and answered by the end of an answered run makes a world that completes it.
use Rattle.std.proofs.Common.{◌≡◌, ◌∙◌, Bool, true, false, cond, not, ◌&&◌, ◌||◌, is_some, List, [], ◌∷◌, Option, Some, None, codes, inl, inr, ⊎_elim, ◌⊎◌, refl, sym, ap, subst, option_map, if◌then◌else◌}
use Rattle.std.specs.Prelude.{Contains, unwrap_or, is_none, IsSome}
use Rattle.std.specs.Option.{option_map_or}
use Rattle.std.specs.List.{list_any}
use Rattle.std.specs.Map.{lookup}
use Rattle.std.specs.Str.{bytes_eq}
use Rattle.std.proofs.lemmas.List.Elements.{Contains-append_cases}
use Rattle.std.proofs.lemmas.Slice.Eq.{bytes_eq-Decides}
use Rattle.cedar_expr_model.specs.Name.{Text, Name, name_eq}
use Rattle.cedar_expr_model.specs.Uid.{Uid}
use Rattle.cedar_expr_model.specs.Uids.{is_uid}
use Rattle.cedar_expr_model.specs.Value.{V, entity, record_of, Fields, truth_value}
use Rattle.cedar_expr_model.specs.Tree.{record_literal, TreeFields}
use Rattle.cedar_expr_model.specs.Made.{Made, made_prim, made_set, made_record, made_extension, bare, bare_fields}
use Rattle.cedar_expr_model.specs.Parts.{Unknown, unknowns}
use Rattle.cedar_expr_model.specs.Restricted.{is_restricted, offence}
use Rattle.cedar_expr_model.specs.Substitution.{substituted, fits_annotation}
use Rattle.cedar_expr_model.proofs.Lists.{contains_head, contains_tail, contains_cases, contains_none, any_from, map_has, found-Decides}
use Rattle.cedar_expr_model.proofs.Equality.{name_eq-Decides}
use Rattle.cedar_expr_model.proofs.CoreTypes.{fits-Decides}
use Rattle.cedar_store_model.specs.Outcome.{val}
use Rattle.cedar_store_model.specs.World.{Entity, Found, held, missing}
use Rattle.cedar_store_model.specs.Knowledge.{IsSettled, holds_values}
use Rattle.cedar_store_model.specs.OfLaws.Extends.{Keeps}
use Rattle.cedar_store_model.specs.Store.{found_as, if_uid, whole}
use Rattle.cedar_store_model.specs.Reads.{uid_of}
use Rattle.cedar_store_model.specs.Policy.{Policy}
use Rattle.cedar_store_model.specs.Answer.{Decision}
use Rattle.cedar_store_model.proofs.Meaning.{outcome_means}
use Rattle.cedar_schema_model.specs.Schema.{declares_action}
use Rattle.cedar_schema_model.specs.ActionEntities.{as_entity}
use Rattle.cedar_schema_model.specs.Conforming.{EntityConforms, entity_conforms, RequestConforms, request_conforms, open_part}
use Rattle.cedar_schema_model.proofs.Decls.Conforming.{entity_conforms-Decides, request_conforms-Decides}
use Rattle.cedar_evaluator_model.specs.Completion.{PartIs, Fits}
use Rattle.cedar_evaluator_model.specs.Known.{known_entry, known_context}
use Rattle.cedar_evaluator_model.specs.Scope.{Entry, uid, unknown_uid, Context, closed, residual_fields, unknown_context, Left, value_left, residual, stopped}
use Rattle.cedar_evaluator_model.specs.OfLaws.Calls.{Agrees}
use Rattle.cedar_evaluator_model.specs.OfLaws.WellMade.{IsWellMade, IsMadeWell}
use Rattle.cedar_evaluator_model.proofs.Residuals.Slots.{substituted_outcome}
use Rattle.cedar_gate_model.specs.Moment.{EntryCompleted, ContextCompleted, Completes, request_of}
use Rattle.cedar_evaluator_model.specs.Functions.{with_functions}
use Rattle.cedar_gate_model.specs.Session.{Setup, State, at_start, IsWantedNow, value_of, uid_in, context_left, entry_now, context_now, whole_store, world_now, context_unknowns, variable_names, OpenRefusal, OpenFault, name_of_variable, entry_named, is_open_entry, is_open_context, IsOtherKind, IsNoRecord, with_bound, BindRefusal, BindFault, not_open, against_annotation, no_entity_or_record, SupplyRefusal, SupplyFault, wrong_entity, AnswerRefusal, AnswerFault, not_bound, not_conforming, MeansBound, CompletesNow}
use Rattle.cedar_gate_model.specs.Transcript as transcript
use Rattle.cedar_gate_model.specs.Transcript.{round, bound, decided}
use Rattle.cedar_gate_model.specs.Runs.{with_asked, supplied_by}
use Rattle.cedar_gate_model.specs.RunLaws.{last_state}
use Rattle.cedar_gate_model.specs.RunsAsk.{IsMadeContext}
use Rattle.cedar_gate_model.specs.RunsAnswer.{with_unknowns}
use Rattle.cedar_typechecker_model.specs.Slice.{InSlice}
use Rattle.cedar_gate_model.proofs.Gate.Slices.{near_kept}
use Rattle.cedar_evaluator_model.proofs.Restricted.{none_is, substituted_restricted}
use Rattle.cedar_gate_model.proofs.Runs.Contexts.{was_open, binding_grows, entry_value, value_is_valued, bound_context, left_context}
use Rattle.cedar_gate_model.proofs.Runs.Did.{Did}
use Rattle.cedar_gate_model.proofs.Runs.Loading.{slice_is_loaded}
use Rattle.cedar_gate_model.proofs.Runs.Restricted.{value_is_meant}
use Rattle.cedar_gate_model.proofs.Named.{IsNoEntity, BreaksAnnotation}
use Rattle.cedar_evaluator_model.specs.OfLaws.Completing.{IsOfKind}

is_true : (b : Bool) → (b ≡ false → ⊥) → b ≡ true
is_true true h = refl
is_true false h = absurd (h refl)

-- the name of a variable is one
pub any_name : (n : Text) → list_any (bytes_eq n) variable_names ≡ true → Contains variable_names n
any_name n e = (found-Decides bytes_eq bytes_eq-Decides n variable_names).0 e

-- what isn't refused where its absence is refused holds
held_true : {P : Type 0} (b : Bool) → (b ≡ true → P) → (P → b ≡ true) → ((P → ⊥) → ⊥) → P
held_true true f g h = f refl
held_true false f g h = absurd (h (λ p. let k = g p in cc))

pub neither : (a b : Bool) → (a || b) ≡ false → (a ≡ false) × (b ≡ false)
neither true b e = cc
neither false b e = (refl, e)

is_there : {A : Type 0} (o : Option A) → is_none o ≡ false → IsSome o
is_there None e = cc
is_there (Some a) e = refl

-- a value that is found stands under its name
pub found_bound : (bs : List (Text × Made)) (n : Text) (m : Made) → lookup (bytes_eq n) bs ≡ Some m → (b : Text × Made) × Contains bs b × (b.0 ≡ n) × (b.1 ≡ m)
found_bound [] n m e = cc
found_bound (b ∷ bs) n m e = by_test (bytes_eq n b.0) refl e (found_bound bs n m)
  where
    by_test : (t : Bool) → bytes_eq n b.0 ≡ t → cond t (Some b.1) (lookup (bytes_eq n) bs) ≡ Some m → (lookup (bytes_eq n) bs ≡ Some m → (c : Text × Made) × Contains bs c × (c.0 ≡ n) × (c.1 ≡ m))
        → (c : Text × Made) × Contains (b ∷ bs) c × (c.0 ≡ n) × (c.1 ≡ m)
    by_test true q k rest = (b, contains_head b bs, sym ((bytes_eq-Decides n b.0).0 q), cc)
    by_test false q k rest = let r = rest k in (r.0, contains_tail b bs r.0 r.1, r.2, r.3)

module _ (x : Setup) where
  -- What a binding that is taken says of its name and its value, whatever the state.
  pub record IsTaken (n : Text) (m : Made) : Type 0 where
    pub was_open : (is_open_entry (entry_named x.start n) || is_open_context x.start.context n) ≡ true
    pub annotated : IsOtherKind (entry_named x.start n) m ⊎ BreaksAnnotation x.start.context n m → ⊥
    pub right : IsNoEntity (entry_named x.start n) m ⊎ ((n ≡ codes "context") × IsNoRecord m) → ⊥

  open_name : (o : Option Made) (b : Bool) → ((not (is_some o) && b) ≡ false → ⊥) → b ≡ true
  open_name (Some m) b h = absurd (h refl)
  open_name None true h = refl
  open_name None false h = absurd (h refl)

  taken : (s : State) (n : Text) (m : Made) → ((f : BindRefusal) → BindFault x s n m f → ⊥) → IsTaken n m
  taken s n m h = record {
    was_open = open_name (value_of s n) (is_open_entry (entry_named x.start n) || is_open_context x.start.context n) (h not_open);
    annotated = h against_annotation;
    right = h no_entity_or_record;
  }

  -- Each name that is bound has its value, which was taken and is well made; and what was answered conforms.
  pub record Stands (s : State) : Type 0 where
    pub values : (b : Text × Made) → Contains s.bound b → value_of s b.0 ≡ Some b.1
    pub each : (b : Text × Made) → Contains s.bound b → IsTaken b.0 b.1 × IsWellMade x.functions.table b.1
    pub conform : (u : Uid) (e : Entity V) → Contains s.asked u → x.store u ≡ Some e → EntityConforms x.schema u e

  pub stands_at_start : Stands at_start
  stands_at_start = record { values = λ b k. absurd (contains_none b k); each = λ b k. absurd (contains_none b k); conform = λ u e k. absurd (contains_none u k) }

  supplied_conform : (s : State) (uids : List Uid) → ((f : SupplyRefusal) → SupplyFault x s (supplied_by x uids) f → ⊥) → (u : Uid) (e : Entity V) → Contains uids u → x.store u ≡ Some e → EntityConforms x.schema u e
  supplied_conform s uids ok u e k q =
      let d = entity_conforms-Decides x.schema u e in
      let there : Contains (supplied_by x uids) (u, Some (u, e)) = subst (λ o. Contains (supplied_by x uids) (u, option_map (λ f. (u, f)) o)) q (map_has (λ v. (v, option_map (λ f. (v, f)) (x.store v))) uids u k) in
      held_true (entity_conforms x.schema u e) d.0 d.1 (λ no. ok wrong_entity ((u, Some (u, e)), there, inr no))

  pub asked_more : (s : State) (uids : List Uid) → ((f : SupplyRefusal) → SupplyFault x s (supplied_by x uids) f → ⊥) → Stands s → Stands (with_asked s uids)
  asked_more s uids ok h = record {
    values = h.values;
    each = h.each;
    conform = λ u e k q. ⊎_elim (λ a. h.conform u e a q) (λ a. supplied_conform s uids ok u e a q) (Contains-append_cases s.asked uids u k);
  }

  pub head_value : (s : State) (n : Text) (m : Made) → value_of (with_bound s n m) n ≡ Some m
  head_value s n m = ap (λ t. cond t (Some m) (value_of s n)) ((bytes_eq-Decides n n).1 refl)

  pub bound_more : (s : State) (b : Text × Made) → ((f : BindRefusal) → BindFault x s b.0 b.1 f → ⊥) → IsWellMade x.functions.table b.1 → Stands s → Stands (with_bound s b.0 b.1)
  bound_more s b ok well h = record {
    values = λ c k. contains_cases (value_of (with_bound s b.0 b.1) c.0 ≡ Some c.1) b s.bound c k
        (λ e. subst (λ z. value_of (with_bound s b.0 b.1) z.0 ≡ Some z.1) e (head_value s b.0 b.1))
        (λ a. binding_grows s b.0 b.1 (was_open x s b.0 b.1 ok) c.0 c.1 (h.values c a));
    each = λ c k. contains_cases (IsTaken c.0 c.1 × IsWellMade x.functions.table c.1) b s.bound c k
        (λ e. subst (λ z. IsTaken z.0 z.1 × IsWellMade x.functions.table z.1) e (taken s b.0 b.1 ok, well))
        (h.each c);
    conform = h.conform;
  }

  pub stands_after : (may : State → Option Decision → Type 0) (ps : List Policy) (s : State) (bs : List (Text × Made)) (es : List transcript.Entry) → ((b : Text × Made) → Contains bs b → IsWellMade x.functions.table b.1) → Did may x ps s bs es → Stands s
      → Stands (last_state s bs es)
  stands_after may ps s bs [] well d h = h
  stands_after may ps s bs (round uids ∷ es) well d h = stands_after may ps (with_asked s uids) bs es well d.1 (asked_more s uids (d.0).taken h)
  stands_after may ps s [] (bound k ∷ es) well d h = absurd d
  stands_after may ps s (b ∷ bs) (bound k ∷ es) well d h =
      stands_after may ps (with_bound s b.0 b.1) bs es (λ c m. well c (contains_tail b bs c m)) d.2 (bound_more s b d.1 (well b (contains_head b bs)) h)
  stands_after may ps s bs (decided o ∷ es) well d h = stands_after may ps s bs es well d.1 h

  module _ (t : State) (stands : Stands t) where
    pub taken_value : (n : Text) (m : Made) → value_of t n ≡ Some m → IsTaken n m × IsWellMade x.functions.table m
    taken_value n m e =
        let r = found_bound t.bound n m e in
        let h = stands.each r.0 r.1 in
        (subst (λ z. IsTaken z m) r.2 (subst (IsTaken (r.0).0) r.3 h.0), subst (IsWellMade x.functions.table) r.3 h.1)

    -- entries
    right_kind : (n : Text) (k : Option Name) (u : Uid) → entry_named x.start n ≡ Some (unknown_uid k) → (IsOtherKind (entry_named x.start n) (made_prim (entity u)) → ⊥) → IsOfKind k u
    right_kind n None u q h = tt
    right_kind n (Some k) u q h =
        let other : name_eq u.kind k ≡ false → ⊥ = subst (λ z. IsOtherKind z (made_prim (entity u)) → ⊥) q h in
        (name_eq-Decides u.kind k).0 (is_true (name_eq u.kind k) other)

    value_entry : (n : Text) (k : Option Name) → entry_named x.start n ≡ Some (unknown_uid k) → (o : Option Made) → value_of t n ≡ o → IsSome (known_entry (option_map_or uid (uid_in o) (unknown_uid k)))
        → EntryCompleted (unknown_uid k) (known_entry (option_map_or uid (uid_in o) (unknown_uid k)))
    value_entry n k q None e i = cc
    value_entry n k q (Some (made_prim (entity u))) e i = (u, refl, right_kind n k u q (λ h. ((taken_value n (made_prim (entity u)) e).0).annotated (inl h)))
    value_entry n k q (Some m) e i = cc

    pub entry_completed : (n : Text) (e : Entry) → entry_named x.start n ≡ Some e → IsSome (known_entry (entry_now t n e)) → EntryCompleted e (known_entry (entry_now t n e))
    entry_completed n (uid u) q i = refl
    entry_completed n (unknown_uid k) q i = value_entry n k q (value_of t n) refl i

    -- what a bound variable means
    pub no_name_of_variable : ((f : OpenRefusal) → OpenFault x.start f → ⊥) → (n : Text) → Contains variable_names n → bytes_eq n (codes "context") ≡ false → (c : Context) → x.start.context ≡ c → is_open_context c n ≡ true → ⊥
    no_name_of_variable opened n v f (closed fs) q e = cc
    no_name_of_variable opened n v f (residual_fields fs) q e =
        let r = any_from (λ (u : Unknown). bytes_eq n u.name) (unknowns (record_literal fs)) e in
        opened name_of_variable (r.0, subst (λ c. Contains (context_unknowns c) r.0) (sym q) r.1, subst (Contains variable_names) ((bytes_eq-Decides n (r.0).name).0 r.2) v)
    no_name_of_variable opened n v f unknown_context q e = cc

    open_case : (a b : Bool) → (a || b) ≡ true → (b ≡ true → ⊥) → a ≡ true
    open_case true b e h = refl
    open_case false b e h = absurd (h e)

    entry_value_is : (n : Text) (m : Made) (e : Entry) → is_open_entry (Some e) ≡ true → value_of t n ≡ Some m → known_entry (entry_now t n e) ≡ uid_of (bare m)
    entry_value_is n m (uid u) o q = cc
    entry_value_is n m (unknown_uid k) o q = entry_value k (uid_in (value_of t n)) ∙ ap uid_in q

    variable_means : ((f : OpenRefusal) → OpenFault x.start f → ⊥) → (n : Text) (e : Entry) → Contains variable_names n → bytes_eq n (codes "context") ≡ false → entry_named x.start n ≡ Some e → (b : Text × Made) → Contains t.bound b → b.0 ≡ n
        → known_entry (entry_now t n e) ≡ uid_of (bare b.1)
    variable_means opened n e v f q b k s =
        let h = subst (λ z. (is_open_entry (entry_named x.start z) || is_open_context x.start.context z) ≡ true) s ((stands.each b k).0).was_open in
        let o = open_case (is_open_entry (entry_named x.start n)) (is_open_context x.start.context n) h (no_name_of_variable opened n v f x.start.context refl) in
        entry_value_is n b.1 e (subst (λ z. is_open_entry z ≡ true) q o) (subst (λ z. value_of t z ≡ Some b.1) s (stands.values b k))

    record_context : (m : Made) → (IsNoRecord m → ⊥) → known_context (bound_context (Some m)) ≡ Some (bare m)
    record_context (made_record fs) h = refl
    record_context (made_prim p) h = absurd (h tt)
    record_context (made_set ms) h = absurd (h tt)
    record_context (made_extension n k f ps) h = absurd (h tt)

    context_means : ((f : OpenRefusal) → OpenFault x.start f → ⊥) → (m : Made) → (IsNoRecord m → ⊥) → value_of t (codes "context") ≡ Some m → (c : Context) → x.start.context ≡ c → is_open_context c (codes "context") ≡ true
        → known_context (context_now x.functions t c) ≡ Some (bare m)
    context_means opened m h e (closed fs) q o = cc
    context_means opened m h e (residual_fields fs) q o =
        let r = any_from (λ (u : Unknown). bytes_eq (codes "context") u.name) (unknowns (record_literal fs)) o in
        absurd (opened name_of_variable (
          r.0,
          subst (λ c. Contains (context_unknowns c) r.0) (sym q) r.1,
          subst (Contains variable_names) ((bytes_eq-Decides (codes "context") (r.0).name).0 r.2) (any_name (codes "context") refl),
        ))
    context_means opened m h e unknown_context q o = ap (λ z. known_context (bound_context z)) e ∙ record_context m h

    pub bound_means : ((f : OpenRefusal) → OpenFault x.start f → ⊥) → (b : Text × Made) → Contains t.bound b → MeansBound (with_unknowns (world_now x t)) b
    bound_means opened b k = (
      ap (λ o. Some (unwrap_or (option_map bare o) (truth_value false))) (stands.values b k),
      (
        (λ s. variable_means opened (codes "principal") x.start.principal (any_name (codes "principal") refl) refl refl b k s),
        (λ s. variable_means opened (codes "action") x.start.action (any_name (codes "action") refl) refl refl b k s),
        (λ s. variable_means opened (codes "resource") x.start.resource (any_name (codes "resource") refl) refl refl b k s),
        (λ s.
            let h = (stands.each b k).0 in
            let o = subst (λ z. (is_open_entry (entry_named x.start z) || is_open_context x.start.context z) ≡ true) s h.was_open in
            context_means opened b.1 (λ no. h.right (inr (s, no))) (subst (λ z. value_of t z ≡ Some b.1) s (stands.values b k)) x.start.context refl o),
      ),
    )

    -- contexts
    value_context : (o : Option Made) → IsSome (known_context (bound_context o)) → (fs : Fields) × (known_context (bound_context o) ≡ Some (record_of fs))
    value_context None i = cc
    value_context (Some (made_record fs)) i = (bare_fields fs, refl)
    value_context (Some m) i = cc

    left_value : (l : Left) → IsSome (known_context (left_context l)) → (gs : _) × (l ≡ value_left (made_record gs))
    left_value (value_left (made_record gs)) i = (gs, refl)
    left_value (value_left m) i = cc
    left_value (residual (record_literal fs)) i = cc
    left_value (residual r) i = cc
    left_value (stopped why) i = cc

    keeps_filled : (o : Option V) → Keeps o (Some (unwrap_or o (truth_value false)))
    keeps_filled None = tt
    keeps_filled (Some v) = refl

    well_valued : (n : Text) (o : Option Made) → value_of t n ≡ o → IsMadeWell x.functions.table o
    well_valued n None e = tt
    well_valued n (Some m) e = (taken_value n m e).1

    module _ (agrees : Agrees (with_functions x.functions)) where
      part_is : (fs : TreeFields) (m : Made) → x.start.context ≡ residual_fields fs → is_restricted (record_literal fs) ≡ true → context_left x.functions t fs ≡ value_left m → PartIs (with_unknowns (world_now x t)) (record_literal fs) (bare m)
      part_is fs m q r e =
          let env = value_of t in
          let tree = record_literal fs in
          let w = with_unknowns (world_now x t) in
          let clear = none_is (offence tree) r in (
            λ slots.
                let u = record w { slots = slots } in
                outcome_means u tree (val (bare m))
                (substituted_outcome u env (λ n. well_valued n (env n) refl) (λ n. keeps_filled (option_map bare (env n))) tree
                ∙ value_is_meant (with_functions x.functions) u agrees (λ n. refl) refl 512 (substituted env tree) (substituted_restricted env tree clear) m e),
            λ u k.
                let v = value_is_valued x.functions env tree r m e u k in
                let h = (taken_value u.name v.0 v.1).0 in
                let fits : fits_annotation u.annotation (bare v.0) ≡ true = is_true (fits_annotation u.annotation (bare v.0)) (λ f. h.annotated (inr (u, subst (λ c. Contains (context_unknowns c) u) (sym q) k, refl, f))) in
                subst (λ o. Fits u.annotation (Some (unwrap_or (option_map bare o) (truth_value false)))) (sym v.1) ((fits-Decides u.annotation (bare v.0)).0 fits),
          )

      pub context_completed : (c : Context) → x.start.context ≡ c → IsMadeContext c → IsSome (known_context (context_now x.functions t c)) → ContextCompleted (with_unknowns (world_now x t)) c
      context_completed (closed fs) q made i = ap (λ z. known_context (context_now x.functions t z)) q
      context_completed (residual_fields fs) q made i =
          let l = left_value (context_left x.functions t fs) i in
          let e = ap (λ z. known_context (context_now x.functions t z)) q ∙ ap (λ z. known_context (left_context z)) l.1 in
          (record_of (bare_fields l.0), e, part_is fs (made_record l.0) q made.1 l.1)
      context_completed unknown_context q made i =
          let v = value_context (value_of t (codes "context")) i in
          (v.0, ap (λ z. known_context (context_now x.functions t z)) q ∙ v.1)

  -- the store
  found_held : (i : Bool) (o : Option (Entity V)) (e : Entity V) → cond i (found_as whole o) missing ≡ held e → o ≡ Some e
  found_held true None e q = cc
  found_held true (Some d) e q = let k : d ≡ e = cc in ap Some k
  found_held false o e q = cc

  settled_if : (i : Bool) (f : Found V) → IsSettled f → IsSettled (cond i f missing)
  settled_if true f h = h
  settled_if false f h = tt

  settled_case : ((u : Uid) (e : Entity V) → x.store u ≡ Some e → holds_values e ≡ true) → (u : Uid) (o : Option (Entity V)) → x.store u ≡ o → IsSettled (found_as whole o)
  settled_case h u None q = tt
  settled_case h u (Some e) q = h u e q

  settled : ((u : Uid) (e : Entity V) → x.store u ≡ Some e → holds_values e ≡ true) → (u : Uid) (b : Bool) → IsSettled (if b then held (as_entity x.schema u) else if_uid u (found_as whole (x.store u)))
  settled h u true = refl
  settled h u false = settled_if (is_uid u) (found_as whole (x.store u)) (settled_case h u (x.store u) refl)

  -- what is no uid and no declared action is missing
  pub none_there : (u : Uid) → declares_action x.schema u ≡ false → is_uid u ≡ false → whole_store x u ≡ missing
  none_there u d i = ap (λ b. if b then held (as_entity x.schema u) else if_uid u (found_as whole (x.store u))) d ∙ ap (λ b. cond b (found_as whole (x.store u)) missing) i

  pub store_settled : ((u : Uid) (e : Entity V) → x.store u ≡ Some e → holds_values e ≡ true) → (u : Uid) → IsSettled (whole_store x u)
  store_settled h u = settled h u (declares_action x.schema u)

  module _ (t : State) (stands : Stands t) (nothing : (u : Uid) → IsWantedNow x t u → ⊥) (fine : (f : AnswerRefusal) → AnswerFault x t f → ⊥) where
    pub request_conforms_now : RequestConforms x.schema (request_of (world_now x t))
    request_conforms_now =
        let d = request_conforms-Decides x.schema (request_of (world_now x t)) in
        held_true (request_conforms x.schema (request_of (world_now x t))) d.0 d.1 (λ no. fine not_conforming (fine not_bound, no))

    pub parts_there : IsSome (world_now x t).principal × IsSome (world_now x t).action × IsSome (world_now x t).resource × IsSome (world_now x t).context
    parts_there =
        let w = world_now x t in
        let h = neither (is_none w.principal || is_none w.action) (is_none w.resource || is_none w.context) (request_conforms_now open_part) in
        let a = neither (is_none w.principal) (is_none w.action) h.0 in
        let b = neither (is_none w.resource) (is_none w.context) h.1 in
        (is_there w.principal a.0, is_there w.action a.1, is_there w.resource b.0, is_there w.context b.1)

    pub slice_conforms : (u : Uid) (e : Entity V) → InSlice x.schema x.level (world_now x t) u → (world_now x t).store u ≡ held e → EntityConforms x.schema u e
    slice_conforms u e h q =
        stands.conform u e (slice_is_loaded x.schema (world_now x t) x.level t.asked nothing u h)
        (found_held (is_uid u) (x.store u) e (sym (ap (λ b. if b then held (as_entity x.schema u) else if_uid u (found_as whole (x.store u))) h.1) ∙ q))

    pub completed : ((f : OpenRefusal) → OpenFault x.start f → ⊥) → Agrees (with_functions x.functions) → IsMadeContext x.start.context → ((u : Uid) (e : Entity V) → x.store u ≡ Some e → holds_values e ≡ true)
        → CompletesNow x t (with_unknowns (world_now x t))
    completed opened agrees made values =
        let w = with_unknowns (world_now x t) in
        let p = parts_there in
        let all : Completes x.schema x.functions.table x.level x.start w =
        record {
          whole = record { principal = p.0; action = p.1; resource = p.2; context = p.3; unknowns = λ n. refl; store = store_settled values };
          principal = entry_completed t stands (codes "principal") x.start.principal refl p.0;
          action = entry_completed t stands (codes "action") x.start.action refl p.1;
          resource = entry_completed t stands (codes "resource") x.start.resource refl p.2;
          context = context_completed t stands agrees x.start.context refl made p.3;
          table = refl;
          request = request_conforms_now;
          actions = λ u a. ap (λ b. if b then held (as_entity x.schema u) else if_uid u (found_as whole (x.store u))) a;
          uids = none_there;
          slice = λ u e h q. slice_conforms u e (near_kept w (world_now x t) (λ v k. k) (λ v y k. k) x.level u h.0, h.1) q;
        }
        in
        record { request = all; bound = bound_means t stands opened; asked = λ u k. refl }
