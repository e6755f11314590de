-- What names mean in a world that completes a state of a session.
use Rattle.std.proofs.Common.{◌≡◌, ◌∙◌, ◌==◌, ◌&&◌, ◌||◌, Bool, true, false, cond, not, List, [], ◌∷◌, Option, Some, None, codes, option_map, inl, inr, ⊎_elim, ◌⊎◌, refl, sym, ap, subst}
use Rattle.std.specs.Prelude.{Contains, IsSome}
use Rattle.std.specs.Option.{option_map_or}
use Rattle.std.specs.Str.{bytes_eq}
use Rattle.std.proofs.lemmas.Bool.Decides.{Decides-eqb}
use Rattle.std.proofs.lemmas.Slice.Eq.{bytes_eq-Decides}
use Rattle.cedar_expr_model.specs.Name.{Text}
use Rattle.cedar_expr_model.specs.Uid.{Uid}
use Rattle.cedar_expr_model.specs.Lists.{when}
use Rattle.cedar_expr_model.specs.Value.{V, prim, entity, record_of, Fields}
use Rattle.cedar_expr_model.specs.Canonical.{set_made}
use Rattle.cedar_expr_model.specs.Tree.{Tree, lit, unknown, call, set_literal, record_literal, Trees, no_trees, tree, TreeFields, no_tree_fields, tree_field}
use Rattle.cedar_expr_model.specs.Value.{field}
use Rattle.cedar_expr_model.specs.Made.{Made, bare, bare_fields}
use Rattle.cedar_expr_model.specs.Parts.{Unknown, unknowns, subexpressions, subexpressions_among, subexpressions_in_fields}
use Rattle.cedar_expr_model.specs.Restricted.{offence}
use Rattle.cedar_expr_model.proofs.Lists.{contains_none, any_from, found-Decides}
use Rattle.cedar_store_model.specs.Outcome.{Res, val, bind}
use Rattle.cedar_store_model.specs.World.{World, Found}
use Rattle.cedar_store_model.specs.Operators.{called}
use Rattle.cedar_store_model.specs.Meaning.{outcome_of, outcomes_of, field_outcomes_of}
use Rattle.cedar_store_model.specs.Knowledge.{IsWhole}
use Rattle.cedar_store_model.specs.OfLaws.Extends.{Keeps}
use Rattle.cedar_store_model.specs.Reads.{uid_of}
use Rattle.cedar_store_model.proofs.Meaning.{means_outcome}
use Rattle.cedar_evaluator_model.specs.OfLaws.Completable.{has_quote, names_variable, is_free_name}
use Rattle.cedar_evaluator_model.specs.OfLaws.Completing.{EntryMeans, ContextMeans}
use Rattle.cedar_evaluator_model.specs.Scope.{Entry, uid, unknown_uid, Context, closed, residual_fields, unknown_context}
use Rattle.cedar_evaluator_model.proofs.Completable.{some_entity, name_means, named, free_is_kept, by_name}
use Rattle.cedar_gate_model.specs.Moment.{EntryCompleted, ContextCompleted}
use Rattle.cedar_gate_model.specs.Session.{Setup, State, value_of, uid_in, entry_now, variable_names, context_unknowns, OpenRefusal, OpenFault, quote_in_name, name_of_variable, entry_named, is_open_entry, is_open_context, ContextFails, context_fails, MeansBound, CompletesNow}
use Rattle.cedar_gate_model.specs.RunsAnswer.{AreBound}
use Rattle.cedar_gate_model.proofs.Gate.LegalRuns.{bound_or_open}
use Rattle.cedar_evaluator_model.proofs.Restricted.{feature_of, no_feature_split}
use Rattle.cedar_gate_model.proofs.Runs.Completing.{Stands, stands_at_start, bound_more, taken_value}

-- a restricted expression looks nothing up
module _ (w : World) (st : Uid → Found V) where
  mutual
    pub no_store : (t : Tree) → offence t ≡ None → outcome_of (record w { store = st }) t ≡ outcome_of w t
    no_store (lit p) r = refl
    no_store (unknown n a) r = refl
    no_store (call f ts) r = λ i. bind (no_store_among ts r i) (called w.table w.unknowns f)
    no_store (set_literal ts) r = λ i. bind (no_store_among ts r i) (λ vs. Some (val (set_made vs)))
    no_store (record_literal fs) r = λ i. bind (no_store_fields fs r i) (λ vs. Some (val (record_of vs)))
    no_store t r = cc

    pub no_store_among : (ts : Trees) → feature_of (subexpressions_among ts) ≡ None → outcomes_of (record w { store = st }) ts ≡ outcomes_of w ts
    no_store_among no_trees r = refl
    no_store_among (tree t ts) r =
        let p = no_feature_split (subexpressions t) (subexpressions_among ts) r in
        λ i. bind (no_store t p.0 i) (λ v. bind (no_store_among ts p.1 i) (λ vs. Some (val (v ∷ vs))))

    pub no_store_fields : (fs : TreeFields) → feature_of (subexpressions_in_fields fs) ≡ None → field_outcomes_of (record w { store = st }) fs ≡ field_outcomes_of w fs
    no_store_fields no_tree_fields r = refl
    no_store_fields (tree_field a t fs) r =
        let p = no_feature_split (subexpressions t) (subexpressions_in_fields fs) r in
        λ i. bind (no_store t p.0 i) (λ v. bind (no_store_fields fs p.1 i) (λ vs. Some (val (field a v vs))))

-- a record means a record
pub record_meant : (o : Option (Res Fields)) (v : V) → bind o (λ vs. Some (val (record_of vs))) ≡ Some (val v) → (fs : Fields) × (v ≡ record_of fs)
record_meant None v e = cc
record_meant (Some (val fs)) v e = (fs, cc)
record_meant (Some r) v e = cc

-- a value that is a uid
pub is_entity : (v : V) (u : Uid) → uid_of v ≡ Some u → v ≡ prim (entity u)
is_entity (prim (entity k)) u e = let q : k ≡ u = cc in ap (λ z. prim (entity z)) q
is_entity v u e = cc

pub there : {A : Type 0} (o : Option A) → IsSome o → (a : A) × (o ≡ Some a)
there None h = cc
there (Some a) h = (a, refl)

pub when_is : {A : Type 0} (b : Bool) (o : Option A) (a : A) → Some a ≡ when b o → o ≡ Some a
when_is true o a e = sym e
when_is false o a e = cc

pub no_lie : {P : Type 0} → true ≡ false → P
no_lie e = cc

module _ (x : Setup) (opened : (f : OpenRefusal) → OpenFault x.start f → ⊥) where
  -- what is bound stands, whatever was asked for
  abbrev pub stripped : List (Text × Made) → State
  stripped bs = record { bound = bs; asked = [] }

  pub stands_of : (bs : List (Text × Made)) → AreBound x bs → Stands x (stripped bs)
  stands_of [] h = stands_at_start x
  stands_of (b ∷ bs) h = bound_more x (stripped bs) b h.1 h.2 (stands_of bs h.0)

  pub sound_of : (bs : List (Text × Made)) → AreBound x bs → (bs ≡ []) ⊎ (ContextFails x.functions (stripped bs) x.start.context → ⊥)
  sound_of [] h = inl refl
  sound_of (b ∷ bs) h = inr (h.1 context_fails)

  -- unknowns of the context have names of their own
  pub free_in_context : (fs : TreeFields) → x.start.context ≡ residual_fields fs → (u : Unknown) → Contains (unknowns (record_literal fs)) u → is_free_name u.name ≡ true
  free_in_context fs e u k = by_test (has_quote u.name) (names_variable u.name) refl refl
    where
      there_too : Contains (context_unknowns x.start.context) u
      there_too = subst (λ c. Contains (context_unknowns c) u) (sym e) k

      quoted : has_quote u.name ≡ true → Contains u.name 34
      quoted h = let r = any_from (λ b. b == 34) u.name h in subst (Contains u.name) ((Decides-eqb r.0 34).0 r.2) r.1

      by_test : (a b : Bool) → has_quote u.name ≡ a → names_variable u.name ≡ b → is_free_name u.name ≡ true
      by_test true b p q = absurd (opened quote_in_name (u, there_too, quoted p))
      by_test false true p q = absurd (opened name_of_variable (u, there_too, (found-Decides bytes_eq bytes_eq-Decides u.name variable_names).0 q))
      by_test false false p q = λ i. not (p i) && not (q i)

  -- no name with a quote is open
  pub other_name : (n k : Text) → has_quote n ≡ true → has_quote k ≡ false → bytes_eq n k ≡ false
  other_name n k h q = by_test (bytes_eq n k) refl
    where
      by_test : (b : Bool) → bytes_eq n k ≡ b → b ≡ false
      by_test false e = refl
      by_test true e = no_lie (sym h ∙ ap has_quote ((bytes_eq-Decides n k).0 e) ∙ q)

  pub no_entry : (n : Text) → has_quote n ≡ true → entry_named x.start n ≡ None
  no_entry n h =
      ap (λ b. cond b (Some x.start.principal) (cond (bytes_eq n (codes "action")) (Some x.start.action) (cond (bytes_eq n (codes "resource")) (Some x.start.resource) None))) (other_name n (codes "principal") h refl)
      ∙ ap (λ b. cond b (Some x.start.action) (cond (bytes_eq n (codes "resource")) (Some x.start.resource) None)) (other_name n (codes "action") h refl)
      ∙ ap (λ b. cond b (Some x.start.resource) None) (other_name n (codes "resource") h refl)

  pub no_context_name : (n : Text) → has_quote n ≡ true → (c : Context) → x.start.context ≡ c → is_open_context c n ≡ true → ⊥
  no_context_name n h (closed fs) e o = cc
  no_context_name n h (residual_fields fs) e o =
      let r = any_from (λ (u : Unknown). bytes_eq n u.name) (unknowns (record_literal fs)) o in
      let q = any_from (λ b. b == 34) (r.0).name (ap has_quote (sym ((bytes_eq-Decides n (r.0).name).0 r.2)) ∙ h) in
      opened quote_in_name (r.0, subst (λ c. Contains (context_unknowns c) r.0) (sym e) r.1, subst (Contains (r.0).name) ((Decides-eqb q.0 34).0 q.2) q.1)
  no_context_name n h unknown_context e o = no_lie (sym o ∙ other_name n (codes "context") h refl)

  pub no_open_quote : (n : Text) → has_quote n ≡ true → (is_open_entry (entry_named x.start n) || is_open_context x.start.context n) ≡ true → ⊥
  no_open_quote n h o = no_context_name n h x.start.context refl (ap (λ e. is_open_entry e || is_open_context x.start.context n) (sym (no_entry n h)) ∙ o)

  module _ (s : State) (bound : AreBound x s.bound) where
    abbrev pub bare_state : State
    bare_state = stripped s.bound

    abbrev pub stands : Stands x bare_state
    stands = stands_of s.bound bound

    pub quote_free : (n : Text) → has_quote n ≡ true → value_of s n ≡ None
    quote_free n h = by_value (value_of s n) refl
      where
        by_value : (o : Option Made) → value_of s n ≡ o → o ≡ None
        by_value None e = refl
        by_value (Some m) e = absurd (no_open_quote n h ((taken_value x bare_state stands n m e).0).was_open)

    module _ (w : World) (complete : CompletesNow x s w) where
      pub completes_bare : CompletesNow x bare_state w
      completes_bare = record { request = complete.request; bound = complete.bound; asked = λ u k. absurd (contains_none u k) }

      pub known_all : IsWhole w
      known_all = (complete.request).whole

      pub means_bound : (n : Text) (m : Made) → value_of s n ≡ Some m → MeansBound w (n, m)
      means_bound n m e =
          ⊎_elim (λ r. (let q : r.0 ≡ m = (let z : Some r.0 ≡ Some m = sym r.1 ∙ e in cc) in subst (λ k. MeansBound w (n, k)) q r.3)) (λ r. (let z : Some m ≡ None = sym e ∙ r.0 in cc))
          (bound_or_open w n s.bound complete.bound)

      -- names mean what is bound to them
      pub kept_value : (n : Text) → (P : Option V) → ((m : Made) → MeansBound w (n, m) → P ≡ Some (bare m)) → Keeps (option_map bare (value_of s n)) P
      kept_value n P f = by_value (value_of s n) refl
        where
          by_value : (o : Option Made) → value_of s n ≡ o → Keeps (option_map bare o) P
          by_value None e = tt
          by_value (Some m) e = f m (means_bound n m e)

      pub entity_is : (o : Option Uid) (m : Made) → IsSome o → o ≡ uid_of (bare m) → some_entity o ≡ Some (bare m)
      entity_is o m i e = let u = there o i in ap some_entity u.1 ∙ ap Some (sym (is_entity (bare m) u.0 (sym e ∙ u.1)))

      pub kept : (n : Text) → Keeps (option_map bare (value_of s n)) (name_means w n)
      kept = by_name (λ n. Keeps (option_map bare (value_of s n)) (name_means w n))
          (λ n q. subst (λ o. Keeps (option_map bare o) (name_means w n)) (sym (quote_free n q)) tt)
          (kept_value (codes "principal") (some_entity w.principal) (λ m h. entity_is w.principal m known_all.principal (h.1.0 refl)))
          (kept_value (codes "action") (some_entity w.action) (λ m h. entity_is w.action m known_all.action (h.1.1 refl)))
          (kept_value (codes "resource") (some_entity w.resource) (λ m h. entity_is w.resource m known_all.resource (h.1.2 refl)))
          (kept_value (codes "context") w.context (λ m h. h.1.3 refl))
          (λ n f. kept_value n (name_means w n) (λ m h. free_is_kept w n f ∙ h.0))

      -- entries
      pub entry_means : (n : Text) (e : Entry) (o : Option Uid) → EntryCompleted e o → ((m : Made) → MeansBound w (n, m) → o ≡ uid_of (bare m)) → name_means w n ≡ some_entity o → EntryMeans (named w) n (entry_now s n e) o
      entry_means n (uid u) o c means name = c
      entry_means n (unknown_uid k) o c means name = by_value (value_of s n) refl
        where
          by_uid : (r : Option Uid) → (IsSome r → o ≡ r) → EntryMeans (named w) n (option_map_or uid r (unknown_uid k)) o
          by_uid None h = (c.0, c.1, c.2, name ∙ ap some_entity c.1)
          by_uid (Some u) h = h refl

          by_value : (q : Option Made) → value_of s n ≡ q → EntryMeans (named w) n (option_map_or uid (uid_in q) (unknown_uid k)) o
          by_value None e = by_uid None (λ i. cc)
          by_value (Some m) e = by_uid (uid_of (bare m)) (λ i. means m (means_bound n m e))

      -- the context is a record
      pub record_there : (c : Context) → ContextCompleted w c → (fs : Fields) × (w.context ≡ Some (record_of fs))
      record_there (closed fs) h = (bare_fields fs, h)
      record_there (residual_fields fs) h =
          let r = record_meant (field_outcomes_of w fs) h.0 (means_outcome w (record_literal fs) (val h.0) ((h.2).0 w.slots)) in
          (r.0, h.1 ∙ ap Some r.1)
      record_there unknown_context h = h

      pub context_record : (fs : Fields) × (w.context ≡ Some (record_of fs))
      context_record = record_there x.start.context (complete.request).context

      pub bare_means : ContextMeans (named w) unknown_context w.context
      bare_means = let r = context_record in (r.0, r.1, r.1)
