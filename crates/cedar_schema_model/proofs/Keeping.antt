-- What is kept of the schema of well-formed declarations is what a built schema has to be.
use Rattle.std.proofs.Common.{◌≡◌, ℕ, zero, suc, List, [], ◌∷◌, length, map, Bool, true, false, cond, Option, Some, None, option_map, refl, sym, ap, ◌∙◌, subst, arith}
use Rattle.std.specs.Prelude.{Contains, find, is_none}
use Rattle.std.specs.Bool.{Decides}
use Rattle.std.specs.List.{list_any, flat_map}
use Rattle.std.specs.Ordering.{match_ordering}
use Rattle.std.specs.declared.cmp.Ordering.{Ordering}
use Rattle.std.specs.declared.cmp.Ordering.TheVariants.{Less, Equal, Greater}
use Rattle.std.proofs.lemmas.List.Elements.{Contains-append_left, Contains-append_right}
use Rattle.cedar_expr_model.specs.Name.{Text, Name, name_eq, is_reserved}
use Rattle.cedar_expr_model.specs.Uid.{Uid, uid_eq}
use Rattle.cedar_expr_model.specs.Order.{text_cmp}
use Rattle.cedar_expr_model.proofs.Equality.{name_eq-Decides, uid_eq-Decides}
use Rattle.cedar_expr_model.proofs.Lists.{both_hold, contains_head, contains_tail, contains_cases, contains_none, found-Decides, map_has, map_from, flat_has}
use Rattle.cedar_schema_model.specs.Types.{Ty, never, bool_type, long_type, string_type, any_entity, entity_types, any_set, set_type, record_type, extension_type, Attributes, no_attributes, attribute}
use Rattle.cedar_schema_model.specs.Schema.{EntityKind, standard, enumerated, external, EntityType, Action}
use Rattle.cedar_schema_model.specs.Descent.{type_names, HasParent, HasActionParent, Descends, ActionDescends}
use Rattle.cedar_schema_model.specs.Descent as descent
use Rattle.cedar_schema_model.specs.Reference.{Namespace, Reference, Meant, meant_common, meant_entity}
use Rattle.cedar_schema_model.specs.Declarations.{TypeExpr, bool_expr, long_expr, string_expr, set_expr, record_expr, reference, extension_expr, FieldExprs, no_field_exprs, field_expr, KindExpr, standard_expr, enumerated_expr, external_expr, CommonDeclaration, EntityDeclaration, ActionDeclaration, Declarations, common_name, entity_name, action_uid, common_names, entity_names, action_uids, is_declared, meant, types_in, extensions_in, extensions_in_fields, extensions}
use Rattle.cedar_schema_model.specs.WellFormed.{IsWellFormed, action_as_entity_type, reserved_name, unknown_extension_type, written_names}
use Rattle.cedar_schema_model.specs.Resolved.{with_attribute, type_meant, resolved_by, resolved_fields_by, common_within, common_of, resolved, resolved_kind, resolved_entity, attributes_of_record, resolved_action, schema_of}
use Rattle.cedar_schema_model.proofs.Named.{defined_by}
use Rattle.cedar_schema_model.proofs.Decls.Descent.{reaches_on}
use Rattle.cedar_schema_model.proofs.Decls.Direct.{not_not}
use Rattle.cedar_schema_model.proofs.Decls.Faults.{meant_is_declared, no_schema_fault}
use Rattle.cedar_schema_model.proofs.Decls.Named.{principals_named, resources_named}
use Rattle.cedar_schema_model.proofs.Decls.Resolved.{common_found}
use Rattle.cedar_schema_model.proofs.Decls.Schema.{same_types, not_its_ancestor}
use Rattle.cedar_schema_model.specs.Kept.{KeptType, KeptAction, Kept}
use Rattle.cedar_schema_model.specs.KeptOf.{IsSameKind, IsKeptOf}
use Rattle.cedar_schema_model.specs.Unsound.{Unsound, first_fault, names_are_free}
use Rattle.cedar_schema_model.proofs.Deciding.{sound-Decides}
use Rattle.cedar_schema_model.specs.Sound.{names_kept, uids_kept, IsKnownType, AreKnownAttributes, IsKnownTag, IsKnownKind, IsSoundType, IsSoundAction, IsSound}

-- what isn't true is false
not_so : (b : Bool) → (b ≡ true → ⊥) → b ≡ false
not_so false h = refl
not_so true h = absurd (h refl)

-- what is found is there, under its name
module _ {S A : Type 0} (eq : S → S → Bool) (decides : (s t : S) → Decides (eq s t) (s ≡ t)) (name : A → S) where
  abbrev IsThere : S → List A → A → Type 0
  IsThere s as_ a = Contains as_ a × (s ≡ name a)

  there_step : (s : S) (b : A) (bs : List A) (a : A) (t : Bool) → eq s (name b) ≡ t → (find (λ c. eq s (name c)) bs ≡ Some a → IsThere s bs a) → cond t (Some b) (find (λ c. eq s (name c)) bs) ≡ Some a → IsThere s (b ∷ bs) a
  there_step s b bs a true e rest h = let same : b ≡ a = cc in subst (IsThere s (b ∷ bs)) same (contains_head b bs, (decides s (name b)).0 e)
  there_step s b bs a false e rest h = let r = rest h in (contains_tail b bs a r.0, r.1)

  found_there : (s : S) (as_ : List A) (a : A) → find (λ c. eq s (name c)) as_ ≡ Some a → IsThere s as_ a
  found_there s [] a h = cc
  found_there s (b ∷ bs) a h = there_step s b bs a (eq s (name b)) refl (found_there s bs a) h

module _ (x : List Name) (k : Kept) where
  -- attributes with one more, and those of a record
  put_case : (a : Text) (t : Ty) (r : Bool) (b : Text) (u : Ty) (q : Bool) (as_ : Attributes) (o : Ordering) → IsKnownType x k t → AreKnownAttributes x k (attribute b u q as_) → AreKnownAttributes x k (with_attribute a t r as_)
      → AreKnownAttributes x k (match_ordering o (attribute a t r (attribute b u q as_)) (attribute b u q as_) (attribute b u q (with_attribute a t r as_)))
  put_case a t r b u q as_ Less h g rest = (h, g)
  put_case a t r b u q as_ Equal h g rest = g
  put_case a t r b u q as_ Greater h g rest = (g.0, rest)

  put : (a : Text) (t : Ty) (r : Bool) (as_ : Attributes) → IsKnownType x k t → AreKnownAttributes x k as_ → AreKnownAttributes x k (with_attribute a t r as_)
  put a t r no_attributes h g = (h, tt)
  put a t r (attribute b u q as_) h g = put_case a t r b u q as_ (text_cmp a b) h g (put a t r as_ h g.1)

  of_record : (t : Ty) → IsKnownType x k t → AreKnownAttributes x k (attributes_of_record t)
  of_record never h = tt
  of_record (bool_type b) h = tt
  of_record long_type h = tt
  of_record string_type h = tt
  of_record any_entity h = tt
  of_record (entity_types ns) h = tt
  of_record any_set h = tt
  of_record (set_type t) h = tt
  of_record (record_type as_ o) h = h
  of_record (extension_type n) h = tt

  module _ (d : Declarations) (w : IsWellFormed x d) (h : IsKeptOf (schema_of d) k) where
    -- declared entity types and actions are kept
    type_kept : (n : Name) → Contains (type_names (schema_of d)) n → Contains (names_kept k) n
    type_kept n c =
        let e = map_from (λ (e : EntityType). e.name) (schema_of d).types n c in
        let t = h.all_types e.0 e.1 in
        subst (Contains (names_kept k)) (t.2.name ∙ e.2) (map_has (λ (t : KeptType). t.name) k.types t.0 t.1)

    action_kept : (u : Uid) → Contains (descent.action_uids (schema_of d)) u → Contains (uids_kept k) u
    action_kept u c =
        let b = map_from (λ (b : Action). b.uid) (schema_of d).actions u c in
        let a = h.all_actions b.0 b.1 in
        subst (Contains (uids_kept k)) (a.2.uid ∙ b.2) (map_has (λ (a : KeptAction). a.uid) k.actions a.0 a.1)

    -- written extension types are known
    abbrev AreExtensions : List Name → Type 0
    AreExtensions ns = (n : Name) → Contains ns n → Contains x n

    extension_known : (n : Name) → Contains (extensions d) n → Contains x n
    extension_known n c = not_not (list_any (name_eq n) x) (found-Decides name_eq name_eq-Decides n x) (λ m. no_schema_fault x d w unknown_extension_type (11, omega arith, refl) (n, c, m))

    -- what a reference means
    entity_known : (n : Name) → is_declared d (meant_entity n) ≡ true → IsKnownType x k (entity_types (n ∷ []))
    entity_known n e m c =
        let there : Contains (entity_names d) n = (found-Decides name_eq name_eq-Decides n (entity_names d)).0 e in
        contains_cases (Contains (names_kept k) m) n [] m c
        (λ q. subst (Contains (names_kept k)) q (type_kept n (subst (λ l. Contains l n) (sym (same_types d)) there)))
        (λ z. absurd (contains_none m z))

    meant_known : (f : Name → Ty) → ((n : Name) → IsKnownType x k (f n)) → (o : Option Meant) → ((m : Meant) → o ≡ Some m → is_declared d m ≡ true) → IsKnownType x k (type_meant f o)
    meant_known f g None e = tt
    meant_known f g (Some (meant_common n)) e = g n
    meant_known f g (Some (meant_entity n)) e = entity_known n (e (meant_entity n) refl)

    -- written types
    module _ (f : Name → Ty) (g : (n : Name) → IsKnownType x k (f n)) (ns : Namespace) where
      mutual
        expr_known : (t : TypeExpr) → AreExtensions (extensions_in t) → IsKnownType x k (resolved_by f d ns t)
        expr_known bool_expr e = tt
        expr_known long_expr e = tt
        expr_known string_expr e = tt
        expr_known (set_expr t) e = expr_known t e
        expr_known (record_expr fs) e = fields_known fs e
        expr_known (reference j n) e = let r : Reference = record { namespace = ns; kind = j; name = n } in meant_known f g (meant d r) (λ m q. meant_is_declared d r m q)
        expr_known (extension_expr n) e = e n (contains_head n [])

        fields_known : (fs : FieldExprs) → AreExtensions (extensions_in_fields fs) → AreKnownAttributes x k (resolved_fields_by f d ns fs)
        fields_known no_field_exprs e = tt
        fields_known (field_expr a t r fs) e =
            put a (resolved_by f d ns t) r (resolved_fields_by f d ns fs)
            (expr_known t (λ n c. e n (Contains-append_left (extensions_in t) (extensions_in_fields fs) n c)))
            (fields_known fs (λ n c. e n (Contains-append_right (extensions_in t) (extensions_in_fields fs) n c)))

    -- common types
    in_common : (c : CommonDeclaration) → Contains d.commons c → AreExtensions (extensions_in c.definition)
    in_common c m n e = extension_known n (Contains-append_left (flat_map (λ (c : CommonDeclaration). extensions_in c.definition) d.commons) _ n (flat_has (λ (c : CommonDeclaration). extensions_in c.definition) d.commons c n m e))

    defined_known : (f : Name → Ty) → ((n : Name) → IsKnownType x k (f n)) → (n : Name) (o : Option CommonDeclaration) → find (λ (c : CommonDeclaration). name_eq n (common_name c)) d.commons ≡ o → IsKnownType x k (defined_by f d o)
    defined_known f g n None e = tt
    defined_known f g n (Some c) e = expr_known f g c.namespace c.definition (in_common c (common_found n d.commons c e).1)

    within_known : (j : ℕ) (n : Name) → IsKnownType x k (common_within j d n)
    within_known zero n = tt
    within_known (suc j) n = defined_known (common_within j d) (within_known j) n (find (λ (c : CommonDeclaration). name_eq n (common_name c)) d.commons) refl

    common_known : (n : Name) → IsKnownType x k (common_of d n)
    common_known n = within_known (length d.commons) n

    -- entity types
    in_entity : (t : EntityDeclaration) → Contains d.entities t → (e : TypeExpr) → Contains (types_in t.kind) e → AreExtensions (extensions_in e)
    in_entity t m e c n z =
        extension_known n
        (Contains-append_right (flat_map (λ (c : CommonDeclaration). extensions_in c.definition) d.commons) _ n
        (Contains-append_left (flat_map (λ (t : EntityDeclaration). flat_map extensions_in (types_in t.kind)) d.entities) _ n
        (flat_has (λ (t : EntityDeclaration). flat_map extensions_in (types_in t.kind)) d.entities t n m (flat_has extensions_in (types_in t.kind) e n c z))))

    tag_known : (ns : Namespace) (o : Option TypeExpr) → ((e : TypeExpr) → o ≡ Some e → AreExtensions (extensions_in e)) → IsKnownTag x k (option_map (resolved d ns) o)
    tag_known ns None e = tt
    tag_known ns (Some t) e = expr_known (common_of d) common_known ns t (e t refl)

    kind_known : (ns : Namespace) (j : KindExpr) → ((e : TypeExpr) → Contains (types_in j) e → AreExtensions (extensions_in e)) → IsKnownKind x k (resolved_kind d ns j)
    kind_known ns (standard_expr fs None) e = (fields_known (common_of d) common_known ns fs (e (record_expr fs) (contains_head (record_expr fs) [])), tt)
    kind_known ns (standard_expr fs (Some t)) e = (
      fields_known (common_of d) common_known ns fs (e (record_expr fs) (contains_head (record_expr fs) (t ∷ []))),
      expr_known (common_of d) common_known ns t (e t (contains_tail (record_expr fs) (t ∷ []) t (contains_head t []))),
    )
    kind_known ns (enumerated_expr ids) e = tt
    kind_known ns external_expr e = tt

    same_known : (i j : EntityKind) → IsSameKind i j → IsKnownKind x k j → IsKnownKind x k i
    same_known (standard as_ t) j e g = subst (IsKnownKind x k) e g
    same_known (enumerated ids) j e g = tt
    same_known external j e g = tt

    free : (n : Name) → Contains (written_names d) n → is_reserved n ≡ false
    free n c = not_so (is_reserved n) (λ e. no_schema_fault x d w reserved_name (9, omega arith, refl) (n, c, e))

    type_name_free : (t : EntityDeclaration) → Contains d.entities t → is_reserved (entity_name t) ≡ false
    type_name_free t m = free (entity_name t) (Contains-append_right (common_names d) _ (entity_name t) (Contains-append_left (entity_names d) _ (entity_name t) (map_has entity_name d.entities t m)))

    type_sound : (t : KeptType) → Contains k.types t → IsSoundType x k t
    type_sound t c =
        let e = h.types t c in
        let s = map_from (resolved_entity d) d.entities e.0 e.1 in
        let named : t.name ≡ entity_name s.0 = e.2.name ∙ ap (λ (y : EntityType). y.name) (sym s.2) in
        record {
          free = ap is_reserved named ∙ type_name_free s.0 s.1;
          apart = λ q. no_schema_fault x d w action_as_entity_type (7, omega arith, refl) (s.0, s.1, sym q ∙ ap (λ (n : Name). n.base) named);
          kind = same_known t.kind e.0.kind e.2.kind (subst (λ (y : EntityType). IsKnownKind x k y.kind) s.2 (kind_known s.0.namespace s.0.kind (in_entity s.0 s.1)));
          below = λ n m. type_kept n ((h.types_below t c n).0 m).0;
          closed = λ n m u f v y.
              let at = found_there name_eq name_eq-Decides (λ (u : KeptType). u.name) n k.types u f in
              let under = (h.types_below u at.0 v).0 y in
              let over = (h.types_below t c n).0 m in
              (h.types_below t c v).1 (under.0, reaches_on (HasParent (schema_of d)) v u.name t.name under.1 (subst (λ l. Descends (schema_of d) l t.name) at.1 over.1));
        }

    -- actions
    in_context : (a : ActionDeclaration) → Contains d.actions a → AreExtensions (extensions_in a.context)
    in_context a m n c =
        extension_known n
        (Contains-append_right (flat_map (λ (c : CommonDeclaration). extensions_in c.definition) d.commons) _ n
        (Contains-append_right (flat_map (λ (t : EntityDeclaration). flat_map extensions_in (types_in t.kind)) d.entities) _ n
        (flat_has (λ (a : ActionDeclaration). extensions_in a.context) d.actions a n m c)))

    context_known : (a : ActionDeclaration) → Contains d.actions a → AreKnownAttributes x k (resolved_action d a).context
    context_known a m = of_record (resolved d a.namespace a.context) (expr_known (common_of d) common_known a.namespace a.context (in_context a m))

    kind_free : (a : ActionDeclaration) → Contains d.actions a → is_reserved (action_uid a).kind ≡ false
    kind_free a m =
        let n = (action_uid a).kind in
        free n
        (Contains-append_right (common_names d) _ n
        (Contains-append_right (entity_names d) _ n
        (Contains-append_left (map (λ (u : Uid). u.kind) (action_uids d)) _ n (map_has (λ (u : Uid). u.kind) (action_uids d) (action_uid a) (map_has action_uid d.actions a m)))))

    action_sound : (a : KeptAction) → Contains k.actions a → IsSoundAction x k a
    action_sound a c =
        let b = h.actions a c in
        let s = map_from (resolved_action d) d.actions b.0 b.1 in
        let named : a.uid ≡ action_uid s.0 = b.2.uid ∙ ap (λ (y : Action). y.uid) (sym s.2) in
        let known : AreKnownAttributes x k b.0.context = subst (λ (y : Action). AreKnownAttributes x k y.context) s.2 (context_known s.0 s.1) in
        record {
          free = ap (λ (u : Uid). is_reserved u.kind) named ∙ kind_free s.0 s.1;
          kind = ap (λ (u : Uid). u.kind.base) named;
          principals = λ n m. type_kept n (principals_named d b.0 b.1 n ((b.2.principals n).0 m));
          resources = λ n m. type_kept n (resources_named d b.0 b.1 n ((b.2.resources n).0 m));
          record_context = (b.0.context, b.2.context);
          context = subst (IsKnownType x k) (sym b.2.context) known;
          below = λ u m. action_kept u ((h.actions_below a c u).0 m).0;
          not_itself = λ m. not_its_ancestor x d w a.uid ((h.actions_below a c a.uid).0 m).1;
          closed = λ u m v f z y.
              let at = found_there uid_eq uid_eq-Decides (λ (v : KeptAction). v.uid) u k.actions v f in
              let under = (h.actions_below v at.0 z).0 y in
              let over = (h.actions_below a c u).0 m in
              (h.actions_below a c z).1 (under.0, reaches_on (HasActionParent (schema_of d)) z v.uid a.uid under.1 (subst (λ l. ActionDescends (schema_of d) l a.uid) at.1 over.1));
        }

pub kept_sound : (x : List Name) (d : Declarations) (k : Kept) → IsWellFormed x d → IsKeptOf (schema_of d) k → IsSound x k
kept_sound x d k w h = record { types = type_sound x k d w h; actions = action_sound x k d w h }

no_fault : (o : Option Unsound) → is_none o ≡ true → o ≡ None
no_fault None h = refl
no_fault (Some f) h = cc

pub kept_faultless : (x : List Name) (d : Declarations) (k : Kept) → IsWellFormed x d → IsKeptOf (schema_of d) k → first_fault x k ≡ None
kept_faultless x d k w h = no_fault (first_fault x k) (both_hold (names_are_free k) (is_none (first_fault x k)) ((sound-Decides x k).1 (kept_sound x d k w h))).1
