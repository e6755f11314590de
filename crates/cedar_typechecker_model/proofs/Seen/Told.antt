-- What a look-up of what is kept tells of the schema as it is seen.
use Rattle.std.proofs.Common.{◌≡◌, ◌∙◌, List, [], ◌∷◌, map, Bool, true, false, cond, not, ◌||◌, Option, Some, None, option_map, is_some, refl, sym, ap}
use Rattle.std.specs.Prelude.{Contains}
use Rattle.std.specs.List.{list_any, filter, find}
use Rattle.std.specs.Option.{option_map_or}
use Rattle.cedar_expr_model.specs.Name.{Name, name_eq}
use Rattle.cedar_expr_model.specs.Uid.{Uid, uid_eq}
use Rattle.cedar_expr_model.proofs.Equality.{name_eq-Decides}
use Rattle.cedar_expr_model.proofs.Lists.{contains_head, contains_cases, contains_none}
use Rattle.cedar_schema_model.specs.Conforming.{of_kind, attributes_at, tags_at}
use Rattle.cedar_schema_model.specs.Descent.{type_descends, action_descends}
use Rattle.cedar_schema_model.specs.Environment.{types_above}
use Rattle.cedar_schema_model.specs.Schema.{EntityType, type_named, declares_type, declares_action}
use Rattle.cedar_schema_model.specs.Types.{Attributes}
use Rattle.cedar_schema_model.specs.Kept.{KeptType, KeptAction, Kept, kept_type, kept_action, kept_ancestors}
use Rattle.cedar_typechecker_model.specs.Rules.{tags_of}
use Rattle.cedar_typechecker_model.specs.ScopeRules.{has_id, is_no_unknown_member}
use Rattle.cedar_typechecker_model.specs.Asked.{type_is_below, kind_is_below}
use Rattle.cedar_typechecker_model.specs.Seen.{type_seen, action_seen, schema_seen, IsClosed, IsKeptOnce}
use Rattle.cedar_typechecker_model.proofs.Seen.Asked.{type_asked, action_asked, others_asked, kinds_asked}
use Rattle.cedar_typechecker_model.proofs.Seen.Found.{type_found, action_found, some_seen, then_there, by_kind}

module _ {A : Type 0} (k : Kept) where
  -- whether it is declared
  pub type_there : (n : Name) (seen : A → KeptType) (o : Option A) → option_map seen o ≡ kept_type k n → is_some o ≡ declares_type (schema_seen k) n
  type_there n seen o h = sym (some_seen seen o) ∙ ap is_some h ∙ sym (ap is_some (type_found k n) ∙ some_seen (type_seen k) (kept_type k n))

  pub action_there : (u : Uid) (seen : A → KeptAction) (o : Option A) → option_map seen o ≡ kept_action k u → is_some o ≡ declares_action (schema_seen k) u
  action_there u seen o h = sym (some_seen seen o) ∙ ap is_some h ∙ sym (ap is_some (action_found k u) ∙ some_seen (action_seen k) (kept_action k u))

module _ (k : Kept) (n : Name) where
  abbrev attributes_told : Option EntityType → Option Attributes
  attributes_told o = option_map (λ e. attributes_at (of_kind e.kind)) o

  -- attributes
  pub attributes_found : (t : KeptType) → Some t ≡ kept_type k n → Some (attributes_at (of_kind t.kind)) ≡ attributes_told (type_named (schema_seen k) n)
  attributes_found t h = ap (λ o. attributes_told (option_map (type_seen k) o)) h ∙ sym (ap attributes_told (type_found k n))

  pub attributes_none : None ≡ kept_type k n → None ≡ attributes_told (type_named (schema_seen k) n)
  attributes_none h = ap (λ o. attributes_told (option_map (type_seen k) o)) h ∙ sym (ap attributes_told (type_found k n))

  -- tags
  tags_told : (o : Option KeptType) → o ≡ kept_type k n → option_map_or (λ (t : KeptType). tags_at (of_kind t.kind)) o None ≡ tags_of (schema_seen k) n
  tags_told o h =
      ap (λ o. option_map_or (λ (t : KeptType). tags_at (of_kind t.kind)) o None) h
      ∙ sym (by_kind (λ j. tags_at (of_kind j)) None k n)
      ∙ sym (then_there (λ (e : EntityType). tags_at (of_kind e.kind)) (type_named (schema_seen k) n))

  pub tags_found : (t : KeptType) → Some t ≡ kept_type k n → tags_at (of_kind t.kind) ≡ tags_of (schema_seen k) n
  tags_found t h = tags_told (Some t) h

  pub tags_none : None ≡ kept_type k n → None ≡ tags_of (schema_seen k) n
  tags_none h = tags_told None h

-- members
pub member_found : (k : Kept) (u : Uid) (t : KeptType) → Some t ≡ kept_type k u.kind → has_id t.kind u.id ≡ is_no_unknown_member (schema_seen k) u
member_found k u t h = ap (λ o. option_map_or (λ (t : KeptType). has_id t.kind u.id) o true) h ∙ sym (by_kind (λ j. has_id j u.id) true k u.kind)

pub member_none : (k : Kept) (u : Uid) → None ≡ kept_type k u.kind → true ≡ is_no_unknown_member (schema_seen k) u
member_none k u h = ap (λ o. option_map_or (λ (t : KeptType). has_id t.kind u.id) o true) h ∙ sym (by_kind (λ j. has_id j u.id) true k u.kind)

-- descent
pub below_found : (k : Kept) (m n : Name) (t : KeptType) → Some t ≡ kept_type k n → list_any (name_eq m) t.descendants ≡ type_is_below k m n
below_found k m n t h = ap (λ o. option_map_or (λ (t : KeptType). list_any (name_eq m) t.descendants) o false) h

pub below_none : (k : Kept) (m n : Name) → None ≡ kept_type k n → false ≡ type_is_below k m n
below_none k m n h = ap (λ o. option_map_or (λ (t : KeptType). list_any (name_eq m) t.descendants) o false) h

pub action_below_found : (k : Kept) → IsClosed k → IsKeptOnce k → (u v : Uid) (a : KeptAction) → Some a ≡ kept_action k v → list_any (uid_eq u) a.descendants ≡ action_descends (schema_seen k) u v
action_below_found k h o u v a e = ap (λ o. option_map_or (λ (a : KeptAction). list_any (uid_eq u) a.descendants) o false) e ∙ action_asked k h o u v

pub action_below_none : (k : Kept) → IsClosed k → IsKeptOnce k → (u v : Uid) → None ≡ kept_action k v → false ≡ action_descends (schema_seen k) u v
action_below_none k h o u v e = ap (λ o. option_map_or (λ (a : KeptAction). list_any (uid_eq u) a.descendants) o false) e ∙ action_asked k h o u v

-- of types, or by way of actions
pub descends_either : (k : Kept) → IsClosed k → IsKeptOnce k → (m n : Name) → (type_is_below k m n || kind_is_below k.actions m n) ≡ type_descends (schema_seen k) m n
descends_either k h o m n = λ i. type_asked k h o m n i || kinds_asked k h m n i

-- what isn't declared has nothing above it
name_found : (n : Name) (ts : List KeptType) → Contains (map (λ (t : KeptType). t.name) ts) n → is_some (find (λ (t : KeptType). name_eq n t.name) ts) ≡ true
name_found n [] c = absurd (contains_none n c)
name_found n (t ∷ ts) c =
    contains_cases (is_some (find (λ (t : KeptType). name_eq n t.name) (t ∷ ts)) ≡ true) t.name (map (λ (t : KeptType). t.name) ts) n c
    (λ e. ap (λ b. is_some (cond b (Some t) (find (λ (t : KeptType). name_eq n t.name) ts))) ((name_eq-Decides n t.name).1 (sym e)))
    (λ d. go (name_eq n t.name) (name_found n ts d))
  where
    go : (b : Bool) → is_some (find (λ (t : KeptType). name_eq n t.name) ts) ≡ true → is_some (cond b (Some t) (find (λ (t : KeptType). name_eq n t.name) ts)) ≡ true
    go true h = refl
    go false h = h

without_members : {A : Type 0} (xs : List A) → ((x : A) → Contains xs x → ⊥) → [] ≡ xs
without_members [] h = refl
without_members (x ∷ xs) h = absurd (h x (contains_head x xs))

pub none_above : (k : Kept) → IsClosed k → IsKeptOnce k → (n : Name) → None ≡ kept_type k n → [] ≡ types_above (schema_seen k) n
none_above k h o n e =
    ap (filter (λ m. not (name_eq m n))) (without_members (kept_ancestors k n) (λ m c. apart (ap is_some e ∙ name_found n k.types (h.types_there n m c))))
    ∙ others_asked k h o n
  where
    apart : false ≡ true → ⊥
    apart q = cc

-- what is found of a look-up that is mapped
pub found_is : {A B : Type 0} (b : B) (x : B) (o : Option A) → Some x ≡ option_map (λ (a : A). b) o → x ≡ b
found_is b x None h = absurd (cc)
found_is b x (Some a) h = cc

pub none_is : {A B : Type 0} (b : B) (o : Option A) → None ≡ option_map (λ (a : A). b) o → None ≡ o
none_is b None h = refl
none_is b (Some a) h = absurd (cc)
