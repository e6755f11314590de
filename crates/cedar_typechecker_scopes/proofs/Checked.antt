-- The passes find nothing exactly where the scope rules are kept.
use Rattle.std.proofs.Common.{◌≡◌, ◌↔◌, Bool, true, false, ◌&&◌, List, [], ◌∷◌, ◌++◌, map, Option, Some, None, refl, sym, ap, ◌∙◌, Decides}
use Rattle.std.specs.Prelude.{option_to_list, if◌then◌else◌}
use Rattle.std.specs.List.{list_all, flat_map, filter_map}
use Rattle.std.specs.Option.{option_map_or}
use Rattle.std.proofs.lemmas.List.{map-append}
use Rattle.std.proofs.lemmas.List.Folds.{list_all-append}
use Rattle.cedar_expr_model.specs.Name.{Name}
use Rattle.cedar_expr_model.specs.Uid.{Uid}
use Rattle.cedar_expr_model.specs.Lists.{is_nil}
use Rattle.cedar_expr_model.specs.Value.{truth, long, text, entity}
use Rattle.cedar_expr_model.specs.Tree.{Tree, lit, var, slot, unknown, choice, both, either, unary, binary, call, get_attr, has_attr, has_path, like, is_type, set_literal, record_literal}
use Rattle.cedar_expr_model.specs.Parts.{subexpressions, uid_here}
use Rattle.cedar_store_model.specs.Policy.{Policy, condition}
use Rattle.cedar_store_parts.specs.Views.{Wrong}
use Rattle.cedar_schema_model.specs.Schema.{Schema}
use Rattle.cedar_typechecker_model.specs.ScopeRules.{kind_here, is_known_type, is_no_unknown_action, is_no_unknown_member, NamesKnownTypes, NamesKnownActions, NamesKnownMembers, names_known_types, names_known_actions, names_known_members}
use Rattle.cedar_typechecker_model.proofs.Naming.{known_types-Decides, known_actions-Decides, known_members-Decides}
use Rattle.cedar_typechecker_scopes.specs.Faults.{ScopeRule, known_types, known_actions, known_members, unless, wrong_uid, wrong_here, wrong_within, wrong_by, wrong_bound}
use Rattle.cedar_typechecker_scopes.specs.Laws.{wrong_by_rule, all_wrong}

-- lists without items
nil_is : {A : Type 0} (xs : List A) → is_nil xs ≡ true → xs ≡ []
nil_is [] h = refl
nil_is (x ∷ xs) h = cc

nil_of : {A : Type 0} (xs : List A) → xs ≡ [] → is_nil xs ≡ true
nil_of xs h = ap is_nil h

nil_both : {A : Type 0} (xs ys : List A) → is_nil (xs ++ ys) ≡ (is_nil xs && is_nil ys)
nil_both [] ys = refl
nil_both (x ∷ xs) ys = refl

nil_unless : (b : Bool) (w : Wrong) → is_nil (unless b w) ≡ b
nil_unless true w = refl
nil_unless false w = refl

no_items : {A : Type 0} (xs ys : List A) → xs ++ ys ≡ [] → (xs ≡ []) × (ys ≡ [])
no_items [] ys e = (refl, e)
no_items (x ∷ xs) ys e = cc

neither : {A : Type 0} (xs ys : List A) → xs ≡ [] → ys ≡ [] → xs ++ ys ≡ []
neither xs ys e f = (λ i. e i ++ f i)

-- Boolean conjunctions in another order
inside : (a b c : Bool) → (a && (b && c)) ≡ (b && (a && c))
inside true b c = refl
inside false true c = refl
inside false false c = refl

grouped : (a b c : Bool) → (a && (b && c)) ≡ ((a && b) && c)
grouped true b c = refl
grouped false b c = refl

turned : (a b c d : Bool) → ((a && b) && (c && d)) ≡ ((a && (c && d)) && b)
turned true true true d = both_ways d
  where
    both_ways : (d : Bool) → d ≡ (d && true)
    both_ways true = refl
    both_ways false = refl
turned true true false d = refl
turned true false true true = refl
turned true false true false = refl
turned true false false d = refl
turned false b c d = refl

module _ (s : Schema) where
  abbrev Known : Name → Bool
  Known n = is_known_type s n

  abbrev types_wrong : List Tree → List Wrong
  types_wrong ts = flat_map (wrong_here s known_types) ts

  abbrev kinds_known : List Tree → Bool
  kinds_known ts = list_all Known (map (λ (u : Uid). u.kind) (filter_map uid_here ts))

  abbrev tests_known : List Tree → Bool
  tests_known ts = list_all Known (filter_map kind_here ts)

  uid_types : (b : Bool) (w : Wrong) (ws : List Wrong) (c d : Bool) → is_nil ws ≡ (c && d) → is_nil (unless b w ++ ws) ≡ ((b && c) && d)
  uid_types b w ws c d h = nil_both (unless b w) ws ∙ (λ i. nil_unless b w i && h i) ∙ grouped b c d

  test_types : (b : Bool) (w : Wrong) (ws : List Wrong) (c d : Bool) → is_nil ws ≡ (c && d) → is_nil (unless b w ++ ws) ≡ (c && (b && d))
  test_types b w ws c d h = nil_both (unless b w) ws ∙ (λ i. nil_unless b w i && h i) ∙ inside b c d

  types_within : (ts : List Tree) → is_nil (types_wrong ts) ≡ (kinds_known ts && tests_known ts)
  types_within [] = refl
  types_within (lit (entity u) ∷ ts) = uid_types (Known u.kind) _ (types_wrong ts) (kinds_known ts) (tests_known ts) (types_within ts)
  types_within (lit (truth b) ∷ ts) = types_within ts
  types_within (lit (long k) ∷ ts) = types_within ts
  types_within (lit (text a) ∷ ts) = types_within ts
  types_within (is_type e n ∷ ts) = test_types (Known n) _ (types_wrong ts) (kinds_known ts) (tests_known ts) (types_within ts)
  types_within (var x ∷ ts) = types_within ts
  types_within (slot x ∷ ts) = types_within ts
  types_within (unknown x a ∷ ts) = types_within ts
  types_within (choice t a b ∷ ts) = types_within ts
  types_within (both a b ∷ ts) = types_within ts
  types_within (either a b ∷ ts) = types_within ts
  types_within (unary o a ∷ ts) = types_within ts
  types_within (binary o a b ∷ ts) = types_within ts
  types_within (call f us ∷ ts) = types_within ts
  types_within (get_attr e a ∷ ts) = types_within ts
  types_within (has_attr e a ∷ ts) = types_within ts
  types_within (has_path e a bs ∷ ts) = types_within ts
  types_within (like e p ∷ ts) = types_within ts
  types_within (set_literal us ∷ ts) = types_within ts
  types_within (record_literal fs ∷ ts) = types_within ts

  -- the two rules that look at uids alone
  module _ (r : ScopeRule) (keeps : Uid → Bool) (uid_is : (u : Uid) → is_nil (wrong_uid s r u) ≡ keeps u) (no_type : (e : Tree) (n : Name) → wrong_here s r (is_type e n) ≡ []) where
    abbrev wrong_in : List Tree → List Wrong
    wrong_in ts = flat_map (wrong_here s r) ts

    uids_within : (ts : List Tree) → is_nil (wrong_in ts) ≡ list_all keeps (filter_map uid_here ts)
    uids_within [] = refl
    uids_within (lit (entity u) ∷ ts) = nil_both (wrong_uid s r u) (wrong_in ts) ∙ (λ i. uid_is u i && uids_within ts i)
    uids_within (lit (truth b) ∷ ts) = uids_within ts
    uids_within (lit (long k) ∷ ts) = uids_within ts
    uids_within (lit (text a) ∷ ts) = uids_within ts
    uids_within (is_type e n ∷ ts) = ap (λ ws. is_nil (ws ++ wrong_in ts)) (no_type e n) ∙ uids_within ts
    uids_within (var x ∷ ts) = uids_within ts
    uids_within (slot x ∷ ts) = uids_within ts
    uids_within (unknown x a ∷ ts) = uids_within ts
    uids_within (choice t a b ∷ ts) = uids_within ts
    uids_within (both a b ∷ ts) = uids_within ts
    uids_within (either a b ∷ ts) = uids_within ts
    uids_within (unary o a ∷ ts) = uids_within ts
    uids_within (binary o a b ∷ ts) = uids_within ts
    uids_within (call f us ∷ ts) = uids_within ts
    uids_within (get_attr e a ∷ ts) = uids_within ts
    uids_within (has_attr e a ∷ ts) = uids_within ts
    uids_within (has_path e a bs ∷ ts) = uids_within ts
    uids_within (like e p ∷ ts) = uids_within ts
    uids_within (set_literal us ∷ ts) = uids_within ts
    uids_within (record_literal fs ∷ ts) = uids_within ts

    uid_bound : (o : Option Uid) → is_nil (option_map_or (wrong_uid s r) o []) ≡ list_all keeps (option_to_list o)
    uid_bound None = refl
    uid_bound (Some u) = uid_is u ∙ alone (keeps u)
      where
        alone : (b : Bool) → b ≡ (b && true)
        alone true = refl
        alone false = refl

    uids_are : (p : Policy) → is_nil (wrong_by_rule s r p) ≡ list_all keeps (filter_map uid_here (subexpressions (condition p)) ++ (option_to_list p.bindings.principal ++ option_to_list p.bindings.resource))
    uids_are p =
        nil_both (wrong_in (subexpressions (condition p))) _
        ∙ ap (λ b. is_nil (wrong_in (subexpressions (condition p))) && b) (nil_both (option_map_or (wrong_uid s r) p.bindings.principal []) (option_map_or (wrong_uid s r) p.bindings.resource []))
        ∙ (λ i. uids_within (subexpressions (condition p)) i && (uid_bound p.bindings.principal i && uid_bound p.bindings.resource i))
        ∙ sym (list_all-append keeps (filter_map uid_here (subexpressions (condition p))) _
        ∙ ap (λ b. list_all keeps (filter_map uid_here (subexpressions (condition p))) && b) (list_all-append keeps (option_to_list p.bindings.principal) (option_to_list p.bindings.resource)))

  actions_are : (p : Policy) → is_nil (wrong_by_rule s known_actions p) ≡ names_known_actions s p
  actions_are = uids_are known_actions (is_no_unknown_action s) (λ u. nil_unless (is_no_unknown_action s u) _) (λ e n. refl)

  members_are : (p : Policy) → is_nil (wrong_by_rule s known_members p) ≡ names_known_members s p
  members_are = uids_are known_members (is_no_unknown_member s) (λ u. nil_unless (is_no_unknown_member s u) _) (λ e n. refl)

  type_bound : (o : Option Uid) → is_nil (option_map_or (wrong_uid s known_types) o []) ≡ list_all Known (map (λ (u : Uid). u.kind) (option_to_list o))
  type_bound None = refl
  type_bound (Some u) = nil_unless (Known u.kind) _ ∙ alone (Known u.kind)
    where
      alone : (b : Bool) → b ≡ (b && true)
      alone true = refl
      alone false = refl

  types_are : (p : Policy) → is_nil (wrong_by_rule s known_types p) ≡ names_known_types s p
  types_are p =
      let ts : List Tree = subexpressions (condition p) in
      let us : List Uid = filter_map uid_here ts in
      let bs : List Uid = option_to_list p.bindings.principal in
      let cs : List Uid = option_to_list p.bindings.resource in
      nil_both (types_wrong ts) _
      ∙ ap (λ b. is_nil (types_wrong ts) && b) (nil_both (option_map_or (wrong_uid s known_types) p.bindings.principal []) (option_map_or (wrong_uid s known_types) p.bindings.resource []))
      ∙ (λ i. types_within ts i && (type_bound p.bindings.principal i && type_bound p.bindings.resource i))
      ∙ turned (kinds_known ts) (tests_known ts) (list_all Known (map (λ (u : Uid). u.kind) bs)) (list_all Known (map (λ (u : Uid). u.kind) cs))
      ∙ sym (list_all-append Known (map (λ (u : Uid). u.kind) (us ++ (bs ++ cs))) (filter_map kind_here ts)
      ∙ ap (λ b. b && tests_known ts)
      (ap (list_all Known) (map-append (λ (u : Uid). u.kind) us (bs ++ cs)) ∙ list_all-append Known (map (λ (u : Uid). u.kind) us) (map (λ (u : Uid). u.kind) (bs ++ cs))
      ∙ ap (λ b. kinds_known ts && b) (ap (list_all Known) (map-append (λ (u : Uid). u.kind) bs cs) ∙ list_all-append Known (map (λ (u : Uid). u.kind) bs) (map (λ (u : Uid). u.kind) cs))))

by_test : {A P : Type 0} (xs : List A) (b : Bool) → is_nil xs ≡ b → Decides b P → (xs ≡ []) ↔ P
by_test xs b e d = (λ h. d.0 (sym e ∙ nil_of xs h), λ h. nil_is xs (e ∙ d.1 h))

pub types_checked : (s : Schema) (p : Policy) → (wrong_by_rule s known_types p ≡ []) ↔ NamesKnownTypes s p
types_checked s p = by_test (wrong_by_rule s known_types p) (names_known_types s p) (types_are s p) (known_types-Decides s p)

pub actions_checked : (s : Schema) (p : Policy) → (wrong_by_rule s known_actions p ≡ []) ↔ NamesKnownActions s p
actions_checked s p = by_test (wrong_by_rule s known_actions p) (names_known_actions s p) (actions_are s p) (known_actions-Decides s p)

pub members_checked : (s : Schema) (p : Policy) → (wrong_by_rule s known_members p ≡ []) ↔ NamesKnownMembers s p
members_checked s p = by_test (wrong_by_rule s known_members p) (names_known_members s p) (members_are s p) (known_members-Decides s p)

-- what is wrong with a bound uid by all three rules, and by each
record ByEach (s : Schema) (o : Option Uid) : Type 0 where
  types : option_map_or (wrong_uid s known_types) o [] ≡ []
  actions : option_map_or (wrong_uid s known_actions) o [] ≡ []
  members : option_map_or (wrong_uid s known_members) o [] ≡ []

each_of : (s : Schema) (o : Option Uid) → option_map_or (wrong_by s) o [] ≡ [] → ByEach s o
each_of s None h = record { types = refl; actions = refl; members = refl }
each_of s (Some u) h =
    let a = no_items (wrong_uid s known_types u) (wrong_uid s known_actions u ++ wrong_uid s known_members u) h in
    let b = no_items (wrong_uid s known_actions u) (wrong_uid s known_members u) a.1 in
    record { types = a.0; actions = b.0; members = b.1 }

all_of : (s : Schema) (o : Option Uid) → ByEach s o → option_map_or (wrong_by s) o [] ≡ []
all_of s None h = refl
all_of s (Some u) h = neither _ _ h.types (neither _ _ h.actions h.members)

pub all_checked : (s : Schema) (p : Policy) → (all_wrong s p ≡ []) ↔ (NamesKnownTypes s p × (NamesKnownActions s p × NamesKnownMembers s p))
all_checked s p = (to, from)
  where
    to : all_wrong s p ≡ [] → NamesKnownTypes s p × (NamesKnownActions s p × NamesKnownMembers s p)
    to h =
        let a = no_items (wrong_within s known_types p) _ h in
        let b = no_items (wrong_within s known_actions p) _ a.1 in
        let c = no_items (wrong_within s known_members p) _ b.1 in
        let d = no_items (option_map_or (wrong_by s) p.bindings.principal []) _ c.1 in
        let x = each_of s p.bindings.principal d.0 in
        let y = each_of s p.bindings.resource d.1 in (
          (types_checked s p).0 (neither _ _ a.0 (neither _ _ x.types y.types)),
          ((actions_checked s p).0 (neither _ _ b.0 (neither _ _ x.actions y.actions)), (members_checked s p).0 (neither _ _ c.0 (neither _ _ x.members y.members))),
        )

    from : NamesKnownTypes s p × (NamesKnownActions s p × NamesKnownMembers s p) → all_wrong s p ≡ []
    from h =
        let a = no_items (wrong_within s known_types p) _ ((types_checked s p).1 h.0) in
        let b = no_items (wrong_within s known_actions p) _ ((actions_checked s p).1 (h.1).0) in
        let c = no_items (wrong_within s known_members p) _ ((members_checked s p).1 (h.1).1) in
        let ta = no_items (option_map_or (wrong_uid s known_types) p.bindings.principal []) _ a.1 in
        let tb = no_items (option_map_or (wrong_uid s known_actions) p.bindings.principal []) _ b.1 in
        let tc = no_items (option_map_or (wrong_uid s known_members) p.bindings.principal []) _ c.1 in
        neither _ _ a.0 (neither _ _ b.0 (neither _ _ c.0 (neither _ _
        (all_of s p.bindings.principal (record { types = ta.0; actions = tb.0; members = tc.0 }))
        (all_of s p.bindings.resource (record { types = ta.1; actions = tb.1; members = tc.1 })))))
