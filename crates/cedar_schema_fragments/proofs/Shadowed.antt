-- What shadows, by sets that have what is declared.
use Rattle.std.proofs.Common.{◌≡◌, Bool, true, false, cond, ◌||◌, ◌&&◌, List, [], ◌∷◌, Option, Some, None, option_map, find, refl, sym, ap, ◌∙◌}
use Rattle.std.proofs.lemmas.List.Folds.{list_any-append}
use Rattle.std.specs.Prelude.{is_some, not}
use Rattle.std.specs.List.{list_any}
use Rattle.std.specs.Option.{option_or}
use Rattle.cedar_expr_model.specs.Name.{Name, name_eq}
use Rattle.cedar_expr_model.specs.Uid.{Uid, uid_eq}
use Rattle.cedar_expr_model.specs.Names.{is_unqualified, unqualified}
use Rattle.cedar_expr_model.proofs.Equality.{name_eq-Decides, uid_eq-Decides}
use Rattle.cedar_schema_model.specs.Reference.{meant_common, meant_entity}
use Rattle.cedar_schema_model.specs.Declarations.{Declarations, common_names, entity_names, action_uids}
use Rattle.cedar_schema_model.specs.WellFormed.{unqualified_uid, declared_types, shadows}
use Rattle.cedar_schema_decl.specs.Defined.{Defined}
use Rattle.cedar_schema_decl.specs.Laws.{HasDeclared}
use Rattle.cedar_schema_decl.specs.Shadowing.{type_shadows, action_shadows, shadowing_type, shadowing_action, first_shadowing}
use Rattle.cedar_schema_fragments.specs.Laws.{HasActions}

same_truth : (a b : Bool) → (a ≡ true → b ≡ true) → (b ≡ true → a ≡ true) → a ≡ b
same_truth true b f g = sym (f refl)
same_truth false true f g = g refl
same_truth false false f g = refl

or_left : (a b : Bool) → a ≡ true → (a || b) ≡ true
or_left a b h = ap (λ c. c || b) h

or_right : (a b : Bool) → b ≡ true → (a || b) ≡ true
or_right true b h = refl
or_right false b h = h

or_assoc : (a b c : Bool) → (a || (b || c)) ≡ ((a || b) || c)
or_assoc true b c = refl
or_assoc false b c = refl

-- lists with the same members have the same that passes a test
module _ {A : Type 0} (eq : A → A → Bool) (same : (x y : A) → eq x y ≡ true → x ≡ y) (itself : (x : A) → eq x x ≡ true) (p : A → Bool) where
  record Passes (xs : List A) : Type 0 where
    one : A
    passes : p one ≡ true
    among : list_any (eq one) xs ≡ true

  passing : (xs : List A) → list_any p xs ≡ true → Passes xs
  passing [] h = absurd (cc)
  passing (x ∷ xs) h = go (passing xs) (p x) refl h
    where
      go : (list_any p xs ≡ true → Passes xs) → (b : Bool) → p x ≡ b → (b || list_any p xs) ≡ true → Passes (x ∷ xs)
      go later true e k = record { one = x; passes = e; among = or_left (eq x x) (list_any (eq x) xs) (itself x) }
      go later false e k = let w : Passes xs = later k in record { one = w.one; passes = w.passes; among = or_right (eq w.one x) (list_any (eq w.one) xs) w.among }

  found : (x : A) (ys : List A) → p x ≡ true → list_any (eq x) ys ≡ true → list_any p ys ≡ true
  found x [] h k = k
  found x (y ∷ ys) h k = go (found x ys h) (eq x y) refl k
    where
      go : (list_any (eq x) ys ≡ true → list_any p ys ≡ true) → (b : Bool) → eq x y ≡ b → (b || list_any (eq x) ys) ≡ true → (p y || list_any p ys) ≡ true
      go later true e l = or_left (p y) (list_any p ys) (ap p (sym (same x y e)) ∙ h)
      go later false e l = or_right (p y) (list_any p ys) (later l)

  among_other : (xs ys : List A) → ((x : A) → list_any (eq x) xs ≡ list_any (eq x) ys) → list_any p xs ≡ true → list_any p ys ≡ true
  among_other xs ys h k = let w : Passes xs = passing xs k in found w.one ys w.passes (sym (h w.one) ∙ w.among)

  same_any : (xs ys : List A) → ((x : A) → list_any (eq x) xs ≡ list_any (eq x) ys) → list_any p xs ≡ list_any p ys
  same_any xs ys h = same_truth (list_any p xs) (list_any p ys) (among_other xs ys h) (among_other ys xs (λ x. sym (h x)))

any_alike : {A : Type 0} (p q : A → Bool) → ((x : A) → p x ≡ q x) → (xs : List A) → list_any p xs ≡ list_any q xs
any_alike p q h [] = refl
any_alike p q h (x ∷ xs) = λ i. h x i || any_alike p q h xs i

-- whether there is a first
found_any : {A : Type 0} (p : A → Bool) (xs : List A) → is_some (find p xs) ≡ list_any p xs
found_any p [] = refl
found_any p (x ∷ xs) = go (found_any p xs) (p x)
  where
    go : is_some (find p xs) ≡ list_any p xs → (b : Bool) → is_some (cond b (Some x) (find p xs)) ≡ (b || list_any p xs)
    go later true = refl
    go later false = later

some_or : {A : Type 0} (o q : Option A) → is_some (option_or o q) ≡ (is_some o || is_some q)
some_or None q = refl
some_or (Some x) q = refl

some_of : {A B : Type 0} (f : A → B) (o : Option A) → is_some (option_map f o) ≡ is_some o
some_of f None = refl
some_of f (Some x) = refl

module _ (s : Defined) (d : Declarations) (has : HasDeclared s d) (acts : HasActions s d) where
  abbrev types : Name → Bool
  types n = not (is_unqualified n) && list_any (name_eq (unqualified n.base)) (declared_types d)

  abbrev actions : Uid → Bool
  actions u = not (is_unqualified u.kind) && list_any (uid_eq (unqualified_uid u)) (action_uids d)

  types_alike : (n : Name) → type_shadows s n ≡ types n
  types_alike n = ap (λ b. not (is_unqualified n) && b) ((λ i. has (meant_common (unqualified n.base)) i || has (meant_entity (unqualified n.base)) i) ∙ sym (list_any-append (name_eq (unqualified n.base)) (common_names d) (entity_names d)))

  actions_alike : (u : Uid) → action_shadows s u ≡ actions u
  actions_alike u = ap (λ b. not (is_unqualified u.kind) && b) (acts (unqualified_uid u))

  of_names : (ns ms : List Name) → ((n : Name) → list_any (name_eq n) ns ≡ list_any (name_eq n) ms) → list_any (type_shadows s) ns ≡ list_any types ms
  of_names ns ms h = same_any name_eq (λ m n. (name_eq-Decides m n).0) (λ n. (name_eq-Decides n n).1 refl) (type_shadows s) ns ms h ∙ any_alike (type_shadows s) types types_alike ms

  of_uids : (us vs : List Uid) → ((u : Uid) → list_any (uid_eq u) us ≡ list_any (uid_eq u) vs) → list_any (action_shadows s) us ≡ list_any actions vs
  of_uids us vs h = same_any uid_eq (λ u v. (uid_eq-Decides u v).0) (λ u. (uid_eq-Decides u u).1 refl) (action_shadows s) us vs h ∙ any_alike (action_shadows s) actions actions_alike vs

  commons_found : is_some (option_map shadowing_type (find (type_shadows s) s.commons)) ≡ list_any types (common_names d)
  commons_found = some_of shadowing_type (find (type_shadows s) s.commons) ∙ found_any (type_shadows s) s.commons ∙ of_names s.commons (common_names d) (λ n. has (meant_common n))

  entities_found : is_some (option_map shadowing_type (find (type_shadows s) s.entities)) ≡ list_any types (entity_names d)
  entities_found = some_of shadowing_type (find (type_shadows s) s.entities) ∙ found_any (type_shadows s) s.entities ∙ of_names s.entities (entity_names d) (λ n. has (meant_entity n))

  actions_found : is_some (option_map shadowing_action (find (action_shadows s) s.actions)) ≡ list_any actions (action_uids d)
  actions_found = some_of shadowing_action (find (action_shadows s) s.actions) ∙ found_any (action_shadows s) s.actions ∙ of_uids s.actions (action_uids d) acts

  pub shadowing_is : is_some (first_shadowing s) ≡ shadows d
  shadowing_is =
      some_or (option_map shadowing_type (find (type_shadows s) s.commons)) (option_or (option_map shadowing_type (find (type_shadows s) s.entities)) (option_map shadowing_action (find (action_shadows s) s.actions)))
      ∙ ap (λ b. is_some (option_map shadowing_type (find (type_shadows s) s.commons)) || b) (some_or (option_map shadowing_type (find (type_shadows s) s.entities)) (option_map shadowing_action (find (action_shadows s) s.actions)))
      ∙ (λ i. commons_found i || (entities_found i || actions_found i))
      ∙ or_assoc (list_any types (common_names d)) (list_any types (entity_names d)) (list_any actions (action_uids d))
      ∙ ap (λ b. b || list_any actions (action_uids d)) (sym (list_any-append types (common_names d) (entity_names d)))
