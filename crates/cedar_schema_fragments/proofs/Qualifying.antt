-- Names in the place of those that are written, where none is refused.
use Rattle.std.proofs.Common.{◌≡◌, ◌↔◌, ℕ, Bool, true, false, IsTrue, cond, List, [], ◌∷◌, map, length, Option, Some, None, option_map, Result, Ok, Err, find, refl, sym, ap, ◌∙◌}
use Rattle.std.proofs.lemmas.Bool.{true≢false}
use Rattle.std.specs.Borrow.{Bor}
use Rattle.std.specs.List.{AllZip}
use Rattle.std.specs.Rc.{rc_str_bytes}
use Rattle.std.specs.declared.alloc.Global.{Global}
use Rattle.std.specs.declared.rc.RcStr.{RcStr}
use Rattle.std.specs.Option.{option_map_or, option_copied}
use Rattle.cedar_expr_model.specs.Name.{Text, Name, is_reserved}
use Rattle.cedar_expr_model.specs.Uid.{Uid}
use Rattle.cedar_expr_names.specs.Namespaces.{space_of}
use Rattle.cedar_expr_names.specs.Views.{name_of}
use Rattle.cedar_expr_names.specs.declared.internal_name.InternalName.{InternalName}
use Rattle.cedar_expr_leaves.specs.declared.raw_name.RawName.{RawName}
use Rattle.cedar_schema_model.specs.Reference.{to_entity, action_word}
use Rattle.cedar_schema_decl.specs.Conditional.{Conditional, conditional_in, qualifying}
use Rattle.cedar_schema_decl.specs.Forms.{TypeForm, bool_form, long_form, string_form, set_form, record_form, reference_form, extension_form, FieldForms, no_field_forms, field_form, EntityForm, standard_form, enumerated_form, external_form, ActionForm}
use Rattle.cedar_schema_decl.specs.Requalified.{and_then, requalified, requalified_fields, requalified_entity, qualified_in, where_there, each}
use Rattle.cedar_schema_fragments.specs.Qualified.{type_with, fields_with, entity_with, full_name, action_typed, actions_qualified}
use Rattle.cedar_schema_fragments.specs.Refusals.{Refusal, reserved_type}
use Rattle.cedar_schema_decl.specs.declared.json_schema.ActionType.{ActionType}
use Rattle.cedar_schema_fragments.specs.Resolved.{unreserved}
use Rattle.cedar_schema_fragments.specs.Written.{actions_written}

pub same_ok : {A R : Type 0} (x y : A) (o : Result A R) → o ≡ Ok x → o ≡ Ok y → x ≡ y
same_ok x y o h k = cc

-- copies of texts
pub texts_copied : (xs ys : List (RcStr Global)) → AllZip (λ s copy. rc_str_bytes copy ≡ rc_str_bytes s) xs ys → map rc_str_bytes ys ≡ map rc_str_bytes xs
texts_copied [] [] h = refl
texts_copied [] (y ∷ ys) h = absurd h
texts_copied (x ∷ xs) [] h = absurd h
texts_copied (x ∷ xs) (y ∷ ys) h = λ i. h.0 i ∷ texts_copied xs ys h.1 i

-- each of a list
pub each_all : {A B R : Type 0} (f : A → B) (xs : List A) → each {R = R} (λ x. Ok (f x)) xs ≡ Ok (map f xs)
each_all f [] = refl
each_all f (x ∷ xs) = ap (and_then (λ ys. Ok (f x ∷ ys))) (each_all f xs)

pub each_is : {A B R : Type 0} (f : A → B) (xs : List A) (ys : List B) → each {R = R} (λ x. Ok (f x)) xs ≡ Ok ys → ys ≡ map f xs
each_is f xs ys h = same_ok ys (map f xs) (each (λ x. Ok (f x)) xs) h (each_all f xs)

module _ (space : Option Name) where
  mutual
    pub type_all : (t : TypeForm Name) → requalified (qualifying space) t ≡ Ok (type_with (conditional_in space) t)
    type_all bool_form = refl
    type_all long_form = refl
    type_all string_form = refl
    type_all (set_form t) = ap (and_then (λ u. Ok (set_form u))) (type_all t)
    type_all (record_form fs) = ap (and_then (λ gs. Ok (record_form gs))) (fields_all fs)
    type_all (reference_form k a) = refl
    type_all (extension_form n) = refl

    fields_all : (fs : FieldForms Name) → requalified_fields (qualifying space) fs ≡ Ok (fields_with (conditional_in space) fs)
    fields_all no_field_forms = refl
    fields_all (field_form a t r fs) = λ i. and_then (λ u. and_then (λ gs. Ok (field_form a u r gs)) (fields_all fs i)) (type_all t i)

  pub type_is : (t : TypeForm Name) (u : TypeForm Conditional) → qualified_in space t ≡ Ok u → u ≡ type_with (conditional_in space) t
  type_is t u h = same_ok u (type_with (conditional_in space) t) (qualified_in space t) h (type_all t)

  pub names_are : (ns : List Name) (cs : List Conditional) → each (qualifying space to_entity) ns ≡ Ok cs → cs ≡ map (conditional_in space to_entity) ns
  names_are ns cs h = each_is (conditional_in space to_entity) ns cs h

  optional_all : (o : Option (TypeForm Name)) → where_there (requalified (qualifying space)) o ≡ Ok (option_map (type_with (conditional_in space)) o)
  optional_all None = refl
  optional_all (Some t) = ap (and_then (λ u. Ok (Some u))) (type_all t)

  entity_all : (e : EntityForm Name) → requalified_entity (qualifying space) e ≡ Ok (entity_with (conditional_in space) e)
  entity_all (standard_form ps fs t) = λ i. and_then (λ qs. and_then (λ gs. and_then (λ u. Ok (standard_form qs gs u)) (optional_all t i)) (fields_all fs i)) (each_all (conditional_in space to_entity) ps i)
  entity_all (enumerated_form ids) = refl
  entity_all (external_form ps) = ap (and_then (λ qs. Ok (external_form qs))) (each_all (conditional_in space to_entity) ps)

  pub entity_is : (e : EntityForm Name) (f : EntityForm Conditional) → requalified_entity (qualifying space) e ≡ Ok f → f ≡ entity_with (conditional_in space) e
  entity_is e f h = same_ok f (entity_with (conditional_in space) e) (requalified_entity (qualifying space) e) h (entity_all e)

  -- the type of actions
  module _ {X : Type 0} where
    none_reserved : (n : Name) → is_reserved n ≡ false → (as_ : List (Text × X)) → find is_reserved (map (λ a. n) as_) ≡ None
    none_reserved n h [] = refl
    none_reserved n h (a ∷ as_) = ap (λ b. cond b (Some n) (find is_reserved (map (λ c. n) as_))) h ∙ none_reserved n h as_

    first_reserved : (n : Name) → is_reserved n ≡ true → (a : Text × X) (as_ : List (Text × X)) → find is_reserved (map (λ c. n) (a ∷ as_)) ≡ Some n
    first_reserved n h a as_ = ap (λ b. cond b (Some n) (find is_reserved (map (λ c. n) as_))) h

  record IsPlain (n k : Name) : Type 0 where
    same : k ≡ n
    plain : is_reserved n ≡ false

  plain_is : (n k : Name) → unreserved n ≡ Ok k → IsPlain n k
  plain_is n k h = go (is_reserved n) refl h
    where
      go : (b : Bool) → is_reserved n ≡ b → cond b (Err (reserved_type n)) (Ok n) ≡ Ok k → IsPlain n k
      go true e l = absurd (cc)
      go false e l = record { same = same_ok k n (Ok n) l refl; plain = e }

  record IsRefused (n : Name) (r : Refusal) : Type 0 where
    told : reserved_type n ≡ r
    reserved : is_reserved n ≡ true

  refused_is : (n : Name) (r : Refusal) → unreserved n ≡ Err r → IsRefused n r
  refused_is n r h = go (is_reserved n) refl h
    where
      go : (b : Bool) → is_reserved n ≡ b → cond b (Err (reserved_type n)) (Ok n) ≡ Err r → IsRefused n r
      go true e l = record { told = cc; reserved = e }
      go false e l = absurd (cc)

  pub actions_made : (as_ : List (Text × ActionForm Name (Name × Text))) (k : Name) (us : List (Uid × ActionForm Conditional (Conditional × Text))) → unreserved (full_name space action_word) ≡ Ok k → us ≡ map (action_typed space k) as_ → actions_qualified space as_ ≡ Ok us
  actions_made as_ k us h e =
      let is : IsPlain (full_name space action_word) k = plain_is (full_name space action_word) k h in
      ap (λ o. option_map_or (λ n. Err (reserved_type n)) o (Ok (map (action_typed space (full_name space action_word)) as_))) (none_reserved (full_name space action_word) is.plain as_)
      ∙ ap (λ n. Ok (map (action_typed space n) as_)) (sym is.same)
      ∙ ap Ok (sym e)

  pub actions_refused : (as_ : List (Text × ActionForm Name (Name × Text))) (r : Refusal) → (as_ ≡ [] → ⊥) → unreserved (full_name space action_word) ≡ Err r → actions_qualified space as_ ≡ Err r
  actions_refused [] r some h = absurd (some refl)
  actions_refused (a ∷ as_) r some h =
      let is : IsRefused (full_name space action_word) r = refused_is (full_name space action_word) r h in
      ap (λ o. option_map_or (λ n. Err (reserved_type n)) o (Ok (map (action_typed space (full_name space action_word)) (a ∷ as_)))) (first_reserved (full_name space action_word) is.reserved a as_)
      ∙ ap Err is.told

-- the namespace that is lent
pub space_is : (o : Option (Bor InternalName)) (p : Option InternalName) → option_copied o ≡ p → space_of o ≡ option_map name_of p
space_is None None h = refl
space_is None (Some n) h = absurd (cc)
space_is (Some m) None h = absurd (cc)
space_is (Some m) (Some n) h = ap (option_map name_of) h

-- actions that are there
there : (b : Bool) (n : ℕ) → (IsTrue b ↔ (n ≡ 0)) → b ≡ false → n ≡ 0 → ⊥
there b n h e z = true≢false (sym (h.1 z) ∙ e)

no_entries : (es : List (RcStr Global × ActionType RawName)) → actions_written es ≡ [] → length es ≡ 0
no_entries [] h = refl
no_entries (e ∷ es) h = absurd (cc)

pub some_written : (es : List (RcStr Global × ActionType RawName)) (b : Bool) → (IsTrue b ↔ (length es ≡ 0)) → b ≡ false → actions_written es ≡ [] → ⊥
some_written es b h e k = there b (length es) h e (no_entries es k)
