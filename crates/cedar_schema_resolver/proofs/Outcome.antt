-- What comes of a type is the type that it tells, or a fault that is there.
use Rattle.std.proofs.Common.{◌≡◌, Bool, true, false, cond, List, [], ◌∷◌, ◌++◌, Option, Some, None, Result, Ok, Err, IfOk, IfErr, find, refl, sym, ap, ◌∙◌, subst, inl, inr, ⊎_elim, ◌⊎◌}
use Rattle.std.proofs.lemmas.List.Elements.{Contains-append_left, Contains-append_right, Contains-append_cases}
use Rattle.std.specs.Prelude.{Contains}
use Rattle.std.specs.List.{list_any}
use Rattle.std.specs.Option.{option_to_list}
use Rattle.std.proofs.lemmas.Bool.{true≢false}
use Rattle.cedar_expr_model.specs.Name.{Name, name_eq, is_reserved}
use Rattle.cedar_expr_model.proofs.Equality.{name_eq-Decides}
use Rattle.cedar_expr_model.proofs.Lists.{contains_head, contains_cases, contains_none, found-Decides}
use Rattle.cedar_expr_names.specs.Views.{name_of, plain_name_of, refused_name_of}
use Rattle.cedar_schema_model.specs.Types.{Ty, entity_type, extension_type, set_type, record_type, is_closed, Attributes}
use Rattle.cedar_schema_model.specs.Reference.{Meant, meant_common, meant_entity, meant_at}
use Rattle.cedar_schema_model.specs.Declarations.{extensions_in, extensions_in_fields}
use Rattle.cedar_schema_model.specs.Resolved.{with_attribute, type_meant}
use Rattle.cedar_schema_decl.specs.Defined.{is_defined}
use Rattle.cedar_schema_decl.specs.Forms.{TypeForm, bool_form, long_form, string_form, set_form, record_form, reference_form, extension_form, FieldForms, no_field_forms, field_form}
use Rattle.cedar_schema_decl.specs.Laws.{as_expr, as_exprs}
use Rattle.cedar_schema_decl.specs.Requalified.{and_then}
use Rattle.cedar_schema_resolver.specs.Meanings.{Setting, told, told_fields, meant_in, meant_in_fields}
use Rattle.cedar_schema_resolver.specs.Outcomes.{Refusal, unknown_extension, reserved_type, common_on_cycle, repeated_common, Refuses, unreserved, meant_outcome, extension_among, extension_outcome, type_outcome, fields_outcome}
use Rattle.cedar_schema_resolver.specs.Refusals.{AreKnown, TellsUntold}
use Rattle.cedar_schema_resolver.specs.declared.err.ResolveError.{ResolveError}
use Rattle.cedar_schema_resolver.specs.declared.err.ResolveError.TheVariants.{OutOfMemory, UnknownExtensionType, ReservedName, DuplicateCommonType, CycleInCommonTypeReferences}

pub ok_then : {A B R : Type 0} (o : Result A R) (f : A → B) (P : A → Type 0) (Q : B → Type 0) → IfOk o P → ((x : A) → P x → Q (f x)) → IfOk (and_then (λ x. Ok (f x)) o) Q
ok_then (Ok x) f P Q h k = k x h
ok_then (Err r) f P Q h k = tt

pub ok_both : {A B C R : Type 0} (o : Result A R) (q : Result B R) (f : A → B → C) (P : A → Type 0) (S : B → Type 0) (Q : C → Type 0) → IfOk o P → IfOk q S → ((x : A) (y : B) → P x → S y → Q (f x y)) → IfOk (and_then (λ x. and_then (λ y. Ok (f x y)) q) o) Q
ok_both (Ok x) (Ok y) f P S Q h j k = k x y h j
ok_both (Ok x) (Err r) f P S Q h j k = tt
ok_both (Err r) q f P S Q h j k = tt

err_then : {A B R : Type 0} (o : Result A R) (f : A → B) (P Q : R → Type 0) → IfErr o P → ((r : R) → P r → Q r) → IfErr (and_then (λ x. Ok (f x)) o) Q
err_then (Ok x) f P Q h k = tt
err_then (Err r) f P Q h k = k r h

err_both : {A B C R : Type 0} (o : Result A R) (q : Result B R) (f : A → B → C) (P S Q : R → Type 0) → IfErr o P → IfErr q S → ((r : R) → P r → Q r) → ((r : R) → S r → Q r) → IfErr (and_then (λ x. and_then (λ y. Ok (f x y)) q) o) Q
err_both (Ok x) (Ok y) f P S Q h j k l = tt
err_both (Ok x) (Err r) f P S Q h j k l = l r j
err_both (Err r) q f P S Q h j k l = k r h

module _ (s : Setting) where
  -- the type that is told
  entity_told : (n : Name) (b : Bool) → IfOk (and_then (λ m. Ok (entity_type m)) (cond b (Err (reserved_type n)) (Ok n))) (λ u. u ≡ entity_type n)
  entity_told n true = tt
  entity_told n false = refl

  meant_told : (o : Option Meant) → IfOk (meant_outcome s o) (λ u. u ≡ type_meant s.commons o)
  meant_told None = refl
  meant_told (Some (meant_common n)) = refl
  meant_told (Some (meant_entity n)) = entity_told n (is_reserved n)

  -- an extension type that is known
  abbrev IsExtension : Name → Ty → Type 0
  IsExtension n u = (u ≡ extension_type n) × Contains s.extensions n

  among_told : (n : Name) (b : Bool) → list_any (name_eq n) s.extensions ≡ b → IfOk (cond b (Ok (extension_type n)) (Err (unknown_extension n))) (IsExtension n)
  among_told n true e = (refl, (found-Decides name_eq name_eq-Decides n s.extensions).0 e)
  among_told n false e = tt

  extension_told : (n : Name) (a : Bool) → IfOk (and_then (extension_among s.extensions) (cond a (Err (reserved_type n)) (Ok n))) (IsExtension n)
  extension_told n true = tt
  extension_told n false = among_told n (list_any (name_eq n) s.extensions) refl

  -- The type is told, and its extension types are known.
  abbrev AllKnown : List Name → Type 0
  AllKnown ns = (n : Name) → Contains ns n → Contains s.extensions n

  record IsTold {X : Type 0} (is : X) (ns : List Name) (u : X) : Type 0 where
    same : u ≡ is
    known : AllKnown ns

  known_none : AllKnown []
  known_none n h = absurd (contains_none n h)

  known_one : (m : Name) → Contains s.extensions m → AllKnown (m ∷ [])
  known_one m k n h = contains_cases (Contains s.extensions n) m [] n h (λ e. subst (Contains s.extensions) e k) (λ c. known_none n c)

  known_both : (ns ms : List Name) → AllKnown ns → AllKnown ms → AllKnown (ns ++ ms)
  known_both ns ms h k n c = ⊎_elim (h n) (k n) (Contains-append_cases ns ms n c)

  none_told : {X : Type 0} (u v : X) → u ≡ v → IsTold v [] u
  none_told u v e = record { same = e; known = known_none }

  abbrev exts : TypeForm Name → List Name
  exts t = extensions_in (as_expr t)

  abbrev exts_of : FieldForms Name → List Name
  exts_of fs = extensions_in_fields (as_exprs fs)

  mutual
    type_is : (t : TypeForm Name) → IfOk (type_outcome s t) (IsTold (told s t) (exts t))
    type_is bool_form = none_told _ _ refl
    type_is long_form = none_told _ _ refl
    type_is string_form = none_told _ _ refl
    type_is (set_form t) = ok_then (type_outcome s t) set_type (IsTold (told s t) (exts t)) (IsTold (set_type (told s t)) (exts t)) (type_is t) (λ u h. record { same = ap set_type h.same; known = h.known })
    type_is (record_form fs) =
        ok_then (fields_outcome s fs) (λ as_. record_type as_ is_closed) (IsTold (told_fields s fs) (exts_of fs)) (IsTold (record_type (told_fields s fs) is_closed) (exts_of fs)) (fields_are fs)
        (λ as_ h. record { same = ap (λ bs. record_type bs is_closed) h.same; known = h.known })
    type_is (reference_form k n) =
        let o = find (is_defined s.defined) (meant_at k n) in
        widened (meant_outcome s o) (meant_told o)
      where
        widened : (r : Result Ty Refusal) → IfOk r (λ u. u ≡ type_meant s.commons (find (is_defined s.defined) (meant_at k n))) → IfOk r (IsTold (told s (reference_form k n)) [])
        widened (Ok u) h = none_told _ _ h
        widened (Err r) h = tt
    type_is (extension_form n) = widened (extension_outcome s.extensions n) (extension_told n (is_reserved n))
      where
        widened : (r : Result Ty Refusal) → IfOk r (IsExtension n) → IfOk r (IsTold (extension_type n) (n ∷ []))
        widened (Ok u) h = record { same = h.0; known = known_one n h.1 }
        widened (Err r) h = tt

    fields_are : (fs : FieldForms Name) → IfOk (fields_outcome s fs) (IsTold (told_fields s fs) (exts_of fs))
    fields_are no_field_forms = none_told _ _ refl
    fields_are (field_form a t r fs) =
        ok_both (type_outcome s t) (fields_outcome s fs) (λ u as_. with_attribute a u r as_) (IsTold (told s t) (exts t)) (IsTold (told_fields s fs) (exts_of fs)) (IsTold (with_attribute a (told s t) r (told_fields s fs)) (exts t ++ exts_of fs)) (type_is t) (fields_are fs)
        (λ u as_ h k. record { same = λ i. with_attribute a (h.same i) r (k.same i); known = known_both (exts t) (exts_of fs) h.known k.known })

  pub type_told_is : (t : TypeForm Name) (u : Ty) → type_outcome s t ≡ Ok u → u ≡ told s t
  type_told_is t u h = (subst (λ o. IfOk o (IsTold (told s t) (exts t))) h (type_is t)).same

  pub type_known : (t : TypeForm Name) (u : Ty) → type_outcome s t ≡ Ok u → AreKnown s.extensions t
  type_known t u h = record { each = (subst (λ o. IfOk o (IsTold (told s t) (exts t))) h (type_is t)).known }

  pub fields_told_are : (fs : FieldForms Name) (as_ : Attributes) → fields_outcome s fs ≡ Ok as_ → as_ ≡ told_fields s fs
  fields_told_are fs as_ h = (subst (λ o. IfOk o (IsTold (told_fields s fs) (exts_of fs))) h (fields_are fs)).same

  pub fields_known : (fs : FieldForms Name) (as_ : Attributes) → fields_outcome s fs ≡ Ok as_ → AreKnown s.extensions (record_form fs)
  fields_known fs as_ h = record { each = (subst (λ o. IfOk o (IsTold (told_fields s fs) (exts_of fs))) h (fields_are fs)).known }

  -- A fault is there, where these are meant and these extension types are named.
  abbrev IsFault : List Meant → List Name → Refusal → Type 0
  IsFault ms ns (unknown_extension n) = Contains ns n × (Contains s.extensions n → ⊥)
  IsFault ms ns (reserved_type n) = (is_reserved n ≡ true) × (Contains ms (meant_entity n) ⊎ Contains ns n)
  IsFault ms ns (common_on_cycle n) = ⊥
  IsFault ms ns (repeated_common n) = ⊥

  wider : (ms ls : List Meant) (ns ks : List Name) → ((m : Meant) → Contains ms m → Contains ls m) → ((n : Name) → Contains ns n → Contains ks n) → (r : Refusal) → IsFault ms ns r → IsFault ls ks r
  wider ms ls ns ks f g (unknown_extension n) h = (g n h.0, h.1)
  wider ms ls ns ks f g (reserved_type n) h = (h.0, ⊎_elim (λ c. inl (f (meant_entity n) c)) (λ c. inr (g n c)) h.1)
  wider ms ls ns ks f g (common_on_cycle n) h = h
  wider ms ls ns ks f g (repeated_common n) h = h

  entity_fault : (n : Name) (b : Bool) → is_reserved n ≡ b → IfErr (and_then (λ m. Ok (entity_type m)) (cond b (Err (reserved_type n)) (Ok n))) (IsFault (meant_entity n ∷ []) [])
  entity_fault n true e = (e, inl (contains_head (meant_entity n) []))
  entity_fault n false e = tt

  meant_fault : (o : Option Meant) → IfErr (meant_outcome s o) (IsFault (option_to_list o) [])
  meant_fault None = tt
  meant_fault (Some (meant_common n)) = tt
  meant_fault (Some (meant_entity n)) = entity_fault n (is_reserved n) refl

  among_fault : (n : Name) (b : Bool) → list_any (name_eq n) s.extensions ≡ b → IfErr (cond b (Ok (extension_type n)) (Err (unknown_extension n))) (IsFault [] (n ∷ []))
  among_fault n true e = tt
  among_fault n false e = (contains_head n [], λ c. true≢false (sym ((found-Decides name_eq name_eq-Decides n s.extensions).1 c) ∙ e))

  extension_fault : (n : Name) (a : Bool) → is_reserved n ≡ a → IfErr (and_then (extension_among s.extensions) (cond a (Err (reserved_type n)) (Ok n))) (IsFault [] (n ∷ []))
  extension_fault n true d = (d, inr (contains_head n []))
  extension_fault n false d = among_fault n (list_any (name_eq n) s.extensions) refl

  mutual
    type_fault : (t : TypeForm Name) → IfErr (type_outcome s t) (IsFault (meant_in s.defined t) (exts t))
    type_fault bool_form = tt
    type_fault long_form = tt
    type_fault string_form = tt
    type_fault (set_form t) = err_then (type_outcome s t) set_type (IsFault (meant_in s.defined t) (exts t)) (IsFault (meant_in s.defined t) (exts t)) (type_fault t) (λ r h. h)
    type_fault (record_form fs) = err_then (fields_outcome s fs) (λ as_. record_type as_ is_closed) (IsFault (meant_in_fields s.defined fs) (exts_of fs)) (IsFault (meant_in_fields s.defined fs) (exts_of fs)) (fields_fault fs) (λ r h. h)
    type_fault (reference_form k n) = meant_fault (find (is_defined s.defined) (meant_at k n))
    type_fault (extension_form n) = extension_fault n (is_reserved n) refl

    fields_fault : (fs : FieldForms Name) → IfErr (fields_outcome s fs) (IsFault (meant_in_fields s.defined fs) (exts_of fs))
    fields_fault no_field_forms = tt
    fields_fault (field_form a t r fs) =
        let ms = meant_in s.defined t in
        let ls = meant_in_fields s.defined fs in
        err_both (type_outcome s t) (fields_outcome s fs) (λ u as_. with_attribute a u r as_) (IsFault ms (exts t)) (IsFault ls (exts_of fs)) (IsFault (ms ++ ls) (exts t ++ exts_of fs)) (type_fault t) (fields_fault fs)
        (wider ms (ms ++ ls) (exts t) (exts t ++ exts_of fs) (λ m c. Contains-append_left ms ls m c) (λ n c. Contains-append_left (exts t) (exts_of fs) n c))
        (wider ls (ms ++ ls) (exts_of fs) (exts t ++ exts_of fs) (λ m c. Contains-append_right ms ls m c) (λ n c. Contains-append_right (exts t) (exts_of fs) n c))

  fault : (t : TypeForm Name) (r : Refusal) → type_outcome s t ≡ Err r → IsFault (meant_in s.defined t) (exts t) r
  fault t r h = subst (λ o. IfErr o (IsFault (meant_in s.defined t) (exts t))) h (type_fault t)

  -- the error tells a fault of the type
  pub type_tells : (t : TypeForm Name) (e : ResolveError) → Refuses (type_outcome s t) e → TellsUntold s t e
  type_tells t OutOfMemory h = tt
  type_tells t (UnknownExtensionType n) h = fault t (unknown_extension (plain_name_of n)) (h (unknown_extension (plain_name_of n)) refl)
  type_tells t (ReservedName e) h = fault t (reserved_type (refused_name_of e)) (h (reserved_type (refused_name_of e)) refl)
  type_tells t (DuplicateCommonType n) h = fault t (repeated_common (name_of n)) (h (repeated_common (name_of n)) refl)
  type_tells t (CycleInCommonTypeReferences n) h = fault t (common_on_cycle (name_of n)) (h (common_on_cycle (name_of n)) refl)

  pub fields_tell : (fs : FieldForms Name) (e : ResolveError) → Refuses (fields_outcome s fs) e → TellsUntold s (record_form fs) e
  fields_tell fs e h = type_tells (record_form fs) e (λ r u. ap (and_then (λ as_. Ok (record_type as_ is_closed))) (h r u))

  -- a name that isn't reserved, as an extension type
  pub extension_known : (n m : Name) → unreserved n ≡ Ok m → list_any (name_eq m) s.extensions ≡ true → extension_outcome s.extensions n ≡ Ok (extension_type m)
  extension_known n m h e = ap (and_then (extension_among s.extensions)) h ∙ ap (λ b. cond b (Ok (extension_type m)) (Err (unknown_extension m))) e

  pub extension_unknown : (n m : Name) → unreserved n ≡ Ok m → list_any (name_eq m) s.extensions ≡ false → (r : Refusal) → Some (unknown_extension m) ≡ Some r → extension_outcome s.extensions n ≡ Err r
  extension_unknown n m h e r u =
      let same : unknown_extension m ≡ r = cc in
      ap (and_then (extension_among s.extensions)) h ∙ ap (λ b. cond b (Ok (extension_type m)) (Err (unknown_extension m))) e ∙ ap Err same
