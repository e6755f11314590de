-- What is written becomes a record where its type is one of records.
use Rattle.std.proofs.Common.{◌≡◌, ℕ, zero, suc, List, [], ◌∷◌, length, Bool, true, false, not, ◌||◌, ◌&&◌, map, Option, Some, None, refl, sym, ◌∙◌, subst, inl, inr}
use Rattle.std.specs.Prelude.{Contains, is_some, if◌then◌else◌, find}
use Rattle.std.specs.Option.{option_map_or}
use Rattle.std.specs.List.{list_all}
use Rattle.cedar_expr_model.specs.Name.{Name, name_eq}
use Rattle.cedar_expr_model.proofs.Equality.{name_eq-Decides}
use Rattle.cedar_expr_model.proofs.Lists.{found-Decides, all_from, map_has}
use Rattle.cedar_schema_model.specs.Types.{Ty, never}
use Rattle.cedar_schema_model.specs.Reference.{Namespace, Reference, Meant, meant_common, meant_entity}
use Rattle.cedar_schema_model.specs.Declarations.{TypeExpr, bool_expr, long_expr, string_expr, set_expr, record_expr, reference, extension_expr, CommonDeclaration, ActionDeclaration, Declarations, common_name, common_names, is_declared, meant}
use Rattle.cedar_schema_model.specs.WellFormed.{refers_to_record, is_record_within, becomes_record}
use Rattle.cedar_schema_model.specs.Resolved.{type_meant, resolved_by, common_within, resolved}
use Rattle.cedar_schema_model.specs.BagLaws.{HasTwice}
use Rattle.cedar_schema_model.proofs.Named.{defined_by}
use Rattle.cedar_schema_model.proofs.Decls.Resolved.{some_common}
use Rattle.cedar_schema_model.proofs.Decls.Faults.{meant_is_declared}
use Rattle.cedar_schema_model.specs.Contexts.{is_record_type}

-- a declaration of another name is passed over
other_name : (b t : Bool) → b ≡ false → (not b || t) ≡ true
other_name false t e = refl
other_name true t e = cc

not_so : (b : Bool) → (b ≡ true → ⊥) → b ≡ false
not_so false h = refl
not_so true h = absurd (h refl)

and_rest : (b t r : Bool) → b ≡ true → r ≡ true → ((not b || t) && r) ≡ t
and_rest true true r e h = h
and_rest true false r e h = refl
and_rest false t r e h = cc

passed_over : (b t r : Bool) → b ≡ false → ((not b || t) && r) ≡ r
passed_over false t r e = refl
passed_over true t r e = cc

-- where the name isn't declared among these, each passes
none_asked : (test : CommonDeclaration → Bool) (n : Name) (cs : List CommonDeclaration) → (Contains (map common_name cs) n → ⊥) → list_all (λ c. not (name_eq n (common_name c)) || test c) cs ≡ true
none_asked test n cs h =
    all_from (λ c. not (name_eq n (common_name c)) || test c) cs
    (λ c k. other_name (name_eq n (common_name c)) (test c) (not_so (name_eq n (common_name c)) (λ e. h (subst (Contains (map common_name cs)) (sym ((name_eq-Decides n (common_name c)).0 e)) (map_has common_name cs c k)))))

-- the test of each declaration of a name, of which there is one at most, is that of the one that is found
abbrev asked : (CommonDeclaration → Bool) → Name → List CommonDeclaration → Bool
asked test n cs = list_all (λ c. not (name_eq n (common_name c)) || test c) cs

abbrev found_test : (CommonDeclaration → Bool) → Option CommonDeclaration → Bool
found_test test o = option_map_or test o true

asked_step : (test : CommonDeclaration → Bool) (n : Name) (b : CommonDeclaration) (cs : List CommonDeclaration) → (HasTwice (map common_name (b ∷ cs)) → ⊥) → asked test n cs ≡ found_test test (find (λ (x : CommonDeclaration). name_eq n (common_name x)) cs) → (t : Bool) → name_eq n (common_name b) ≡ t → ((not t || test b) && asked test n cs) ≡ found_test test (if t then Some b else find (λ (x : CommonDeclaration). name_eq n (common_name x)) cs)
asked_step test n b cs once rest true e = and_rest true (test b) (asked test n cs) refl (none_asked test n cs (λ k. once (inl (subst (Contains (map common_name cs)) ((name_eq-Decides n (common_name b)).0 e) k))))
asked_step test n b cs once rest false e = rest

asked_is_found : (test : CommonDeclaration → Bool) (n : Name) (cs : List CommonDeclaration) → (HasTwice (map common_name cs) → ⊥) → asked test n cs ≡ found_test test (find (λ (x : CommonDeclaration). name_eq n (common_name x)) cs)
asked_is_found test n [] once = refl
asked_is_found test n (b ∷ cs) once = asked_step test n b cs once (asked_is_found test n cs (λ t. once (inr t))) (name_eq n (common_name b)) refl

-- of what is found, the definition
same_found : (d : Declarations) (test : CommonDeclaration → Bool) (f : Name → Ty) → ((c : CommonDeclaration) → test c ≡ is_record_type (resolved_by f d c.namespace c.definition)) → (o : Option CommonDeclaration) → is_some o ≡ true → found_test test o ≡ is_record_type (defined_by f d o)
same_found d test f each None s = cc
same_found d test f each (Some c) s = each c

same_meant : (d : Declarations) → (HasTwice (common_names d) → ⊥) → (k : ℕ) → ((ns : Namespace) (t : TypeExpr) → is_record_within k d ns t ≡ is_record_type (resolved_by (common_within k d) d ns t)) → (o : Option Meant) → ((m : Meant) → o ≡ Some m → is_declared d m ≡ true) → refers_to_record (λ c. is_record_within k d c.namespace c.definition) d o ≡ is_record_type (type_meant (common_within (suc k) d) o)
same_meant d once k each None declared = refl
same_meant d once k each (Some (meant_entity n)) declared = refl
same_meant d once k each (Some (meant_common n)) declared =
    asked_is_found (λ c. is_record_within k d c.namespace c.definition) n d.commons once
    ∙ same_found d (λ c. is_record_within k d c.namespace c.definition) (common_within k d) (λ c. each c.namespace c.definition) (find (λ (x : CommonDeclaration). name_eq n (common_name x)) d.commons)
    (some_common n d.commons ((found-Decides name_eq name_eq-Decides n (common_names d)).0 (declared (meant_common n) refl)))

never_record : (o : Option Meant) → is_record_type (type_meant (λ n. never) o) ≡ false
never_record None = refl
never_record (Some (meant_common n)) = refl
never_record (Some (meant_entity n)) = refl

same_within : (d : Declarations) → (HasTwice (common_names d) → ⊥) → (k : ℕ) (ns : Namespace) (t : TypeExpr) → is_record_within k d ns t ≡ is_record_type (resolved_by (common_within k d) d ns t)
same_within d once zero ns bool_expr = refl
same_within d once zero ns long_expr = refl
same_within d once zero ns string_expr = refl
same_within d once zero ns (set_expr t) = refl
same_within d once zero ns (record_expr fs) = refl
same_within d once zero ns (reference k n) = let r : Reference = record { namespace = ns; kind = k; name = n } in sym (never_record (meant d r))
same_within d once zero ns (extension_expr n) = refl
same_within d once (suc m) ns bool_expr = refl
same_within d once (suc m) ns long_expr = refl
same_within d once (suc m) ns string_expr = refl
same_within d once (suc m) ns (set_expr t) = refl
same_within d once (suc m) ns (record_expr fs) = refl
same_within d once (suc m) ns (reference k n) =
    let r : Reference = record { namespace = ns; kind = k; name = n } in
    same_meant d once m (same_within d once m) (meant d r) (λ x e. meant_is_declared d r x e)
same_within d once (suc m) ns (extension_expr n) = refl

pub becomes : (d : Declarations) → (HasTwice (common_names d) → ⊥) → (a : ActionDeclaration) → becomes_record d a ≡ is_record_type (resolved d a.namespace a.context)
becomes d once a = same_within d once (length d.commons) a.namespace a.context
