-- A refusal of what is written is a fault of the declarations.
use Rattle.std.proofs.Common.{◌≡◌, Bool, true, false, List, [], ◌∷◌, map, Option, Some, None, Result, Ok, Err, refl, sym, ap, ◌∙◌, subst, arith}
use Rattle.std.proofs.lemmas.List.Elements.{Contains-append_left, Contains-append_right}
use Rattle.std.specs.Prelude.{Contains, find, if◌then◌else◌}
use Rattle.std.specs.Option.{option_map_or}
use Rattle.cedar_expr_model.specs.Name.{Text, Name, is_reserved}
use Rattle.cedar_expr_model.proofs.Lists.{contains_head, contains_tail, map_has, map_from, flat_has}
use Rattle.cedar_schema_model.specs.Declarations.{ActionDeclaration, Declarations, common_names, entity_names, action_uid, action_uids}
use Rattle.cedar_schema_model.specs.WellFormed.{reserved_name, IsWellFormed, written_names}
use Rattle.cedar_schema_model.proofs.Decls.Faults.{no_schema_fault}
use Rattle.cedar_schema_model.specs.BagLaws.{HasSchemaFault}
use Rattle.cedar_schema_decl.specs.Conditional.{Conditional}
use Rattle.cedar_schema_decl.specs.Forms.{ActionForm}
use Rattle.cedar_schema_decl.specs.Requalified.{and_then, each}
use Rattle.cedar_schema_fragments.specs.Laws.{IsRefusedFor}
use Rattle.cedar_schema_fragments.specs.Namespaces.{NamespaceForm}
use Rattle.cedar_schema_fragments.specs.Qualified.{full_uid, action_qualified, reserved_action, qualified_with, namespace_qualified}
use Rattle.cedar_schema_fragments.specs.Refusals.{Refusal, reserved_type}
use Rattle.cedar_schema_fragments.specs.Written.{WrittenNamespace}
use Rattle.cedar_schema_fragments.specs.WrittenDeclarations.{action_declaration, declared_in, declarations_of}

-- what is found passes the test
module _ {A : Type 0} (p : A → Bool) where
  first_there : (xs : List A) (y : A) → find p xs ≡ Some y → Contains xs y × (p y ≡ true)
  first_there [] y h = absurd (cc)
  first_there (x ∷ xs) y h = go (first_there xs y) (p x) refl h
    where
      go : (find p xs ≡ Some y → Contains xs y × (p y ≡ true)) → (b : Bool) → p x ≡ b → (if b then Some x else find p xs) ≡ Some y → Contains (x ∷ xs) y × (p y ≡ true)
      go rest true e k = let same : x ≡ y = cc in (subst (Contains (x ∷ xs)) same (contains_head x xs), ap p (sym same) ∙ e)
      go rest false e k = let r = rest k in (contains_tail x xs y r.0, r.1)

-- the refusal of one of several
module _ {A B R : Type 0} (f : A → Result B R) where
  pub refused_there : (xs : List A) (r : R) → each f xs ≡ Err r → (x : A) × Contains xs x × (f x ≡ Err r)
  refused_there [] r h = absurd (cc)
  refused_there (x ∷ xs) r h = go (refused_there xs r) (f x) (each f xs) refl refl h
    where
      go : (each f xs ≡ Err r → (z : A) × Contains xs z × (f z ≡ Err r)) → (o : Result B R) (q : Result (List B) R) → f x ≡ o → each f xs ≡ q → and_then (λ y. and_then (λ zs. Ok (y ∷ zs)) q) o ≡ Err r → (z : A) × Contains (x ∷ xs) z × (f z ≡ Err r)
      go rest (Ok y) (Ok zs) e g k = absurd (cc)
      go rest (Ok y) (Err s) e g k =
          let later = rest (g ∙ (let same : s ≡ r = cc in ap Err same)) in
          (later.0, contains_tail x xs later.0 later.1, later.2)
      go rest (Err s) q e g k = let same : s ≡ r = cc in (x, contains_head x xs, e ∙ ap Err same)

-- the refusal of a namespace: one of its actions is of a reserved type
record IsOfAction (w : WrittenNamespace) (r : Refusal) : Type 0 where
  kind : Name
  told : r ≡ reserved_type kind
  there : Contains (map (λ a. (full_uid w.namespace a.0).kind) w.actions) kind
  reserved : is_reserved kind ≡ true

of_action : (w : WrittenNamespace) (r : Refusal) → namespace_qualified w ≡ Err r → IsOfAction w r
of_action w r h = go (reserved_action w.namespace w.actions) refl h
  where
    go : (o : Option Name) → reserved_action w.namespace w.actions ≡ o → and_then (λ us. Ok (qualified_with w us)) (option_map_or (λ m. Err (reserved_type m)) o (Ok (map (action_qualified w.namespace) w.actions))) ≡ Err r → IsOfAction w r
    go None e k = absurd (cc)
    go (Some n) e k =
        let found : Contains (map (λ a. (full_uid w.namespace a.0).kind) w.actions) n × (is_reserved n ≡ true) = first_there is_reserved (map (λ a. (full_uid w.namespace a.0).kind) w.actions) n e in
        record { kind = n; told = cc; there = found.0; reserved = found.1 }

-- the type of a declared action is written
type_written : (d : Declarations) (a : ActionDeclaration) → Contains d.actions a → Contains (written_names d) (action_uid a).kind
type_written d a h =
    Contains-append_right (common_names d) _ _
    (Contains-append_right (entity_names d) _ _
    (Contains-append_left (map (λ u. u.kind) (action_uids d)) _ _
    (map_has (λ u. u.kind) (action_uids d) (action_uid a) (map_has action_uid d.actions a h))))

pub refused_for : (ws : List WrittenNamespace) (r : Refusal) → each namespace_qualified ws ≡ Err r → IsRefusedFor (declarations_of ws) r
refused_for ws r h =
    let w : (w : WrittenNamespace) × Contains ws w × (namespace_qualified w ≡ Err r) = refused_there namespace_qualified ws r h in
    let i : IsOfAction w.0 r = of_action w.0 r w.2 in
    let a = map_from (λ (a : Text × ActionForm Name (Name × Text)). (full_uid w.0.namespace a.0).kind) w.0.actions i.kind i.there in
    let there : Contains (declarations_of ws).actions (action_declaration w.0.namespace a.0) =
    flat_has (λ (d : Declarations). d.actions) (map declared_in ws) (declared_in w.0) (action_declaration w.0.namespace a.0) (map_has declared_in ws w.0 w.1) (map_has (action_declaration w.0.namespace) w.0.actions a.0 a.1) in
    record {
      kind = i.kind;
      told = i.told;
      written = subst (Contains (written_names (declarations_of ws))) a.2 (type_written (declarations_of ws) (action_declaration w.0.namespace a.0) there);
      reserved = i.reserved;
    }

pub refused_is_fault : (x : List Name) (ws : List WrittenNamespace) (r : Refusal) → each namespace_qualified ws ≡ Err r → HasSchemaFault x (declarations_of ws) reserved_name
refused_is_fault x ws r h = let i : IsRefusedFor (declarations_of ws) r = refused_for ws r h in (i.kind, i.written, i.reserved)

pub formed_are_made : (x : List Name) (ws : List WrittenNamespace) → IsWellFormed x (declarations_of ws) → (ns : List (NamespaceForm Conditional (Conditional × Text))) × (each namespace_qualified ws ≡ Ok ns)
formed_are_made x ws w = go (each namespace_qualified ws) refl
  where
    go : (o : Result (List (NamespaceForm Conditional (Conditional × Text))) Refusal) → each namespace_qualified ws ≡ o → (ns : List (NamespaceForm Conditional (Conditional × Text))) × (each namespace_qualified ws ≡ Ok ns)
    go (Ok ns) e = (ns, e)
    go (Err r) e = absurd (no_schema_fault x (declarations_of ws) w reserved_name (9, omega arith, refl) (refused_is_fault x ws r e))
