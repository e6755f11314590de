-- The forms that fragments have are those of the namespaces that are written.
use Rattle.std.proofs.Common.{◌≡◌, List, [], ◌∷◌, ◌++◌, map, Option, Some, None, Result, Ok, Err, refl, sym, ap, ◌∙◌}
use Rattle.std.specs.Option.{option_map_or}
use Rattle.cedar_expr_model.specs.Name.{Text, Name}
use Rattle.cedar_schema_decl.specs.Conditional.{Conditional}
use Rattle.cedar_schema_decl.specs.Requalified.{and_then, each}
use Rattle.cedar_schema_fragments.proofs.Qualifying.{same_ok}
use Rattle.cedar_schema_fragments.specs.Namespaces.{NamespaceForm}
use Rattle.cedar_schema_fragments.specs.Qualified.{action_qualified, reserved_action, qualified_with, namespace_qualified}
use Rattle.cedar_schema_fragments.specs.Refusals.{reserved_type}
use Rattle.cedar_schema_fragments.specs.Written.{WrittenNamespace}

-- a namespace with all that it declares
abbrev pub whole : WrittenNamespace → NamespaceForm Conditional (Conditional × Text)
whole w = qualified_with w (map (action_qualified w.namespace) w.actions)

whole_is : (w : WrittenNamespace) (n : NamespaceForm Conditional (Conditional × Text)) → namespace_qualified w ≡ Ok n → n ≡ whole w
whole_is w n h = go (reserved_action w.namespace w.actions) h
  where
    go : (o : Option Name) → and_then (λ us. Ok (qualified_with w us)) (option_map_or (λ m. Err (reserved_type m)) o (Ok (map (action_qualified w.namespace) w.actions))) ≡ Ok n → n ≡ whole w
    go None e = same_ok n (whole w) (Ok (whole w)) e refl
    go (Some m) e = absurd (cc)

module _ {A B R : Type 0} (f : A → Result B R) where
  -- the first was made, and so were those after it
  record Parts (x : A) (xs : List A) (ys : List B) : Type 0 where
    first : B
    later : List B
    makes : f x ≡ Ok first
    more : each f xs ≡ Ok later
    all : ys ≡ first ∷ later

  parts : (x : A) (xs : List A) (ys : List B) → each f (x ∷ xs) ≡ Ok ys → Parts x xs ys
  parts x xs ys h = go (f x) (each f xs) refl refl h
    where
      go : (o : Result B R) (q : Result (List B) R) → f x ≡ o → each f xs ≡ q → and_then (λ y. and_then (λ zs. Ok (y ∷ zs)) q) o ≡ Ok ys → Parts x xs ys
      go (Ok y) (Ok zs) e g k = record { first = y; later = zs; makes = e; more = g; all = same_ok ys (y ∷ zs) (Ok (y ∷ zs)) k refl }
      go (Ok y) (Err r) e g k = absurd (cc)
      go (Err r) q e g k = absurd (cc)

  pub each_by : (h : A → B) → ((x : A) (y : B) → f x ≡ Ok y → y ≡ h x) → (xs : List A) (ys : List B) → each f xs ≡ Ok ys → ys ≡ map h xs
  each_by h is [] ys e = same_ok ys [] (each f []) e refl
  each_by h is (x ∷ xs) ys e =
      let p : Parts x xs ys = parts x xs ys e in
      p.all ∙ (λ i. is x p.first p.makes i ∷ each_by h is xs p.later p.more i)

  -- of lists one after the other
  pub each_after : (xs ys : List A) (us vs : List B) → each f xs ≡ Ok us → each f ys ≡ Ok vs → each f (xs ++ ys) ≡ Ok (us ++ vs)
  each_after [] ys us vs h k = k ∙ ap (λ ws. Ok (ws ++ vs)) (same_ok [] us (each f []) refl h)
  each_after (x ∷ xs) ys us vs h k =
      let p : Parts x xs us = parts x xs us h in
      ap (and_then (λ y. and_then (λ zs. Ok (y ∷ zs)) (each f (xs ++ ys)))) p.makes
      ∙ ap (and_then (λ zs. Ok (p.first ∷ zs))) (each_after xs ys p.later vs p.more k)
      ∙ ap (λ ws. Ok (ws ++ vs)) (sym p.all)

-- the forms are those of the written namespaces
pub wholes_are : (ws : List WrittenNamespace) (ns : List (NamespaceForm Conditional (Conditional × Text))) → each namespace_qualified ws ≡ Ok ns → ns ≡ map whole ws
wholes_are ws ns h = each_by namespace_qualified whole whole_is ws ns h
