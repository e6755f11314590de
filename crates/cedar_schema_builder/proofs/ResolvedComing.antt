-- What came before what came after it, and lists whose items stand in the place of others.
use Rattle.std.proofs.Common.{◌≡◌, Bool, true, false, cond, List, [], ◌∷◌, ◌++◌, map, Option, Some, Result, Ok, Err, refl, sym, ap, ◌∙◌, subst}
use Rattle.std.specs.Prelude.{Contains}
use Rattle.std.specs.List.{filter_map, flat_map, cons_option}
use Rattle.cedar_expr_model.specs.Name.{Name, is_reserved}
use Rattle.cedar_expr_model.proofs.Lists.{contains_cases, contains_none, contains_head, contains_tail}
use Rattle.cedar_schema_decl.specs.Conditional.{Conditional}
use Rattle.cedar_schema_decl.specs.Requalified.{and_then, each}
use Rattle.cedar_schema_fragments.specs.Refusals.{reserved_type}
use Rattle.cedar_schema_fragments.specs.Resolved.{of_types, unreserved}
use Rattle.cedar_schema_builder.specs.Writing.{InPlace}

-- what came first, and what came after it
pub record Came {A B R : Type 0} (f : A → Result B R) (o : Result A R) (y : B) : Type 0 where
  pub value : A
  pub first : o ≡ Ok value
  pub after : f value ≡ Ok y

pub came : {A B R : Type 0} (f : A → Result B R) (o : Result A R) (y : B) → and_then f o ≡ Ok y → Came f o y
came f (Ok x) y h = record { value = x; first = refl; after = h }
came f (Err r) y h = absurd (cc)

abbrev pub made : {A R : Type 0} → A → Result A R
made x = Ok x

pub ok_same : {A R : Type 0} (x y : A) → made {R = R} x ≡ Ok y → x ≡ y
ok_same x y h = cc

pub of_types_came : {B : Type 0} (o : Result B Conditional) (y : B) → of_types o ≡ Ok y → o ≡ Ok y
of_types_came (Ok x) y h = cc
of_types_came (Err c) y h = absurd (cc)

pub unreserved_came : (n m : Name) → unreserved n ≡ Ok m → n ≡ m
unreserved_came n m h = go (is_reserved n) h
  where
    go : (b : Bool) → cond b (Err (reserved_type n)) (Ok n) ≡ Ok m → n ≡ m
    go true e = absurd (cc)
    go false e = cc

-- the first of a list was made, and so were those after it
module _ {A B R : Type 0} (f : A → Result B R) where
  pub record EachCame (x : A) (xs : List A) (ys : List B) : Type 0 where
    pub first : B
    pub later : List B
    pub makes : f x ≡ Ok first
    pub more : each f xs ≡ Ok later
    pub all : first ∷ later ≡ ys

  pub each_came : (x : A) (xs : List A) (ys : List B) → each f (x ∷ xs) ≡ Ok ys → EachCame x xs ys
  each_came x xs ys h =
      let k : Came (λ y. and_then (λ zs. Ok (y ∷ zs)) (each f xs)) (f x) ys = came (λ y. and_then (λ zs. Ok (y ∷ zs)) (each f xs)) (f x) ys h in
      let m : Came (λ zs. Ok (k.value ∷ zs)) (each f xs) ys = came (λ zs. Ok (k.value ∷ zs)) (each f xs) ys k.after in
      record { first = k.value; later = m.value; makes = k.first; more = m.first; all = ok_same (k.value ∷ m.value) ys m.after }

-- what is made of each stands in the place of what is declared
module _ {A B C D R : Type 0} (f : A → Result B R) (q : C → A) (g : C → D) (rel : D → B → Type 0) (one : (c : C) (b : B) → f (q c) ≡ Ok b → rel (g c) b) where
  pub in_place : (cs : List C) (bs : List B) → each f (map q cs) ≡ Ok bs → InPlace rel (map g cs) bs
  in_place [] bs h = subst (InPlace rel []) (ok_same [] bs h) tt
  in_place (c ∷ cs) bs h =
      let p : EachCame f (q c) (map q cs) bs = each_came f (q c) (map q cs) bs h in
      subst (InPlace rel (g c ∷ map g cs)) p.all (one c p.first p.makes, in_place cs p.later p.more)

-- what is made of each is what is kept of what is declared
module _ {A B C D F R : Type 0} (f : A → Result B R) (q : C → A) (e : C → D) (g : D → Option F) (h : B → F) (one : (c : C) (b : B) → f (q c) ≡ Ok b → g (e c) ≡ Some (h b)) where
  pub kept_each : (cs : List C) (bs : List B) → each f (map q cs) ≡ Ok bs → map h bs ≡ filter_map g (map e cs)
  kept_each [] bs k = ap (map h) (sym (ok_same [] bs k))
  kept_each (c ∷ cs) bs k =
      let p : EachCame f (q c) (map q cs) bs = each_came f (q c) (map q cs) bs k in
      ap (map h) (sym p.all) ∙ (λ i. cons_option (sym (one c p.first p.makes) i) (kept_each cs p.later p.more i))

pub map_same : {A : Type 0} (xs : List A) → map (λ x. x) xs ≡ xs
map_same [] = refl
map_same (x ∷ xs) = ap (λ ys. x ∷ ys) (map_same xs)

-- lists one after the other, and those of several
module _ {A B : Type 0} (rel : A → B → Type 0) where
  pub in_place_after : (xs : List A) (us : List B) (ys : List A) (vs : List B) → InPlace rel xs us → InPlace rel ys vs → InPlace rel (xs ++ ys) (us ++ vs)
  in_place_after [] [] ys vs h k = k
  in_place_after [] (u ∷ us) ys vs h k = absurd h
  in_place_after (x ∷ xs) [] ys vs h k = absurd h
  in_place_after (x ∷ xs) (u ∷ us) ys vs h k = (h.0, in_place_after xs us ys vs h.1 k)

  pub in_place_flat : {C D : Type 0} (f : C → List A) (g : D → List B) (cs : List C) (ds : List D) → InPlace (λ c d. InPlace rel (f c) (g d)) cs ds → InPlace rel (flat_map f cs) (flat_map g ds)
  in_place_flat f g [] [] h = tt
  in_place_flat f g [] (d ∷ ds) h = absurd h
  in_place_flat f g (c ∷ cs) [] h = absurd h
  in_place_flat f g (c ∷ cs) (d ∷ ds) h = in_place_after (f c) (g d) (flat_map f cs) (flat_map g ds) h.0 (in_place_flat f g cs ds h.1)

  -- the one in the place of one of them
  pub in_its_place : (xs : List A) (ys : List B) → InPlace rel xs ys → (x : A) → Contains xs x → (y : B) × Contains ys y × rel x y
  in_its_place [] [] w x h = absurd (contains_none x h)
  in_its_place [] (y ∷ ys) w x h = absurd w
  in_its_place (z ∷ xs) [] w x h = absurd w
  in_its_place (z ∷ xs) (y ∷ ys) w x h =
      contains_cases ((v : B) × Contains (y ∷ ys) v × rel x v) z xs x h
      (λ e. (y, contains_head y ys, subst (λ k. rel k y) e w.0))
      (λ k. let r = in_its_place xs ys w.1 x k in (r.0, contains_tail y ys r.0 r.1, r.2))

  pub in_whose_place : (xs : List A) (ys : List B) → InPlace rel xs ys → (y : B) → Contains ys y → (x : A) × Contains xs x × rel x y
  in_whose_place [] [] w y h = absurd (contains_none y h)
  in_whose_place [] (v ∷ ys) w y h = absurd w
  in_whose_place (x ∷ xs) [] w y h = absurd w
  in_whose_place (x ∷ xs) (v ∷ ys) w y h =
      contains_cases ((z : A) × Contains (x ∷ xs) z × rel z y) v ys y h
      (λ e. (x, contains_head x xs, subst (rel x) e w.0))
      (λ k. let r = in_whose_place xs ys w.1 y k in (r.0, contains_tail x xs r.0 r.1, r.2))

  -- where what is seen of both is the same
  pub seen_same : {X : Type 0} (f : A → X) (g : B → X) → ((x : A) (y : B) → rel x y → g y ≡ f x) → (xs : List A) (ys : List B) → InPlace rel xs ys → map g ys ≡ map f xs
  seen_same f g e [] [] w = refl
  seen_same f g e [] (y ∷ ys) w = absurd w
  seen_same f g e (x ∷ xs) [] w = absurd w
  seen_same f g e (x ∷ xs) (y ∷ ys) w = λ i. e x y w.0 i ∷ seen_same f g e xs ys w.1 i
