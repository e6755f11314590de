-- Reading a name gives the name that the text writes.
use Rattle.std.proofs.Common.{◌≡◌, ◌↔◌, ℕ, List, [], ◌∷◌, ◌++◌, Bool, true, false, cond, ◌&&◌, ◌==◌, Option, Some, None, refl, sym, ap, ◌∙◌, subst, append_assoc, append-nil}
use Rattle.std.specs.List.{list_all}
use Rattle.std.proofs.lemmas.Bool.Decides.{Decides-eqb}
use Rattle.std.proofs.lemmas.List.Folds.{list_all-append}
use Rattle.cedar_expr_model.proofs.Lists.{both_hold}
use Rattle.cedar_expr_model.specs.Name.{Text, Name, Writes, joined, name_text, colons, parts, with_byte, name_of_parts, name_read, is_identifier, is_word, starts_identifier, continues_identifier, is_well_formed}

-- the text of a list of parts
abbrev whole : List Text → Text
whole [] = []
whole (part ∷ []) = part
whole (part ∷ next ∷ more) = part ++ (colons ++ whole (next ∷ more))

-- A list that isn't empty.
abbrev IsFilled : List Text → Type 0
IsFilled [] = ⊥
IsFilled (part ∷ more) = Unit {0}

filled_with : (b : ℕ) (ps : List Text) → IsFilled (with_byte b ps)
filled_with b [] = tt
filled_with b (p ∷ ps) = tt

filled_cond : (t : Bool) (x y : List Text) → IsFilled x → IsFilled y → IsFilled (cond t x y)
filled_cond true x y p q = p
filled_cond false x y p q = q

filled : (t : Text) → IsFilled (parts t)
filled [] = tt
filled (b ∷ []) = tt
filled (b ∷ c ∷ bs) = filled_cond ((b == 58) && (c == 58)) ([] ∷ parts bs) (with_byte b (parts (c ∷ bs))) tt (filled_with b (parts (c ∷ bs)))

whole_with : (b : ℕ) (ps : List Text) → IsFilled ps → whole (with_byte b ps) ≡ b ∷ whole ps
whole_with b [] h = absurd h
whole_with b (p ∷ []) h = refl
whole_with b (p ∷ q ∷ ps) h = refl

whole_empty : (ps : List Text) → IsFilled ps → whole ([] ∷ ps) ≡ colons ++ whole ps
whole_empty [] h = absurd h
whole_empty (p ∷ ps) h = refl

colons_first : (b c : ℕ) (bs : Text) → (b == 58) && (c == 58) ≡ true → colons ++ bs ≡ b ∷ c ∷ bs
colons_first b c bs h =
    let p = both_hold (b == 58) (c == 58) h in
    let e = (Decides-eqb b 58).0 p.0 in
    let f = (Decides-eqb c 58).0 p.1 in
    cc

whole_step : (b c : ℕ) (bs : Text) (t : Bool) → (b == 58) && (c == 58) ≡ t → whole (parts bs) ≡ bs → whole (parts (c ∷ bs)) ≡ c ∷ bs → whole (cond t ([] ∷ parts bs) (with_byte b (parts (c ∷ bs)))) ≡ b ∷ c ∷ bs
whole_step b c bs true h e f = whole_empty (parts bs) (filled bs) ∙ (ap (λ r. colons ++ r) e ∙ colons_first b c bs h)
whole_step b c bs false h e f = whole_with b (parts (c ∷ bs)) (filled (c ∷ bs)) ∙ ap (λ r. b ∷ r) f

-- the parts of a text make the text
pub whole_parts : (t : Text) → whole (parts t) ≡ t
whole_parts [] = refl
whole_parts (b ∷ []) = refl
whole_parts (b ∷ c ∷ bs) = whole_step b c bs ((b == 58) && (c == 58)) refl (whole_parts bs) (whole_parts (c ∷ bs))

-- A name made of identifiers is well-formed.
joined_more : (before : List Text) (part next : Text) → joined (before ++ part ∷ []) next ≡ joined before (part ++ (colons ++ next))
joined_more [] part next = refl
joined_more (b ∷ before) part next = ap (λ t. b ++ (colons ++ t)) (joined_more before part next)

all_more : (before : List Text) (part : Text) → list_all is_identifier before ≡ true → is_identifier part ≡ true → list_all is_identifier (before ++ part ∷ []) ≡ true
all_more before part h k = let e = list_all-append is_identifier before (part ∷ []) in rw (e, h, k) refl

record IsMade (before ps : List Text) (n : Name) : Type 0 where
  parts : is_well_formed n ≡ true
  whole : joined before (whole ps) ≡ name_text n

made : (before ps : List Text) (n : Name) → list_all is_identifier before ≡ true → list_all is_identifier ps ≡ true → name_of_parts before ps ≡ Some n → IsMade before ps n
made before [] n h k e = cc
made before (part ∷ []) n h k e =
    let q = both_hold (is_identifier part) true k in
    let m : Name = record { path = before; base = part } in
    let same : m ≡ n = cc in
    let good : is_well_formed m ≡ true = rw (h, q.0) refl in
    subst (IsMade before (part ∷ [])) same (record { parts = good; whole = refl })
made before (part ∷ next ∷ more) n h k e =
    let q = both_hold (is_identifier part) (list_all is_identifier (next ∷ more)) k in
    let r = made (before ++ part ∷ []) (next ∷ more) n (all_more before part h q.0) q.1 e in
    record { parts = r.parts; whole = sym (joined_more before part (whole (next ∷ more))) ∙ r.whole }

-- Only where the test holds does a choice give a name.
gives_name : (t : Bool) (found : Option Name) (n : Name) → cond t found None ≡ Some n → (t ≡ true) × (found ≡ Some n)
gives_name true found n e = (refl, e)
gives_name false found n e = cc

pub read_writes : (text : Text) (n : Name) → name_read text ≡ Some n → Writes text n
read_writes text n e =
    let p = gives_name (list_all is_identifier (parts text)) (name_of_parts [] (parts text)) n e in
    let r = made [] (parts text) n refl p.0 p.1 in
    record { parts = r.parts; whole = sym (whole_parts text) ∙ r.whole }

-- An identifier holds no colon.
no_colon_start : (b : ℕ) → starts_identifier b ≡ true → b == 58 ≡ false
no_colon_start b h = go (b == 58) refl
  where
    go : (t : Bool) → b == 58 ≡ t → b == 58 ≡ false
    go false e = e
    go true e = let k : starts_identifier 58 ≡ true = subst (λ m. starts_identifier m ≡ true) ((Decides-eqb b 58).0 e) h in cc

no_colon_next : (b : ℕ) → continues_identifier b ≡ true → b == 58 ≡ false
no_colon_next b h = go (b == 58) refl
  where
    go : (t : Bool) → b == 58 ≡ t → b == 58 ≡ false
    go false e = e
    go true e = let k : continues_identifier 58 ≡ true = subst (λ m. continues_identifier m ≡ true) ((Decides-eqb b 58).0 e) h in cc

-- Each byte is no colon.
abbrev HasNoColon : Text → Type 0
HasNoColon [] = Unit {0}
HasNoColon (b ∷ bs) = (b == 58 ≡ false) × HasNoColon bs

rest_no_colon : (bs : Text) → list_all continues_identifier bs ≡ true → HasNoColon bs
rest_no_colon [] h = tt
rest_no_colon (b ∷ bs) h =
    let p = both_hold (continues_identifier b) (list_all continues_identifier bs) h in
    (no_colon_next b p.0, rest_no_colon bs p.1)

word_no_colon : (t : Text) → is_word t ≡ true → HasNoColon t
word_no_colon [] h = tt
word_no_colon (b ∷ bs) h =
    let p = both_hold (starts_identifier b) (list_all continues_identifier bs) h in
    (no_colon_start b p.0, rest_no_colon bs p.1)

identifier_no_colon : (t : Text) → is_identifier t ≡ true → HasNoColon t
identifier_no_colon t h = word_no_colon t (both_hold (is_word t) _ h).0

pick_false : (t u : Bool) (x y : List Text) → t ≡ false → cond (t && u) x y ≡ y
pick_false false u x y e = refl
pick_false true u x y e = cc

-- a part without colons is one part
one_part : (t : Text) → HasNoColon t → parts t ≡ t ∷ []
one_part [] h = refl
one_part (b ∷ []) h = refl
one_part (b ∷ c ∷ bs) h = pick_false (b == 58) (c == 58) _ _ h.0 ∙ ap (with_byte b) (one_part (c ∷ bs) h.1)

-- such a part before a double colon comes first
first_part : (t rest : Text) → HasNoColon t → parts (t ++ (colons ++ rest)) ≡ t ∷ parts rest
first_part [] rest h = refl
first_part (b ∷ []) rest h = pick_false (b == 58) (58 == 58) _ _ h.0
first_part (b ∷ c ∷ bs) rest h = pick_false (b == 58) (c == 58) _ _ h.0 ∙ ap (with_byte b) (first_part (c ∷ bs) rest h.1)

parts_joined : (path : List Text) (base : Text) → list_all is_identifier path ≡ true → is_identifier base ≡ true → parts (joined path base) ≡ path ++ base ∷ []
parts_joined [] base h k = one_part base (identifier_no_colon base k)
parts_joined (p ∷ path) base h k =
    let q = both_hold (is_identifier p) (list_all is_identifier path) h in
    first_part p (joined path base) (identifier_no_colon p q.0) ∙ ap (λ r. p ∷ r) (parts_joined path base q.1 k)

pub name_of_all : (before path : List Text) (base : Text) → name_of_parts before (path ++ base ∷ []) ≡ Some (record { path = before ++ path; base = base })
name_of_all before [] base = ap (λ (p : List Text). Some (record { path = p; base = base })) (sym (append-nil before))
name_of_all before (p ∷ []) base = refl
name_of_all before (p ∷ q ∷ path) base =
    name_of_all (before ++ p ∷ []) (q ∷ path) base ∙ ap (λ (r : List Text). Some (record { path = r; base = base })) (append_assoc before (p ∷ []) (q ∷ path))

pub writes_read : (text : Text) (n : Name) → Writes text n → name_read text ≡ Some n
writes_read text n w =
    let q = both_hold (list_all is_identifier n.path) (is_identifier n.base) w.parts in
    let e : parts text ≡ n.path ++ n.base ∷ [] = ap parts w.whole ∙ parts_joined n.path n.base q.0 q.1 in
    let a : list_all is_identifier (n.path ++ n.base ∷ []) ≡ true = all_more n.path n.base q.0 q.1 in
    rw (e, a) (name_of_all [] n.path n.base)

pub names_are_read : (text : Text) (n : Name) → (name_read text ≡ Some n) ↔ Writes text n
names_are_read text n = (read_writes text n, writes_read text n)
