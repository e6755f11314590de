-- Names, and uids, with the same text are the same.
use Rattle.std.proofs.Common.{◌≡◌, ◌≢◌, ℕ, List, [], ◌∷◌, ◌++◌, true, refl, sym, ap, ◌∙◌, subst, append_assoc}
use Rattle.std.specs.List.{list_all, flat_map}
use Rattle.std.specs.Str.{chars, IsUtf8}
use Rattle.std.proofs.lemmas.Str.{encodes-chars, scalars-chars}
use Rattle.std.specs.Str.{encode_utf8_all}
use Rattle.std.proofs.lemmas.List.{append_cancel_right}
use Rattle.cedar_expr_model.specs.Name.{Text, Name, joined, name_text, colons, is_identifier, is_word, starts_identifier, continues_identifier, is_well_formed}
use Rattle.cedar_expr_model.specs.Uid.{Uid, uid_text, escaped}
use Rattle.cedar_expr_model.proofs.Lists.{both_hold}
use Rattle.cedar_expr_model.proofs.Reading.{writes_read}
use Rattle.cedar_expr_model.proofs.Escapes.{Lacks, Lacks-append, split_at, same_characters, apart_from}

pub name_text_apart : (m n : Name) → is_well_formed m ≡ true → is_well_formed n ≡ true → name_text m ≡ name_text n → m ≡ n
name_text_apart m n h k e =
    let p = writes_read (name_text m) m (record { parts = h; whole = refl }) in
    let q = writes_read (name_text m) n (record { parts = k; whole = e }) in
    cc

-- No identifier holds a double quote.
no_quote_start : (b : ℕ) → starts_identifier b ≡ true → b ≢ 34
no_quote_start b h e = let k : starts_identifier 34 ≡ true = subst (λ x. starts_identifier x ≡ true) e h in cc

no_quote_next : (b : ℕ) → continues_identifier b ≡ true → b ≢ 34
no_quote_next b h e = let k : continues_identifier 34 ≡ true = subst (λ x. continues_identifier x ≡ true) e h in cc

rest_lacks : (bs : Text) → list_all continues_identifier bs ≡ true → Lacks 34 bs
rest_lacks [] h = tt
rest_lacks (b ∷ bs) h = let p = both_hold (continues_identifier b) (list_all continues_identifier bs) h in (no_quote_next b p.0, rest_lacks bs p.1)

word_lacks : (t : Text) → is_word t ≡ true → Lacks 34 t
word_lacks [] h = tt
word_lacks (b ∷ bs) h = let p = both_hold (starts_identifier b) (list_all continues_identifier bs) h in (no_quote_start b p.0, rest_lacks bs p.1)

identifier_lacks : (t : Text) → is_identifier t ≡ true → Lacks 34 t
identifier_lacks t h = word_lacks t (both_hold (is_word t) _ h).0

colons_lack : Lacks 34 colons
colons_lack = (apart_from 58 34 refl, (apart_from 58 34 refl, tt))

joined_lacks : (path : List Text) (base : Text) → list_all is_identifier path ≡ true → is_identifier base ≡ true → Lacks 34 (joined path base)
joined_lacks [] base h k = identifier_lacks base k
joined_lacks (p ∷ path) base h k =
    let q = both_hold (is_identifier p) (list_all is_identifier path) h in
    Lacks-append 34 p (colons ++ joined path base) (identifier_lacks p q.0) (Lacks-append 34 colons (joined path base) colons_lack (joined_lacks path base q.1 k))

pub name_lacks : (n : Name) → is_well_formed n ≡ true → Lacks 34 (name_text n ++ colons)
name_lacks n h =
    let q = both_hold (list_all is_identifier n.path) (is_identifier n.base) h in
    Lacks-append 34 (name_text n) colons (joined_lacks n.path n.base q.0 q.1) colons_lack

-- what stands in the quotes
abbrev pub inside : Uid → Text
inside u = flat_map escaped (chars u.id) ++ 34 ∷ []

pub uid_text_is : (u : Uid) → uid_text u ≡ (name_text u.kind ++ colons) ++ 34 ∷ inside u
uid_text_is u = sym (append_assoc (name_text u.kind) colons (34 ∷ inside u))

ids_apart : (a b : Text) → IsUtf8 a → IsUtf8 b → chars a ≡ chars b → a ≡ b
ids_apart a b h k e = sym (encodes-chars a h) ∙ (ap encode_utf8_all e ∙ encodes-chars b k)

pub uid_text_apart : (u v : Uid) → is_well_formed u.kind ≡ true → is_well_formed v.kind ≡ true → IsUtf8 u.id → IsUtf8 v.id → uid_text u ≡ uid_text v → u ≡ v
uid_text_apart u v h k i j e =
    let f = sym (uid_text_is u) ∙ (e ∙ uid_text_is v) in
    let p = split_at 34 (name_text u.kind ++ colons) (name_text v.kind ++ colons) (inside u) (inside v) (name_lacks u.kind h) (name_lacks v.kind k) f in
    let kinds = name_text_apart u.kind v.kind h k (append_cancel_right (name_text u.kind) (name_text v.kind) colons p.0) in
    let cs = same_characters (chars u.id) (chars v.id) (scalars-chars u.id i) (scalars-chars v.id j) p.1 in
    let ids = ids_apart u.id v.id i j cs in
    λ x. record { kind = kinds x; id = ids x }
