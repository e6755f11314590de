-- Reading a name part by part.
use Rattle.std.proofs.Common.{◌≡◌, ℕ, Bool, true, false, cond, ◌&&◌, ◌||◌, map, List, [], ◌∷◌, ◌++◌, refl, sym, ap, ◌∙◌, Option, Some, None}
use Rattle.std.specs.List.{list_all, list_any}
use Rattle.cedar_expr_model.specs.Name.{Text, Name, parts, with_byte, is_identifier, name_of_parts, name_read, name_text, joined}
use Rattle.cedar_expr_model.proofs.Reading.{writes_read}

-- the name that is read, with these parts before this text
abbrev pub read_from : List Text → Text → Option Name
read_from before rest = cond (list_all is_identifier (parts rest)) (name_of_parts before (parts rest)) None

-- the name of these parts behind the parts before them, if each of these parts is an identifier
abbrev read_parts : List Text → List Text → Option Name
read_parts before ps = cond (list_all is_identifier ps) (name_of_parts before ps) None

-- a text has a part
record HasParts (ps : List Text) : Type 0 where
  first : Text
  more : List Text
  are : ps ≡ first ∷ more

with_has : (b : ℕ) (ps : List Text) → HasParts (with_byte b ps)
with_has b [] = record { first = b ∷ []; more = []; are = refl }
with_has b (p ∷ ps) = record { first = b ∷ p; more = ps; are = refl }

either_has : (t : Bool) (ps qs : List Text) → HasParts ps → HasParts qs → HasParts (cond t ps qs)
either_has true ps qs h k = h
either_has false ps qs h k = k

has_parts : (t : Text) → HasParts (parts t)
has_parts [] = record { first = []; more = []; are = refl }
has_parts (b ∷ []) = record { first = b ∷ []; more = []; are = refl }
has_parts (b ∷ c ∷ bs) =
    either_has _ _ _ (record { first = []; more = parts bs; are = refl }) (with_has b (parts (c ∷ bs)))

pub starts : (text : Text) → name_read text ≡ read_from [] text
starts text = refl

pub refuses : (before : List Text) (rest part : Text) (more : List Text) → parts rest ≡ part ∷ more → is_identifier part ≡ false → read_from before rest ≡ None
refuses before rest part more e h = ap (read_parts before) e ∙ ap (λ t. cond (t && list_all is_identifier more) (name_of_parts before (part ∷ more)) None) h

pub ends : (before : List Text) (rest : Text) → parts rest ≡ rest ∷ [] → is_identifier rest ≡ true → read_from before rest ≡ Some (record { path = before; base = rest })
ends before rest e h = ap (read_parts before) e ∙ ap (λ t. cond (t && true) (Some (record { path = before; base = rest })) None) h

-- an identifier alone writes a name
pub alone_shown : (text : Text) (n : Name) → n.path ≡ [] → n.base ≡ text → name_text n ≡ text
alone_shown text n p b = λ i. joined (p i) (b i)

pub alone : (text : Text) (n : Name) → is_identifier text ≡ true → n.path ≡ [] → n.base ≡ text → name_read text ≡ Some n
alone text n h p b = writes_read text n (record { parts = (λ i. list_all is_identifier (p i) && is_identifier (b i)) ∙ h; whole = sym (alone_shown text n p b) })

takes_parts : (before : List Text) (part : Text) (ps : List Text) → HasParts ps → is_identifier part ≡ true → read_parts before (part ∷ ps) ≡ read_parts (before ++ part ∷ []) ps
takes_parts before part [] has h = absurd (cc)
takes_parts before part (p ∷ ps) has h = ap (λ t. cond (t && list_all is_identifier (p ∷ ps)) (name_of_parts (before ++ part ∷ []) (p ∷ ps)) None) h

pub takes : (before : List Text) (rest part next : Text) → parts rest ≡ part ∷ parts next → is_identifier part ≡ true → read_from before rest ≡ read_from (before ++ part ∷ []) next
takes before rest part next e h = ap (read_parts before) e ∙ takes_parts before part (parts next) (has_parts next) h

-- a test of mapped elements
pub any_map : {X Y : Type 0} (p : Y → Bool) (f : X → Y) (xs : List X) → list_any p (map f xs) ≡ list_any (λ x. p (f x)) xs
any_map p f [] = refl
any_map p f (x ∷ xs) = ap (λ t. p (f x) || t) (any_map p f xs)
