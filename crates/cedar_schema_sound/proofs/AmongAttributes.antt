-- The attributes that all members of a union declare are among those of the first.
use Rattle.std.proofs.Common.{◌≡◌, ◌||◌, ◌++◌, List, [], ◌∷◌, map, Bool, true, false, cond, Option, Some, None, option_map, refl, sym, ap, ◌∙◌, append_assoc, append-nil, Result, Ok, Err, IfOk}
use Rattle.std.specs.Prelude.{option_and_then}
use Rattle.std.specs.List.{list_any, cons_option}
use Rattle.std.specs.Map.{lookup}
use Rattle.std.specs.Option.{option_or}
use Rattle.std.specs.Str.{bytes_eq}
use Rattle.std.proofs.lemmas.Slice.Eq.{bytes_eq-Decides}
use Rattle.cedar_expr_model.specs.Name.{Text, Name}
use Rattle.cedar_expr_model.specs.Lists.{all_given, is_nil}
use Rattle.cedar_expr_model.specs.ListLaws.{last_of}
use Rattle.cedar_expr_model.specs.Records.{in_order}
use Rattle.cedar_expr_model.proofs.Ordering.{in_order_finds}
use Rattle.cedar_schema_model.specs.Types.{Ty, entity_types, record_type, Openness, Attributes, no_attributes, attribute, Declared, attribute_named}
use Rattle.cedar_schema_model.specs.Schema.{Schema, EntityType, type_named}
use Rattle.cedar_schema_model.specs.Conforming.{of_kind, attributes_at}
use Rattle.cedar_schema_model.specs.Lookup.{declared_of, declared_by_all, lookup_attribute}
use Rattle.cedar_schema_types.specs.AttributeLists.{attributes_from, names_in}
use Rattle.cedar_expr_names.specs.Views.{type_name_of}
use Rattle.cedar_expr_names.specs.declared.entity.EntityType.{EntityType as CodeType}
use Rattle.cedar_schema_sound.specs.Known.{AreDeclared, declared_among, first_declared}

-- what was gathered, and what is gathered of the names that are left
abbrev pub gathered : (Text → Option Declared) → List (Text × Declared) → List Text → List (Text × Declared)
gathered f made ns = made ++ declared_among f ns

pub passed_over : (f : Text → Option Declared) (made : List (Text × Declared)) (rest later : List Text) (a : Text) (whole : List (Text × Declared)) → gathered f made rest ≡ whole → rest ≡ a ∷ later → None ≡ f a → gathered f made later ≡ whole
passed_over f made rest later a whole h is e = ap (λ o. made ++ cons_option (option_map (λ (d : Declared). (a, d)) o) (declared_among f later)) e ∙ ap (gathered f made) (sym is) ∙ h

pub gathered_one : (f : Text → Option Declared) (made : List (Text × Declared)) (rest later : List Text) (a : Text) (d : Declared) (whole : List (Text × Declared)) → gathered f made rest ≡ whole → rest ≡ a ∷ later → Some d ≡ f a → gathered f (made ++ (a, d) ∷ []) later ≡ whole
gathered_one f made rest later a d whole h is e =
    append_assoc made ((a, d) ∷ []) (declared_among f later) ∙ ap (λ o. made ++ cons_option (option_map (λ (d : Declared). (a, d)) o) (declared_among f later)) e ∙ ap (gathered f made) (sym is) ∙ h

pub gathered_all : (f : Text → Option Declared) (made : List (Text × Declared)) (rest : List Text) (whole : List (Text × Declared)) → gathered f made rest ≡ whole → rest ≡ [] → made ≡ whole
gathered_all f made rest whole h is = sym (append-nil made) ∙ ap (gathered f made) (sym is) ∙ h

-- what is declared of a name in a list
named_from : (a : Text) (ps : List (Text × Declared)) → attribute_named a (attributes_from ps) ≡ lookup (bytes_eq a) ps
named_from a [] = refl
named_from a (p ∷ ps) = ap (cond (bytes_eq a p.0) (Some p.1)) (named_from a ps)

module _ (f : Text → Option Declared) (a : Text) where
  -- f says the same of a name as of an equal one
  abbrev given : Bool → Option Declared
  given b = cond b (f a) None

  or_none : (o : Option Declared) → option_or o None ≡ o
  or_none None = refl
  or_none (Some d) = refl

  same_again : (b : Bool) (o : Option Declared) → f a ≡ o → option_or (given b) o ≡ f a
  same_again true None e = or_none (f a)
  same_again false None e = sym e
  same_again true (Some d) e = ap (λ q. option_or q (Some d)) e ∙ sym e
  same_again false (Some d) e = sym e

  -- one more name
  one : (n : Text) (t : Bool) → bytes_eq a n ≡ t → (o : Option Declared) → f n ≡ o → (qs : List (Text × Declared)) (b : Bool) → last_of a qs ≡ given b → last_of a (cons_option (option_map (λ d. (n, d)) o) qs) ≡ given (t || b)
  one n true e None g qs b h = h ∙ alone b (ap f ((bytes_eq-Decides a n).0 e) ∙ g)
    where
      alone : (b : Bool) → f a ≡ None → given b ≡ f a
      alone true k = refl
      alone false k = sym k
  one n true e (Some d) g qs b h =
      (λ i. option_or (h i) (cond (e i) (Some d) None)) ∙ same_again b (Some d) (ap f ((bytes_eq-Decides a n).0 e) ∙ g)
  one n false e None g qs b h = h
  one n false e (Some d) g qs b h = (λ i. option_or (h i) (cond (e i) (Some d) None)) ∙ or_none (given b)

  among_last : (ns : List Text) → last_of a (declared_among f ns) ≡ given (list_any (bytes_eq a) ns)
  among_last [] = refl
  among_last (n ∷ ns) = one n (bytes_eq a n) refl (f n) refl (declared_among f ns) (list_any (bytes_eq a) ns) (among_last ns)

-- a name that attributes don't have
unnamed : (a : Text) (as_ : Attributes) → list_any (bytes_eq a) (names_in as_) ≡ false → attribute_named a as_ ≡ None
unnamed a no_attributes h = refl
unnamed a (attribute n t r as_) h = step (bytes_eq a n) h (unnamed a as_)
  where
    step : (b : Bool) → (b || list_any (bytes_eq a) (names_in as_)) ≡ false → (list_any (bytes_eq a) (names_in as_) ≡ false → attribute_named a as_ ≡ None) → cond b (Some (record { type = t; is_required = r })) (attribute_named a as_) ≡ None
    step true h rest = cc
    step false h rest = rest h

-- what the first doesn't declare isn't declared by all
first_lacks : (s : Schema) (n : Name) (ns : List Name) (a : Text) (o : Option EntityType) → type_named s n ≡ o → (as_ : Attributes) → option_map (λ (e : EntityType). attributes_at (of_kind e.kind)) o ≡ Some as_ → attribute_named a as_ ≡ None → declared_of s a n ≡ None
first_lacks s n ns a None e as_ h k = cc
first_lacks s n ns a (Some t) e as_ h k =
    let same : attributes_at (of_kind t.kind) ≡ as_ = cc in
    ap (option_and_then (λ (y : EntityType). attribute_named a (attributes_at (of_kind y.kind)))) e ∙ ap (attribute_named a) same ∙ k

not_by_all : (s : Schema) (n : Name) (ns : List Name) (a : Text) → declared_of s a n ≡ None → lookup_attribute s (entity_types (n ∷ ns)) a ≡ None
not_by_all s n ns a h = ap (λ o. option_and_then declared_by_all (option_and_then (λ d. option_map (λ ds. d ∷ ds) (all_given (declared_of s a) ns)) o)) h

-- what is found of all is what is found of those that the first declares
pub known_are_all : (s : Schema) (ns : List Name) (as_ bs : Attributes) → Some as_ ≡ first_declared s ns → bs ≡ attributes_from (in_order (declared_among (lookup_attribute s (entity_types ns)) (names_in as_))) → AreDeclared s (entity_types ns) bs
known_are_all s [] as_ bs first e = absurd (cc)
known_are_all s (n ∷ ns) as_ bs first e = record { each = at }
  where
    f : Text → Option Declared
    f a = lookup_attribute s (entity_types (n ∷ ns)) a

    ends : (a : Text) (b : Bool) → list_any (bytes_eq a) (names_in as_) ≡ b → cond b (f a) None ≡ f a
    ends a true h = refl
    ends a false h = sym (not_by_all s n ns a (first_lacks s n ns a (type_named s n) refl as_ (sym first) (unnamed a as_ h)))

    at : (a : Text) → attribute_named a bs ≡ f a
    at a =
        ap (attribute_named a) e
        ∙ named_from a (in_order (declared_among f (names_in as_)))
        ∙ in_order_finds a (declared_among f (names_in as_))
        ∙ among_last f a (names_in as_)
        ∙ ends a (list_any (bytes_eq a) (names_in as_)) refl

-- nothing is declared by all where the first isn't declared
first_undeclared : (s : Schema) (n : Name) (a : Text) (o : Option EntityType) → type_named s n ≡ o → option_map (λ (e : EntityType). attributes_at (of_kind e.kind)) o ≡ None → declared_of s a n ≡ None
first_undeclared s n a None e k = ap (option_and_then (λ (y : EntityType). attribute_named a (attributes_at (of_kind y.kind)))) e
first_undeclared s n a (Some t) e k = cc

pub none_are_all : (s : Schema) (ns : List Name) (bs : Attributes) → is_nil ns ≡ false → None ≡ first_declared s ns → bs ≡ no_attributes → AreDeclared s (entity_types ns) bs
none_are_all s [] bs some h e = absurd (cc)
none_are_all s (n ∷ ns) bs some h e = record { each = λ a. ap (attribute_named a) e ∙ sym (not_by_all s n ns a (first_undeclared s n a (type_named s n) refl (sym h))) }

-- a union has members
pub members_some : (ks : List CodeType) → is_nil ks ≡ false → is_nil (map type_name_of ks) ≡ false
members_some [] h = h
members_some (k ∷ ks) h = refl

-- A record type declares its attributes and no others, and a type in which no attribute is found declares none.
pub declared_of_record : (s : Schema) (as_ bs : Attributes) (o : Openness) → bs ≡ as_ → AreDeclared s (record_type as_ o) bs
declared_of_record s as_ bs o e = record { each = λ a. ap (attribute_named a) e }

pub none_declared : (s : Schema) (t : Ty) (bs : Attributes) → bs ≡ no_attributes → ((a : Text) → lookup_attribute s t a ≡ None) → AreDeclared s t bs
none_declared s t bs e h = record { each = λ a. ap (attribute_named a) e ∙ sym (h a) }

-- what holds of what was made, by what it is
pub made_so : {A E : Type 0} (P Q : A → Type 0) (r : Result A E) → IfOk r P → ((a : A) → P a → Q a) → IfOk r Q
made_so P Q (Ok a) h k = k a h
made_so P Q (Err e) h k = tt
