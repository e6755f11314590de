-- What was written of a list, and what is left of it.
use Rattle.std.proofs.Common.{◌≡◌, ◌++◌, codes, Option, Some, None, ℕ, List, [], ◌∷◌, Bool, true, false, map, refl, sym, ap, ◌∙◌, append_assoc, append-nil}
use Rattle.std.proofs.Output.{has_written_append, has_written_of_eq}
use Rattle.std.specs.Fmt.{HasWritten}
use Rattle.std.specs.Rc.{rc_str_bytes}
use Rattle.std.specs.declared.alloc.Global.{Global}
use Rattle.std.specs.declared.fmt.Formatter.{Formatter}
use Rattle.std.specs.declared.rc.RcStr.{RcStr}
use Rattle.cedar_expr_model.specs.Name.{Name, name_text}
use Rattle.cedar_expr_names.specs.Views.{type_name_of}
use Rattle.cedar_expr_names.specs.declared.entity.EntityType.{EntityType}
use Rattle.cedar_schema_model.specs.Texts.{between, names_text, union_text, attribute_text, type_text, attributes_text}
use Rattle.cedar_schema_types.specs.Types.{type_of}
use Rattle.cedar_schema_types.specs.Unions.{only_member}
use Rattle.cedar_schema_types.specs.AttributeLists.{attributes_from, declared_pairs}
use Rattle.cedar_schema_types.specs.declared.types.AttributeType.{AttributeType}

-- A part was written, and with what is left it is the whole.
pub record Shown {W : Type 0} (took : W → List ℕ → W → Type 0) (f : Formatter W) (left whole : List ℕ) (g : Formatter W) : Type 0 where
  pub part : List ℕ
  pub wrote : HasWritten took f part g
  pub rest : (part ++ left) ≡ whole

-- the text of entity types that are left, and of attributes
abbrev pub names_left : Bool → List EntityType → List ℕ
names_left first ts = names_text first (map type_name_of ts)

abbrev pub attributes_left : Bool → List (RcStr Global × AttributeType) → List ℕ
attributes_left first es = attributes_text first (attributes_from (declared_pairs es))

-- a union that hasn't one member alone
pub union_many : (ns : List Name) → only_member ns ≡ None → (codes "__cedar::internal::Union<" ++ (names_text true ns ++ codes ">")) ≡ union_text ns
union_many [] h = refl
union_many (n ∷ []) h = absurd (cc)
union_many (n ∷ m ∷ ns) h = refl

module _ {W : Type 0} (took : W → List ℕ → W → Type 0) where
  pub shown_first : (f : Formatter W) (left whole : List ℕ) → left ≡ whole → HasWritten took f [] f → Shown took f left whole f
  shown_first f left whole is w = record { part = []; wrote = w; rest = is }

  shown_on : (f g h i : Formatter W) (left sep one later whole : List ℕ) → Shown took f left whole g → (sep ++ (one ++ later)) ≡ left → HasWritten took g sep h → HasWritten took h one i → Shown took f later whole i
  shown_on f g h i left sep one later whole s is a b = record {
    part = s.part ++ (sep ++ one);
    wrote = has_written_append _ _ _ _ _ _ s.wrote (has_written_append _ _ _ _ _ _ a b);
    rest = append_assoc s.part (sep ++ one) later ∙ ap (λ t. s.part ++ t) (append_assoc sep one later ∙ is) ∙ s.rest;
  }

  shown_all : (f g : Formatter W) (left whole : List ℕ) → Shown took f left whole g → left ≡ [] → HasWritten took f whole g
  shown_all f g left whole s is = has_written_of_eq took _ _ _ _ (sym (append-nil s.part) ∙ ap (λ t. s.part ++ t) (sym is) ∙ s.rest) s.wrote

  -- the next entity type, and the end
  pub name_shown : (f g h i : Formatter W) (first : Bool) (rest later : List EntityType) (t : EntityType) (whole : List ℕ) → Shown took f (names_left first rest) whole g → rest ≡ t ∷ later
      → HasWritten took g (between first) h → HasWritten took h (name_text (type_name_of t)) i → Shown took f (names_left false later) whole i
  name_shown f g h i first rest later t whole s is a b = shown_on f g h i _ _ _ _ whole s (ap (names_left first) (sym is)) a b

  pub names_shown : (f g : Formatter W) (first : Bool) (rest : List EntityType) (whole : List ℕ) → Shown took f (names_left first rest) whole g → rest ≡ [] → HasWritten took f whole g
  names_shown f g first rest whole s is = shown_all f g _ whole s (ap (names_left first) is)

  -- the next attribute, and the end
  pub attribute_shown : (f g h i : Formatter W) (first : Bool) (rest later : List (RcStr Global × AttributeType)) (k : RcStr Global) (d : AttributeType) (whole : List ℕ) → Shown took f (attributes_left first rest) whole g → rest ≡ (k, d) ∷ later
      → HasWritten took g (between first) h → HasWritten took h (attribute_text (rc_str_bytes k) d.is_required (type_text (type_of d.attr_type))) i → Shown took f (attributes_left false later) whole i
  attribute_shown f g h i first rest later k d whole s is a b = shown_on f g h i _ _ _ _ whole s (ap (attributes_left first) (sym is)) a b

  pub attributes_shown : (f g : Formatter W) (first : Bool) (rest : List (RcStr Global × AttributeType)) (whole : List ℕ) → Shown took f (attributes_left first rest) whole g → rest ≡ [] → HasWritten took f whole g
  attributes_shown f g first rest whole s is = shown_all f g _ whole s (ap (attributes_left first) is)
