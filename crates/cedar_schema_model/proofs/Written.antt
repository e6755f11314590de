-- Restricted expressions that are written from values.
use Rattle.std.proofs.Common.{◌≡◌, ◌&&◌, ◌||◌, not, Bool, true, false, List, map, Option, Some, None, is_some, refl, ap, ◌∙◌, subst}
use Rattle.std.specs.Prelude.{if◌then◌else◌}
use Rattle.std.specs.Option.{option_map_or}
use Rattle.std.specs.Str.{bytes_eq}
use Rattle.cedar_expr_model.specs.Name.{Text, Name}
use Rattle.cedar_expr_model.specs.Made.{Made, made_prim, made_set, made_record, made_extension, Mades, no_mades, made, MadeFields, no_made_fields, made_field, bare, bares, bare_fields, written, writtens, written_fields}
use Rattle.cedar_expr_model.specs.OfLaws.Fair.{IsFair, IsAnswer}
use Rattle.cedar_expr_model.specs.OfLaws.Represented.{Makes, IsMade, AreMade, HaveMade, IsRepresented}
use Rattle.cedar_expr_model.specs.Table.{Signature, Table}
use Rattle.cedar_expr_model.specs.Value.{Literal, V, prim, extension, field_of}
use Rattle.cedar_schema_model.specs.Types.{Openness, is_open, is_closed, Ty, any_set, set_type, record_type, extension_type, Attributes, no_attributes, attribute, Declared, attribute_named}
use Rattle.cedar_schema_model.specs.HasType.{has_type, have_type, has_required, field_fits, fields_fit}
use Rattle.cedar_schema_model.specs.Restricted.{has_tree_field, has_required_fields, Asked, no_function, asked_truth, asked_next, is_result, call_asked, field_asked, asked_for, all_asked_for, fields_asked_for}

both_asked : (b c : Bool) → asked_next (asked_truth b) (asked_truth c) ≡ asked_truth (b && c)
both_asked true c = refl
both_asked false c = refl

next_asked : (a d : Asked) (b c : Bool) → a ≡ asked_truth b → d ≡ asked_truth c → asked_next a d ≡ asked_truth (b && c)
next_asked a d b c h k = (λ i. asked_next (h i) (k i)) ∙ both_asked b c

-- the fields that are there
there : (a : Text) (fs : MadeFields) → has_tree_field a (written_fields fs) ≡ is_some (field_of a (bare_fields fs))
there a no_made_fields = refl
there a (made_field b m fs) = go (bytes_eq a b) (there a fs)
  where
    go : (s : Bool) → has_tree_field a (written_fields fs) ≡ is_some (field_of a (bare_fields fs)) → (s || has_tree_field a (written_fields fs)) ≡ is_some (if s then Some (bare m) else field_of a (bare_fields fs))
    go true h = refl
    go false h = h

all_there : (as_ : Attributes) (fs : MadeFields) → has_required_fields as_ (written_fields fs) ≡ has_required as_ (bare_fields fs)
all_there no_attributes fs = refl
all_there (attribute n t r as_) fs = λ i. (not r || there n fs i) && all_there as_ fs i

field_written : (o : Openness) (asks : Ty → Asked) (has : Ty → Bool) (d : Option Declared) → ((t : Ty) → asks t ≡ asked_truth (has t)) → field_asked o asks d ≡ asked_truth (field_fits o has d)
field_written is_open asks has None each = refl
field_written is_closed asks has None each = refl
field_written o asks has (Some d) each = each d.type

-- a call that makes an extension value
call_written : (x : Table) (f n k : _) (ps : List Literal) (m : Name) → IsFair x → Makes x f ps (extension n k) → call_asked x.functions f m ≡ asked_truth (has_type (extension n k) (extension_type m))
call_written x f n k ps m fair h =
    let s = (h.0).0 in
    let result = subst (IsAnswer s) h.1 (fair f s (map prim ps) (h.0).1 (h.0).2 (h.0).3) in
    ap (λ o. option_map_or (λ s. asked_truth (is_result m s.result)) o (no_function f)) (h.0).1
    ∙ ap (λ r. asked_truth (is_result m r)) result

module _ (x : Table) (fair : IsFair x) where
  mutual
    pub written_asked : (m : Made) (t : Ty) → IsRepresented x m → asked_for x.functions (written m) t ≡ asked_truth (has_type (bare m) t)
    written_asked (made_prim p) t r = refl
    written_asked (made_set ms) any_set r = refl
    written_asked (made_set ms) (set_type t) r = writtens_asked ms t r.0
    written_asked (made_set ms) t r = refl
    written_asked (made_record fs) (record_type as_ o) r = next_asked _ _ (has_required as_ (bare_fields fs)) (fields_fit as_ o (bare_fields fs)) (ap asked_truth (all_there as_ fs)) (fields_asked as_ o fs r)
    written_asked (made_record fs) t r = refl
    written_asked (made_extension n k f ps) (extension_type m) r = call_written x f n k ps m fair r
    written_asked (made_extension n k f ps) t r = refl

    writtens_asked : (ms : Mades) (t : Ty) → AreMade (λ vs. Unit {0}) x ms → all_asked_for x.functions (writtens ms) t ≡ asked_truth (have_type (bares ms) t)
    writtens_asked no_mades t r = refl
    writtens_asked (made m ms) t r = next_asked _ _ (has_type (bare m) t) (have_type (bares ms) t) (written_asked m t r.0) (writtens_asked ms t r.1)

    fields_asked : (as_ : Attributes) (o : Openness) (fs : MadeFields) → HaveMade (λ vs. Unit {0}) x fs → fields_asked_for x.functions as_ o (written_fields fs) ≡ asked_truth (fields_fit as_ o (bare_fields fs))
    fields_asked as_ o no_made_fields r = refl
    fields_asked as_ o (made_field a m fs) r =
        next_asked _ _ (field_fits o (has_type (bare m)) (attribute_named a as_)) (fields_fit as_ o (bare_fields fs))
        (field_written o (asked_for x.functions (written m)) (has_type (bare m)) (attribute_named a as_) (λ t. written_asked m t r.0))
        (fields_asked as_ o fs r.1)
