-- Which form a part of a scope has, by its keys.
use Rattle.std.proofs.Common.{◌≡◌, [], ◌∷◌, codes, true, false, Option, Some, None, option_map, refl, ap, ◌∙◌}
use Rattle.std.specs.Option.{option_or}
use Rattle.serde_json.specs.Data.{Data}
use Rattle.serde_json.specs.Find.{get}
use Rattle.cedar_expr_model.specs.Lists.{when}
use Rattle.cedar_store_model.specs.Policy.{exactly, inside, of_kind, of_kind_inside, exactly_action, inside_actions}
use Rattle.cedar_gate_model.specs.Reading.{given, has_only, list_of}
use Rattle.cedar_gate_model.specs.ReadingForms.{read_as, alone}
use Rattle.cedar_gate_model.specs.ReadingName.{plain_name_read, uid_read}
use Rattle.cedar_gate_model.specs.ReadingPolicy.{target_read, of_kind_inside_read, scope_read, action_scope_read}
use Rattle.cedar_gate_expressions.proofs.Keys.{get_lacks, none_when, none_given, not_alone, is_alone, is_not}

or_none : {A : Type 0} (o : Option A) → option_or o None ≡ o
or_none None = refl
or_none (Some a) = refl

-- the first of four forms, the second, the third, the fourth
one_of : {A : Type 0} (a b c e : Option A) → b ≡ None → c ≡ None → e ≡ None → option_or a (option_or b (option_or c (option_or e None))) ≡ a
one_of a b c e p q r = rw (p, q, r) (or_none a)

two_of : {A : Type 0} (a b c e : Option A) → a ≡ None → c ≡ None → e ≡ None → option_or a (option_or b (option_or c (option_or e None))) ≡ b
two_of a b c e p q r = rw (p, q, r) (or_none b)

three_of : {A : Type 0} (a b c e : Option A) → a ≡ None → b ≡ None → e ≡ None → option_or a (option_or b (option_or c (option_or e None))) ≡ c
three_of a b c e p q r = rw (p, q, r) (or_none c)

four_of : {A : Type 0} (a b c e : Option A) → a ≡ None → b ≡ None → c ≡ None → option_or a (option_or b (option_or c (option_or e None))) ≡ e
four_of a b c e p q r = rw (p, q, r) (or_none e)

no_kind : (d : Data) → get (codes "is") d ≡ None → of_kind_inside_read d ≡ None
no_kind d h = ap (λ o. when (has_only (codes "is" ∷ codes "in" ∷ []) d) (given (given o plain_name_read) (λ n. option_map (of_kind_inside n) (given (get (codes "in") d) target_read)))) h ∙ none_when _

no_place : (d : Data) → get (codes "in") d ≡ None → of_kind_inside_read d ≡ None
no_place d h =
    ap (λ o. when (has_only (codes "is" ∷ codes "in" ∷ []) d) (given (given (get (codes "is") d) plain_name_read) (λ n. option_map (of_kind_inside n) (given o target_read)))) h
    ∙ (ap (when (has_only (codes "is" ∷ codes "in" ∷ []) d)) (none_given (given (get (codes "is") d) plain_name_read)) ∙ none_when _)

pub eq_only : (d : Data) → has_only (codes "eq" ∷ []) d ≡ true → scope_read d ≡ given (get (codes "eq") d) (read_as exactly target_read)
eq_only d h =
    one_of _ _ _ _ (not_alone (codes "in") (codes "eq" ∷ []) (λ x y. refl, tt) (read_as inside target_read) d h) (not_alone (codes "is") (codes "eq" ∷ []) (λ x y. refl, tt) (read_as of_kind plain_name_read) d h)
    (no_kind d (get_lacks (codes "is") (codes "eq" ∷ []) (λ x y. refl, tt) d h)) ∙ is_alone (codes "eq") (read_as exactly target_read) d h

pub in_only : (d : Data) → has_only (codes "in" ∷ []) d ≡ true → scope_read d ≡ given (get (codes "in") d) (read_as inside target_read)
in_only d h =
    two_of _ _ _ _ (not_alone (codes "eq") (codes "in" ∷ []) (λ x y. refl, tt) (read_as exactly target_read) d h) (not_alone (codes "is") (codes "in" ∷ []) (λ x y. refl, tt) (read_as of_kind plain_name_read) d h)
    (no_kind d (get_lacks (codes "is") (codes "in" ∷ []) (λ x y. refl, tt) d h)) ∙ is_alone (codes "in") (read_as inside target_read) d h

pub is_only : (d : Data) → has_only (codes "is" ∷ []) d ≡ true → scope_read d ≡ given (get (codes "is") d) (read_as of_kind plain_name_read)
is_only d h =
    three_of _ _ _ _ (not_alone (codes "eq") (codes "is" ∷ []) (λ x y. refl, tt) (read_as exactly target_read) d h) (not_alone (codes "in") (codes "is" ∷ []) (λ x y. refl, tt) (read_as inside target_read) d h)
    (no_place d (get_lacks (codes "in") (codes "is" ∷ []) (λ x y. refl, tt) d h)) ∙ is_alone (codes "is") (read_as of_kind plain_name_read) d h

pub several : (d : Data) → has_only (codes "eq" ∷ []) d ≡ false → has_only (codes "in" ∷ []) d ≡ false → has_only (codes "is" ∷ []) d ≡ false → scope_read d ≡ of_kind_inside_read d
several d e i s =
    four_of _ _ _ _ (is_not (codes "eq") (read_as exactly target_read) d e) (is_not (codes "in") (read_as inside target_read) d i) (is_not (codes "is") (read_as of_kind plain_name_read) d s)

-- the action part
pub action_eq : (d : Data) → has_only (codes "eq" ∷ []) d ≡ true → action_scope_read d ≡ given (get (codes "eq") d) (read_as exactly_action uid_read)
action_eq d h = ap (λ o. option_or (alone (codes "eq") (read_as exactly_action uid_read) d) (option_or o None)) (not_alone (codes "in") (codes "eq" ∷ []) (λ x y. refl, tt) (read_as inside_actions (list_of uid_read)) d h)
    ∙ (or_none _ ∙ is_alone (codes "eq") (read_as exactly_action uid_read) d h)

pub action_in : (d : Data) → has_only (codes "eq" ∷ []) d ≡ false → action_scope_read d ≡ alone (codes "in") (read_as inside_actions (list_of uid_read)) d
action_in d h = ap (λ o. option_or o (option_or (alone (codes "in") (read_as inside_actions (list_of uid_read)) d) None)) (is_not (codes "eq") (read_as exactly_action uid_read) d h) ∙ or_none _
