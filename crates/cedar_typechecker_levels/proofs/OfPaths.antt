-- The walk along a path of attributes: what was counted so far, and then what the rest has.
use Rattle.std.proofs.Common.{◌≡◌, ℕ, suc, ◌+◌, ◌<◌, ◌≤◌, List, [], ◌∷◌, ◌++◌, length, drop, take, get_or, map, Bool, true, false, Option, Some, None, refl, sym, ap, ◌∙◌, drop-cons, drop_of_length-le, append_assoc, append-nil, arith}
use Rattle.std.proofs.Math.Seq.{take-suc}
use Rattle.std.proofs.lemmas.List.{map-append, take_all}
use Rattle.std.specs.Prelude.{if◌then◌else◌}
use Rattle.std.specs.Rc.{rc_str_bytes}
use Rattle.std.specs.declared.alloc.Global.{Global}
use Rattle.std.specs.declared.rc.RcStr.{RcStr}
use Rattle.cedar_expr_model.specs.Name.{Text}
use Rattle.cedar_schema_model.specs.Types.{Ty}
use Rattle.cedar_typechecker_model.specs.Levels.{needed, is_entity, entity_steps, fields_before}
use Rattle.cedar_typechecker_model.specs.Rules.{Setting}
use Rattle.cedar_typechecker_model.specs.Typing.{step_type}
use Rattle.cedar_typechecker_model.proofs.Numbers.{needed_again}
use Rattle.cedar_typechecker_model.specs.Reported.{further_on}
use Rattle.cedar_typechecker_levels.specs.Along.{entity_steps_along, fields_along}

module _ (s : Setting) where
  -- a path is its first attribute and those after it
  pub steps_split : (a : Text) (bs : List Text) (t : Ty) → entity_steps s a bs (Some t) ≡ (if is_entity (Some t) then 1 else 0) + entity_steps_along s bs (step_type s t a)
  steps_split a [] t = omega arith
  steps_split a (b ∷ bs) t = ap (λ k. (if is_entity (Some t) then 1 else 0) + k) (here (λ u. steps_split b bs u) (step_type s t a))
    where
      here : ((u : Ty) → entity_steps s b bs (Some u) ≡ (if is_entity (Some u) then 1 else 0) + entity_steps_along s bs (step_type s u b)) → (o : Option Ty) → entity_steps s b bs o ≡ entity_steps_along s (b ∷ bs) o
      here h None = refl
      here h (Some u) = h u

  pub fields_split : (a : Text) (bs : List Text) (t : Ty) → fields_before s a bs (Some t) ≡ (if is_entity (Some t) then [] else (a ∷ fields_along s bs (step_type s t a)))
  fields_split a [] t = refl
  fields_split a (b ∷ bs) t = ap (λ ns. if is_entity (Some t) then [] else (a ∷ ns)) (here (λ u. fields_split b bs u) (step_type s t a))
    where
      here : ((u : Ty) → fields_before s b bs (Some u) ≡ (if is_entity (Some u) then [] else (b ∷ fields_along s bs (step_type s u b)))) → (o : Option Ty) → fields_before s b bs o ≡ fields_along s (b ∷ bs) o
      here h None = refl
      here h (Some u) = h u

  drop_here : (es : List (RcStr Global)) (i : ℕ) (e d : RcStr Global) → i < length es → e ≡ get_or es i d → drop i es ≡ e ∷ drop (i + 1) es
  drop_here es i e d below at = let next : suc i ≡ i + 1 = omega arith in drop-cons es i d below ∙ (λ j. sym at j ∷ drop (next j) es)

  abbrev names : List (RcStr Global) → List Text
  names es = map rc_str_bytes es

  -- the steps so far, and those of the rest
  pub record StepsSoFar (es : List (RcStr Global)) (o : Option Ty) (here : Option Ty) (k : ℕ) (rest : List (RcStr Global)) : Type 0 where
    pub is : needed (k + entity_steps_along s (names rest) here) ≡ needed (entity_steps_along s (names es) o)
    pub small : needed k ≡ k

  pub steps_start : (es : List (RcStr Global)) (o : Option Ty) → StepsSoFar es o o 0 es
  steps_start es o = record { is = ap needed (none_more (entity_steps_along s (names es) o)); small = refl }
    where
      none_more : (k : ℕ) → 0 + k ≡ k
      none_more k = omega arith

  pub steps_on : (es : List (RcStr Global)) (o here next : Option Ty) (t : Ty) (k j m i : ℕ) (e d : RcStr Global) → i < length es → e ≡ get_or es i d → here ≡ Some t → StepsSoFar es o here k (drop i es) → next ≡ step_type s t (rc_str_bytes e) → m ≡ (if is_entity (Some t) then 1 else 0) → j ≡ further_on m k → StepsSoFar es o next j (drop (i + 1) es)
  steps_on es o here next t k j m i e d below at h was n more is_ =
      let later : ℕ = entity_steps_along s (names (drop (i + 1) es)) next in
      record {
        is =
            ap (λ y. needed (y + later)) is_
            ∙ needed_again (k + m) later
            ∙ ap needed (the_sum k m later)
            ∙ sym (ap (λ ds. needed (k + entity_steps_along s (names ds) here)) (drop_here es i e d below at)
            ∙ (λ x. needed (k + entity_steps_along s (rc_str_bytes e ∷ names (drop (i + 1) es)) (h x)))
            ∙ (λ x. needed (k + (sym more x + entity_steps_along s (names (drop (i + 1) es)) (sym n x)))))
            ∙ was.is;
        small = ap needed is_ ∙ needed_of (k + m) ∙ sym is_;
      }
    where
      the_sum : (k m l : ℕ) → (k + m) + l ≡ k + (m + l)
      the_sum k m l = omega arith

      needed_of : (y : ℕ) → needed (needed y) ≡ needed y
      needed_of y = omega arith

  -- a path by its first attribute and those after it
  pub steps_whole : (a : Text) (bs : List Text) (t : Ty) (next o : Option Ty) (k j m : ℕ) → o ≡ Some t → next ≡ step_type s t a → j ≡ needed (entity_steps_along s bs next) → m ≡ (if is_entity (Some t) then 1 else 0) → k ≡ further_on m j → k ≡ needed (entity_steps s a bs o)
  steps_whole a bs t next o k j m is_ n later more whole =
      whole
      ∙ ap (further_on m) later
      ∙ needed_again (entity_steps_along s bs next) m
      ∙ ap needed (turned (entity_steps_along s bs next) m)
      ∙ (λ x. needed (more x + entity_steps_along s bs (n x)))
      ∙ ap needed (sym (steps_split a bs t))
      ∙ ap (λ p. needed (entity_steps s a bs p)) (sym is_)
    where
      turned : (k m : ℕ) → k + m ≡ m + k
      turned k m = omega arith

  pub steps_none : (es : List (RcStr Global)) (o here : Option Ty) (k i : ℕ) (e d : RcStr Global) → i < length es → e ≡ get_or es i d → here ≡ None → StepsSoFar es o here k (drop i es) → k ≡ needed (entity_steps_along s (names es) o)
  steps_none es o here k i e d below at h was =
      sym was.small ∙ the_none k
      ∙ sym ((λ x. needed (k + entity_steps_along s (names (drop_here es i e d below at x)) (h x))))
      ∙ was.is
    where
      the_none : (k : ℕ) → needed k ≡ needed (k + 0)
      the_none k = omega arith

  pub steps_end : (es : List (RcStr Global)) (o here : Option Ty) (k i : ℕ) → length es ≤ i → StepsSoFar es o here k (drop i es) → k ≡ needed (entity_steps_along s (names es) o)
  steps_end es o here k i past was =
      sym was.small ∙ the_none k
      ∙ sym (ap (λ ds. needed (k + entity_steps_along s (names ds) here)) (drop_of_length-le es past))
      ∙ was.is
    where
      the_none : (k : ℕ) → needed k ≡ needed (k + 0)
      the_none k = omega arith

  -- the fields so far, and those of the rest
  pub record FieldsSoFar (es : List (RcStr Global)) (o here : Option Ty) (i : ℕ) : Type 0 where
    pub is : names (take i es) ++ fields_along s (names (drop i es)) here ≡ fields_along s (names es) o

  pub fields_start : (es : List (RcStr Global)) (o : Option Ty) → FieldsSoFar es o o 0
  fields_start es o = record { is = refl }

  pub fields_on : (es : List (RcStr Global)) (o : Option Ty) (t : Ty) (here next : Option Ty) (i : ℕ) (e d : RcStr Global) → i < length es → e ≡ get_or es i d → here ≡ Some t → FieldsSoFar es o here i → next ≡ step_type s t (rc_str_bytes e) → is_entity (Some t) ≡ false → FieldsSoFar es o next (i + 1)
  fields_on es o t here next i e d below at h was n q =
      let later : List Text = fields_along s (names (drop (i + 1) es)) next in
      record {
        is =
            ap (λ ds. names ds ++ later) (take_one es i e d below at)
            ∙ ap (λ ns. ns ++ later) (map-append rc_str_bytes (take i es) (e ∷ []))
            ∙ append_assoc (names (take i es)) (rc_str_bytes e ∷ []) later
            ∙ sym (ap (λ ds. names (take i es) ++ fields_along s (names ds) here) (drop_here es i e d below at)
            ∙ (λ x. names (take i es) ++ fields_along s (rc_str_bytes e ∷ names (drop (i + 1) es)) (h x))
            ∙ (λ x. names (take i es) ++ (if q x then [] else (rc_str_bytes e ∷ fields_along s (names (drop (i + 1) es)) (sym n x)))))
            ∙ was.is;
      }
    where
      take_one : (es : List (RcStr Global)) (i : ℕ) (e d : RcStr Global) → i < length es → e ≡ get_or es i d → take (i + 1) es ≡ take i es ++ e ∷ []
      take_one es i e d below at = let next : i + 1 ≡ suc i = omega arith in ap (λ j. take j es) next ∙ take-suc es i d below ∙ ap (λ y. take i es ++ y ∷ []) (sym at)

  -- where nothing follows, those so far are all
  pub fields_stop : (es : List (RcStr Global)) (o here : Option Ty) (i : ℕ) (e d : RcStr Global) → i < length es → e ≡ get_or es i d → fields_along s (rc_str_bytes e ∷ names (drop (i + 1) es)) here ≡ [] → FieldsSoFar es o here i → names (take i es) ≡ fields_along s (names es) o
  fields_stop es o here i e d below at h was =
      sym (append-nil (names (take i es)))
      ∙ sym (ap (λ ds. names (take i es) ++ fields_along s (names ds) here) (drop_here es i e d below at) ∙ ap (λ ns. names (take i es) ++ ns) h)
      ∙ was.is

  pub fields_none : (es : List (RcStr Global)) (o here : Option Ty) (i : ℕ) (e d : RcStr Global) → i < length es → e ≡ get_or es i d → here ≡ None → FieldsSoFar es o here i → names (take i es) ≡ fields_along s (names es) o
  fields_none es o here i e d below at h was = fields_stop es o here i e d below at (ap (fields_along s (rc_str_bytes e ∷ names (drop (i + 1) es))) h) was

  pub fields_entity : (es : List (RcStr Global)) (o : Option Ty) (t : Ty) (here : Option Ty) (i : ℕ) (e d : RcStr Global) → i < length es → e ≡ get_or es i d → here ≡ Some t → is_entity (Some t) ≡ true → FieldsSoFar es o here i → names (take i es) ≡ fields_along s (names es) o
  fields_entity es o t here i e d below at h q was =
      fields_stop es o here i e d below at
      (ap (fields_along s (rc_str_bytes e ∷ names (drop (i + 1) es))) h ∙ ap (λ (b : Bool). if b then [] else (rc_str_bytes e ∷ fields_along s (names (drop (i + 1) es)) (step_type s t (rc_str_bytes e)))) q) was

  pub fields_end : (es : List (RcStr Global)) (o here : Option Ty) (i : ℕ) → length es ≤ i → FieldsSoFar es o here i → names es ≡ fields_along s (names es) o
  fields_end es o here i past was =
      ap names (sym (take_all i es past))
      ∙ sym (append-nil (names (take i es)))
      ∙ sym (ap (λ ds. names (take i es) ++ fields_along s (names ds) here) (drop_of_length-le es past))
      ∙ was.is

  -- a path by its first attribute and those after it
  pub fields_whole : (a : Text) (bs : List Text) (t : Ty) (next o : Option Ty) (ns : List Text) → o ≡ Some t → next ≡ step_type s t a → ns ≡ fields_along s bs next → is_entity (Some t) ≡ false → a ∷ ns ≡ fields_before s a bs o
  fields_whole a bs t next o ns is_ n later not_one =
      ap (λ ms. a ∷ ms) (later ∙ ap (fields_along s bs) n)
      ∙ sym (ap (λ (b : Bool). if b then [] else (a ∷ fields_along s bs (step_type s t a))) not_one)
      ∙ sym (fields_split a bs t)
      ∙ ap (fields_before s a bs) (sym is_)
