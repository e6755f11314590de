-- Sets, records and calls of good outcomes are good.
use Rattle.std.proofs.Common.{◌≡◌, ◌&&◌, suc, Bool, true, false, List, [], ◌∷◌, length, Option, Some, None, refl, sym, ap, ◌∙◌, subst}
use Rattle.std.specs.Prelude.{is_some, option_map, option_and_then, if◌then◌else◌, Contains}
use Rattle.std.specs.Str.{bytes_eq}
use Rattle.std.proofs.lemmas.Slice.Eq.{bytes_eq-Decides}
use Rattle.cedar_expr_model.specs.Name.{Text, Name}
use Rattle.cedar_expr_model.specs.Value.{truth, long, text, entity, V, prim, set_of, record_of, extension, Fields, no_fields, field, field_of}
use Rattle.cedar_expr_model.specs.Canonical.{members_made, set_made}
use Rattle.cedar_expr_model.specs.Substitution.{core_type_of}
use Rattle.cedar_expr_model.specs.Order.{core_eq}
use Rattle.cedar_expr_model.specs.Table.{Signature, signature_of, takes_count, are_of_types, Called, gives, fails, leaves}
use Rattle.cedar_expr_model.specs.OfLaws.Fair.{IsAnswer, IsFair}
use Rattle.cedar_expr_model.specs.Tree.{CoreType, bool_core, long_core, string_core, set_core, record_core, entity_core, extension_core, Trees}
use Rattle.cedar_expr_model.proofs.Lists.{both_hold, hold_both, contains_cases, contains_none, contains_head, contains_tail}
use Rattle.cedar_expr_model.proofs.CoreTypes.{core_eq-Decides}
use Rattle.cedar_expr_model.proofs.Sets.{made_from}
use Rattle.cedar_store_model.specs.Outcome.{Res, val, err, bind, wrong_type, wrong_count}
use Rattle.cedar_store_model.proofs.Named.{called_of}
use Rattle.cedar_store_model.specs.Operators.{answered, called}
use Rattle.cedar_schema_model.specs.Types.{any_bool, is_closed, Ty, set_type, record_type, Attributes, no_attributes, attribute, Declared, attribute_named, strict}
use Rattle.cedar_schema_model.specs.Subtype.{is_subtype}
use Rattle.cedar_schema_model.specs.Join.{reduce_to_join}
use Rattle.cedar_schema_model.specs.HasType.{HasType, FieldsFit, FieldFits}
use Rattle.cedar_schema_model.proofs.Types.Lookups.{inside, named_first, named_cases, no_none}
use Rattle.cedar_schema_model.proofs.Types.Values.{sets_by_members, supertypes_keep}
use Rattle.cedar_typechecker_model.specs.Rules.{Setting, set_literal_type, record_literal_type, has_names_once, core_as_type, arguments_fit, takes_literal, signature_type, call_type}
use Rattle.cedar_typechecker_model.specs.OfLaws.Simple.{is_simple, are_simple}
use Rattle.cedar_typechecker_model.specs.Soundness.{IsExpected}
use Rattle.cedar_typechecker_model.proofs.Sound.Shapes.{bool_value, long_value, text_value, extension_value}
use Rattle.cedar_typechecker_model.proofs.Sound.Joins.{AreSimple, KeptAll, reduction_keeps, required_from, still_there, simple_parts}
use Rattle.cedar_typechecker_model.proofs.Sound.Attributes.{Fine}
use Rattle.cedar_typechecker_model.proofs.Named.{result_type}
use Rattle.cedar_expr_model.specs.Lists.{all_given}

-- values of these types, one after the other
abbrev pub Have : List V → List Ty → Type 0
Have [] [] = Unit {0}
Have (v ∷ vs) (t ∷ ts) = HasType v t × Have vs ts
Have vs ts = ⊥

-- fields of these names and types
abbrev pub HaveFields : Fields → Attributes → Type 0
HaveFields no_fields no_attributes = Unit {0}
HaveFields (field a v fs) (attribute b t r as_) = (a ≡ b) × HasType v t × HaveFields fs as_
HaveFields fs as_ = ⊥

abbrev pub FineAs : {A : Type 0} → (A → Type 0) → Option (Res A) → Type 0
FineAs P None = Unit {0}
FineAs P (Some (val a)) = P a
FineAs P (Some (err f)) = IsExpected f

pub fine_next : {A B : Type 0} (P : A → Type 0) (Q : B → Type 0) (o : Option (Res A)) (next : A → Option (Res B)) → FineAs P o → ((a : A) → o ≡ Some (val a) → P a → FineAs Q (next a)) → FineAs Q (bind o next)
fine_next P Q None next h n = tt
fine_next P Q (Some (err f)) next h n = h
fine_next P Q (Some (val a)) next h n = n a refl h

pub fine_is : (t : Ty) (o : Option (Res V)) → Fine t o → FineAs (λ v. HasType v t) o
fine_is t None h = tt
fine_is t (Some (val v)) h = h
fine_is t (Some (err f)) h = h

pub is_fine : (t : Ty) (o : Option (Res V)) → FineAs (λ v. HasType v t) o → Fine t o
is_fine t None h = tt
is_fine t (Some (val v)) h = h
is_fine t (Some (err f)) h = h

-- sets
pub have_at : (vs : List V) (ts : List Ty) → Have vs ts → (v : V) → Contains vs v → (t : Ty) × Contains ts t × HasType v t
have_at [] [] h v i = absurd (contains_none v i)
have_at (x ∷ vs) (t ∷ ts) h v i =
    contains_cases ((u : Ty) × Contains (t ∷ ts) u × HasType v u) x vs v i (λ e. (t, contains_head t ts, subst (λ y. HasType y t) e h.0)) (λ k. let r = have_at vs ts h.1 v k in (r.0, contains_tail t ts r.0 r.1, r.2))
have_at [] (t ∷ ts) h v i = absurd h
have_at (x ∷ vs) [] h v i = absurd h

joined_set : (ts : List Ty) (vs : List V) (ty : Ty) → AreSimple ts → Have vs ts → option_map set_type (reduce_to_join strict ts) ≡ Some ty → HasType (set_made vs) ty
joined_set ts vs ty s h e = by (reduce_to_join strict ts) (λ j q. reduction_keeps ts j s q) e
  where
    by : (o : Option Ty) → ((j : Ty) → o ≡ Some j → KeptAll ts j) → option_map set_type o ≡ Some ty → HasType (set_made vs) ty
    by None f q = cc
    by (Some j) f q =
        let k = f j refl in
        subst (HasType (set_made vs)) (inside q) ((sets_by_members j (members_made vs)).1 (λ v i. let r = have_at vs ts h v (made_from v vs i) in k.each r.0 r.1 v r.2))

pub set_good : (ts : List Ty) (vs : List V) (ty : Ty) → AreSimple ts → Have vs ts → set_literal_type strict ts ≡ Some ty → HasType (set_made vs) ty
set_good [] vs ty s h e = cc
set_good (t ∷ ts) vs ty s h e = joined_set (t ∷ ts) vs ty s h e

-- records
field_there : (fs : Fields) (as_ : Attributes) → HaveFields fs as_ → (n : Text) (d : Declared) → attribute_named n as_ ≡ Some d → is_some (field_of n fs) ≡ true
field_there no_fields no_attributes h n d e = no_none e
field_there (field a v fs) (attribute b t r as_) h n d e =
    named_cases n b t r as_ d e
    (λ q k. ap (λ x. is_some (if x then Some v else field_of n fs)) ((bytes_eq-Decides n a).1 (q ∙ sym h.0)))
    (λ q k. later (bytes_eq n a) (field_there fs as_ h.2 n d k))
  where
    later : (c : Bool) → is_some (field_of n fs) ≡ true → is_some (if c then Some v else field_of n fs) ≡ true
    later true i = refl
    later false i = i
field_there no_fields (attribute b t r as_) h n d e = absurd h
field_there (field a v fs) no_attributes h n d e = absurd h

all_fit : (as_ : Attributes) (fs : Fields) (cs : Attributes) → HaveFields fs cs → are_simple cs ≡ true → ((n : Text) (d : Declared) → attribute_named n cs ≡ Some d → attribute_named n as_ ≡ Some d) → FieldsFit as_ is_closed fs
all_fit as_ no_fields no_attributes h s f = tt
all_fit as_ (field a v fs) (attribute b t r cs) h s f =
    let p = simple_parts b t r cs s in (
      subst (λ x. FieldFits is_closed (HasType v) (attribute_named x as_)) (sym h.0) (subst (FieldFits is_closed (HasType v)) (sym (f b (record { type = t; is_required = r }) (named_first b t r cs))) h.1),
      all_fit as_ fs cs h.2 p.2 (λ n d e. f n d (still_there n b t r cs d p.1 e)),
    )
all_fit as_ no_fields (attribute b t r cs) h s f = absurd h
all_fit as_ (field a v fs) no_attributes h s f = absurd h

pub record_good : (as_ : Attributes) (fs : Fields) (ty : Ty) → is_simple ty ≡ true → HaveFields fs as_ → record_literal_type as_ ≡ Some ty → HasType (record_of fs) ty
record_good as_ fs ty s h e = by (has_names_once as_) e
  where
    by : (b : Bool) → (if b then Some (record_type as_ is_closed) else None) ≡ Some ty → HasType (record_of fs) ty
    by true q =
        let k : record_type as_ is_closed ≡ ty = inside q in
        let z : are_simple as_ ≡ true = subst (λ x. is_simple x ≡ true) (sym k) s in
        subst (HasType (record_of fs)) k (required_from as_ fs z (λ n d i r. field_there fs as_ h n d i), all_fit as_ fs as_ h z (λ n d i. i))
    by false q = cc

-- calls: the arguments are of the types that the function takes
core_has : (c : CoreType) (t : Ty) (v : V) → core_as_type c ≡ Some t → HasType v t → c ≡ core_type_of v
core_has bool_core t v e h = let k = bool_value any_bool v (subst (HasType v) (sym (inside e)) h) in sym (ap core_type_of k.1)
core_has long_core t v e h = let k = long_value v (subst (HasType v) (sym (inside e)) h) in sym (ap core_type_of k.1)
core_has string_core t v e h = let k = text_value v (subst (HasType v) (sym (inside e)) h) in sym (ap core_type_of k.1)
core_has (extension_core n) t v e h = let k = extension_value n v (subst (HasType v) (sym (inside e)) h) in sym (ap core_type_of k.1)
core_has set_core t v e h = cc
core_has record_core t v e h = cc
core_has (entity_core n) t v e h = cc

value_has : (v : V) (t : Ty) → core_as_type (core_type_of v) ≡ Some t → HasType v t
value_has (prim (truth b)) t e = subst (HasType (prim (truth b))) (inside e) refl
value_has (prim (long n)) t e = subst (HasType (prim (long n))) (inside e) tt
value_has (prim (text s)) t e = subst (HasType (prim (text s))) (inside e) tt
value_has (extension n k) t e = subst (HasType (extension n k)) (inside e) refl
value_has (prim (entity u)) t e = cc
value_has (set_of vs) t e = cc
value_has (record_of fs) t e = cc

-- the types of several
pub record Parts (c : CoreType) (cs : List CoreType) (ps : List Ty) : Type 0 where
  pub first : Ty
  pub rest : List Ty
  pub is_first : core_as_type c ≡ Some first
  pub are_rest : all_given core_as_type cs ≡ Some rest
  pub both : ps ≡ first ∷ rest

parts_of : (c : CoreType) (cs : List CoreType) (ps : List Ty) → all_given core_as_type (c ∷ cs) ≡ Some ps → Parts c cs ps
parts_of c cs ps e = by (core_as_type c) refl (all_given core_as_type cs) refl e
  where
    by : (o : Option Ty) → core_as_type c ≡ o → (p : Option (List Ty)) → all_given core_as_type cs ≡ p → option_and_then (λ a. option_map (λ as_. a ∷ as_) p) o ≡ Some ps → Parts c cs ps
    by None q p r k = cc
    by (Some t) q None r k = cc
    by (Some t) q (Some ts) r k = record { first = t; rest = ts; is_first = q; are_rest = r; both = sym (inside k) }

one_fits : (c : CoreType) (p t : Ty) (v : V) → core_as_type c ≡ Some p → is_subtype strict t p ≡ true → HasType v t → core_eq c (core_type_of v) ≡ true
one_fits c p t v e s h = (core_eq-Decides c (core_type_of v)).1 (core_has c p v e (supertypes_keep strict t p v s h))

-- what the last type takes
last_fits : (c : CoreType) (p : Ty) → core_as_type c ≡ Some p → (ts : List Ty) (vs : List V) → Have vs ts → arguments_fit (p ∷ []) ts ≡ true → are_of_types (c ∷ []) vs ≡ true
last_fits c p e [] [] h f = refl
last_fits c p e (t ∷ ts) (v ∷ vs) h f =
    let k = both_hold (is_subtype strict t p) (arguments_fit (p ∷ []) ts) f in
    hold_both (core_eq c (core_type_of v)) _ (one_fits c p t v e k.0 h.0) (last_fits c p e ts vs h.1 k.1)
last_fits c p e [] (v ∷ vs) h f = absurd h
last_fits c p e (t ∷ ts) [] h f = absurd h

all_fits : (cs : List CoreType) (ps : List Ty) → all_given core_as_type cs ≡ Some ps → (ts : List Ty) (vs : List V) → Have vs ts → arguments_fit ps ts ≡ true → are_of_types cs vs ≡ true
all_fits [] ps e ts vs h f = refl
all_fits (c ∷ []) ps e ts vs h f =
    let k = parts_of c [] ps e in
    let q : k.rest ≡ [] = sym (inside k.are_rest) in
    last_fits c k.first k.is_first ts vs h (subst (λ x. arguments_fit (k.first ∷ x) ts ≡ true) q (subst (λ x. arguments_fit x ts ≡ true) k.both f))
all_fits (c ∷ d ∷ cs) ps e [] [] h f = refl
all_fits (c ∷ d ∷ cs) ps e (t ∷ ts) (v ∷ vs) h f =
    let k = parts_of c (d ∷ cs) ps e in
    let l = parts_of d cs k.rest k.are_rest in
    let g : arguments_fit (k.first ∷ l.first ∷ l.rest) (t ∷ ts) ≡ true = subst (λ x. arguments_fit (k.first ∷ x) (t ∷ ts) ≡ true) l.both (subst (λ x. arguments_fit x (t ∷ ts) ≡ true) k.both f) in
    let b = both_hold (is_subtype strict t k.first) (arguments_fit (l.first ∷ l.rest) ts) g in
    hold_both (core_eq c (core_type_of v)) _ (one_fits c k.first t v k.is_first b.0 h.0) (all_fits (d ∷ cs) (l.first ∷ l.rest) (k.are_rest ∙ ap Some l.both) ts vs h.1 b.1)
all_fits (c ∷ d ∷ cs) ps e [] (v ∷ vs) h f = absurd h
all_fits (c ∷ d ∷ cs) ps e (t ∷ ts) [] h f = absurd h

same_length : (vs : List V) (ts : List Ty) → Have vs ts → length vs ≡ length ts
same_length [] [] h = refl
same_length (v ∷ vs) (t ∷ ts) h = ap suc (same_length vs ts h.1)
same_length [] (t ∷ ts) h = absurd h
same_length (v ∷ vs) [] h = absurd h

-- the answer of a function of a fair table
answer_fine : (unknowns : Text → Option V) (f : Signature) (c : Called) (ty : Ty) → IsAnswer f c → result_type f ≡ Some ty → Fine ty (answered unknowns c)
answer_fine unknowns f (gives v) ty h e = value_has v ty (ap (option_and_then core_as_type) (sym h) ∙ e)
answer_fine unknowns f (fails n) ty h e = tt
answer_fine unknowns f (leaves n) ty h e = (let q = ap (option_and_then core_as_type) (sym h) ∙ e in cc)

taken_fine : (unknowns : Text → Option V) (f : Signature) (c : Called) (ty : Ty) (n t : Bool) → n ≡ true → t ≡ true → (n ≡ true → t ≡ true → IsAnswer f c) → result_type f ≡ Some ty → Fine ty (if n then (if t then answered unknowns c else Some (err wrong_type)) else Some (err wrong_count))
taken_fine unknowns f c ty true true p q h e = answer_fine unknowns f c ty (h refl refl) e
taken_fine unknowns f c ty true false p q h e = cc
taken_fine unknowns f c ty false t p q h e = cc

module _ (s : Setting) (fair : IsFair s.table) (n : Name) (unknowns : Text → Option V) (es : Trees) (ts : List Ty) (vs : List V) (h : Have vs ts) where
  called_fine : (o : Option Signature) → signature_of s.table n ≡ o → (ty : Ty) → option_and_then (signature_type s es ts) o ≡ Some ty → Fine ty (called_of s.table unknowns n vs o)
  called_fine None q ty e = cc
  called_fine (Some f) q ty e = by (all_given core_as_type f.parameters) refl e
    where
      parts : (a b c : Bool) (o : Option Ty) → (if a && (b && c) then o else None) ≡ Some ty → (a ≡ true) × (b ≡ true) × (o ≡ Some ty)
      parts true true true o k = (refl, refl, k)
      parts true true false o k = cc
      parts true false c o k = cc
      parts false b c o k = cc

      by : (ps : Option (List Ty)) → all_given core_as_type f.parameters ≡ ps → option_and_then (λ ps. if takes_count f (length ts) && (arguments_fit ps ts && takes_literal s.mode f es) then result_type f else None) ps ≡ Some ty
          → Fine ty (if takes_count f (length vs) then (if are_of_types f.parameters vs then answered unknowns (s.table.answers n vs) else Some (err wrong_type)) else Some (err wrong_count))
      by None p k = cc
      by (Some ps) p k =
          let r = parts (takes_count f (length ts)) (arguments_fit ps ts) (takes_literal s.mode f es) (result_type f) k in
          taken_fine unknowns f (s.table.answers n vs) ty (takes_count f (length vs)) (are_of_types f.parameters vs) (ap (takes_count f) (same_length vs ts h) ∙ r.0) (all_fits f.parameters ps p ts vs h r.1) (λ a b. fair n f vs q a b) r.2

  pub call_fine : (ty : Ty) → call_type s n es ts ≡ Some ty → Fine ty (called s.table unknowns n vs)
  call_fine ty e = called_fine (signature_of s.table n) refl ty e
