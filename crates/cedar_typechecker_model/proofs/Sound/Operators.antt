-- Operators at values of their types give a value of theirs, or err by an overflow or a zero divisor.
use Rattle.std.proofs.Common.{◌≡◌, ◌&&◌, Bool, true, false, not, List, Option, Some, None, refl, sym, ap, ◌∙◌, subst}
use Rattle.std.specs.Prelude.{if◌then◌else◌, ℤ, pos, neg_ℤ, int_rem, Contains}
use Rattle.std.specs.List.{list_all, list_any}
use Rattle.std.specs.Ordering.{int_eq}
use Rattle.std.specs.declared.cmp.Ordering.{Ordering}
use Rattle.cedar_expr_model.specs.Name.{Name, name_eq}
use Rattle.cedar_expr_model.specs.Uid.{Uid, uid_eq}
use Rattle.cedar_expr_model.specs.Value.{truth, long, text, entity, V, prim, set_of, extension, Vs}
use Rattle.cedar_expr_model.specs.Ranges.{is_long}
use Rattle.cedar_expr_model.specs.Order.{value_eq}
use Rattle.cedar_expr_model.specs.Pattern.{Pattern}
use Rattle.cedar_expr_model.specs.Tree.{UnaryOp, negation, minus, is_empty, Tree}
use Rattle.cedar_expr_model.specs.Table.{is_ordered}
use Rattle.cedar_expr_model.proofs.Equality.{name_eq-Decides, uid_eq-Decides}
use Rattle.cedar_expr_model.proofs.Lists.{all_each, any_has}
use Rattle.cedar_expr_model.proofs.ValueOrder.{values_decide}
use Rattle.cedar_store_model.specs.Outcome.{Res, val, err, wrong_type, overflow, zero_divisor}
use Rattle.cedar_store_model.specs.Operators.{in_range, says, applied, ordered, calculated, remains, among_members, of_sets, like_pattern, of_type}
use Rattle.cedar_schema_model.specs.Types.{BoolType, any_bool, only_true, only_false, Ty, bool_type, long_type, string_type, any_entity, entity_types, any_set, set_type, extension_type, strict}
use Rattle.cedar_schema_model.specs.HasType.{is_of_bool, HasType}
use Rattle.cedar_schema_model.specs.Join.{join, are_disjoint}
use Rattle.cedar_schema_model.proofs.Types.Lookups.{inside, test_cases}
use Rattle.cedar_schema_model.proofs.Types.Values.{disjoint_apart}
use Rattle.cedar_typechecker_model.specs.Rules.{Setting, known_truth, truth_type, if_there, negated, unary_type, comparable, written_uid, written_equal, order_type, number_type, member_type, is_set_type, sets_type, like_type, kinds_are, is_type_type}
use Rattle.cedar_typechecker_model.specs.Soundness.{IsGood}
use Rattle.cedar_typechecker_model.proofs.Sound.Shapes.{bool_value, long_value, text_value, any_value, entity_value, set_value, extension_value}
use Rattle.cedar_typechecker_model.proofs.Named.{has_no_values, equal_type}

-- an outcome of a type that a rule gives
pub given_good : (t ty : Ty) (r : Res V) → Some t ≡ Some ty → IsGood t r → IsGood ty r
given_good t ty r e h = subst (λ z. IsGood z r) (inside e) h

-- any truth value is of the type of both
pub says_good : (b : Bool) (ty : Ty) → truth_type ≡ Some ty → IsGood ty (says b)
says_good b ty e = given_good (bool_type any_bool) ty (says b) e refl

there_good : {A : Type 0} (o : Option A) (b : Bool) (ty : Ty) → if_there o ≡ Some ty → IsGood ty (says b)
there_good None b ty e = cc
there_good (Some a) b ty e = says_good b ty e

pub range_good : (n : ℤ) → IsGood long_type (in_range n)
range_good n = by (is_long n)
  where
    by : (b : Bool) → IsGood long_type (if b then val (prim (long n)) else err overflow)
    by true = tt
    by false = tt

pub remains_good : (m n : ℤ) → IsGood long_type (remains m n)
remains_good m n = by (int_eq n (pos 0))
  where
    by : (b : Bool) → IsGood long_type (if b then err zero_divisor else val (prim (long (int_rem m n))))
    by true = tt
    by false = tt

negated_good : (b : BoolType) (c : Bool) → is_of_bool b c ≡ true → is_of_bool (negated b) (not c) ≡ true
negated_good any_bool c h = refl
negated_good only_true true h = refl
negated_good only_true false h = h
negated_good only_false true h = h
negated_good only_false false h = refl

is_set : (t : Ty) (v : V) → is_set_type t ≡ true → HasType v t → (vs : Vs) × (v ≡ set_of vs)
is_set (set_type t) v e h = let k = set_value t v h in (k.0, k.1)
is_set any_set (set_of vs) e h = (vs, refl)
is_set any_set (prim (truth b)) e h = absurd h
is_set any_set (prim (long n)) e h = absurd h
is_set any_set (prim (text s)) e h = absurd h
is_set any_set (prim (entity u)) e h = absurd h
is_set any_set v e h = absurd h
is_set t v e h = cc

pub unary_good : (o : UnaryOp) (t ty : Ty) (v : V) → unary_type o t ≡ Some ty → HasType v t → IsGood ty (applied o v)
unary_good negation (bool_type b) ty v e h =
    let k = bool_value b v h in
    subst (λ z. IsGood ty (applied negation z)) (sym k.1) (given_good (bool_type (negated b)) ty (says (not k.0)) e (negated_good b k.0 k.2))
unary_good minus long_type ty v e h = let k = long_value v h in subst (λ z. IsGood ty (applied minus z)) (sym k.1) (given_good long_type ty (applied minus (prim (long k.0))) e (range_good (neg_ℤ k.0)))
unary_good is_empty any_set ty v e h = let k = is_set any_set v refl h in subst (λ z. IsGood ty (applied is_empty z)) (sym k.1) (says_good (has_no_values k.0) ty e)
unary_good is_empty (set_type t) ty v e h = let k = is_set (set_type t) v refl h in subst (λ z. IsGood ty (applied is_empty z)) (sym k.1) (says_good (has_no_values k.0) ty e)
unary_good o t ty v e h = cc

pub order_good : (s : Setting) (test : Ordering → Bool) (t u ty : Ty) (v v' : V) → order_type s t u ≡ Some ty → HasType v t → HasType v' u → IsGood ty (ordered s.table test v v')
order_good s test long_type long_type ty v v' e h k =
    let m = long_value v h in
    let n = long_value v' k in
    subst (λ z. IsGood ty (ordered s.table test z v')) (sym m.1) (subst (λ z. IsGood ty (ordered s.table test (prim (long m.0)) z)) (sym n.1) (says_good _ ty e))
order_good s test (extension_type m) (extension_type n) ty v v' e h k =
    let i = extension_value m v h in
    let j = extension_value n v' k in
    subst (λ z. IsGood ty (ordered s.table test z v')) (sym i.1) (subst (λ z. IsGood ty (ordered s.table test (extension m i.0) z)) (sym j.1) (by (name_eq m n && is_ordered s.table m) _ e))
  where
    by : (b c : Bool) → (if b then truth_type else None) ≡ Some ty → IsGood ty (if b then says c else err wrong_type)
    by true c q = says_good c ty q
    by false c q = cc
order_good s test t u ty v v' e h k = cc

pub number_good : (f : ℤ → ℤ → Res V) → ((m n : ℤ) → IsGood long_type (f m n)) → (t u ty : Ty) (v v' : V) → number_type t u ≡ Some ty → HasType v t → HasType v' u → IsGood ty (calculated f v v')
number_good f good long_type long_type ty v v' e h k =
    let m = long_value v h in
    let n = long_value v' k in
    subst (λ z. IsGood ty (calculated f z v')) (sym m.1) (subst (λ z. IsGood ty (calculated f (prim (long m.0)) z)) (sym n.1) (given_good long_type ty (f m.0 n.0) e (good m.0 n.0)))
number_good f good t u ty v v' e h k = cc

member_of : (vs : Vs) (v v' : V) (ty : Ty) → v ≡ set_of vs → ((b : Bool) → IsGood ty (says b)) → IsGood ty (among_members v v')
member_of vs v v' ty q f = subst (λ z. IsGood ty (among_members z v')) (sym q) (f _)

pub member_good : (s : Setting) (t u ty : Ty) (v v' : V) → member_type s t u ≡ Some ty → HasType v t → IsGood ty (among_members v v')
member_good s any_set u ty v v' e h = let k = is_set any_set v refl h in member_of k.0 v v' ty k.1 (λ b. says_good b ty e)
member_good s (set_type t) u ty v v' e h = let k = is_set (set_type t) v refl h in member_of k.0 v v' ty k.1 (λ b. there_good (join s.mode t u) b ty e)
member_good s t u ty v v' e h = cc

pub sets_good : (s : Setting) (test : Vs → Vs → Bool) (t u ty : Ty) (v v' : V) → sets_type s t u ≡ Some ty → HasType v t → HasType v' u → IsGood ty (of_sets test v v')
sets_good s test t u ty v v' e h k = by (is_set_type t) (is_set_type u) (λ p. is_set t v p h) (λ p. is_set u v' p k) e
  where
    by : (b c : Bool) → (b ≡ true → (vs : Vs) × (v ≡ set_of vs)) → (c ≡ true → (vs : Vs) × (v' ≡ set_of vs)) → (if b && c then if_there (join s.mode t u) else None) ≡ Some ty → IsGood ty (of_sets test v v')
    by true true f g q =
        let i = f refl in
        let j = g refl in
        subst (λ z. IsGood ty (of_sets test z v')) (sym i.1) (subst (λ z. IsGood ty (of_sets test (set_of i.0) z)) (sym j.1) (there_good (join s.mode t u) (test i.0 j.0) ty q))
    by true false f g q = cc
    by false c f g q = cc

pub like_good : (p : Pattern) (t ty : Ty) (v : V) → like_type t ≡ Some ty → HasType v t → IsGood ty (like_pattern p v)
like_good p string_type ty v e h = let k = text_value v h in subst (λ z. IsGood ty (like_pattern p z)) (sym k.1) (says_good _ ty e)
like_good p t ty v e h = cc

-- a test of the type
name_turned : (m n : Name) → name_eq m n ≡ name_eq n m
name_turned m n =
    test_cases (name_eq m n)
    (λ e. e ∙ sym ((name_eq-Decides n m).1 (sym ((name_eq-Decides m n).0 e))))
    (λ e. test_cases (name_eq n m) (λ f. absurd (clash (e) ((name_eq-Decides m n).1 (sym ((name_eq-Decides n m).0 f))))) (λ f. e ∙ sym f))
  where
    clash : name_eq m n ≡ false → name_eq m n ≡ true → ⊥
    clash e f = cc

kinds_good : (n : Name) (ns : List Name) (u : Uid) → Contains ns u.kind → is_of_bool (kinds_are n ns) (name_eq u.kind n) ≡ true
kinds_good n ns u h = subst (λ b. is_of_bool (kinds_are n ns) b ≡ true) (name_turned n u.kind) (by (list_all (name_eq n) ns) (list_any (name_eq n) ns) (name_eq n u.kind) (λ e. all_each (name_eq n) ns e u.kind h) (λ e. any_has (name_eq n) ns u.kind h e))
  where
    by : (all any here : Bool) → (all ≡ true → here ≡ true) → (here ≡ true → any ≡ true) → is_of_bool (if all then only_true else (if any then any_bool else only_false)) here ≡ true
    by true any here f g = f refl
    by false true here f g = refl
    by false false true f g = (let q = g refl in cc)
    by false false false f g = refl

pub is_good : (n : Name) (t ty : Ty) (v : V) → is_type_type n t ≡ Some ty → HasType v t → IsGood ty (of_type n v)
is_good n any_entity ty v e h = let k = any_value v h in subst (λ z. IsGood ty (of_type n z)) (sym k.1) (says_good _ ty e)
is_good n (entity_types ns) ty v e h = let k = entity_value ns v h in subst (λ z. IsGood ty (of_type n z)) (sym k.1) (given_good _ ty (says (name_eq k.0.kind n)) e (kinds_good n ns k.0 k.2))
is_good n t ty v e h = cc

-- equality
pub known_good : (b : Bool) → is_of_bool (known_truth b) b ≡ true
known_good true = refl
known_good false = refl

uids_equal : (u v : Uid) → value_eq (prim (entity u)) (prim (entity v)) ≡ uid_eq u v
uids_equal u v =
    test_cases (uid_eq u v)
    (λ e. (values_decide (prim (entity u)) (prim (entity v))).1 (ap (λ x. prim (entity x)) ((uid_eq-Decides u v).0 e)) ∙ sym e)
    (λ e. test_cases (value_eq (prim (entity u)) (prim (entity v)))
    (λ f. let q = (values_decide (prim (entity u)) (prim (entity v))).0 f in let p : u ≡ v = cc in absurd (clash e ((uid_eq-Decides u v).1 p)))
    (λ f. f ∙ sym e))
  where
    clash : uid_eq u v ≡ false → uid_eq u v ≡ true → ⊥
    clash e f = cc

-- the value is the uid that is written
abbrev pub Writes : Option Uid → V → Type 0
Writes o v = (u : Uid) → o ≡ Some u → v ≡ prim (entity u)

written_good : (s : Setting) (p q : Option Uid) (t u ty : Ty) (v v' : V) → s.mode ≡ strict → Writes p v → Writes q v' → written_equal s p q t u ≡ Some ty → IsGood ty (says (value_eq v v'))
written_good s (Some a) (Some b) t u ty v v' m f g e =
    subst (λ z. IsGood ty (says (value_eq z v'))) (sym (f a refl)) (subst (λ z. IsGood ty (says (value_eq (prim (entity a)) z))) (sym (g b refl))
    (subst (λ z. IsGood ty (says z)) (sym (uids_equal a b)) (given_good _ ty (says (uid_eq a b)) e (known_good (uid_eq a b)))))
written_good s None q t u ty v v' m f g e = let k : comparable strict t u ≡ Some ty = rw m at e in there_good (join strict t u) _ ty k
written_good s (Some a) None t u ty v v' m f g e = let k : comparable strict t u ≡ Some ty = rw m at e in there_good (join strict t u) _ ty k

pub not_equal : (v v' : V) → (v ≡ v' → ⊥) → not (value_eq v v') ≡ true
not_equal v v' n = test_cases (value_eq v v') (λ e. absurd (n ((values_decide v v').0 e))) (λ e. ap not e)

pub equal_good : (s : Setting) (a b : Tree) (t u ty : Ty) (v v' : V) → s.mode ≡ strict → Writes (written_uid s a) v → Writes (written_uid s b) v' → HasType v t → HasType v' u → equal_type s a b t u ≡ Some ty → IsGood ty (says (value_eq v v'))
equal_good s a b t u ty v v' m f g h k e = by (are_disjoint t u) (λ q. not_equal v v' (λ p. disjoint_apart t u v q h (subst (λ z. HasType z u) (sym p) k))) e
  where
    by : (c : Bool) → (c ≡ true → not (value_eq v v') ≡ true) → (if c then Some (bool_type only_false) else written_equal s (written_uid s a) (written_uid s b) t u) ≡ Some ty → IsGood ty (says (value_eq v v'))
    by true n q = given_good (bool_type only_false) ty (says (value_eq v v')) q (n refl)
    by false n q = written_good s (written_uid s a) (written_uid s b) t u ty v v' m f g q
