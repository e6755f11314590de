-- What is left beside the outcome that what is known gives, through each combinator.
use Rattle.std.proofs.Common.{ℤ, Bool, true, false, cond, ◌&&◌, refl, sym, ap, subst}
use Rattle.std.specs.Prelude.{List, Option, Some, None, neg_ℤ, pos, int_rem}
use Rattle.std.specs.Ordering.{int_eq}
use Rattle.std.specs.declared.cmp.Ordering.{Ordering}
use Rattle.cedar_expr_model.specs.Name.{Name, name_eq}
use Rattle.cedar_expr_model.specs.Uid.{Uid}
use Rattle.cedar_expr_model.specs.Value.{truth, long, text, entity, V, prim, set_of, record_of, extension, Vs}
use Rattle.cedar_expr_model.specs.Ranges.{is_long}
use Rattle.cedar_expr_model.specs.Order.{text_cmp}
use Rattle.cedar_expr_model.specs.Pattern.{Pattern}
use Rattle.cedar_expr_model.specs.Tree.{Tree, UnaryOp, negation, minus, is_empty}
use Rattle.cedar_expr_model.specs.Made.{Made, made_prim, bare}
use Rattle.cedar_expr_model.specs.Table.{Table, is_ordered}
use Rattle.cedar_store_model.specs.Outcome.{Res, val, err, wrong_type, overflow, zero_divisor, bind}
use Rattle.cedar_store_model.specs.Operators.{in_range, says, applied, ordered, calculated, remains, among_members, of_sets, like_pattern, of_type}
use Rattle.cedar_store_model.specs.Reads.{is_in_some}
use Rattle.cedar_store_model.specs.Meaning.{picked, truth_asked}
use Rattle.cedar_evaluator_model.specs.Scope.{Left, value_left}
use Rattle.cedar_evaluator_model.specs.Steps.{on_value, left_of, truth_wanted, picks}
use Rattle.cedar_evaluator_model.specs.Evaluation.{right_left}
use Rattle.cedar_evaluator_model.specs.OfLaws.Standing.{IsOutcome}

-- what is left is the outcome, where there is one
abbrev pub Given : Option (Res V) → Left → Type 0
Given None l = Unit {0}
Given (Some r) l = IsOutcome r l

pub given_value : (m : Made) → Given (Some (val (bare m))) (value_left m)
given_value m = (m, refl, refl)

pub given_if : (b : Bool) (o p : Option (Res V)) (l r : Left) → Given o l → Given p r → Given (cond b o p) (cond b l r)
given_if true o p l r h k = h
given_if false o p l r h k = k

pub given_bind : (o : Option (Res V)) (l : Left) (f : V → Option (Res V)) (next : Made → Left) (other : Tree → Left) → Given o l → ((m : Made) → Given (f (bare m)) (next m)) → Given (bind o f) (on_value l next other)
given_bind None l f next other h n = tt
given_bind (Some (val v)) l f next other h n =
    let k : Given (f v) (next h.0) = subst (λ x. Given (f x) (next h.0)) h.2 (n h.0) in
    subst (λ x. Given (f v) (on_value x next other)) (sym h.1) k
given_bind (Some (err e)) l f next other h n = ap (λ x. on_value x next other) h

pub given_picks : (a b : Option (Res V)) (l r : Left) → Given a l → Given b r → (m : Made) → Given (picked a b (bare m)) (picks l r m)
given_picks a b l r h k (made_prim (truth true)) = h
given_picks a b l r h k (made_prim (truth false)) = k
given_picks a b l r h k m = refl

pub given_asked : (m : Made) → Given (Some (truth_asked (bare m))) (truth_wanted m)
given_asked (made_prim (truth b)) = given_value (made_prim (truth b))
given_asked m = refl

pub given_truth : (join : Tree → Tree → Tree) (b : Bool) (o : Option (Res V)) (l : Left) → Given o l → Given (bind o (λ v. Some (truth_asked v))) (right_left join b l)
given_truth join b o l h = given_bind o l (λ v. Some (truth_asked v)) truth_wanted _ h given_asked

-- operators give literals alone
abbrev pub GivesLiteral : Res V → Type 0
GivesLiteral (val (prim p)) = Unit {0}
GivesLiteral (val v) = ⊥
GivesLiteral (err f) = Unit {0}

pub given_literal : (r : Res V) → GivesLiteral r → Given (Some r) (left_of r)
given_literal (val (prim p)) h = given_value (made_prim p)
given_literal (val (set_of vs)) h = absurd h
given_literal (val (record_of fs)) h = absurd h
given_literal (val (extension n k)) h = absurd h
given_literal (err f) h = refl

literal_if : (b : Bool) (r q : Res V) → GivesLiteral r → GivesLiteral q → GivesLiteral (cond b r q)
literal_if true r q h k = h
literal_if false r q h k = k

pub literal_range : (n : ℤ) → GivesLiteral (in_range n)
literal_range n = literal_if (is_long n) (val (prim (long n))) (err overflow) tt tt

pub literal_applied : (o : UnaryOp) (v : V) → GivesLiteral (applied o v)
literal_applied negation (prim (truth b)) = tt
literal_applied minus (prim (long n)) = literal_range (neg_ℤ n)
literal_applied is_empty (set_of vs) = tt
literal_applied o v = tt

pub literal_ordered : (x : Table) (test : Ordering → Bool) (v w : V) → GivesLiteral (ordered x test v w)
literal_ordered x test (prim (long m)) (prim (long n)) = tt
literal_ordered x test (extension m j) (extension n k) = literal_if (name_eq m n && is_ordered x m) (says (test (text_cmp j k))) (err wrong_type) tt tt
literal_ordered x test v w = tt

pub literal_remains : (m n : ℤ) → GivesLiteral (remains m n)
literal_remains m n = literal_if (int_eq n (pos 0)) (err zero_divisor) (val (prim (long (int_rem m n)))) tt tt

pub literal_calculated : (f : ℤ → ℤ → Res V) → ((m n : ℤ) → GivesLiteral (f m n)) → (v w : V) → GivesLiteral (calculated f v w)
literal_calculated f gives (prim (long m)) (prim (long n)) = gives m n
literal_calculated f gives v w = tt

pub literal_among : (v w : V) → GivesLiteral (among_members v w)
literal_among (set_of vs) w = tt
literal_among v w = tt

pub literal_sets : (test : Vs → Vs → Bool) (v w : V) → GivesLiteral (of_sets test v w)
literal_sets test (set_of vs) (set_of ws) = tt
literal_sets test v w = tt

pub literal_like : (p : Pattern) (v : V) → GivesLiteral (like_pattern p v)
literal_like p (prim (text s)) = tt
literal_like p v = tt

pub literal_type : (n : Name) (v : V) → GivesLiteral (of_type n v)
literal_type n (prim (entity u)) = tt
literal_type n v = tt

pub literal_in : (as_ : List Uid) (u : Uid) (us : Option (List Uid)) → GivesLiteral (is_in_some as_ u us)
literal_in as_ u None = tt
literal_in as_ u (Some us) = tt
