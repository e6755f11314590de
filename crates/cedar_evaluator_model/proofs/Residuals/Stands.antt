-- What is left of an expression beside its outcome in a world, through each combinator.
use Rattle.std.proofs.Common.{◌≡◌, Bool, true, false, refl, sym, ap, ◌∙◌, subst}
use Rattle.std.specs.Prelude.{Option, Some, None}
use Rattle.cedar_expr_model.specs.Name.{Text}
use Rattle.cedar_expr_model.specs.Value.{truth, V, prim, set_of, record_of, extension}
use Rattle.cedar_expr_model.specs.Tree.{CoreType, Tree, lit, both, either}
use Rattle.cedar_expr_model.specs.Builder.{written_truth, folded, conjunction, disjunction}
use Rattle.cedar_expr_model.proofs.Gathering.{EachIn}
use Rattle.cedar_expr_model.specs.Made.{Made, made_prim, bare, written}
use Rattle.cedar_store_model.specs.Outcome.{Fault, Res, val, err, wrong_type, bind}
use Rattle.cedar_store_model.specs.World.{World}
use Rattle.cedar_store_model.specs.Meaning.{picked, truth_asked, outcome_of}
use Rattle.cedar_store_model.specs.OfLaws.Extends.{Keeps}
use Rattle.cedar_store_model.proofs.Built.{conjunction_outcome, disjunction_outcome}
use Rattle.cedar_store_model.proofs.Meaning.{means_outcome}
use Rattle.cedar_evaluator_model.specs.Scope.{fault, limit, Left, value_left, residual, stopped}
use Rattle.cedar_evaluator_model.specs.Steps.{on_value, best, left_of, truth_wanted, picks}
use Rattle.cedar_evaluator_model.specs.Evaluation.{right_left}
use Rattle.cedar_evaluator_model.specs.OfLaws.WellMade.{IsWellMade}
use Rattle.cedar_evaluator_model.proofs.Given.{GivesLiteral}
use Rattle.cedar_evaluator_model.proofs.Named.{FitsIn}
use Rattle.cedar_evaluator_model.proofs.Written.{written_means, no_unknown}

-- where the first is a value the second is that value, and where it is an error so is the second
abbrev pub Alike : {A : Type 0} → Option (Res A) → Option (Res A) → Type 0
Alike None p = Unit {0}
Alike (Some (val v)) p = p ≡ Some (val v)
Alike (Some (err f)) p = (g : Fault) × (p ≡ Some (err g))

-- it is no value
abbrev pub IsNoValue : {A : Type 0} → Option (Res A) → Type 0
IsNoValue None = Unit {0}
IsNoValue (Some (val v)) = ⊥
IsNoValue (Some (err f)) = Unit {0}

-- What is left stands for an expression of this outcome: a well-made value is the outcome, a residual has one alike and its unknowns
-- fit, and where it stopped with an error the outcome is no value.
abbrev pub Stands : World → Option (Res V) → Left → Type 0
Stands w o (value_left m) = Keeps o (Some (val (bare m))) × IsWellMade w.table m
Stands w o (residual r) = Alike o (outcome_of w r) × FitsIn w r
Stands w o (stopped (fault f)) = IsNoValue o
Stands w o (stopped limit) = Unit {0}

pub alike_same : {A : Type 0} (o : Option (Res A)) → Alike o o
alike_same None = tt
alike_same (Some (val v)) = refl
alike_same (Some (err f)) = (f, refl)

pub alike_bind : {A B : Type 0} (o p : Option (Res A)) (f g : A → Option (Res B)) → Alike o p → ((v : A) → Alike (f v) (g v)) → Alike (bind o f) (bind p g)
alike_bind None p f g h n = tt
alike_bind (Some (val v)) p f g h n = subst (λ x. Alike (f v) (bind x g)) (sym h) (n v)
alike_bind (Some (err e)) p f g h n = (h.0, ap (λ x. bind x g) h.1)

pub none_bind : {A B : Type 0} (o : Option (Res A)) (f : A → Option (Res B)) → IsNoValue o → IsNoValue (bind o f)
none_bind None f h = tt
none_bind (Some (val v)) f h = absurd h
none_bind (Some (err e)) f h = tt

-- the second of two that are taken in order
pub none_second : {A B C : Type 0} (o : Option (Res A)) (p : Option (Res B)) (f : A → B → Option (Res C)) → IsNoValue p → IsNoValue (bind o (λ v. bind p (f v)))
none_second None p f h = tt
none_second (Some (val v)) p f h = none_bind p (f v) h
none_second (Some (err e)) p f h = tt

-- What is left stands for an outcome of which nothing is known, if it stands for any outcome.
pub stands_unasked : (w : World) (o : Option (Res V)) (l : Left) → Stands w o l → Stands w None l
stands_unasked w o (value_left m) h = (tt, h.1)
stands_unasked w o (residual r) h = (tt, h.1)
stands_unasked w o (stopped (fault f)) h = tt
stands_unasked w o (stopped limit) h = tt

-- what comes next takes the value
pub stands_next : {A : Type 0} (w : World) (o : Option (Res A)) (x : A) (f : A → Option (Res V)) (l : Left) → Keeps o (Some (val x)) → Stands w (f x) l → Stands w (bind o f) l
stands_next w None x f l h s = stands_unasked w (f x) l s
stands_next w (Some (val v)) x f l h s = let e : x ≡ v = cc in subst (λ y. Stands w (f y) l) e s
stands_next w (Some (err e)) x f l h s = cc

pub stands_bind : (w : World) (o : Option (Res V)) (l : Left) (f : V → Option (Res V)) (next : Made → Left) (other : Tree → Left) → Stands w o l
    → ((m : Made) → IsWellMade w.table m → Keeps o (Some (val (bare m))) → Stands w (f (bare m)) (next m))
    → ((r : Tree) → FitsIn w r → Alike o (outcome_of w r) → Stands w (bind o f) (other r)) → Stands w (bind o f) (on_value l next other)
stands_bind w o (value_left m) f next other h n k = stands_next w o (bare m) f (next m) h.0 (n m h.1 h.0)
stands_bind w o (residual r) f next other h n k = k r h.1 h.0
stands_bind w o (stopped (fault e)) f next other h n k = none_bind o f h
stands_bind w o (stopped limit) f next other h n k = tt

-- the second of two, after any first
pub stands_second : (w : World) (o p : Option (Res V)) (l : Left) (f : V → V → Option (Res V)) (next : Made → Left) (other : Tree → Left) → Stands w p l
    → ((m : Made) → IsWellMade w.table m → Keeps p (Some (val (bare m))) → Stands w (bind o (λ v. bind p (f v))) (next m))
    → ((r : Tree) → FitsIn w r → Alike p (outcome_of w r) → Stands w (bind o (λ v. bind p (f v))) (other r)) → Stands w (bind o (λ v. bind p (f v))) (on_value l next other)
stands_second w o p (value_left m) f next other h n k = n m h.1 h.0
stands_second w o p (residual r) f next other h n k = k r h.1 h.0
stands_second w o p (stopped (fault e)) f next other h n k = none_second o p f h
stands_second w o p (stopped limit) f next other h n k = tt

-- branches
pub stands_picks : (w : World) (o p : Option (Res V)) (l r : Left) → Stands w o l → Stands w p r → (m : Made) → Stands w (picked o p (bare m)) (picks l r m)
stands_picks w o p l r h k (made_prim (truth true)) = h
stands_picks w o p l r h k (made_prim (truth false)) = k
stands_picks w o p l r h k m = tt

pub alike_picked : (o p q r : Option (Res V)) → Alike o p → Alike q r → (v : V) → Alike (picked o q v) (picked p r v)
alike_picked o p q r h k (prim (truth true)) = h
alike_picked o p q r h k (prim (truth false)) = k
alike_picked o p q r h k v = (wrong_type, refl)

-- the written value is like the outcome that it is
pub written_alike : (w : World) (o : Option (Res V)) (m : Made) → Keeps o (Some (val (bare m))) → IsWellMade w.table m → Alike o (outcome_of w (written m))
written_alike w None m h g = tt
written_alike w (Some (val v)) m h g = means_outcome w (written m) (val (bare m)) (written_means w m g) ∙ h
written_alike w (Some (err e)) m h g = cc

pub written_fits : (w : World) (m : Made) → FitsIn w (written m)
written_fits w m = no_unknown _ m

-- what best effort makes of an expression is like it
pub best_alike : (w : World) (t : Tree) (l : Left) → Stands w (outcome_of w t) l → Alike (outcome_of w t) (outcome_of w (best t l))
best_alike w t (value_left m) h = written_alike w (outcome_of w t) m h.0 h.1
best_alike w t (residual r) h = h.0
best_alike w t (stopped s) h = alike_same (outcome_of w t)

pub best_fits : (w : World) (t : Tree) (l : Left) → Stands w (outcome_of w t) l → FitsIn w t → FitsIn w (best t l)
best_fits w t (value_left m) h f = written_fits w m
best_fits w t (residual r) h f = h.1
best_fits w t (stopped s) h f = f

-- truth values asked for
pub stands_asked : (w : World) (m : Made) → Stands w (Some (truth_asked (bare m))) (truth_wanted m)
stands_asked w (made_prim (truth b)) = (refl, tt)
stands_asked w m = tt

pub alike_asked : (o p : Option (Res V)) → Alike o p → Alike (bind o (λ v. Some (truth_asked v))) (bind p (λ v. Some (truth_asked v)))
alike_asked o p h = alike_bind o p (λ v. Some (truth_asked v)) (λ v. Some (truth_asked v)) h (λ v. alike_same (Some (truth_asked v)))

-- what holds of the unknowns of both sides holds of those of the conjunction and the disjunction
each_folded : (P : Text → Option CoreType → Type 0) (f : Bool → Bool → Bool) (a b : Option Bool) (t : Tree) → EachIn P t → EachIn P (folded f a b t)
each_folded P f (Some a) (Some b) t h = tt
each_folded P f (Some a) None t h = h
each_folded P f None b t h = h

pub each_conjunction : (P : Text → Option CoreType → Type 0) (a b : Tree) → EachIn P a → EachIn P b → EachIn P (conjunction a b)
each_conjunction P a b h k = each_folded P _ (written_truth a) (written_truth b) (both a b) (h, k)

pub each_disjunction : (P : Text → Option CoreType → Type 0) (a b : Tree) → EachIn P a → EachIn P b → EachIn P (disjunction a b)
each_disjunction P a b h k = each_folded P _ (written_truth a) (written_truth b) (either a b) (h, k)

-- the right side of `and` and `or`
pub stands_and : (w : World) (o : Option (Res V)) (l : Left) → Stands w o l → Stands w (bind o (λ v. Some (truth_asked v))) (right_left conjunction true l)
stands_and w o l h =
    stands_bind w o l (λ v. Some (truth_asked v)) truth_wanted (λ r. residual (conjunction (lit (truth true)) r)) h (λ m g k. stands_asked w m)
    (λ r f a. (
      subst (Alike (bind o (λ v. Some (truth_asked v)))) (sym (conjunction_outcome w (lit (truth true)) r)) (alike_asked o (outcome_of w r) a),
      each_conjunction _
          (lit (truth true)) r tt f,
    ))

pub stands_or : (w : World) (o : Option (Res V)) (l : Left) → Stands w o l → Stands w (bind o (λ v. Some (truth_asked v))) (right_left disjunction false l)
stands_or w o l h =
    stands_bind w o l (λ v. Some (truth_asked v)) truth_wanted (λ r. residual (disjunction (lit (truth false)) r)) h (λ m g k. stands_asked w m)
    (λ r f a. (
      subst (Alike (bind o (λ v. Some (truth_asked v)))) (sym (disjunction_outcome w (lit (truth false)) r)) (alike_asked o (outcome_of w r) a),
      each_disjunction _
          (lit (truth false)) r tt f,
    ))

-- operators give literals alone
pub stands_literal : (w : World) (r : Res V) → GivesLiteral r → Stands w (Some r) (left_of r)
stands_literal w (val (prim p)) h = (refl, tt)
stands_literal w (val (set_of vs)) h = absurd h
stands_literal w (val (record_of fs)) h = absurd h
stands_literal w (val (extension n k)) h = absurd h
stands_literal w (err f) h = tt
