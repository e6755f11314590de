-- Facts that hold, and outcomes that are good: a value of the type, with facts that hold if it is true, or an expected error.
use Rattle.std.proofs.Common.{◌≡◌, ⊎_elim, true, Option, Some, None, refl, sym, ap, subst}
use Rattle.std.specs.Prelude.{option_map}
use Rattle.std.proofs.lemmas.Slice.Eq.{bytes_eq-Decides}
use Rattle.cedar_expr_model.specs.Value.{V, truth_value}
use Rattle.cedar_expr_model.specs.Shape.{tree_eq}
use Rattle.cedar_expr_model.specs.Tree.{Tree}
use Rattle.cedar_expr_model.proofs.Lists.{both_hold}
use Rattle.cedar_expr_model.proofs.ShapeOrder.{trees_decide}
use Rattle.cedar_store_model.specs.Outcome.{Res, val, err, bind}
use Rattle.cedar_store_model.specs.World.{World}
use Rattle.cedar_store_model.specs.Meaning.{truth_asked}
use Rattle.cedar_store_model.specs.AnswerLaws.{Holds}
use Rattle.cedar_schema_model.specs.Types.{BoolType, any_bool, only_true, only_false, Ty, bool_type}
use Rattle.cedar_schema_model.specs.HasType.{HasType}
use Rattle.cedar_schema_model.proofs.Decls.Descent.{either_holds}
use Rattle.cedar_typechecker_model.specs.Facts.{Facts, no_facts, fact, union, intersection, Part, attribute_part, tag_part, part_eq}
use Rattle.cedar_typechecker_model.specs.Typing.{plain, tested, Gives}
use Rattle.cedar_typechecker_model.specs.Soundness.{test_of, Hold}
use Rattle.cedar_typechecker_model.proofs.Sound.Shapes.{bool_value}
use Rattle.cedar_typechecker_model.proofs.Sound.Attributes.{Fine}

pub hold_none : (w : World) → Hold w no_facts
hold_none w e p h = cc

pub hold_union : (w : World) (f g : Facts) → Hold w f → Hold w g → Hold w (union f g)
hold_union w f g h k e p i = ⊎_elim (λ j. h e p j) (λ j. k e p j) (either_holds (f e p) (g e p) i)

pub hold_first : (w : World) (f g : Facts) → Hold w f → Hold w (intersection f g)
hold_first w f g h e p i = h e p (both_hold (f e p) (g e p) i).0

pub hold_second : (w : World) (f g : Facts) → Hold w g → Hold w (intersection f g)
hold_second w f g h e p i = h e p (both_hold (f e p) (g e p) i).1

same_part : (p q : Part) → part_eq p q ≡ true → p ≡ q
same_part (attribute_part a) (attribute_part b) e = ap attribute_part ((bytes_eq-Decides a b).0 e)
same_part (tag_part t) (tag_part u) e = ap tag_part ((trees_decide t u).0 e)
same_part (attribute_part a) (tag_part u) e = cc
same_part (tag_part t) (attribute_part b) e = cc

pub hold_fact : (w : World) (e : Tree) (p : Part) → Holds w (test_of e p) → Hold w (fact e p)
hold_fact w e p h e' p' i =
    let k = both_hold (tree_eq e e') (part_eq p p') i in
    let q = (trees_decide e e').0 k.0 in
    let r = same_part p p' k.1 in
    subst (λ x. Holds w (test_of e' x)) r (subst (λ x. Holds w (test_of x p)) q h)

-- The outcome is a value of the type or an expected error, and the facts hold where it is true.
pub record Good (w : World) (ty : Ty) (out : Facts) (o : Option (Res V)) : Type 0 where
  pub fine : Fine ty o
  pub holds : o ≡ Some (val (truth_value true)) → Hold w out

pub good_as : (w : World) (t ty : Ty) (f out : Facts) (o : Option (Res V)) → ty ≡ t → out ≡ f → Good w t f o → Good w ty out o
good_as w t ty f out o p q h = subst (λ x. Good w x out o) (sym p) (subst (λ x. Good w t x o) (sym q) h)

-- without facts
pub good_plain : (w : World) (found : Option Ty) (o : Option (Res V)) → ((t : Ty) → found ≡ Some t → Fine t o) → (ty : Ty) (out : Facts) → Gives (plain found) ty out → Good w ty out o
good_plain w None o f ty out h = absurd h
good_plain w (Some t) o f ty out h = good_as w t ty no_facts out o h.0 h.1 (record { fine = f t refl; holds = λ e. hold_none w })

-- a test of a part, whose fact holds where it is true
pub good_test : (w : World) (e : Tree) (p : Part) (found : Option BoolType) (o : Option (Res V)) → ((b : BoolType) → found ≡ Some b → Fine (bool_type b) o) → (o ≡ Some (val (truth_value true)) → Holds w (test_of e p))
    → (ty : Ty) (out : Facts) → Gives (option_map (tested e p) found) ty out → Good w ty out o
good_test w e p None o f k ty out h = absurd h
good_test w e p (Some any_bool) o f k ty out h = good_as w (bool_type any_bool) ty (fact e p) out o h.0 h.1 (record { fine = f any_bool refl; holds = λ q. hold_fact w e p (k q) })
good_test w e p (Some only_true) o f k ty out h = good_as w (bool_type only_true) ty no_facts out o h.0 h.1 (record { fine = f only_true refl; holds = λ q. hold_none w })
good_test w e p (Some only_false) o f k ty out h = good_as w (bool_type only_false) ty no_facts out o h.0 h.1 (record { fine = f only_false refl; holds = λ q. hold_none w })

-- what comes next takes a value of the type
pub good_bind : (w : World) (t : Ty) (o : Option (Res V)) (next : V → Option (Res V)) (ty : Ty) (out : Facts) → Fine t o → ((v : V) → o ≡ Some (val v) → HasType v t → Good w ty out (next v)) → Good w ty out (bind o next)
good_bind w t None next ty out h f = record { fine = tt; holds = λ e. cc }
good_bind w t (Some (err x)) next ty out h f = record { fine = h; holds = λ e. cc }
good_bind w t (Some (val v)) next ty out h f = f v refl h

-- a truth value that is asked for
asked_same : (b : BoolType) (v : V) → HasType v (bool_type b) → truth_asked v ≡ val v
asked_same b v h = let k = bool_value b v h in subst (λ z. truth_asked z ≡ val z) (sym k.1) refl

pub good_asked : (w : World) (b : BoolType) (g : Facts) (o : Option (Res V)) → Good w (bool_type b) g o → Good w (bool_type b) g (bind o (λ v. Some (truth_asked v)))
good_asked w b g None h = h
good_asked w b g (Some (err x)) h = h
good_asked w b g (Some (val v)) h = subst (λ r. Good w (bool_type b) g (Some r)) (sym (asked_same b v h.fine)) h
