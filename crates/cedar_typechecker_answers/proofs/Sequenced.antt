-- What is handed on of answers, one after the other.
use Rattle.std.proofs.Common.{◌≡◌, ◌&&◌, ◌++◌, MatchOption, Bool, true, false, List, [], ◌∷◌, Option, Some, None, refl, sym, ◌∙◌, subst}
use Rattle.std.specs.List.{AllZip, list_all}
use Rattle.std.specs.Bool.{MatchBool}
use Rattle.std.specs.declared.vec.Vec.{Vec}
use Rattle.std.specs.declared.alloc.Global.{Global}
use Rattle.cedar_typechecker_answers.specs.Answers.{seen}
use Rattle.cedar_typechecker_answers.specs.Surface.{held, has_type}
use Rattle.cedar_typechecker_answers.specs.Sequences.{Handed, IsHanded, holds, ThenTypes, FailsAs, Sequences}
use Rattle.cedar_typechecker_environments.specs.Facts.{facts_of}
use Rattle.cedar_typechecker_environments.specs.declared.facts.CapabilitySet.{CapabilitySet}
use Rattle.cedar_typechecker_model.specs.Facts.{no_facts}
use Rattle.cedar_expr_trees.specs.declared.expr.Expr.{Expr}
use Rattle.cedar_schema_types.specs.declared.types.Type.{«Type» as CodeType}
use Rattle.cedar_typechecker_answers.specs.declared.answer.TypecheckAnswer.{TypecheckAnswer}
use Rattle.cedar_typechecker_answers.specs.declared.answer.TypecheckAnswer.TheVariants.{Success, Fail}

-- what follows an answer without type
pub then_fails : (post : Expr (Option CodeType) → CapabilitySet → TypecheckAnswer → Type 0) (a b r : TypecheckAnswer) (e : Expr (Option CodeType)) (d : CapabilitySet) → a ≡ Fail (Some e) → facts_of d ≡ no_facts → post e d b → seen r ≡ None → held r ≡ held b → ThenTypes post a r
then_fails post a b r e d h p q s t = let P : TypecheckAnswer → Type 0 = λ x. ThenTypes post x r in subst P (sym h) (d, b, p, q, (s, t))

pub pushed : {X Y : Type 0} (R : X → Y → Type 0) (xs : List X) (ys : List Y) (x : X) (y : Y) → AllZip R xs ys → R x y → AllZip R (xs ++ x ∷ []) (ys ++ y ∷ [])
pushed R [] [] x y z h = (h, tt)
pushed R [] (w ∷ ys) x y z h = absurd z
pushed R (v ∷ xs) [] x y z h = absurd z
pushed R (v ∷ xs) (w ∷ ys) x y z h = (z.0, pushed R xs ys x y z.1 h)

-- what was handed on, where each answer holds an expression
pub found : (as_ : List TypecheckAnswer) (o : Option (Vec Handed Global)) (ps : Vec Handed Global) → o ≡ Some ps → MatchOption o (list_all holds as_ ≡ false) (λ qs. AllZip IsHanded as_ qs.items) → AllZip IsHanded as_ ps.items
found as_ o ps e m = let P : Option (Vec Handed Global) → Type 0 = λ p. MatchOption p (list_all holds as_ ≡ false) (λ qs. AllZip IsHanded as_ qs.items) in subst P e m

-- what is handed on holds an expression
handed_holds : (a : TypecheckAnswer) (p : Handed) → IsHanded a p → holds a ≡ true
handed_holds (Success e c) p h = refl
handed_holds (Fail (Some e)) p h = refl
handed_holds (Fail None) p h = absurd h

all_hold : (as_ : List TypecheckAnswer) (ps : List Handed) → AllZip IsHanded as_ ps → list_all holds as_ ≡ true
all_hold [] [] z = refl
all_hold [] (p ∷ ps) z = absurd z
all_hold (a ∷ as_) [] z = absurd z
all_hold (a ∷ as_) (p ∷ ps) z = λ i. handed_holds a p z.0 i && all_hold as_ ps z.1 i

module _ (post : Vec Handed Global → TypecheckAnswer → Type 0) (as_ : List TypecheckAnswer) where
  module _ (ps : Vec Handed Global) (b a : TypecheckAnswer) (z : AllZip IsHanded as_ ps.items) (q : post ps b) where
    -- what follows answers that have types, and answers of which one has none
    pub all_follow : (t : Bool) → t ≡ list_all has_type as_ → t ≡ true → a ≡ b → Sequences post as_ a
    all_follow t e h r =
        let P : Bool → Type 0 = λ c. MatchBool c (a ≡ b) (FailsAs b a) in
        let Q : Bool → Type 0 = λ c. MatchBool c ((qs : Vec Handed Global) × (d : TypecheckAnswer) × AllZip IsHanded as_ qs.items × post qs d × MatchBool (list_all has_type as_) (a ≡ d) (FailsAs d a)) (seen a ≡ None) in
        subst Q (sym (all_hold as_ ps.items z)) (ps, b, z, q, subst P (sym h ∙ e) r)

    pub some_fail : (t : Bool) → t ≡ list_all has_type as_ → t ≡ false → FailsAs b a → Sequences post as_ a
    some_fail t e h r =
        let P : Bool → Type 0 = λ c. MatchBool c (a ≡ b) (FailsAs b a) in
        let Q : Bool → Type 0 = λ c. MatchBool c ((qs : Vec Handed Global) × (d : TypecheckAnswer) × AllZip IsHanded as_ qs.items × post qs d × MatchBool (list_all has_type as_) (a ≡ d) (FailsAs d a)) (seen a ≡ None) in
        subst Q (sym (all_hold as_ ps.items z)) (ps, b, z, q, subst P (sym h ∙ e) r)
