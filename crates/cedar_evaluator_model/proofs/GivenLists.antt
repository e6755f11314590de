-- Lists of expressions: what is left of them beside their outcomes, and the sets and records that are made of values.
use Rattle.std.proofs.Common.{◌≡◌, List, [], ◌∷◌, refl, sym, ap, ◌∙◌, subst}
use Rattle.std.specs.Prelude.{Option, Some, None, option_map, map}
use Rattle.std.specs.Ordering.{match_ordering}
use Rattle.std.specs.declared.cmp.Ordering.{Ordering}
use Rattle.std.specs.declared.cmp.Ordering.TheVariants.{Less, Equal, Greater}
use Rattle.cedar_expr_model.specs.Value.{V, value}
use Rattle.cedar_expr_model.specs.Order.{value_cmp}
use Rattle.cedar_expr_model.specs.Canonical.{inserted, members_made}
use Rattle.cedar_expr_model.specs.Tree.{Tree}
use Rattle.cedar_expr_model.specs.Made.{Made, Mades, no_mades, made, bare, bares}
use Rattle.cedar_expr_model.proofs.ValueOrder.{value_exact}
use Rattle.cedar_store_model.specs.Outcome.{Res, val, err, bind}
use Rattle.cedar_evaluator_model.specs.Scope.{Stop, fault, Left, value_left, stopped, residual}
use Rattle.cedar_evaluator_model.specs.Steps.{Pieces, pieces, halted, with_piece, from_pieces, made_inserted, made_members}
use Rattle.cedar_evaluator_model.proofs.Given.{Given}
use Rattle.cedar_expr_model.specs.ValueParts.{all_known, known, part_tree}
use Rattle.std.specs.Option.{option_map_or}

-- sets of values as they were made have the bare sets
inserted_case : (m n : Made) (ns : Mades) (r : Ordering) → value_cmp (bare m) (bare n) ≡ r → bares (made_inserted m ns) ≡ inserted (bare m) (bares ns) → bares (match_ordering r (made m (made n ns)) (made m ns) (made n (made_inserted m ns))) ≡ match_ordering r (value (bare m) (value (bare n) (bares ns))) (value (bare n) (bares ns)) (value (bare n) (inserted (bare m) (bares ns)))
inserted_case m n ns Less e h = refl
inserted_case m n ns Equal e h = ap (λ v. value v (bares ns)) (value_exact (bare m) (bare n) e)
inserted_case m n ns Greater e h = ap (value (bare n)) h

bare_inserted : (m : Made) (ns : Mades) → bares (made_inserted m ns) ≡ inserted (bare m) (bares ns)
bare_inserted m no_mades = refl
bare_inserted m (made n ns) = inserted_case m n ns (value_cmp (bare m) (bare n)) refl (bare_inserted m ns)

pub bare_members : (ms : List Made) → bares (made_members ms) ≡ members_made (map bare ms)
bare_members [] = refl
bare_members (m ∷ ms) = bare_inserted m (made_members ms) ∙ ap (inserted (bare m)) (bare_members ms)

-- the pieces are the values of an outcome of many, or stopped with its error
abbrev pub GivenAs : {A : Type 0} → (List Made → A) → Option (Res A) → Pieces → Type 0
GivenAs view None ps = Unit {0}
GivenAs view (Some (val x)) ps = (ms : List Made) × (ps ≡ pieces (map known ms)) × (view ms ≡ x)
GivenAs view (Some (err f)) ps = ps ≡ halted (fault f)

all_are_known : (ms : List Made) → all_known (map known ms) ≡ Some ms
all_are_known [] = refl
all_are_known (m ∷ ms) = ap (option_map (λ ns. m ∷ ns)) (all_are_known ms)

pub given_from : {A : Type 0} (view : List Made → A) (o : Option (Res A)) (ps : Pieces) (f : A → Option (Res V)) (next : List Made → Left) (rebuilt : List Tree → Tree) → GivenAs view o ps → ((ms : List Made) → Given (f (view ms)) (next ms)) → Given (bind o f) (from_pieces next rebuilt ps)
given_from view None ps f next rebuilt h n = tt
given_from view (Some (val x)) ps f next rebuilt h n =
    let k : Given (f x) (next h.0) = subst (λ y. Given (f y) (next h.0)) h.2 (n h.0) in
    let e : from_pieces next rebuilt ps ≡ next h.0 = ap (from_pieces next rebuilt) h.1 ∙ ap (λ o. option_map_or next o (residual (rebuilt (map part_tree (map known h.0))))) (all_are_known h.0) in
    subst (Given (f x)) (sym e) k
given_from view (Some (err e)) ps f next rebuilt h n = ap (from_pieces next rebuilt) h

-- one more piece, first; `joined` is the outcome with its value
given_more_after : {A : Type 0} (view wider : List Made → A) (joined : V → A → A) → ((m : Made) (ms : List Made) → wider (m ∷ ms) ≡ joined (bare m) (view ms)) → (m : Made) (os : Option (Res A)) (ps : Pieces) → GivenAs view os ps → GivenAs wider (bind os (λ x. Some (val (joined (bare m) x)))) (with_piece (value_left m) ps)
given_more_after view wider joined step m None ps k = tt
given_more_after view wider joined step m (Some (val x)) ps k = (m ∷ k.0, ap (with_piece (value_left m)) k.1, step m k.0 ∙ ap (joined (bare m)) k.2)
given_more_after view wider joined step m (Some (err f)) ps k = ap (with_piece (value_left m)) k

stopped_first : (s : Stop) (ps : Pieces) → with_piece (stopped s) ps ≡ halted s
stopped_first s ps = refl

pub given_more : {A : Type 0} (view wider : List Made → A) (joined : V → A → A) → ((m : Made) (ms : List Made) → wider (m ∷ ms) ≡ joined (bare m) (view ms)) → (o : Option (Res V)) (l : Left) (os : Option (Res A)) (ps : Pieces) → Given o l → GivenAs view os ps → GivenAs wider (bind o (λ v. bind os (λ x. Some (val (joined v x))))) (with_piece l ps)
given_more view wider joined step None l os ps h k = tt
given_more view wider joined step (Some (val v)) l os ps h k =
    let one = given_more_after view wider joined step h.0 os ps k in
    let two = subst (λ y. GivenAs wider (bind os (λ x. Some (val (joined y x)))) (with_piece (value_left h.0) ps)) h.2 one in
    subst (λ y. GivenAs wider (bind os (λ x. Some (val (joined v x)))) (with_piece y ps)) (sym h.1) two
given_more view wider joined step (Some (err f)) l os ps h k = ap (λ x. with_piece x ps) h
