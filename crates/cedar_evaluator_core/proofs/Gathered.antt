-- What several expressions leave, one after the other.
use Rattle.std.proofs.Common.{◌≡◌, ℕ, suc, ◌<◌, ◌≤◌, ◌+◌, true, false, List, [], ◌∷◌, ◌++◌, map, length, drop, get_or, drop-cons, drop_of_length-le, Option, Some, None, refl, sym, ap, ◌∙◌, subst, arith}
use Rattle.std.proofs.lemmas.List.{map-append}
use Rattle.std.specs.Option.{option_map_or}
use Rattle.std.specs.Ordering.{match_ordering}
use Rattle.std.specs.declared.cmp.Ordering.{Ordering}
use Rattle.std.specs.declared.cmp.Ordering.TheVariants.{Less, Equal, Greater}
use Rattle.cedar_expr_model.specs.Builder.{trees, tree_fields}
use Rattle.std.specs.Map.{values_of}
use Rattle.std.specs.declared.rc.RcStr.{RcStr}
use Rattle.cedar_expr_model.specs.Made as model
use Rattle.cedar_expr_model.specs.Made.{Made, Mades, bare}
use Rattle.cedar_expr_model.specs.Order.{value_cmp}
use Rattle.cedar_expr_model.specs.Parts.{listed, listed_fields}
use Rattle.cedar_expr_model.specs.Tree.{Tree}
use Rattle.cedar_expr_model.specs.ValueParts.{Part, known, left, all_known, part_tree, values_alone, with_residuals, split}
use Rattle.cedar_expr_values.specs.Extensions.{extension_of}
use Rattle.cedar_expr_values.specs.Rising.{placed, in_rising}
use Rattle.cedar_expr_values.specs.Values.{made_list, made_cmp, members_as_made}
use Rattle.cedar_expr_values.specs.declared.extension.ExtValue.{ExtValue}
use Rattle.cedar_expr_trees.specs.Trees.{tree_of, named, field_trees}
use Rattle.cedar_expr_trees.specs.declared.expr.Expr.{Expr}
use Rattle.cedar_expr_partial.specs.Parts.{part_of}
use Rattle.cedar_expr_partial.specs.declared.partial_value.PartialValue.{PartialValue}
use Rattle.cedar_evaluator_model.specs.Scope.{Left, stopped, Stop}
use Rattle.cedar_evaluator_model.specs.Steps.{Pieces, pieces, halted, with_piece, tag_left, made_inserted, made_members}
use Rattle.cedar_evaluator_model.specs.Evaluation.{pieces_of}
use Rattle.cedar_evaluator_errors.specs.Outcomes.{left_seen, is_memory, stop_or}
use Rattle.cedar_evaluator_core.specs.Gathered.{parts_of, ArePieces, onto, IsLonger}
use Rattle.cedar_evaluator_errors.specs.declared.err.EvaluationError.{EvaluationError}
use Rattle.std.specs.Prelude.{Result, Ok, Err}
use Rattle.std.specs.Result.{IsErrAnd}
use Rattle.std.specs.declared.vec.Vec.{Vec}
use Rattle.std.specs.declared.alloc.Global.{Global}

-- the sets of the code and of the model
placed_is : (m : Made) (ns : List Made) → made_list (placed made_cmp m ns) ≡ made_inserted m (made_list ns)
placed_is m [] = refl
placed_is m (n ∷ ns) = go (value_cmp (bare m) (bare n)) (placed_is m ns)
  where
    go : (o : Ordering) → made_list (placed made_cmp m ns) ≡ made_inserted m (made_list ns) → made_list (match_ordering o (m ∷ n ∷ ns) (m ∷ ns) (n ∷ placed made_cmp m ns)) ≡ match_ordering o (model.made m (model.made n (made_list ns))) (model.made m (made_list ns)) (model.made n (made_inserted m (made_list ns)))
    go Less h = refl
    go Equal h = refl
    go Greater h = ap (model.made n) h

pub members_made : (ms : List Made) → members_as_made ms ≡ made_members ms
members_made [] = refl
members_made (m ∷ ms) = placed_is m (in_rising made_cmp ms) ∙ ap (made_inserted m) (members_made ms)

-- a list split
pub all_values : (ps : List (Part Made)) (ms : List Made) → values_alone ms ≡ split ps → all_known ps ≡ Some ms
all_values ps ms h = go (all_known ps) h
  where
    go : (o : Option (List Made)) → values_alone ms ≡ option_map_or values_alone o (with_residuals (map part_tree ps)) → o ≡ Some ms
    go (Some ns) k = let e : ns ≡ ms = cc in ap Some e
    go None k = absurd (cc)

pub not_all : (ps : List (Part Made)) (ts : List Tree) → with_residuals ts ≡ split ps → (all_known ps ≡ None) × (map part_tree ps ≡ ts)
not_all ps ts h = go (all_known ps) h
  where
    go : (o : Option (List Made)) → with_residuals ts ≡ option_map_or values_alone o (with_residuals (map part_tree ps)) → (o ≡ None) × (map part_tree ps ≡ ts)
    go (Some ns) k = absurd (cc)
    go None k = (refl, cc)

onto_more : (ps : List (Part Made)) (p : Part Made) (r : Pieces) → onto (ps ++ p ∷ []) r ≡ onto ps (with_piece (tag_left p) r)
onto_more [] p r = refl
onto_more (q ∷ ps) p r = ap (with_piece (tag_left q)) (onto_more ps p r)

halts : (p : Part Made) (s : Stop) → with_piece (tag_left p) (halted s) ≡ halted s
halts (known m) s = refl
halts (left t) s = refl

onto_halted : (ps : List (Part Made)) (s : Stop) → onto ps (halted s) ≡ halted s
onto_halted [] s = refl
onto_halted (p ∷ ps) s = ap (with_piece (tag_left p)) (onto_halted ps s) ∙ halts p s

one_more : (p : Part Made) (ps : List (Part Made)) → with_piece (tag_left p) (pieces ps) ≡ pieces (p ∷ ps)
one_more (known m) ps = refl
one_more (left t) ps = refl

onto_all : (ps : List (Part Made)) → onto ps (pieces []) ≡ pieces ps
onto_all [] = refl
onto_all (p ∷ ps) = ap (with_piece (tag_left p)) (onto_all ps) ∙ one_more p ps

seen_part : (v : PartialValue ExtValue) → tag_left (part_of extension_of v) ≡ left_seen v
seen_part v = refl

pub listed_trees : (ts : List Tree) → listed (trees ts) ≡ ts
listed_trees [] = refl
listed_trees (t ∷ ts) = ap (λ us. t ∷ us) (listed_trees ts)

abbrev pub trees_in : List (Expr Unit) → List Tree
trees_in es = map (tree_of {T = Unit}) es

pub record SoFar (go : Tree → Left) (ts : List Tree) (done : List (PartialValue ExtValue)) (rest : List Tree) : Type 0 where
  pub is : pieces_of go ts ≡ onto (parts_of done) (pieces_of go rest)

-- no part yet, one part more, and one that stops
pub starts : (go : Tree → Left) (ts : List Tree) (done : List (PartialValue ExtValue)) → done ≡ [] → SoFar go ts done ts
starts go ts done none = record { is = ap (λ d. onto (parts_of d) (pieces_of go ts)) (sym none) }

pub is_longer : (done : List (PartialValue ExtValue)) (l : Left) (v : PartialValue ExtValue) (more : Vec (PartialValue ExtValue) Global) → l ≡ left_seen v → more.items ≡ done ++ v ∷ [] → IsLonger done l (Ok more)
is_longer done l v more here m =
    λ rest.
    ap (λ vs. onto (parts_of vs) rest) m
    ∙ ap (λ ps. onto ps rest) (map-append (part_of extension_of) done (v ∷ []))
    ∙ onto_more (parts_of done) (part_of extension_of v) rest
    ∙ ap (λ x. onto (parts_of done) (with_piece x rest)) (seen_part v ∙ sym here)

pub goes : (go : Tree → Left) (ts : List Tree) (done : List (PartialValue ExtValue)) (more : Vec (PartialValue ExtValue) Global) (t : Tree) (rest : List Tree) → SoFar go ts done (t ∷ rest) → IsLonger done (go t) (Ok more) → SoFar go ts more.items rest
goes go ts done more t rest was longer = record { is = was.is ∙ sym (longer (pieces_of go rest)) }

pub stops : (go : Tree → Left) (ts : List Tree) (done : List (PartialValue ExtValue)) (t : Tree) (rest : List Tree) (s : Stop) → SoFar go ts done (t ∷ rest) → go t ≡ stopped s → pieces_of go ts ≡ halted s
stops go ts done t rest s was here = was.is ∙ ap (λ l. onto (parts_of done) (with_piece l (pieces_of go rest))) here ∙ onto_halted (parts_of done) s

pub ends : (go : Tree → Left) (ts : List Tree) (done : List (PartialValue ExtValue)) → SoFar go ts done [] → pieces_of go ts ≡ pieces (parts_of done)
ends go ts done was = was.is ∙ onto_all (parts_of done)

-- an error that is handed on
pub handed_on : (p : Pieces) (e : EvaluationError) (r : Result (Vec (PartialValue ExtValue) Global) EvaluationError) → IsErrAnd r (λ y. y ≡ e) → ((other : Stop) → is_memory e ≡ false → p ≡ halted (stop_or other e)) → ArePieces p r
handed_on p e (Ok vs) h k = absurd h
handed_on p e (Err y) h k = λ other m. k other (subst (λ z. is_memory z ≡ false) h m) ∙ ap (λ z. halted (stop_or other z)) (sym h)

-- out of memory says nothing
pub says_nothing : (p : Pieces) (e : EvaluationError) (r : Result (Vec (PartialValue ExtValue) Global) EvaluationError) → is_memory e ≡ true → IsErrAnd r (λ y. y ≡ e) → ArePieces p r
says_nothing p e r q h = handed_on p e r h (λ other m. absurd (cc))

-- where a loop over a slice is
pub here : (es : List (Expr Unit)) (i : ℕ) (e d : Expr Unit) → i < length es → e ≡ get_or es i d → trees_in (drop i es) ≡ tree_of {T = Unit} e ∷ trees_in (drop (i + 1) es)
here es i e d below at = let next : suc i ≡ i + 1 = omega arith in ap trees_in (drop-cons es i d below) ∙ (λ j. tree_of {T = Unit} (sym at j) ∷ trees_in (drop (next j) es))

module _ (go : Tree → Left) (es : List (Expr Unit)) (i : ℕ) (done : List (PartialValue ExtValue)) (was : SoFar go (trees_in es) done (trees_in (drop i es))) where
  pub on : (e d : Expr Unit) (more : Vec (PartialValue ExtValue) Global) → i < length es → e ≡ get_or es i d → IsLonger done (go (tree_of {T = Unit} e)) (Ok more) → SoFar go (trees_in es) more.items (trees_in (drop (i + 1) es))
  on e d more below at longer = goes go (trees_in es) done more (tree_of {T = Unit} e) (trees_in (drop (i + 1) es)) (subst (λ r. SoFar go (trees_in es) done r) (here es i e d below at) was) longer

  pub off : (e d : Expr Unit) (x : EvaluationError) (r : Result (Vec (PartialValue ExtValue) Global) EvaluationError) → i < length es → e ≡ get_or es i d → IsLonger done (go (tree_of {T = Unit} e)) (Err x) → IsErrAnd r (λ y. y ≡ x) → ArePieces (pieces_of go (listed (trees (trees_in es)))) r
  off e d x r below at said h = handed_on (pieces_of go (listed (trees (trees_in es)))) x r h (λ other m. ap (pieces_of go) (listed_trees (trees_in es)) ∙ stops go (trees_in es) done (tree_of {T = Unit} e) (trees_in (drop (i + 1) es)) (stop_or other x) (subst (λ r. SoFar go (trees_in es) done r) (here es i e d below at) was) (said other m))

  pub all : length es ≤ i → pieces_of go (listed (trees (trees_in es))) ≡ pieces (parts_of done)
  all above = ap (pieces_of go) (listed_trees (trees_in es)) ∙ ends go (trees_in es) done (subst (λ r. SoFar go (trees_in es) done (trees_in r)) (drop_of_length-le es above) was)

-- the trees of a record's fields
pub trees_of_fields : (es : List (RcStr Global × Expr Unit)) → values_of (listed_fields (tree_fields (named (field_trees es)))) ≡ trees_in (values_of es)
trees_of_fields [] = refl
trees_of_fields (e ∷ es) = ap (λ ts. tree_of {T = Unit} e.1 ∷ ts) (trees_of_fields es)

-- where a loop over the fields of a record is
module _ (go : Tree → Left) (es : List (RcStr Global × Expr Unit)) (done : List (PartialValue ExtValue)) (rest : List (Expr Unit)) (was : SoFar go (trees_in (values_of es)) done (trees_in rest)) where
  pub field_on : (e : Expr Unit) (later : List (Expr Unit)) (more : Vec (PartialValue ExtValue) Global) → rest ≡ e ∷ later → IsLonger done (go (tree_of {T = Unit} e)) (Ok more) → SoFar go (trees_in (values_of es)) more.items (trees_in later)
  field_on e later more is longer = goes go (trees_in (values_of es)) done more (tree_of {T = Unit} e) (trees_in later) (subst (λ r. SoFar go (trees_in (values_of es)) done (trees_in r)) is was) longer

  pub field_off : (e : Expr Unit) (later : List (Expr Unit)) (x : EvaluationError) (r : Result (Vec (PartialValue ExtValue) Global) EvaluationError) → rest ≡ e ∷ later → IsLonger done (go (tree_of {T = Unit} e)) (Err x) → IsErrAnd r (λ y. y ≡ x) → ArePieces (pieces_of go (values_of (listed_fields (tree_fields (named (field_trees es)))))) r
  field_off e later x r is said h = handed_on (pieces_of go (values_of (listed_fields (tree_fields (named (field_trees es)))))) x r h (λ other m. ap (pieces_of go) (trees_of_fields es) ∙ stops go (trees_in (values_of es)) done (tree_of {T = Unit} e) (trees_in later) (stop_or other x) (subst (λ r. SoFar go (trees_in (values_of es)) done (trees_in r)) is was) (said other m))

  pub fields_all : rest ≡ [] → pieces_of go (values_of (listed_fields (tree_fields (named (field_trees es))))) ≡ pieces (parts_of done)
  fields_all is = ap (pieces_of go) (trees_of_fields es) ∙ ends go (trees_in (values_of es)) done (subst (λ r. SoFar go (trees_in (values_of es)) done (trees_in r)) is was)

-- what is left of fields is less by each
pub fewer : (rest later : List (Expr Unit)) (e : Expr Unit) → rest ≡ e ∷ later → length later < length rest
fewer rest later e is = let same = ap length is in omega arith
