-- What several expressions leave, one after the other.
use Rattle.std.proofs.Common.{◌≡◌, ℕ, suc, ◌<◌, ◌≤◌, ◌+◌, true, List, [], ◌∷◌, ◌++◌, map, length, drop, get_or, drop-cons, drop_of_length-le, Option, Some, None, refl, sym, ap, ◌∙◌, subst, arith}
use Rattle.std.proofs.lemmas.List.{map-append}
use Rattle.std.specs.Option.{option_map_or}
use Rattle.std.specs.Ordering.{match_ordering}
use Rattle.std.specs.declared.cmp.Ordering.{Ordering}
use Rattle.std.specs.declared.cmp.Ordering.TheVariants.{Less, Equal, Greater}
use Rattle.cedar_expr_model.specs.Builder.{trees, tree_fields}
use Rattle.std.specs.Map.{values_of}
use Rattle.std.specs.declared.rc.RcStr.{RcStr}
use Rattle.cedar_expr_model.specs.Made as model
use Rattle.cedar_expr_model.specs.Made.{Made, Mades, bare}
use Rattle.cedar_expr_model.specs.Restricted.{is_restricted}
use Rattle.cedar_expr_model.specs.Order.{value_cmp}
use Rattle.cedar_expr_model.specs.Parts.{listed, listed_fields}
use Rattle.cedar_expr_model.specs.Tree.{Tree}
use Rattle.cedar_expr_model.specs.ValueParts.{Part, known, left, all_known, part_tree, values_alone, with_residuals, split}
use Rattle.cedar_expr_values.specs.Extensions.{extension_of}
use Rattle.cedar_expr_values.specs.Rising.{placed, in_rising}
use Rattle.cedar_expr_values.specs.Values.{made_list, made_cmp, members_as_made}
use Rattle.cedar_expr_values.specs.declared.extension.ExtValue.{ExtValue}
use Rattle.cedar_expr_trees.specs.Trees.{tree_of, named, field_trees}
use Rattle.cedar_expr_trees.specs.declared.expr.Expr.{Expr}
use Rattle.cedar_expr_partial.specs.Parts.{part_of}
use Rattle.cedar_expr_partial.specs.declared.partial_value.PartialValue.{PartialValue}
use Rattle.cedar_evaluator_model.specs.Scope.{Left, value_left, residual, stopped}
use Rattle.cedar_evaluator_model.specs.Steps.{Pieces, pieces, halted, with_piece, from_pieces, tag_left, made_inserted, made_members}
use Rattle.cedar_evaluator_model.specs.Evaluation.{pieces_of}
use Rattle.cedar_evaluator_errors.specs.Outcomes.{left_seen}
use Rattle.cedar_evaluator_restricted_exprs.specs.Lefts.{is_stopped, is_halted, Leaves, parts_of, ArePieces}
use Rattle.cedar_evaluator_restricted_exprs.specs.Restricted.{are_restricted, have_restricted}
use Rattle.cedar_evaluator_restricted_exprs.specs.declared.fault.RestrictedFault.{RestrictedFault}
use Rattle.cedar_evaluator_restricted_exprs.specs.declared.fault.RestrictedFault.TheVariants.{Stopped}
use Rattle.cedar_evaluator_restricted_exprs.proofs.RestrictedWalk.{apart, of_fields}
use Rattle.std.specs.Prelude.{Result, Ok, Err}
use Rattle.std.specs.Result.{IsErrAnd}
use Rattle.std.specs.declared.vec.Vec.{Vec}
use Rattle.std.specs.declared.alloc.Global.{Global}

-- the sets of the code and of the model
placed_is : (m : Made) (ns : List Made) → made_list (placed made_cmp m ns) ≡ made_inserted m (made_list ns)
placed_is m [] = refl
placed_is m (n ∷ ns) = go (value_cmp (bare m) (bare n)) (placed_is m ns)
  where
    go : (o : Ordering) → made_list (placed made_cmp m ns) ≡ made_inserted m (made_list ns) → made_list (match_ordering o (m ∷ n ∷ ns) (m ∷ ns) (n ∷ placed made_cmp m ns)) ≡ match_ordering o (model.made m (model.made n (made_list ns))) (model.made m (made_list ns)) (model.made n (made_inserted m (made_list ns)))
    go Less h = refl
    go Equal h = refl
    go Greater h = ap (model.made n) h

pub members_made : (ms : List Made) → members_as_made ms ≡ made_members ms
members_made [] = refl
members_made (m ∷ ms) = placed_is m (in_rising made_cmp ms) ∙ ap (made_inserted m) (members_made ms)

-- a list split
pub all_values : (ps : List (Part Made)) (ms : List Made) → values_alone ms ≡ split ps → all_known ps ≡ Some ms
all_values ps ms h = go (all_known ps) h
  where
    go : (o : Option (List Made)) → values_alone ms ≡ option_map_or values_alone o (with_residuals (map part_tree ps)) → o ≡ Some ms
    go (Some ns) k = let e : ns ≡ ms = cc in ap Some e
    go None k = absurd (cc)

pub not_all : (ps : List (Part Made)) (ts : List Tree) → with_residuals ts ≡ split ps → (all_known ps ≡ None) × (map part_tree ps ≡ ts)
not_all ps ts h = go (all_known ps) h
  where
    go : (o : Option (List Made)) → with_residuals ts ≡ option_map_or values_alone o (with_residuals (map part_tree ps)) → (o ≡ None) × (map part_tree ps ≡ ts)
    go (Some ns) k = absurd (cc)
    go None k = (refl, cc)

-- what was made so far, and then the rest
abbrev pub onto : List (Part Made) → Pieces → Pieces
onto [] r = r
onto (p ∷ ps) r = with_piece (tag_left p) (onto ps r)

onto_more : (ps : List (Part Made)) (p : Part Made) (r : Pieces) → onto (ps ++ p ∷ []) r ≡ onto ps (with_piece (tag_left p) r)
onto_more [] p r = refl
onto_more (q ∷ ps) p r = ap (with_piece (tag_left q)) (onto_more ps p r)

halts : (p : Part Made) (r : Pieces) → is_halted r ≡ true → is_halted (with_piece (tag_left p) r) ≡ true
halts (known m) (halted s) h = refl
halts (left t) (halted s) h = refl
halts p (pieces ps) h = absurd (cc)

onto_halted : (ps : List (Part Made)) (r : Pieces) → is_halted r ≡ true → is_halted (onto ps r) ≡ true
onto_halted [] r h = h
onto_halted (p ∷ ps) r h = halts p (onto ps r) (onto_halted ps r h)

halts_first : (l : Left) (r : Pieces) → is_stopped l ≡ true → is_halted (with_piece l r) ≡ true
halts_first (stopped s) r h = refl
halts_first (value_left m) r h = absurd (cc)
halts_first (residual t) r h = absurd (cc)

one_more : (p : Part Made) (ps : List (Part Made)) → with_piece (tag_left p) (pieces ps) ≡ pieces (p ∷ ps)
one_more (known m) ps = refl
one_more (left t) ps = refl

onto_all : (ps : List (Part Made)) → onto ps (pieces []) ≡ pieces ps
onto_all [] = refl
onto_all (p ∷ ps) = ap (with_piece (tag_left p)) (onto_all ps) ∙ one_more p ps

listed_trees : (ts : List Tree) → listed (trees ts) ≡ ts
listed_trees [] = refl
listed_trees (t ∷ ts) = ap (λ us. t ∷ us) (listed_trees ts)

abbrev pub trees_in : List (Expr Unit) → List Tree
trees_in es = map (tree_of {T = Unit}) es

pub record SoFar (go : Tree → Left) (ts : List Tree) (done : List (PartialValue ExtValue)) (rest : List Tree) : Type 0 where
  pub is : pieces_of go ts ≡ onto (parts_of done) (pieces_of go rest)
  pub restricted : are_restricted rest ≡ true

-- nothing yet
pub starts : (go : Tree → Left) (ts rest : List Tree) (done : List (PartialValue ExtValue)) → done ≡ [] → rest ≡ ts → are_restricted ts ≡ true → SoFar go ts done rest
starts go ts rest done d r h = record { is = (λ i. onto (parts_of (sym d i)) (pieces_of go (sym r i))); restricted = ap are_restricted r ∙ h }

-- one part more, and one that stops
goes : (go : Tree → Left) (ts : List Tree) (done more : List (PartialValue ExtValue)) (t : Tree) (rest : List Tree) (v : PartialValue ExtValue) → SoFar go ts done (t ∷ rest) → (is_restricted t ≡ true → go t ≡ left_seen v) → more ≡ done ++ v ∷ [] → SoFar go ts more rest
goes go ts done more t rest v was here m =
    let each = apart t rest was.restricted in
    record {
      is =
          was.is
          ∙ ap (λ l. onto (parts_of done) (with_piece l (pieces_of go rest))) (here each.0)
          ∙ sym (onto_more (parts_of done) (part_of extension_of v) (pieces_of go rest))
          ∙ ap (λ ps. onto ps (pieces_of go rest)) (sym (map-append (part_of extension_of) done (v ∷ [])) ∙ ap parts_of (sym m));
      restricted = each.1;
    }

stops : (go : Tree → Left) (ts : List Tree) (done : List (PartialValue ExtValue)) (t : Tree) (rest : List Tree) → SoFar go ts done (t ∷ rest) → (is_restricted t ≡ true → is_stopped (go t) ≡ true) → is_halted (pieces_of go ts) ≡ true
stops go ts done t rest was here =
    let each = apart t rest was.restricted in
    ap is_halted was.is ∙ onto_halted (parts_of done) (with_piece (go t) (pieces_of go rest)) (halts_first (go t) (pieces_of go rest) (here each.0))

ends : (go : Tree → Left) (ts : List Tree) (done : List (PartialValue ExtValue)) → SoFar go ts done [] → pieces_of go ts ≡ pieces (parts_of done)
ends go ts done was = was.is ∙ onto_all (parts_of done)

-- where a loop over a slice is
here : (es : List (Expr Unit)) (i : ℕ) (e d : Expr Unit) → i < length es → e ≡ get_or es i d → trees_in (drop i es) ≡ tree_of {T = Unit} e ∷ trees_in (drop (i + 1) es)
here es i e d below at = let next : suc i ≡ i + 1 = omega arith in ap trees_in (drop-cons es i d below) ∙ (λ j. tree_of {T = Unit} (sym at j) ∷ trees_in (drop (next j) es))

module _ (go : Tree → Left) (es : List (Expr Unit)) (i : ℕ) (done : List (PartialValue ExtValue)) (was : SoFar go (trees_in es) done (trees_in (drop i es))) where
  pub on : (e d : Expr Unit) (more : List (PartialValue ExtValue)) (v : PartialValue ExtValue) → i < length es → e ≡ get_or es i d → (is_restricted (tree_of {T = Unit} e) ≡ true → go (tree_of {T = Unit} e) ≡ left_seen v) → more ≡ done ++ v ∷ [] → SoFar go (trees_in es) more (trees_in (drop (i + 1) es))
  on e d more v below at said m = goes go (trees_in es) done more (tree_of {T = Unit} e) (trees_in (drop (i + 1) es)) v (subst (λ r. SoFar go (trees_in es) done r) (here es i e d below at) was) said m

  pub off : (e d : Expr Unit) → i < length es → e ≡ get_or es i d → (is_restricted (tree_of {T = Unit} e) ≡ true → is_stopped (go (tree_of {T = Unit} e)) ≡ true) → is_halted (pieces_of go (listed (trees (trees_in es)))) ≡ true
  off e d below at said = ap (λ ts. is_halted (pieces_of go ts)) (listed_trees (trees_in es)) ∙ stops go (trees_in es) done (tree_of {T = Unit} e) (trees_in (drop (i + 1) es)) (subst (λ r. SoFar go (trees_in es) done r) (here es i e d below at) was) said

  pub all : length es ≤ i → pieces_of go (listed (trees (trees_in es))) ≡ pieces (parts_of done)
  all above = ap (pieces_of go) (listed_trees (trees_in es)) ∙ ends go (trees_in es) done (subst (λ r. SoFar go (trees_in es) done (trees_in r)) (drop_of_length-le es above) was)

-- an error that is handed on
pub handed_on : (p : Pieces) (e : RestrictedFault) (r : Result (Vec (PartialValue ExtValue) Global) RestrictedFault) → IsErrAnd r (λ y. y ≡ e) → (e ≡ Stopped → is_halted p ≡ true) → ArePieces p r
handed_on p e (Ok vs) h k = absurd h
handed_on p e (Err y) h k = λ q. k (sym h ∙ q)

halts_all : (next : List Made → Left) (rebuilt : List Tree → Tree) (p : Pieces) → is_halted p ≡ true → is_stopped (from_pieces next rebuilt p) ≡ true
halts_all next rebuilt (halted s) h = refl
halts_all next rebuilt (pieces ps) h = absurd (cc)

pub passed_on : (next : List Made → Left) (rebuilt : List Tree → Tree) (p : Pieces) (e : RestrictedFault) (r : Result (PartialValue ExtValue) RestrictedFault) → IsErrAnd r (λ y. y ≡ e) → (e ≡ Stopped → is_halted p ≡ true) → Leaves (from_pieces next rebuilt p) r
passed_on next rebuilt p e (Ok v) h k = absurd h
passed_on next rebuilt p e (Err y) h k = λ q. halts_all next rebuilt p (k (sym h ∙ q))

-- pieces that are known
pub of_pieces : (next : List Made → Left) (rebuilt : List Tree → Tree) (p q : Pieces) (r : Result (PartialValue ExtValue) RestrictedFault) → p ≡ q → Leaves (from_pieces next rebuilt q) r → Leaves (from_pieces next rebuilt p) r
of_pieces next rebuilt p q r e h = subst (λ x. Leaves (from_pieces next rebuilt x) r) (sym e) h

-- the trees of a record's fields
pub trees_of_fields : (es : List (RcStr Global × Expr Unit)) → values_of (listed_fields (tree_fields (named (field_trees es)))) ≡ trees_in (values_of es)
trees_of_fields [] = refl
trees_of_fields (e ∷ es) = ap (λ ts. tree_of {T = Unit} e.1 ∷ ts) (trees_of_fields es)

pub fields_start : (go : Tree → Left) (es : List (RcStr Global × Expr Unit)) (rest : List (Expr Unit)) (done : List (PartialValue ExtValue)) → done ≡ [] → rest ≡ values_of es → have_restricted es ≡ true → SoFar go (trees_in (values_of es)) done (trees_in rest)
fields_start go es rest done d r h = starts go (trees_in (values_of es)) (trees_in rest) done d (ap trees_in r) (sym (of_fields es) ∙ h)

-- where a loop over the fields of a record is
module _ (go : Tree → Left) (es : List (RcStr Global × Expr Unit)) (done : List (PartialValue ExtValue)) (rest : List (Expr Unit)) (was : SoFar go (trees_in (values_of es)) done (trees_in rest)) where
  pub field_on : (e : Expr Unit) (later : List (Expr Unit)) (more : List (PartialValue ExtValue)) (v : PartialValue ExtValue) → rest ≡ e ∷ later → (is_restricted (tree_of {T = Unit} e) ≡ true → go (tree_of {T = Unit} e) ≡ left_seen v) → more ≡ done ++ v ∷ [] → SoFar go (trees_in (values_of es)) more (trees_in later)
  field_on e later more v is said m = goes go (trees_in (values_of es)) done more (tree_of {T = Unit} e) (trees_in later) v (subst (λ r. SoFar go (trees_in (values_of es)) done (trees_in r)) is was) said m

  pub field_off : (e : Expr Unit) (later : List (Expr Unit)) → rest ≡ e ∷ later → (is_restricted (tree_of {T = Unit} e) ≡ true → is_stopped (go (tree_of {T = Unit} e)) ≡ true) → is_halted (pieces_of go (values_of (listed_fields (tree_fields (named (field_trees es)))))) ≡ true
  field_off e later is said = ap (λ ts. is_halted (pieces_of go ts)) (trees_of_fields es) ∙ stops go (trees_in (values_of es)) done (tree_of {T = Unit} e) (trees_in later) (subst (λ r. SoFar go (trees_in (values_of es)) done (trees_in r)) is was) said

  pub fields_all : rest ≡ [] → pieces_of go (values_of (listed_fields (tree_fields (named (field_trees es))))) ≡ pieces (parts_of done)
  fields_all is = ap (pieces_of go) (trees_of_fields es) ∙ ends go (trees_in (values_of es)) done (subst (λ r. SoFar go (trees_in (values_of es)) done (trees_in r)) is was)

-- a field less is left
pub fewer : (rest later : List (Expr Unit)) (e : Expr Unit) → rest ≡ e ∷ later → length later < length rest
fewer rest later e is = let same = ap length is in omega arith
