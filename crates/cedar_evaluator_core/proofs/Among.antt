-- `contains` of a set literal, asked of its members one after the other.
use Rattle.std.proofs.Common.{◌≡◌, ◌<◌, ◌≤◌, ◌+◌, ◌-◌, ◌||◌, ℕ, Bool, true, false, List, [], ◌∷◌, map, length, drop, get_or, drop_of_length-le, Contains, refl, sym, ap, ◌∙◌, subst}
use Rattle.std.proofs.Math.Bool.{or_assoc}
use Rattle.std.proofs.lemmas.Bool.Decides.{same_from_decides}
use Rattle.std.specs.List.{list_any}
use Rattle.std.specs.Option.{option_map_or}
use Rattle.std.specs.Prelude.{Some, option_map}
use Rattle.cedar_expr_model.specs.Builder.{trees}
use Rattle.cedar_expr_model.specs.Canonical.{is_member, members_made}
use Rattle.cedar_expr_model.specs.Made.{Made, made_set, bare}
use Rattle.cedar_expr_model.specs.Order.{value_eq}
use Rattle.cedar_expr_model.specs.Tree.{Tree, contains, set_literal}
use Rattle.cedar_expr_model.specs.Value.{V}
use Rattle.cedar_expr_model.specs.ValueParts.{Part, known, all_known, part_tree}
use Rattle.cedar_expr_model.proofs.Lists.{hold_left, hold_right, contains_head, contains_tail, contains_cases, contains_none}
use Rattle.cedar_expr_model.proofs.Sets.{made_Decides}
use Rattle.cedar_expr_model.proofs.ValueOrder.{values_decide}
use Rattle.cedar_expr_trees.specs.Trees.{tree_of}
use Rattle.cedar_expr_trees.specs.declared.expr.Expr.{Expr}
use Rattle.cedar_evaluator_model.specs.Scope.{Scope, Left, value_left, residual}
use Rattle.cedar_evaluator_model.specs.Steps.{truth_left, made_members, pieces, with_piece, from_pieces}
use Rattle.cedar_evaluator_model.specs.Evaluation.{binary_left, evaluated, node, pieces_of}
use Rattle.cedar_evaluator_model.proofs.GivenLists.{bare_members}
use Rattle.cedar_expr_model.specs.Name.{Name}
use Rattle.cedar_expr_model.specs.Table.{Table, Called}
use Rattle.cedar_evaluator_errors.specs.Calls.{Functions}
use Rattle.cedar_evaluator_operators.specs.Scopes.{scope_of}
use Rattle.cedar_evaluator_reads.specs.declared.knowledge.Knowledge.{Knowledge}
use Rattle.cedar_evaluator_core.specs.Lent.{lent_made, ContainsWithin, LendsWithin}
use Rattle.cedar_evaluator_core.specs.declared.lending.Lent.{Lent}
use Rattle.cedar_evaluator_core.specs.declared.lending.Lent.TheVariants as lent
use Rattle.cedar_evaluator_core.proofs.Levels.{one_level}
use Rattle.cedar_evaluator_core.proofs.Gathered.{listed_trees, trees_in, here}

-- whether the value is equal to one of these
abbrev pub is_one : V → List V → Bool
is_one v ws = list_any (λ w. value_eq w v) ws

one_contained : (v : V) (ws : List V) → is_one v ws ≡ true → Contains ws v
one_contained v [] h = absurd (cc)
one_contained v (w ∷ ws) h = go (value_eq w v) refl h (one_contained v ws)
  where
    go : (b : Bool) → value_eq w v ≡ b → (b || is_one v ws) ≡ true → (is_one v ws ≡ true → Contains ws v) → Contains (w ∷ ws) v
    go true e h f = subst (Contains (w ∷ ws)) ((values_decide w v).0 e) (contains_head w ws)
    go false e h f = contains_tail w ws v (f h)

contained_one : (v : V) (ws : List V) → Contains ws v → is_one v ws ≡ true
contained_one v [] h = absurd (contains_none v h)
contained_one v (w ∷ ws) h =
    contains_cases (is_one v (w ∷ ws) ≡ true) w ws v h
    (λ e. hold_left (value_eq w v) (is_one v ws) ((values_decide w v).1 e))
    (λ k. hold_right (value_eq w v) (is_one v ws) (contained_one v ws k))

-- a set that is made has a value exactly if this is equal to one of those that it is made of
pub member_made : (v : V) (ws : List V) → is_member v (members_made ws) ≡ is_one v ws
member_made v ws = same_from_decides (is_member v (members_made ws)) (is_one v ws) (made_Decides v ws) (one_contained v ws, contained_one v ws)

module _ (s : Scope) (go : Tree → Left) (ts : List Tree) (m : Made) where
  -- what is left of the whole
  abbrev pub asked : Left
  asked = binary_left s contains (node s go (set_literal (trees ts))) (value_left m)

  -- Where the rest are values, the whole is whether one was found, or one of the rest is it.
  pub record AskedSoFar (found : Bool) (rest : List Tree) : Type 0 where
    pub is : (ps : List (Part Made)) (ns : List Made) → pieces_of go rest ≡ pieces ps → all_known ps ≡ Some ns → asked ≡ truth_left (found || is_one (bare m) (map bare ns))

  whole_set : (ps : List (Part Made)) (ns : List Made) → pieces_of go ts ≡ pieces ps → all_known ps ≡ Some ns → node s go (set_literal (trees ts)) ≡ value_left (made_set (made_members ns))
  whole_set ps ns p k =
      let next : List Made → Left = λ ms. value_left (made_set (made_members ms)) in
      let rebuilt : List Tree → Tree = λ us. set_literal (trees us) in
      ap (λ us. from_pieces next rebuilt (pieces_of go us)) (listed_trees ts)
      ∙ ap (from_pieces next rebuilt) p
      ∙ ap (λ o. option_map_or next o (residual (rebuilt (map part_tree ps)))) k

  pub asked_none : AskedSoFar false ts
  asked_none = record {
    is = λ ps ns p k.
        ap (λ l. binary_left s contains l (value_left m)) (whole_set ps ns p k)
        ∙ ap truth_left (ap (is_member (bare m)) (bare_members ns) ∙ member_made (bare m) (map bare ns));
  }

  pub asked_one : (found q : Bool) (t : Tree) (rest : List Tree) (n : Made) → AskedSoFar found (t ∷ rest) → go t ≡ value_left n → value_eq (bare n) (bare m) ≡ q → AskedSoFar (found || q) rest
  asked_one found q t rest n was e same = record {
    is = λ ps ns p k.
        was.is (known n ∷ ps) (n ∷ ns) (ap (λ l. with_piece l (pieces_of go rest)) e ∙ ap (with_piece (value_left n)) p) (ap (option_map (λ xs. n ∷ xs)) k)
        ∙ ap truth_left ((λ i. found || (same i || is_one (bare m) (map bare ns))) ∙ sym (or_assoc found q (is_one (bare m) (map bare ns))));
  }

  or_none : (b : Bool) → (b || false) ≡ b
  or_none true = refl
  or_none false = refl

  pub asked_all : (found : Bool) → AskedSoFar found [] → asked ≡ truth_left found
  asked_all found was = was.is [] [] refl refl ∙ ap truth_left (or_none found)

-- where the loop over the members is
module _ {T : Type 0} (table : T → (Name → List V → Called) → Table) (k : Knowledge T) (n : ℕ) (es : List (Expr Unit)) (m : Made) where
  -- the members until then are lent, and this is whether one was found
  abbrev pub AmongSoFar : ℕ → Bool → Type 0
  AmongSoFar i found = (fs : Functions) → AskedSoFar (scope_of table fs k) (evaluated (scope_of table fs k) (n - 1)) (trees_in es) m found (trees_in (drop i es))

  pub among_none : (found : Bool) → found ≡ false → AmongSoFar 0 found
  among_none found none = λ fs. subst (λ b. AskedSoFar (scope_of table fs k) (evaluated (scope_of table fs k) (n - 1)) (trees_in es) m b (trees_in es)) (sym none) (asked_none _ _ (trees_in es) m)

  pub among_one : (i : ℕ) (found q : Bool) (e d : Expr Unit) (v : Lent) → AmongSoFar i found → i < length es → e ≡ get_or es i d → LendsWithin table k (n - 1) (tree_of {T = Unit} e) (Some v) → value_eq (bare (lent_made v)) (bare m) ≡ q → AmongSoFar (i + 1) (found || q)
  among_one i found q e d v was below at part same = λ fs.
      asked_one _ _ (trees_in es) m found q (tree_of {T = Unit} e) (trees_in (drop (i + 1) es)) (lent_made v)
      (subst (λ r. AskedSoFar (scope_of table fs k) (evaluated (scope_of table fs k) (n - 1)) (trees_in es) m found r) (here es i e d below at) (was fs))
      (part.lends fs) same

  pub among_all : (i : ℕ) (found : Bool) → AmongSoFar i found → 0 < n → length es ≤ i → ContainsWithin table k n (trees_in es) m (Some (lent.Truth found))
  among_all i found was above end = record {
    lends = λ fs.
        ap (λ l. binary_left (scope_of table fs k) contains l (value_left m)) (one_level (scope_of table fs k) n (set_literal (trees (trees_in es))) (set_literal (trees (trees_in es))) above refl)
        ∙ asked_all _ _ (trees_in es) m found (subst (λ r. AskedSoFar (scope_of table fs k) (evaluated (scope_of table fs k) (n - 1)) (trees_in es) m found (trees_in r)) (drop_of_length-le es end) (was fs));
  }
