-- One level of an expression with one part, with two or with several, by what is left of them.
use Rattle.std.proofs.Common.{◌≡◌, ℕ, true, false, List, [], refl, sym, ap, ◌∙◌, subst}
use Rattle.std.specs.Prelude.{Ok, Err, Some, None, if◌then◌else◌}
use Rattle.std.specs.Result.{IsErrAnd}
use Rattle.std.specs.Option.{option_map_or}
use Rattle.std.specs.Map.{keys_of, values_of}
use Rattle.std.specs.declared.alloc.Global.{Global}
use Rattle.std.specs.declared.vec.Vec.{Vec}
use Rattle.cedar_expr_model.specs.Name.{Text, Name, name_eq}
use Rattle.cedar_expr_model.specs.Builder.{path_test, trees}
use Rattle.cedar_expr_model.specs.Made.{Made, made_set, bare}
use Rattle.cedar_expr_model.specs.Parts.{is_projectable, listed, listed_fields}
use Rattle.cedar_expr_model.specs.Pattern.{Pattern}
use Rattle.cedar_expr_model.specs.Table.{Table, Called}
use Rattle.cedar_expr_model.specs.Tree.{UnaryOp, BinaryOp, Tree, Trees, TreeFields, unary, binary, call, get_attr, has_attr, has_path, like, is_type, set_literal, record_literal}
use Rattle.cedar_expr_model.specs.Value.{V}
use Rattle.cedar_expr_values.specs.Extensions.{extension_of}
use Rattle.cedar_expr_values.specs.Values.{made}
use Rattle.cedar_expr_values.specs.declared.value.Value.{Value}
use Rattle.cedar_expr_values.specs.declared.extension.ExtValue.{ExtValue}
use Rattle.cedar_expr_trees.specs.Trees.{tree_of}
use Rattle.cedar_expr_trees.specs.declared.expr.Expr.{Expr}
use Rattle.cedar_expr_partial.specs.declared.partial_value.PartialValue.{PartialValue}
use Rattle.cedar_expr_partial.specs.declared.partial_value.PartialValue.TheVariants as partial
use Rattle.cedar_store_model.specs.Operators.{applied, like_pattern, of_type}
use Rattle.cedar_store_model.specs.Outcome.{missing_field}
use Rattle.cedar_evaluator_model.specs.Scope.{Scope, MadeCalled, Stop, Left, value_left, residual, stopped}
use Rattle.cedar_evaluator_model.specs.Steps.{errs, truth_left, on_value, left_of, attribute_of, test_of, path_of, kind_of_unknown, called_left, Pieces, pieces, halted, from_pieces, made_members, record_left}
use Rattle.cedar_evaluator_model.specs.Evaluation.{evaluated, binary_left, get_of_residual, has_of_residual, tree_named, pieces_of}
use Rattle.cedar_evaluator_errors.specs.Outcomes.{Leaves, left_seen, is_memory, stop_or}
use Rattle.cedar_evaluator_errors.specs.declared.err.EvaluationError.{EvaluationError}
use Rattle.cedar_evaluator_reads.specs.Scopes.{scope_seen}
use Rattle.cedar_evaluator_reads.specs.declared.knowledge.Knowledge.{Knowledge}
use Rattle.cedar_evaluator_errors.specs.Calls.{Functions}
use Rattle.cedar_evaluator_operators.specs.Scopes.{scope_of, scope_ordering}
use Rattle.cedar_evaluator_operators.proofs.Alike.{attribute_alike, test_alike, path_alike, binary_alike}
use Rattle.cedar_evaluator_core.specs.Gathered.{parts_of}
use Rattle.cedar_evaluator_core.specs.Walked.{LeavesWithin, LeavesLevel, LeavesField, PiecesWithin}
use Rattle.cedar_evaluator_core.proofs.Nodes.{Answer, stops, after}

-- something is left
abbrev IsSeen : Left → Type 0
IsSeen (value_left m) = Unit {0}
IsSeen (residual t) = Unit {0}
IsSeen (stopped z) = ⊥

module _ {T : Type 0} (table : T → (Name → List V → Called) → Table) (answers_as : T → (Name → List Made → MadeCalled) → Type 0) (k : Knowledge T) (n : ℕ) where
  abbrev Part : Tree → Answer → Type 0
  Part t r = LeavesWithin table answers_as k n t r

  abbrev Says : Tree → Answer → Type 0
  Says t r = LeavesLevel table answers_as k n t r

  abbrev scope : Functions → Scope
  scope fs = scope_of table fs k

  abbrev go : Functions → Tree → Left
  go fs = evaluated (scope_of table fs k) n

  module _ (a : Tree) (r : Answer) where
    -- an operator of one operand, a pattern, a test of the type
    pub unary_stops : (o : UnaryOp) (e : EvaluationError) → Part a (Err e) → IsErrAnd r (λ y. y ≡ e) → Says (unary o a) r
    unary_stops o e h i = record { leaves = λ fs s. stops (λ l. on_value l (λ m. left_of (applied o (bare m))) (λ t. residual (unary o t))) (go fs a) e r (λ z. refl) i (h.leaves fs s) }

    pub unary_goes : (o : UnaryOp) (p : PartialValue ExtValue) → Part a (Ok p) → Leaves (on_value (left_seen p) (λ m. left_of (applied o (bare m))) (λ t. residual (unary o t))) r → Says (unary o a) r
    unary_goes o p h w = record { leaves = λ fs s. after (λ l. on_value l (λ m. left_of (applied o (bare m))) (λ t. residual (unary o t))) (go fs a) (left_seen p) r (h.leaves fs s) w }

    pub like_stops : (g : Pattern) (e : EvaluationError) → Part a (Err e) → IsErrAnd r (λ y. y ≡ e) → Says (like a g) r
    like_stops g e h i = record { leaves = λ fs s. stops (λ l. on_value l (λ m. left_of (like_pattern g (bare m))) (λ t. residual (like t g))) (go fs a) e r (λ z. refl) i (h.leaves fs s) }

    pub like_goes : (g : Pattern) (p : PartialValue ExtValue) → Part a (Ok p) → Leaves (on_value (left_seen p) (λ m. left_of (like_pattern g (bare m))) (λ t. residual (like t g))) r → Says (like a g) r
    like_goes g p h w = record { leaves = λ fs s. after (λ l. on_value l (λ m. left_of (like_pattern g (bare m))) (λ t. residual (like t g))) (go fs a) (left_seen p) r (h.leaves fs s) w }

    abbrev pub type_step : Name → Left → Left
    type_step j l = on_value l (λ m. left_of (of_type j (bare m))) (λ t. option_map_or (λ i. truth_left (name_eq i j)) (kind_of_unknown t) (residual (is_type t j)))

    pub type_stops : (j : Name) (e : EvaluationError) → Part a (Err e) → IsErrAnd r (λ y. y ≡ e) → Says (is_type a j) r
    type_stops j e h i = record { leaves = λ fs s. stops (type_step j) (go fs a) e r (λ z. refl) i (h.leaves fs s) }

    pub type_goes : (j : Name) (p : PartialValue ExtValue) → Part a (Ok p) → Leaves (type_step j (left_seen p)) r → Says (is_type a j) r
    type_goes j p h w = record { leaves = λ fs s. after (type_step j) (go fs a) (left_seen p) r (h.leaves fs s) w }

    -- a test of an attribute, and of a path
    pub test_stops : (b : Text) (e : EvaluationError) → Part a (Err e) → IsErrAnd r (λ y. y ≡ e) → Says (has_attr a b) r
    test_stops b e h i = record { leaves = λ fs s. stops (λ l. on_value l (test_of (scope fs) b) (has_of_residual b)) (go fs a) e r (λ z. refl) i (h.leaves fs s) }

    same_test : (fs : Functions) (b : Text) → test_of (scope fs) b ≡ test_of (scope_seen k) b
    same_test fs b = λ i m. test_alike table (λ t. []) fs k b m i

    same_path : (fs : Functions) (b : Text) (bs : List Text) → path_of (scope fs) b bs ≡ path_of (scope_seen k) b bs
    same_path fs b bs = λ i m. path_alike table (λ t. []) fs k bs b m i

    pub test_goes : (b : Text) (p : PartialValue ExtValue) → Part a (Ok p) → Leaves (on_value (left_seen p) (test_of (scope_seen k) b) (has_of_residual b)) r → Says (has_attr a b) r
    test_goes b p h w = record { leaves = λ fs s. after (λ l. on_value l (test_of (scope fs) b) (has_of_residual b)) (go fs a) (left_seen p) r (h.leaves fs s) (subst (λ f. Leaves (on_value (left_seen p) f (has_of_residual b)) r) (sym (same_test fs b)) w) }

    pub path_stops : (b : Text) (bs : List Text) (e : EvaluationError) → Part a (Err e) → IsErrAnd r (λ y. y ≡ e) → Says (has_path a b bs) r
    path_stops b bs e h i = record { leaves = λ fs s. stops (λ l. on_value l (path_of (scope fs) b bs) (λ t. residual (path_test t b bs))) (go fs a) e r (λ z. refl) i (h.leaves fs s) }

    pub path_goes : (b : Text) (bs : List Text) (p : PartialValue ExtValue) → Part a (Ok p) → Leaves (on_value (left_seen p) (path_of (scope_seen k) b bs) (λ t. residual (path_test t b bs))) r → Says (has_path a b bs) r
    path_goes b bs p h w = record { leaves = λ fs s. after (λ l. on_value l (path_of (scope fs) b bs) (λ t. residual (path_test t b bs))) (go fs a) (left_seen p) r (h.leaves fs s) (subst (λ f. Leaves (on_value (left_seen p) f (λ t. residual (path_test t b bs))) r) (sym (same_path fs b bs)) w) }

    -- an attribute
    pub get_stops : (b : Text) (e : EvaluationError) → Part a (Err e) → IsErrAnd r (λ y. y ≡ e) → Says (get_attr a b) r
    get_stops b e h i = record { leaves = λ fs s. stops (λ l. on_value l (attribute_of (scope fs) b) (get_of_residual (go fs) b)) (go fs a) e r (λ z. refl) i (h.leaves fs s) }

    module _ (b : Text) (p : PartialValue ExtValue) (h : Part a (Ok p)) where
      get_goes : ((fs : Functions) → answers_as k.table.now fs.calls → Leaves (on_value (left_seen p) (attribute_of (scope fs) b) (get_of_residual (go fs) b)) r) → Says (get_attr a b) r
      get_goes f = record { leaves = λ fs s. after (λ l. on_value l (attribute_of (scope fs) b) (get_of_residual (go fs) b)) (go fs a) (left_seen p) r (h.leaves fs s) (f fs s) }

      pub get_value : (v : Value ExtValue) → p ≡ partial.Value v → Leaves (attribute_of (scope_seen k) b (made extension_of v)) r → Says (get_attr a b) r
      get_value v is w = get_goes (λ fs s. subst (λ q. Leaves (on_value (left_seen q) (attribute_of (scope fs) b) (get_of_residual (go fs) b)) r) (sym is) (subst (λ l. Leaves l r) (sym (attribute_alike table (λ t. []) fs k b (made extension_of v))) w))

      pub get_residual : (t : Expr Unit) → p ≡ partial.Residual t → LeavesField table answers_as k n b (tree_of {T = Unit} t) r → Says (get_attr a b) r
      get_residual t is w = get_goes (λ fs s. subst (λ q. Leaves (on_value (left_seen q) (attribute_of (scope fs) b) (get_of_residual (go fs) b)) r) (sym is) (w.leaves fs s))

  -- an attribute of a residual
  module _ (b : Text) (t : Tree) (r : Answer) where
    pub field_stays : ((go : Tree → Left) (c : Text) → get_of_residual go c t ≡ residual (get_attr t c)) → Leaves (residual (get_attr t b)) r → LeavesField table answers_as k n b t r
    field_stays h w = record { leaves = λ fs s. subst (λ l. Leaves l r) (sym (h (go fs) b)) w }

    module _ (m : TreeFields) (is : t ≡ record_literal m) where
      in_record : ((fs : Functions) → answers_as k.table.now fs.calls → Leaves (get_of_residual (go fs) b (record_literal m)) r) → LeavesField table answers_as k n b t r
      in_record f = record { leaves = λ fs s. subst (λ u. Leaves (get_of_residual (go fs) b u) r) (sym is) (f fs s) }

      pub field_missing : tree_named b m ≡ None → Leaves (errs missing_field) r → LeavesField table answers_as k n b t r
      field_missing q w = in_record (λ fs s. subst (λ o. Leaves (option_map_or (λ u. if is_projectable (record_literal m) then go fs u else residual (get_attr (record_literal m) b)) o (errs missing_field)) r) (sym q) w)

      module _ (u : Tree) (q : tree_named b m ≡ Some u) where
        asked : ((fs : Functions) → answers_as k.table.now fs.calls → Leaves (if is_projectable (record_literal m) then go fs u else residual (get_attr (record_literal m) b)) r) → LeavesField table answers_as k n b t r
        asked f = in_record (λ fs s. subst (λ o. Leaves (option_map_or (λ u. if is_projectable (record_literal m) then go fs u else residual (get_attr (record_literal m) b)) o (errs missing_field)) r) (sym q) (f fs s))

        pub field_again : is_projectable t ≡ true → Part u r → LeavesField table answers_as k n b t r
        field_again y w = asked (λ fs s. subst (λ c. Leaves (if c then go fs u else residual (get_attr (record_literal m) b)) r) (sym (ap is_projectable (sym is) ∙ y)) (w.leaves fs s))

        pub field_kept : is_projectable t ≡ false → Leaves (residual (get_attr t b)) r → LeavesField table answers_as k n b t r
        field_kept y w = asked (λ fs s. subst (λ c. Leaves (if c then go fs u else residual (get_attr (record_literal m) b)) r) (sym (ap is_projectable (sym is) ∙ y)) (subst (λ v. Leaves (residual (get_attr v b)) r) is w))

  -- an operator of two operands
  module _ (o : BinaryOp) (a b : Tree) (r : Answer) where
    pub binary_stops : (e : EvaluationError) → Part a (Err e) → IsErrAnd r (λ y. y ≡ e) → Says (binary o a b) r
    binary_stops e h i = record { leaves = λ fs s. stops (λ l. binary_left (scope fs) o l (go fs b)) (go fs a) e r (λ z. refl) i (h.leaves fs s) }

    right_halts : (s : Scope) (l : Left) (p : PartialValue ExtValue) → l ≡ left_seen p → (z : Stop) → binary_left s o l (stopped z) ≡ stopped z
    right_halts s l p h z = ap (λ x. binary_left s o x (stopped z)) h ∙ halts (left_seen p) (seen p)
      where
        halts : (x : Left) → IsSeen x → binary_left s o x (stopped z) ≡ stopped z
        halts (value_left m) i = refl
        halts (residual t) i = refl
        halts (stopped y) i = absurd i

        seen : (q : PartialValue ExtValue) → IsSeen (left_seen q)
        seen (partial.Value v) = tt
        seen (partial.Residual t) = tt

    pub binary_right_stops : (p : PartialValue ExtValue) → Part a (Ok p) → (e : EvaluationError) → Part b (Err e) → IsErrAnd r (λ y. y ≡ e) → Says (binary o a b) r
    binary_right_stops p h e w i = record { leaves = λ fs s. stops (λ l. binary_left (scope fs) o (go fs a) l) (go fs b) e r (right_halts (scope fs) (go fs a) p (h.leaves fs s)) i (w.leaves fs s) }

    pub binary_goes : (names : T → List Name) → ((fs : Functions) → (table k.table.now fs.answers).ordered ≡ names k.table.now) → (p q : PartialValue ExtValue) → Part a (Ok p) → Part b (Ok q) → Leaves (binary_left (scope_ordering names k) o (left_seen p) (left_seen q)) r → Says (binary o a b) r
    binary_goes names same p q h w f =
        record {
          leaves = λ fs s.
              subst (λ l. Leaves (binary_left (scope fs) o l (go fs b)) r) (sym (h.leaves fs s))
              (subst (λ l. Leaves (binary_left (scope fs) o (left_seen p) l) r) (sym (w.leaves fs s))
              (subst (λ l. Leaves l r) (sym (binary_alike table names fs k (same fs) o (left_seen p) (left_seen q))) f));
        }

  -- calls, sets and records
  module _ (f : Pieces → Left) (halts : (z : Stop) → f (halted z) ≡ stopped z) (r : Answer) where
    pieces_stop : (p : Pieces) (e : EvaluationError) → ((other : Stop) → is_memory e ≡ false → p ≡ halted (stop_or other e)) → IsErrAnd r (λ y. y ≡ e) → Leaves (f p) r
    pieces_stop p e h i = by_error r i
      where
        by_error : (q : Answer) → IsErrAnd q (λ y. y ≡ e) → Leaves (f p) q
        by_error (Ok v) j = absurd j
        by_error (Err y) j = λ other m. ap f (h other (subst (λ z. is_memory z ≡ false) j m)) ∙ halts (stop_or other e) ∙ ap (λ z. stopped (stop_or other z)) (sym j)

  module _ (r : Answer) where
    pub call_stops : (j : Name) (us : Trees) (e : EvaluationError) → PiecesWithin table answers_as k n (listed us) (Err e) → IsErrAnd r (λ y. y ≡ e) → Says (call j us) r
    call_stops j us e h i = record { leaves = λ fs s. pieces_stop (from_pieces (called_left (scope fs) j) (λ ts. call j (trees ts))) (λ z. refl) r (pieces_of (go fs) (listed us)) e (h.leaves fs s) i }

    pub call_goes : (j : Name) (us : Trees) (vs : Vec (PartialValue ExtValue) Global) → PiecesWithin table answers_as k n (listed us) (Ok vs) → ((fs : Functions) → answers_as k.table.now fs.calls → Leaves (from_pieces (called_left (scope fs) j) (λ ts. call j (trees ts)) (pieces (parts_of vs.items))) r) → Says (call j us) r
    call_goes j us vs h w = record { leaves = λ fs s. subst (λ p. Leaves (from_pieces (called_left (scope fs) j) (λ ts. call j (trees ts)) p) r) (sym (h.leaves fs s)) (w fs s) }

    pub set_stops : (us : Trees) (e : EvaluationError) → PiecesWithin table answers_as k n (listed us) (Err e) → IsErrAnd r (λ y. y ≡ e) → Says (set_literal us) r
    set_stops us e h i = record { leaves = λ fs s. pieces_stop (from_pieces (λ ms. value_left (made_set (made_members ms))) (λ ts. set_literal (trees ts))) (λ z. refl) r (pieces_of (go fs) (listed us)) e (h.leaves fs s) i }

    pub set_goes : (us : Trees) (vs : Vec (PartialValue ExtValue) Global) → PiecesWithin table answers_as k n (listed us) (Ok vs) → Leaves (from_pieces (λ ms. value_left (made_set (made_members ms))) (λ ts. set_literal (trees ts)) (pieces (parts_of vs.items))) r → Says (set_literal us) r
    set_goes us vs h w = record { leaves = λ fs s. subst (λ p. Leaves (from_pieces (λ ms. value_left (made_set (made_members ms))) (λ ts. set_literal (trees ts)) p) r) (sym (h.leaves fs s)) w }

    pub record_stops : (m : TreeFields) (e : EvaluationError) → PiecesWithin table answers_as k n (values_of (listed_fields m)) (Err e) → IsErrAnd r (λ y. y ≡ e) → Says (record_literal m) r
    record_stops m e h i = record { leaves = λ fs s. pieces_stop (record_left (keys_of (listed_fields m))) (λ z. refl) r (pieces_of (go fs) (values_of (listed_fields m))) e (h.leaves fs s) i }

    pub record_goes : (m : TreeFields) (vs : Vec (PartialValue ExtValue) Global) → PiecesWithin table answers_as k n (values_of (listed_fields m)) (Ok vs) → Leaves (record_left (keys_of (listed_fields m)) (pieces (parts_of vs.items))) r → Says (record_literal m) r
    record_goes m vs h w = record { leaves = λ fs s. subst (λ p. Leaves (record_left (keys_of (listed_fields m)) p) r) (sym (h.leaves fs s)) w }
