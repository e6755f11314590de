-- What the answers of a table's functions don't decide.
use Rattle.std.proofs.Common.{◌≡◌, false, List, [], ◌∷◌, refl, sym, ap, ◌∙◌}
use Rattle.std.specs.Map.{lookup}
use Rattle.std.specs.Option.{option_map_or}
use Rattle.std.specs.Str.{bytes_eq}
use Rattle.std.specs.Ordering.{is_lt, is_le}
use Rattle.std.specs.declared.cmp.Ordering.{Ordering}
use Rattle.std.specs.Prelude.{Bool}
use Rattle.cedar_expr_model.specs.Name.{Text, Name}
use Rattle.cedar_expr_model.specs.Made.{Made, made_prim, made_set, made_record, made_extension, bare}
use Rattle.cedar_expr_model.specs.Table.{Table, Called}
use Rattle.cedar_expr_model.specs.Tree.{has_path, Var, BinaryOp, equal, less, less_or_equal, plus, difference, times, remainder, is_in, contains, contains_all, contains_any, get_tag, has_tag}
use Rattle.cedar_expr_model.specs.Value.{V, truth, long, text, entity}
use Rattle.cedar_store_model.specs.Operators.{says, ordered}
use Rattle.cedar_store_model.specs.Outcome.{err, wrong_type}
use Rattle.cedar_store_model.specs.Store.{stand_in}
use Rattle.cedar_store_model.specs.World.{by_found}
use Rattle.cedar_evaluator_model.specs.Scope.{Scope, Left, value_left, residual, stopped}
use Rattle.cedar_evaluator_model.specs.Steps.{truth_left, left_of, combined_left, attribute_of, test_of, made_named, path_step, path_of}
use Rattle.cedar_evaluator_model.specs.Evaluation.{variable_left, binary_left}
use Rattle.cedar_evaluator_reads.specs.Scopes.{scope_seen}
use Rattle.cedar_evaluator_reads.specs.declared.knowledge.Knowledge.{Knowledge}
use Rattle.cedar_evaluator_operators.specs.Arithmetic.{order_of, table_ordering}
use Rattle.cedar_evaluator_errors.specs.Calls.{Functions}
use Rattle.cedar_evaluator_operators.specs.Scopes.{scope_of, scope_ordering}
use Rattle.cedar_evaluator_operators.proofs.Ordered.{ordered_by_order}

ordered_alike : (x y : Table) (test : Ordering → Bool) (v w : V) → x.ordered ≡ y.ordered → ordered x test v w ≡ ordered y test v w
ordered_alike x y test v w h =
    ordered_by_order x test v w
    ∙ ap (λ ns. option_map_or (λ r. says (test r)) (order_of ns v w) (err wrong_type)) h
    ∙ sym (ordered_by_order y test v w)

module _ {T : Type 0} (table : T → (Name → List V → Called) → Table) (names : T → List Name) (fs : Functions) (k : Knowledge T) where
  pub variable_alike : (x : Var) → variable_left (scope_of table fs k) x ≡ variable_left (scope_seen k) x
  unfolding scope_of
  variable_alike x = refl

  pub attribute_alike : (a : Text) (m : Made) → attribute_of (scope_of table fs k) a m ≡ attribute_of (scope_seen k) a m
  unfolding scope_of
  attribute_alike a m = refl

  pub test_alike : (a : Text) (m : Made) → test_of (scope_of table fs k) a m ≡ test_of (scope_seen k) a m
  unfolding scope_of
  test_alike a m = refl

  pub path_alike : (bs : List Text) (a : Text) (m : Made) → path_of (scope_of table fs k) a bs m ≡ path_of (scope_seen k) a bs m
  unfolding scope_of
  path_alike [] a m = refl
  path_alike (b ∷ bs) a (made_prim (entity u)) = ap (λ next. by_found (λ e. path_step next b bs (lookup (bytes_eq a) e.attributes)) (truth_left false) (residual (has_path (stand_in u) a (b ∷ bs))) ((scope_seen k).store u)) (λ i m. path_alike bs b m i)
  path_alike (b ∷ bs) a (made_prim (truth c)) = refl
  path_alike (b ∷ bs) a (made_prim (long n)) = refl
  path_alike (b ∷ bs) a (made_prim (text s)) = refl
  path_alike (b ∷ bs) a (made_record ms) = ap (λ next. option_map_or next (made_named a ms) (truth_left false)) (λ i m. path_alike bs b m i)
  path_alike (b ∷ bs) a (made_set ms) = refl
  path_alike (b ∷ bs) a (made_extension n x f ms) = refl

  combined_alike : (table k.table.now fs.answers).ordered ≡ names k.table.now → (o : BinaryOp) (m n : Made) → combined_left (scope_of table fs k) o m n ≡ combined_left (scope_ordering names k) o m n
  unfolding scope_of scope_ordering
  combined_alike h equal m n = refl
  combined_alike h less m n = ap left_of (ordered_alike (table k.table.now fs.answers) (table_ordering (names k.table.now)) is_lt (bare m) (bare n) h)
  combined_alike h less_or_equal m n = ap left_of (ordered_alike (table k.table.now fs.answers) (table_ordering (names k.table.now)) is_le (bare m) (bare n) h)
  combined_alike h plus m n = refl
  combined_alike h difference m n = refl
  combined_alike h times m n = refl
  combined_alike h remainder m n = refl
  combined_alike h is_in m n = refl
  combined_alike h contains m n = refl
  combined_alike h contains_all m n = refl
  combined_alike h contains_any m n = refl
  combined_alike h get_tag m n = refl
  combined_alike h has_tag m n = refl

  pub binary_alike : (table k.table.now fs.answers).ordered ≡ names k.table.now → (o : BinaryOp) (l r : Left) → binary_left (scope_of table fs k) o l r ≡ binary_left (scope_ordering names k) o l r
  binary_alike h o (value_left m) (value_left n) = combined_alike h o m n
  binary_alike h o (value_left m) (residual b) = refl
  binary_alike h o (value_left m) (stopped x) = refl
  binary_alike h o (residual a) r = refl
  binary_alike h o (stopped x) r = refl
