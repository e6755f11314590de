-- Partial evaluation: one level of an expression, given what is left of expressions a level deeper; and the whole, within a limit on
-- the depth. The root has depth 1.
-- Rule: partial evaluation; the recursion limit (docs/RULES.md).
use Rattle.std.specs.Prelude.{ℕ, zero, suc, List, [], ◌∷◌, Bool, true, false, Option, None, is_some, if◌then◌else◌, codes, option_map}
use Rattle.std.specs.Str.{bytes_eq}
use Rattle.cedar_expr_model.specs.Name.{Text, name_eq}
use Rattle.cedar_expr_model.specs.Value.{truth, entity}
use Rattle.cedar_expr_model.specs.Tree.{Var, principal, action, resource, context, entity_core, BinaryOp, Tree, lit, var, slot, unknown, choice, both, either, unary, binary, call, get_attr, has_attr, has_path, like, is_type, set_literal, record_literal, TreeFields}
use Rattle.cedar_expr_model.specs.Builder.{conjunction, disjunction, path_test, trees}
use Rattle.cedar_expr_model.specs.Parts.{is_projectable, listed, listed_fields}
use Rattle.cedar_expr_model.specs.Made.{made_prim, made_set, made_record, bare, written}
use Rattle.cedar_store_model.specs.Outcome.{missing_field, unlinked_slot}
use Rattle.cedar_store_model.specs.Operators.{applied, like_pattern, of_type}
use Rattle.cedar_evaluator_model.specs.Scope.{Scope, Entry, uid, unknown_uid, Context, closed, residual_fields, unknown_context, limit, Left, value_left, residual, stopped}
use Rattle.cedar_evaluator_model.specs.Steps.{errs, truth_left, on_value, best, left_of, truth_wanted, picks, mapped, attribute_of, test_of, path_of, combined_left, kind_of_value, kind_of_unknown, with_residual, called_left, made_members, Pieces, pieces, with_piece, from_pieces, record_left}
use Rattle.std.specs.Map.{lookup, keys_of, values_of}
use Rattle.std.specs.Option.{option_map_or}

abbrev pub entry_left : Text → Entry → Left
entry_left name (uid u) = value_left (made_prim (entity u))
entry_left name (unknown_uid k) = residual (unknown name (option_map entity_core k))

abbrev pub context_left : Context → Left
context_left (closed fs) = value_left (made_record fs)
context_left (residual_fields fs) = residual (record_literal fs)
context_left unknown_context = residual (unknown (codes "context") None)

abbrev pub variable_left : Scope → Var → Left
variable_left s principal = entry_left (codes "principal") s.principal
variable_left s action = entry_left (codes "action") s.action
variable_left s resource = entry_left (codes "resource") s.resource
variable_left s context = context_left s.context

-- The field of a residual record.
abbrev pub tree_named : Text → TreeFields → Option Tree
tree_named a fs = lookup (bytes_eq a) (listed_fields fs)

-- an attribute of a residual record: one that may be projected gives the field, which is evaluated again
abbrev pub get_of_residual : (Tree → Left) → Text → Tree → Left
get_of_residual go a (record_literal fs) = option_map_or (λ t. if is_projectable (record_literal fs) then go t else residual (get_attr (record_literal fs) a)) (tree_named a fs) (errs missing_field)
get_of_residual go a r = residual (get_attr r a)

abbrev pub has_of_residual : Text → Tree → Left
has_of_residual a (record_literal fs) = if is_projectable (record_literal fs) then truth_left (is_some (tree_named a fs)) else residual (has_attr (record_literal fs) a)
has_of_residual a r = residual (has_attr r a)

-- the right side of `and` and `or`, of which a truth value is wanted
abbrev pub right_left : (Tree → Tree → Tree) → Bool → Left → Left
right_left join b l = on_value l truth_wanted (λ r. residual (join (lit (truth b)) r))

-- of two operands; where one is a residual the expression stays, but for what its types decide
abbrev pub binary_left : Scope → BinaryOp → Left → Left → Left
binary_left s o l r = on_value l
    (λ m. on_value r (combined_left s o m) (λ b. with_residual o (kind_of_value m) (kind_of_unknown b) (written m) b))
    (λ a. on_value r (λ n. with_residual o (kind_of_unknown a) (kind_of_value n) a (written n)) (λ b. with_residual o (kind_of_unknown a) (kind_of_unknown b) a b))

-- what is left of several, one after the other
abbrev pub pieces_of : (Tree → Left) → List Tree → Pieces
pieces_of go [] = pieces []
pieces_of go (t ∷ ts) = with_piece (go t) (pieces_of go ts)

-- One level: `go` is what is left of an expression a level deeper. `is` of a residual is decided of an unknown annotated with an entity type.
abbrev pub node : Scope → (Tree → Left) → Tree → Left
node s go (lit p) = value_left (made_prim p)
node s go (var x) = variable_left s x
node s go (slot x) = option_map_or (λ u. value_left (made_prim (entity u))) (s.slots x) (errs unlinked_slot)
node s go (unknown n a) = mapped n a (s.values n)
node s go (choice t a b) = on_value (go t) (picks (go a) (go b)) (λ r. residual (choice r (best a (go a)) (best b (go b))))
node s go (both a b) = on_value (go a) (picks (right_left conjunction true (go b)) (truth_left false)) (λ r. residual (conjunction r (best b (go b))))
node s go (either a b) = on_value (go a) (picks (truth_left true) (right_left disjunction false (go b))) (λ r. residual (disjunction r (best b (go b))))
node s go (unary o a) = on_value (go a) (λ m. left_of (applied o (bare m))) (λ r. residual (unary o r))
node s go (binary o a b) = binary_left s o (go a) (go b)
node s go (call f ts) = from_pieces (called_left s f) (λ us. call f (trees us)) (pieces_of go (listed ts))
node s go (get_attr e a) = on_value (go e) (attribute_of s a) (get_of_residual go a)
node s go (has_attr e a) = on_value (go e) (test_of s a) (has_of_residual a)
node s go (has_path e a bs) = on_value (go e) (path_of s a bs) (λ r. residual (path_test r a bs))
node s go (like e p) = on_value (go e) (λ m. left_of (like_pattern p (bare m))) (λ r. residual (like r p))
node s go (is_type e n) = on_value (go e) (λ m. left_of (of_type n (bare m))) (λ r. option_map_or (λ k. truth_left (name_eq k n)) (kind_of_unknown r) (residual (is_type r n)))
node s go (set_literal ts) = from_pieces (λ ms. value_left (made_set (made_members ms))) (λ us. set_literal (trees us)) (pieces_of go (listed ts))
node s go (record_literal fs) = record_left (keys_of (listed_fields fs)) (pieces_of go (values_of (listed_fields fs)))

-- What is left of an expression within a limit on its depth.
abbrev pub evaluated : Scope → ℕ → Tree → Left
evaluated s zero t = stopped limit
evaluated s (suc n) t = node s (evaluated s n) t
