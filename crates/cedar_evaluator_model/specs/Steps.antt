-- The steps of partial evaluation on parts that are evaluated already.
-- Rule: partial evaluation (docs/RULES.md).
use Rattle.std.specs.Prelude.{List, [], ◌∷◌, map, length, Bool, true, false, not, Option, Some, None, option_map, if◌then◌else◌, is_some, zip}
use Rattle.std.specs.Ordering.{match_ordering}
use Rattle.std.specs.Str.{bytes_eq}
use Rattle.cedar_expr_model.specs.Name.{Text, Name, name_eq}
use Rattle.cedar_expr_model.specs.Uid.{Uid}
use Rattle.cedar_expr_model.specs.Value.{truth, text, entity, V, prim}
use Rattle.cedar_expr_model.specs.Order.{value_cmp}
use Rattle.cedar_expr_model.specs.Tree.{CoreType, entity_core, BinaryOp, equal, is_in, get_tag, has_tag, Tree, lit, unknown, binary, get_attr, has_attr, has_path, record_literal}
use Rattle.cedar_expr_model.specs.Builder.{path_test, tree_fields}
use Rattle.cedar_expr_model.specs.Made.{Made, made_prim, made_record, Mades, no_mades, made, MadeFields, no_made_fields, made_field, bare, written}
use Rattle.cedar_expr_model.specs.Substitution.{fits_annotation}
use Rattle.cedar_expr_model.specs.Table.{Signature, signature_of, takes_count, are_of_types}
use Rattle.cedar_store_model.specs.Outcome.{Fault, Res, val, err, missing_entity, missing_attribute_or_tag, missing_field, wrong_type, no_function, wrong_count, extension_failed}
use Rattle.cedar_expr_model.specs.ValueParts.{Part, known, left, all_known, part_tree}
use Rattle.cedar_store_model.specs.World.{Found, by_found}
use Rattle.cedar_store_model.specs.Reads.{uids_in, is_in_some, uid_of}
use Rattle.cedar_evaluator_model.specs.Scope.{Scope, MadeCalled, makes, faults, leaves_unknown, Stop, fault, Left, value_left, residual, stopped}
use Rattle.std.specs.Map.{lookup}
use Rattle.cedar_store_model.specs.Meaning.{truth_asked, combined}
use Rattle.std.specs.Option.{option_map_or}
use Rattle.cedar_store_model.specs.Store.{stand_in}
use Rattle.cedar_evaluator_model.specs.Known.{known_world}

abbrev pub errs : Fault → Left
errs f = stopped (fault f)

abbrev pub truth_left : Bool → Left
truth_left b = value_left (made_prim (truth b))

-- what comes next takes the value; of a residual this is left; what stopped stays so
abbrev pub on_value : Left → (Made → Left) → (Tree → Left) → Left
on_value (value_left m) next other = next m
on_value (residual r) next other = other r
on_value (stopped s) next other = stopped s

-- the expression of what is left of one, in best effort: where it stopped, the expression as it was
abbrev pub best : Tree → Left → Tree
best e (value_left m) = written m
best e (residual r) = r
best e (stopped s) = e

-- The outcome of an operator: operators give literals alone.
abbrev pub left_of : Res V → Left
left_of (val (prim p)) = value_left (made_prim p)
left_of (val v) = errs wrong_type
left_of (err f) = errs f

-- a truth value is asked for
abbrev pub truth_wanted : Made → Left
truth_wanted m = left_of (truth_asked (bare m))

-- a truth value picks what comes next
abbrev pub picks : Left → Left → Made → Left
picks on_true on_false (made_prim (truth true)) = on_true
picks on_true on_false (made_prim (truth false)) = on_false
picks on_true on_false m = errs wrong_type

-- an unknown: its value, if it has one, which must fit the annotation
abbrev pub mapped : Text → Option CoreType → Option Made → Left
mapped n a found = option_map_or (λ m. if fits_annotation a (bare m) then value_left m else errs wrong_type) found (residual (unknown n a))

-- what comes next of a part: of a value this, and of an expression that
abbrev pub on_part : (Made → Left) → (Tree → Left) → Part Made → Left
on_part next other (known m) = next m
on_part next other (left t) = other t

-- what a tag holds
abbrev pub tag_left : Part Made → Left
tag_left p = on_part value_left residual p

-- what an attribute holds; an unknown alone may have a value
abbrev pub part_left : Scope → Part Made → Left
part_left s (left (unknown n a)) = mapped n a (s.values n)
part_left s p = tag_left p

-- the part of this name, or the error that it is missing
abbrev pub part_or_missing : (Part Made → Left) → Text → List (Text × Part Made) → Left
part_or_missing next a ps = option_map_or next (lookup (bytes_eq a) ps) (errs missing_attribute_or_tag)

-- whether a part of this name is there
abbrev pub part_there : Text → List (Text × Part Made) → Left
part_there a ps = truth_left (is_some (lookup (bytes_eq a) ps))

abbrev pub made_named : Text → MadeFields → Option Made
made_named a no_made_fields = None
made_named a (made_field b m fs) = if bytes_eq a b then Some m else made_named a fs

-- an attribute of a value
abbrev pub attribute_of : Scope → Text → Made → Left
attribute_of s a (made_prim (entity u)) = by_found (λ e. part_or_missing (part_left s) a e.attributes) (errs (missing_entity u)) (residual (get_attr (stand_in u) a)) (s.store u)
attribute_of s a (made_record fs) = option_map_or value_left (made_named a fs) (errs missing_field)
attribute_of s a m = errs wrong_type

-- whether a value has an attribute
abbrev pub test_of : Scope → Text → Made → Left
test_of s a (made_prim (entity u)) = by_found (λ e. part_there a e.attributes) (truth_left false) (residual (has_attr (stand_in u) a)) (s.store u)
test_of s a (made_record fs) = truth_left (is_some (made_named a fs))
test_of s a m = errs wrong_type

-- a step on a path to an attribute: false where it is missing, and of one that is an expression the rest of the path is left
abbrev pub path_step : (Made → Left) → Text → List Text → Option (Part Made) → Left
path_step next b bs found = option_map_or (on_part next (λ t. residual (path_test t b bs))) found (truth_left false)

-- whether a path of attributes leads on from a value; of the last one its presence alone is asked
abbrev pub path_of : Scope → Text → List Text → Made → Left
path_of s a [] m = test_of s a m
path_of s a (b ∷ bs) (made_prim (entity u)) =
    by_found (λ e. path_step (path_of s b bs) b bs (lookup (bytes_eq a) e.attributes)) (truth_left false) (residual (has_path (stand_in u) a (b ∷ bs))) (s.store u)
path_of s a (b ∷ bs) (made_record fs) = option_map_or (path_of s b bs) (made_named a fs) (truth_left false)
path_of s a (b ∷ bs) m = errs wrong_type

-- a tag, and whether it is there
abbrev pub get_tag_found : Uid → Text → Found Made → Left
get_tag_found u a found = by_found (λ e. part_or_missing tag_left a e.tags) (errs (missing_entity u)) (residual (binary get_tag (stand_in u) (lit (text a)))) found

abbrev pub has_tag_found : Uid → Text → Found Made → Left
has_tag_found u a found = by_found (λ e. part_there a e.tags) (truth_left false) (residual (binary has_tag (stand_in u) (lit (text a)))) found

-- a tag of an entity, whose name is a text
abbrev pub tag_of : (Uid → Text → Found Made → Left) → Scope → Made → Made → Left
tag_of found s (made_prim (entity u)) (made_prim (text a)) = found u a (s.store u)
tag_of found s m m' = errs wrong_type

-- what `in` answers of a uid that was looked up
abbrev pub in_found : Uid → Made → Found Made → Left
in_found u m found = by_found (λ e. left_of (is_in_some e.ancestors u (uids_in (bare m)))) (left_of (is_in_some [] u (uids_in (bare m)))) (residual (binary is_in (stand_in u) (written m))) found

abbrev pub in_of : Scope → Made → Made → Left
in_of s (made_prim (entity u)) m = in_found u m (s.store u)
in_of s m m' = errs wrong_type

-- an operator of two operands at their values; but for those that ask the store it has its outcome
abbrev pub combined_left : Scope → BinaryOp → Made → Made → Left
combined_left s is_in m n = in_of s m n
combined_left s get_tag m n = tag_of get_tag_found s m n
combined_left s has_tag m n = tag_of has_tag_found s m n
combined_left s o m n = option_map_or left_of (combined (known_world s) o (bare m) (bare n)) (errs wrong_type)

-- the entity type of a uid, and that with which an unknown is annotated
abbrev pub kind_of_value : Made → Option Name
kind_of_value m = option_map (λ u. u.kind) (uid_of (bare m))

abbrev pub kind_of_unknown : Tree → Option Name
kind_of_unknown (unknown n (Some (entity_core k))) = Some k
kind_of_unknown t = None

abbrev pub differ : Option Name → Option Name → Bool
differ (Some m) (Some n) = not (name_eq m n)
differ m n = false

-- An operator of which one operand at least is a residual: it stays, but entities of two types are not equal.
abbrev pub with_residual : BinaryOp → Option Name → Option Name → Tree → Tree → Left
with_residual equal j k a b = if differ j k then truth_left false else residual (binary equal a b)
with_residual o j k a b = residual (binary o a b)

-- what a call answers
abbrev pub answer_left : MadeCalled → Left
answer_left (makes m) = value_left m
answer_left (faults e) = errs (extension_failed e)
answer_left (leaves_unknown n) = residual (unknown n None)

abbrev pub call_left : Scope → Name → List Made → Signature → Left
call_left s f ms g = if takes_count g (length ms) then (if are_of_types g.parameters (map bare ms) then answer_left (s.calls f ms) else errs wrong_type) else errs wrong_count

abbrev pub called_left : Scope → Name → List Made → Left
called_left s f ms = option_map_or (call_left s f ms) (signature_of s.table f) (errs no_function)

-- Sets of values as they were made: of equal ones the first stands.
abbrev pub made_inserted : Made → Mades → Mades
made_inserted m no_mades = made m no_mades
made_inserted m (made n ns) = match_ordering (value_cmp (bare m) (bare n)) (made m (made n ns)) (made m ns) (made n (made_inserted m ns))

abbrev pub made_members : List Made → Mades
made_members [] = no_mades
made_members (m ∷ ms) = made_inserted m (made_members ms)

-- what is left of several: a value or an expression of each, or why the first that stopped did
pub data Pieces : Type 0 where
  pieces : List (Part Made) → Pieces
  halted : Stop → Pieces

abbrev pub with_piece : Left → Pieces → Pieces
with_piece (stopped s) ps = halted s
with_piece l (halted s) = halted s
with_piece (value_left m) (pieces ps) = pieces (known m ∷ ps)
with_piece (residual r) (pieces ps) = pieces (left r ∷ ps)

-- what is made of them where each is a value, else their expressions in their places
abbrev pub from_pieces : (List Made → Left) → (List Tree → Tree) → Pieces → Left
from_pieces next rebuilt (halted s) = stopped s
from_pieces next rebuilt (pieces ps) = option_map_or next (all_known ps) (residual (rebuilt (map part_tree ps)))

-- the fields of these names and values
abbrev pub made_fields : List (Text × Made) → MadeFields
made_fields [] = no_made_fields
made_fields (p ∷ ps) = made_field p.0 p.1 (made_fields ps)

-- the record of fields of these names
abbrev pub record_left : List Text → Pieces → Left
record_left names ps = from_pieces (λ ms. value_left (made_record (made_fields (zip names ms)))) (λ ts. record_literal (tree_fields (zip names ts))) ps
