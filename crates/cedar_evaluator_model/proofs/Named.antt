-- Names for steps of partial evaluation, and for annotations that fit, that proofs take apart.
use Rattle.std.specs.Prelude.{List, ◌∷◌, zip, Option, false, codes}
use Rattle.std.specs.Option.{option_map_or}
use Rattle.std.specs.Map.{lookup, keys_of, values_of}
use Rattle.std.specs.Str.{bytes_eq}
use Rattle.cedar_expr_model.specs.Name.{Text, Name, name_eq}
use Rattle.cedar_expr_model.specs.Uid.{Uid}
use Rattle.cedar_expr_model.specs.Tree.{Tree, get_attr, has_attr, has_path, Trees, TreeFields, is_type}
use Rattle.cedar_expr_model.specs.Parts.{listed_fields}
use Rattle.cedar_expr_model.specs.Made.{Made, MadeFields, made_prim}
use Rattle.cedar_expr_model.specs.Table.{Signature}
use Rattle.cedar_expr_model.proofs.Gathering.{EachIn, EachAmong, EachInFields, each_in}
use Rattle.cedar_store_model.specs.Outcome.{missing_entity, no_function, unlinked_slot}
use Rattle.cedar_store_model.specs.World.{World, Found, by_found}
use Rattle.cedar_store_model.specs.Store.{stand_in}
use Rattle.cedar_evaluator_model.specs.Scope.{Scope, Left, residual, Context, value_left}
use Rattle.cedar_evaluator_model.specs.Steps.{errs, truth_left, part_left, part_or_missing, part_there, path_step, call_left, made_fields, kind_of_unknown}
use Rattle.cedar_evaluator_model.specs.Completion.{Fits, FitsAnnotations}
use Rattle.cedar_evaluator_model.specs.Reauthorize.{Outcome, and_next, context_bound, context_substituted}
use Rattle.cedar_expr_model.specs.Value.{entity}
use Rattle.cedar_expr_model.specs.Substitution.{Bindings}

-- what a slot leaves
abbrev pub slot_left : Option Uid → Left
slot_left bound = option_map_or (λ u. value_left (made_prim (entity u))) bound (errs unlinked_slot)

-- `is` of a residual
abbrev pub is_of_residual : Name → Tree → Left
is_of_residual n r = option_map_or (λ k. truth_left (name_eq k n)) (kind_of_unknown r) (residual (is_type r n))

-- the context of a request under values for unknowns
abbrev pub context_under : Scope → Bindings → Context → Outcome Context
context_under s env c = and_next (context_bound c (env (codes "context"))) (context_substituted s env)

-- what is read of an entity that was looked up
abbrev pub attribute_found : Scope → Uid → Text → Found Made → Left
attribute_found s u a f = by_found (λ e. part_or_missing (part_left s) a e.attributes) (errs (missing_entity u)) (residual (get_attr (stand_in u) a)) f

abbrev pub test_found : Uid → Text → Found Made → Left
test_found u a f = by_found (λ e. part_there a e.attributes) (truth_left false) (residual (has_attr (stand_in u) a)) f

abbrev pub path_found : (Made → Left) → Uid → Text → Text → List Text → Found Made → Left
path_found next u a b bs f = by_found (λ e. path_step next b bs (lookup (bytes_eq a) e.attributes)) (truth_left false) (residual (has_path (stand_in u) a (b ∷ bs))) f

-- a call of a function that the table has or has not
abbrev pub call_of : Scope → Name → List Made → Option Signature → Left
call_of s f ms g = option_map_or (call_left s f ms) g (errs no_function)

-- the names and the expressions of fields, and fields of these names
abbrev pub field_names : TreeFields → List Text
field_names fs = keys_of (listed_fields fs)

abbrev pub field_trees : TreeFields → List Tree
field_trees fs = values_of (listed_fields fs)

abbrev pub fields_named : List Text → List Made → MadeFields
fields_named names ms = made_fields (zip names ms)

-- the world's values fit the annotations
abbrev pub FitsIn : World → Tree → Type 0
FitsIn w t = EachIn (λ n a. Fits a (w.unknowns n)) t

abbrev pub FitsAmong : World → Trees → Type 0
FitsAmong w ts = EachAmong (λ n a. Fits a (w.unknowns n)) ts

abbrev pub FitsInFields : World → TreeFields → Type 0
FitsInFields w fs = EachInFields (λ n a. Fits a (w.unknowns n)) fs

pub fits_in : (w : World) (t : Tree) → FitsAnnotations w t → FitsIn w t
fits_in w t f = (each_in (λ n a. Fits a (w.unknowns n)) t).0 f

pub fits_annotations : (w : World) (t : Tree) → FitsIn w t → FitsAnnotations w t
fits_annotations w t f = (each_in (λ n a. Fits a (w.unknowns n)) t).1 f
