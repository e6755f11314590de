-- What values, entities and residual records are found to be.
-- Rule: partial evaluation (docs/RULES.md).
use Rattle.std.specs.Prelude.{◌≡◌, List, map, Option, Some, None}
use Rattle.std.specs.declared.alloc.Global.{Global}
use Rattle.std.specs.declared.collections.BTreeMap.{BTreeMap}
use Rattle.std.specs.declared.rc.RcStr.{RcStr}
use Rattle.std.specs.Borrow.{Bor}
use Rattle.cedar_expr_names.specs.Views.{uid_of}
use Rattle.cedar_expr_model.specs.Name.{Text}
use Rattle.cedar_expr_model.specs.Uid.{Uid}
use Rattle.cedar_expr_model.specs.Value.{entity}
use Rattle.cedar_expr_model.specs.Made.{Made, MadeFields, made_prim, made_record}
use Rattle.cedar_expr_model.specs.Tree.{Tree, get_attr, has_attr, record_literal}
use Rattle.cedar_expr_model.specs.Builder.{tree_fields}
use Rattle.cedar_expr_values.specs.Values.{made_fields, made_pair}
use Rattle.cedar_expr_values.specs.Extensions.{extension_of}
use Rattle.cedar_expr_values.specs.declared.value.Value.{Value}
use Rattle.cedar_expr_values.specs.declared.extension.ExtValue.{ExtValue}
use Rattle.cedar_expr_trees.specs.Trees.{tree_of, named, field_trees}
use Rattle.cedar_expr_trees.specs.declared.expr.Expr.{Expr}
use Rattle.cedar_store_model.specs.Outcome.{wrong_type}
use Rattle.cedar_store_model.specs.Store.{stand_in}
use Rattle.cedar_store_model.specs.World.{Found, held, missing, not_loaded}
use Rattle.cedar_store_entities.specs.Views.{entity_seen}
use Rattle.cedar_store_entities.specs.declared.entity.Entity.{Entity}
use Rattle.cedar_store_entities.specs.declared.entities.Dereference.{Dereference}
use Rattle.cedar_store_entities.specs.declared.entities.Dereference.TheVariants as found
use Rattle.cedar_evaluator_model.specs.Scope.{Scope, Left, residual}
use Rattle.cedar_evaluator_model.specs.Steps.{errs, attribute_of, test_of, path_of}
use Rattle.cedar_evaluator_model.specs.Evaluation.{get_of_residual, has_of_residual}
use Rattle.cedar_evaluator_reads.specs.declared.seen.Seen.{Seen}
use Rattle.cedar_evaluator_reads.specs.declared.seen.Seen.TheVariants as seen

-- the fields of a record of values
abbrev pub record_fields : BTreeMap (RcStr Global) (Value ExtValue) Global → MadeFields
record_fields m = made_fields (map (made_pair extension_of) m.entries)

-- what the store answers for the uid
abbrev pub IsFound : Found Made → Uid → Dereference Entity → Type 0
IsFound f u found.NoSuchEntity = f ≡ missing
IsFound f u (found.Residual e) = (f ≡ not_loaded) × (tree_of e ≡ stand_in u)
IsFound f u (found.Data e) = f ≡ held (entity_seen e.now)

-- The value is this entity, this record, or neither, and has no attributes.
abbrev pub IsSeenAs : Made → Seen → Type 0
IsSeenAs m (seen.Entity u) = m ≡ made_prim (entity (uid_of u.now.value))
IsSeenAs m (seen.Record fs) = m ≡ made_record (made_fields (map (made_pair extension_of) fs.now.entries))
IsSeenAs m seen.Neither = ((s : Scope) (a : Text) → attribute_of s a m ≡ errs wrong_type) × ((s : Scope) (a : Text) → test_of s a m ≡ errs wrong_type)

-- The residual is this record, or none, and then it stays where it is asked for a field.
abbrev pub IsRecord : Tree → Option (Bor (BTreeMap (RcStr Global) (Expr Unit) Global)) → Type 0
IsRecord t (Some m) = t ≡ record_literal (tree_fields (named (field_trees m.now.entries)))
IsRecord t None = ((go : Tree → Left) (a : Text) → get_of_residual go a t ≡ residual (get_attr t a)) × ((a : Text) → has_of_residual a t ≡ residual (has_attr t a))
