-- Values with the calls that make their extension values, and the expressions that they are written as.
-- Rule: values and equality; extension functions (docs/RULES.md).
use Rattle.std.specs.Prelude.{List, map}
use Rattle.cedar_expr_model.specs.Name.{Text, Name}
use Rattle.cedar_expr_model.specs.Value.{Literal, V, prim, set_of, record_of, extension, Vs, no_values, value, Fields, no_fields, field}
use Rattle.cedar_expr_model.specs.Builder.{trees}
use Rattle.cedar_expr_model.specs.Tree.{Tree, lit, call, set_literal, record_literal, Trees, no_trees, tree, TreeFields, no_tree_fields, tree_field}

-- A value as it was made. An extension value has its type, its key, and the function and literals of a call that makes it.
mutual
  pub data Made : Type 0 where
    made_prim : Literal → Made
    made_set : Mades → Made
    made_record : MadeFields → Made
    made_extension : Name → Text → Name → List Literal → Made

  pub data Mades : Type 0 where
    no_mades : Mades
    made : Made → Mades → Mades

  pub data MadeFields : Type 0 where
    no_made_fields : MadeFields
    made_field : Text → Made → MadeFields → MadeFields

-- the value alone
abbrev mutual
  pub bare : Made → V
  bare (made_prim p) = prim p
  bare (made_set ms) = set_of (bares ms)
  bare (made_record fs) = record_of (bare_fields fs)
  bare (made_extension n k f ps) = extension n k

  pub bares : Mades → Vs
  bares no_mades = no_values
  bares (made m ms) = value (bare m) (bares ms)

  pub bare_fields : MadeFields → Fields
  bare_fields no_made_fields = no_fields
  bare_fields (made_field a m fs) = field a (bare m) (bare_fields fs)

-- the expression that a value is written as
abbrev mutual
  pub written : Made → Tree
  written (made_prim p) = lit p
  written (made_set ms) = set_literal (writtens ms)
  written (made_record fs) = record_literal (written_fields fs)
  written (made_extension n k f ps) = call f (trees (map lit ps))

  pub writtens : Mades → Trees
  writtens no_mades = no_trees
  writtens (made m ms) = tree (written m) (writtens ms)

  pub written_fields : MadeFields → TreeFields
  written_fields no_made_fields = no_tree_fields
  written_fields (made_field a m fs) = tree_field a (written m) (written_fields fs)
