-- Literals and values.
-- Rule: values and equality (docs/RULES.md).
use Rattle.std.specs.Prelude.{ℤ, List, [], ◌∷◌, Bool, Option, Some, None, if◌then◌else◌}
use Rattle.std.specs.Str.{bytes_eq}
use Rattle.cedar_expr_model.specs.Name.{Text, Name}
use Rattle.cedar_expr_model.specs.Uid.{Uid}

-- A literal: a truth value, a whole number of 64 bits with its sign, a text, or a uid.
pub data Literal : Type 0 where
  truth : Bool → Literal
  long : ℤ → Literal
  text : Text → Literal
  entity : Uid → Literal
  deriving IsSet as Literal-set

-- A value: a literal, a set, a record, or an extension value, which is told by its type and its key alone.
mutual
  pub data V : Type 0 where
    prim : Literal → V
    set_of : Vs → V
    record_of : Fields → V
    extension : Name → Text → V

  pub data Vs : Type 0 where
    no_values : Vs
    value : V → Vs → Vs

  pub data Fields : Type 0 where
    no_fields : Fields
    field : Text → V → Fields → Fields

-- the truth value as a value
abbrev pub truth_value : Bool → V
truth_value b = prim (truth b)

-- the members of a list of values
abbrev pub values_list : Vs → List V
values_list no_values = []
values_list (value v vs) = v ∷ values_list vs

-- the value of the field of this name
abbrev pub field_of : Text → Fields → Option V
field_of a no_fields = None
field_of a (field b v fs) = if bytes_eq a b then Some v else field_of a fs
