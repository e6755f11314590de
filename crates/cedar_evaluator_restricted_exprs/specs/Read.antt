-- What is read off a restricted expression.
-- Rule: restricted expressions (docs/RULES.md).
use Rattle.std.specs.Prelude.{List, ℤ, Bool, Option, Some, None}
use Rattle.std.specs.List.{list_all}
use Rattle.cedar_expr_model.specs.Name.{Text, Name}
use Rattle.cedar_expr_model.specs.Uid.{Uid}
use Rattle.cedar_expr_model.specs.Parts.{listed, listed_fields}
use Rattle.cedar_expr_model.specs.Restricted.{is_restricted}
use Rattle.cedar_expr_model.specs.Tree.{Tree, lit, call, set_literal, record_literal}
use Rattle.cedar_expr_model.specs.Made.{written}
use Rattle.cedar_expr_model.specs.Value.{Literal, truth, long, text, entity}
use Rattle.cedar_evaluator_model.specs.Scope.{Left, value_left, residual, stopped}

-- each of these expressions is restricted
abbrev pub are_restricted : List Tree → Bool
are_restricted ts = list_all is_restricted ts

-- the literal that an expression is, and what it holds
abbrev pub literal_read : Tree → Option Literal
literal_read (lit p) = Some p
literal_read t = None

abbrev pub truth_held : Literal → Option Bool
truth_held (truth b) = Some b
truth_held p = None

abbrev pub long_held : Literal → Option ℤ
long_held (long n) = Some n
long_held p = None

abbrev pub text_held : Literal → Option Text
text_held (text s) = Some s
text_held p = None

abbrev pub uid_held : Literal → Option Uid
uid_held (entity u) = Some u
uid_held p = None

-- the members of a set, the fields of a record, and the function and arguments of a call
abbrev pub members_read : Tree → Option (List Tree)
members_read (set_literal ts) = Some (listed ts)
members_read t = None

abbrev pub fields_read : Tree → Option (List (Text × Tree))
fields_read (record_literal fs) = Some (listed_fields fs)
fields_read t = None

abbrev pub call_read : Tree → Option (Name × List Tree)
call_read (call f ts) = Some (f, listed ts)
call_read t = None

-- the expression of what is left, where something is
abbrev pub expr_left : Left → Option Tree
expr_left (value_left m) = Some (written m)
expr_left (residual r) = Some r
expr_left (stopped s) = None

-- each field of a record is restricted
abbrev pub have_restricted : List (Text × Tree) → Bool
have_restricted ps = list_all (λ (p : Text × Tree). is_restricted p.1) ps
