-- Values whose extension values a table makes by the calls that they are written as.
-- Rule: extension functions (docs/RULES.md).
use Rattle.std.specs.Prelude.{◌≡◌, List, map}
use Rattle.cedar_expr_model.specs.Name.{Name}
use Rattle.cedar_expr_model.specs.Made.{Made, made_prim, made_set, made_record, made_extension, Mades, no_mades, made, MadeFields, no_made_fields, made_field, bares}
use Rattle.cedar_expr_model.specs.Table.{Table, gives}
use Rattle.cedar_expr_model.specs.OfLaws.Fair.{IsTaken}
use Rattle.cedar_expr_model.specs.Value.{Literal, V, prim, extension, Vs}

-- The table has the function, which takes these literals and answers this value.
abbrev pub Makes : Table → Name → List Literal → V → Type 0
Makes x f ps v = IsTaken x f (map prim ps) × (x.answers f (map prim ps) ≡ gives v)

-- Each extension value in it is what its call gives, and this holds of the members of each set.
abbrev mutual
  pub IsMade : (Vs → Type 0) → Table → Made → Type 0
  IsMade Q x (made_prim p) = Unit {0}
  IsMade Q x (made_set ms) = AreMade Q x ms × Q (bares ms)
  IsMade Q x (made_record fs) = HaveMade Q x fs
  IsMade Q x (made_extension n k f ps) = Makes x f ps (extension n k)

  pub AreMade : (Vs → Type 0) → Table → Mades → Type 0
  AreMade Q x no_mades = Unit {0}
  AreMade Q x (made m ms) = IsMade Q x m × AreMade Q x ms

  pub HaveMade : (Vs → Type 0) → Table → MadeFields → Type 0
  HaveMade Q x no_made_fields = Unit {0}
  HaveMade Q x (made_field a m fs) = IsMade Q x m × HaveMade Q x fs

-- of sets nothing is asked
abbrev pub IsRepresented : Table → Made → Type 0
IsRepresented x m = IsMade (λ vs. Unit {0}) x m
