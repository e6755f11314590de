-- How far an expression reaches into the store. Counts stand on the typed expression: what typing doesn't reach doesn't count.
-- Rule: levels (docs/RULES.md).
use Rattle.std.specs.Prelude.{◌+◌, ℕ, zero, suc, max, min, nat_le, List, [], ◌∷◌, ◌++◌, Bool, Option, Some, None, is_some, option_and_then, if◌then◌else◌}
use Rattle.std.specs.Option.{option_map_or}
use Rattle.std.specs.Str.{bytes_eq}
use Rattle.cedar_expr_model.specs.Name.{Text}
use Rattle.cedar_expr_model.specs.Uid.{uid_eq}
use Rattle.cedar_expr_model.specs.Value.{Literal, entity}
use Rattle.cedar_expr_model.specs.Tree.{get_tag, Tree, lit, slot, choice, both, either, unary, binary, call, get_attr, has_attr, has_path, like, is_type, set_literal, record_literal, Trees, no_trees, tree, TreeFields, no_tree_fields, tree_field}
use Rattle.cedar_schema_model.specs.Types.{only_true, only_false, Ty, bool_type}
use Rattle.cedar_typechecker_model.specs.Facts.{Facts, union}
use Rattle.cedar_typechecker_model.specs.Rules.{Setting, entity_kinds}
use Rattle.cedar_store_model.specs.Looks.{looks_up}
use Rattle.cedar_typechecker_model.specs.Typing.{Judgement, judgement, type_under, step_type}

-- Where an expression reaches too far, and the level that it needs; none where a literal or a slot is reached from.
pub record Violation : Type 0 where
  pub at : Tree
  pub required : Option ℕ

-- how many steps from the request an entity lies, and the violations on the way
pub record Count : Type 0 where
  pub steps : ℕ
  pub found : List Violation

abbrev pub count : ℕ → List Violation → Count
count k vs = record { steps = k; found = vs }

-- with the violations of a part
abbrev pub joined : List Violation → Count → Count
joined vs c = count c.steps (vs ++ c.found)

abbrev pub further : ℕ → Count → Count
further k c = count (c.steps + k) c.found

-- the level needed, of 32 bits; the number after the greatest stands for any greater one
abbrev pub needed : ℕ → ℕ
needed k = min k 4294967296

-- a step from a target: within the level, or a violation on the whole of it
abbrev pub stepped : ℕ → Tree → Count → List Violation
stepped n e c = if nat_le c.steps n then c.found else (record { at = e; required = Some (needed c.steps) } ∷ c.found)

abbrev pub is_entity : Option Ty → Bool
is_entity t = is_some (option_and_then entity_kinds t)

-- a uid that is reached from must be the action of the environment
abbrev pub literal_count : Setting → Literal → Count
literal_count s (entity u) = if uid_eq u s.env.action then count 0 [] else count 0 (record { at = lit (entity u); required = None } ∷ [])
literal_count s p = count 0 []

-- What typing reaches behind an expression of this type that decides: nothing behind False, nothing behind True, or the branch of a choice.
abbrev pub unless_false : Ty → List Violation → List Violation
unless_false (bool_type only_false) vs = []
unless_false t vs = vs

abbrev pub unless_true : Ty → List Violation → List Violation
unless_true (bool_type only_true) vs = []
unless_true t vs = vs

abbrev pub branches : {A : Type 0} → (A → A → A) → Ty → A → A → A
branches join (bool_type only_true) a b = a
branches join (bool_type only_false) a b = b
branches join t a b = join a b

-- the right side of a conjunction, or of a disjunction, by the type of the left and under its facts
abbrev pub after : (Ty → List Violation → List Violation) → Option Judgement → (Facts → List Violation) → List Violation
after unless left right = option_map_or (λ j. unless j.type (right j.facts)) left []

abbrev pub after_test : Option Judgement → (Facts → List Violation) → List Violation → List Violation
after_test test first second = option_map_or (λ j. branches (λ vs ws. vs ++ ws) j.type (first j.facts) second) test []

-- of two branches the greater count
abbrev pub target_after_test : Option Judgement → (Facts → Count) → Count → Count
target_after_test test first second = option_map_or (λ j. branches (λ c d. count (max c.steps d.steps) (c.found ++ d.found)) j.type (first j.facts) second) test (count 0 [])

-- The steps of a path that stand on an entity. The first test of type False asks for what isn't declared, and ends the path.
abbrev pub entity_steps : Setting → Text → List Text → Option Ty → ℕ
entity_steps s a bs None = 0
entity_steps s a [] (Some t) = if is_entity (Some t) then 1 else 0
entity_steps s a (b ∷ bs) (Some t) = (if is_entity (Some t) then 1 else 0) + entity_steps s b bs (step_type s t a)

-- the fields of records by which a path reaches its first entity
abbrev pub fields_before : Setting → Text → List Text → Option Ty → List Text
fields_before s a bs None = []
fields_before s a [] (Some t) = if is_entity (Some t) then [] else a ∷ []
fields_before s a (b ∷ bs) (Some t) = if is_entity (Some t) then [] else a ∷ fields_before s b bs (step_type s t a)

-- the violations of a path: its steps on entities as one, or what its operand has
abbrev pub path_violations : ℕ → Tree → ℕ → Count → List Violation → List Violation
path_violations n e zero target inside = inside
path_violations n e (suc k) target inside = stepped n e (further (suc k) target)

-- whether an attribute of this type's part is a step into the store
abbrev pub on_entity : Setting → Facts → Tree → Bool
on_entity s known e = is_entity (type_under s known e)

abbrev mutual
  -- The violations of an expression at a level.
  pub violations : ℕ → Setting → Facts → Tree → List Violation
  violations n s known (choice t a b) = violations n s known t ++ after_test (judgement s known t) (λ f. violations n s (union known f) a) (violations n s known b)
  violations n s known (both a b) = violations n s known a ++ after unless_false (judgement s known a) (λ f. violations n s (union known f) b)
  violations n s known (either a b) = violations n s known a ++ after unless_true (judgement s known a) (λ f. violations n s known b)
  violations n s known (unary o a) = violations n s known a
  violations n s known (binary o a b) = (if looks_up o then stepped n (binary o a b) (further 1 (target n s known [] a)) else violations n s known a) ++ violations n s known b
  violations n s known (call f ts) = violations_among n s known ts
  violations n s known (get_attr e a) = if on_entity s known e then stepped n (get_attr e a) (further 1 (target n s known [] e)) else violations n s known e
  violations n s known (has_attr e a) = if on_entity s known e then stepped n (has_attr e a) (further 1 (target n s known [] e)) else violations n s known e
  violations n s known (has_path e a bs) =
      path_violations n (has_path e a bs) (entity_steps s a bs (type_under s known e)) (target n s known (fields_before s a bs (type_under s known e)) e) (violations n s known e)
  violations n s known (like e p) = violations n s known e
  violations n s known (is_type e m) = violations n s known e
  violations n s known (set_literal ts) = violations_among n s known ts
  violations n s known (record_literal fs) = violations_in_fields n s known fs
  violations n s known e = []

  pub violations_among : ℕ → Setting → Facts → Trees → List Violation
  violations_among n s known no_trees = []
  violations_among n s known (tree e es) = violations n s known e ++ violations_among n s known es

  pub violations_in_fields : ℕ → Setting → Facts → TreeFields → List Violation
  violations_in_fields n s known no_tree_fields = []
  violations_in_fields n s known (tree_field a e fs) = violations n s known e ++ violations_in_fields n s known fs

  -- How far the entity lies that the fields of the path lead to from an expression. Expressions of other kinds lead to no entity.
  pub target : ℕ → Setting → Facts → List Text → Tree → Count
  target n s known path (lit p) = literal_count s p
  target n s known path (slot x) = count 0 (record { at = slot x; required = None } ∷ [])
  target n s known path (choice t a b) = joined (violations n s known t) (target_after_test (judgement s known t) (λ f. target n s (union known f) path a) (target n s known path b))
  target n s known path (get_attr e a) = if on_entity s known e then further 1 (target n s known [] e) else target n s known (a ∷ path) e
  target n s known path (binary get_tag a b) = joined (violations n s known b) (further 1 (target n s known [] a))
  target n s known path (record_literal fs) = target_in_fields n s known path fs
  target n s known path e = count 0 []

  -- the field on the path; the others are expressions of their own
  pub target_in_fields : ℕ → Setting → Facts → List Text → TreeFields → Count
  target_in_fields n s known path no_tree_fields = count 0 []
  target_in_fields n s known [] (tree_field b e fs) = joined (violations n s known e) (target_in_fields n s known [] fs)
  target_in_fields n s known (a ∷ path) (tree_field b e fs) =
      if bytes_eq a b then joined (violations_in_fields n s known fs) (target n s known path e) else joined (violations n s known e) (target_in_fields n s known (a ∷ path) fs)
