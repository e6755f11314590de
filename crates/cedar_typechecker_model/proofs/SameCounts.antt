-- A walk along a typed expression meets the violations that the counts list, and counts the same steps.
use Rattle.std.proofs.Common.{◌≡◌, ℕ, ◌<◌, Bool, true, false, List, [], ◌∷◌, ◌++◌, None, refl, ap, ◌∙◌}
use Rattle.std.specs.Prelude.{max, if◌then◌else◌}
use Rattle.std.specs.Str.{bytes_eq}
use Rattle.cedar_expr_model.specs.Name.{Text}
use Rattle.cedar_expr_model.specs.Value.{truth, long, text, entity}
use Rattle.cedar_expr_model.specs.Tree.{BinaryOp, equal, less, less_or_equal, plus, difference, times, remainder, is_in, contains, contains_all, contains_any, get_tag, has_tag, Tree, lit, var, slot, unknown, choice, both, either, unary, binary, call, get_attr, has_attr, has_path, like, is_type, set_literal, record_literal, Trees, no_trees, tree, TreeFields, no_tree_fields, tree_field}
use Rattle.cedar_expr_model.specs.Uid.{uid_eq}
use Rattle.cedar_store_model.specs.Looks.{looks_up}
use Rattle.cedar_typechecker_model.specs.Rules.{Setting}
use Rattle.cedar_typechecker_model.specs.Levels.{Violation, Count, count, joined, further, needed, stepped, is_entity, literal_count, entity_steps, fields_before}
use Rattle.cedar_typechecker_model.specs.Typed.{Marks, MarkRow}
use Rattle.cedar_typechecker_model.specs.Counts.{top, parts, head, rest, first, second, third, violations_at, violations_in_row, violations_in_field_row, target_at, target_in_field_row}
use Rattle.cedar_typechecker_model.specs.Reported.{further_on, may_be_true, may_be_false, taken, taken_steps, too_far, steps, steps_in_fields, reported, reported_in_row, reported_in_fields, reached, reached_in_fields}
use Rattle.cedar_typechecker_model.proofs.Numbers.{needed_again}
use Rattle.cedar_typechecker_model.proofs.Choices.{and_is, or_is, choice_is, target_found_is, target_steps_is, step_is, path_is}

module _ (n : ℕ) (small : n < 4294967296) (s : Setting) where
  -- steps and violations are those of a count
  pub record IsCount (k : ℕ) (vs : List Violation) (c : Count) : Type 0 where
    pub steps : k ≡ needed c.steps
    pub found : vs ≡ c.found

  pub record Agrees (t : Tree) (m : Marks) : Type 0 where
    pub here : reported n s t m ≡ violations_at n s t m
    pub far : (path : List Text) → IsCount (steps path t m) (reached n s path t m) (target_at n s path t m)

  pub record RowAgrees (ts : Trees) (row : MarkRow) : Type 0 where
    pub here : reported_in_row n s ts row ≡ violations_in_row n s ts row

  pub record FieldsAgree (fs : TreeFields) (row : MarkRow) : Type 0 where
    pub here : reported_in_fields n s fs row ≡ violations_in_field_row n s fs row
    pub far : (path : List Text) → IsCount (steps_in_fields path fs row) (reached_in_fields n s path fs row) (target_in_field_row n s path fs row)

  nothing : IsCount 0 [] (count 0 [])
  nothing = record { steps = refl; found = refl }

  -- a count where a test decides
  where_ : (b : Bool) (j k : ℕ) (vs ws : List Violation) (c d : Count) → IsCount j vs c → IsCount k ws d → IsCount (if b then j else k) (if b then vs else ws) (if b then c else d)
  where_ true j k vs ws c d x y = x
  where_ false j k vs ws c d x y = y

  -- a count one step further, and with the violations of a part
  on : (j : ℕ) (vs : List Violation) (c : Count) → IsCount j vs c → IsCount (further_on 1 j) vs (further 1 c)
  on j vs c x = record { steps = ap (further_on 1) x.steps ∙ needed_again c.steps 1; found = x.found }

  with_part : (j : ℕ) (us ws vs : List Violation) (c : Count) → us ≡ ws → IsCount j vs c → IsCount j (us ++ vs) (joined ws c)
  with_part j us ws vs c e x = record { steps = x.steps; found = λ i. e i ++ x.found i }

  literal_is : (path : List Text) (m : Marks) (p : _) → IsCount 0 (literal_count s p).found (literal_count s p)
  literal_is path m (entity u) = by (uid_eq u s.env.action)
    where
      by : (b : Bool) → IsCount 0 (if b then count 0 [] else count 0 (record { at = lit (entity u); required = None } ∷ [])).found (if b then count 0 [] else count 0 (record { at = lit (entity u); required = None } ∷ []))
      by true = record { steps = refl; found = refl }
      by false = record { steps = refl; found = refl }
  literal_is path m (truth b) = record { steps = refl; found = refl }
  literal_is path m (long k) = record { steps = refl; found = refl }
  literal_is path m (text a) = record { steps = refl; found = refl }

  -- a step on an entity, or none
  step_or : (b : Bool) (x e : Tree) (m : Marks) → Agrees e m → (if b then (too_far n x (further_on 1 (steps [] e m)) ++ reached n s [] e m) else reported n s e m) ≡ (if b then stepped n x (further 1 (target_at n s [] e m)) else violations_at n s e m)
  step_or true x e m h = step_is n x 1 _ _ (target_at n s [] e m) small (h.far []).steps (h.far []).found
  step_or false x e m h = h.here

  choice_far : (t a b : Tree) (m : Marks) → Agrees t (first m) → Agrees a (second m) → Agrees b (third m) → (path : List Text) → IsCount (steps path (choice t a b) m) (reached n s path (choice t a b) m) (target_at n s path (choice t a b) m)
  choice_far t a b m x y z path =
      let c : Count = target_at n s path a (second m) in
      let d : Count = target_at n s path b (third m) in
      record {
        steps = (λ i. max (taken_steps (may_be_true (top (first m))) ((y.far path).steps i)) (taken_steps (may_be_false (top (first m))) ((z.far path).steps i))) ∙ target_steps_is (top (first m)) c d;
        found =
            (λ i. x.here i ++ (taken (may_be_true (top (first m))) ((y.far path).found i) ++ taken (may_be_false (top (first m))) ((z.far path).found i)))
            ∙ ap (λ vs. violations_at n s t (first m) ++ vs) (target_found_is (top (first m)) c d);
      }

  choice_agrees : (t a b : Tree) (m : Marks) → Agrees t (first m) → Agrees a (second m) → Agrees b (third m) → Agrees (choice t a b) m
  choice_agrees t a b m x y z = record {
    here =
        (λ i. x.here i ++ (taken (may_be_true (top (first m))) (y.here i) ++ taken (may_be_false (top (first m))) (z.here i)))
        ∙ ap (λ vs. violations_at n s t (first m) ++ vs) (choice_is (top (first m)) (violations_at n s a (second m)) (violations_at n s b (third m)));
    far = choice_far t a b m x y z;
  }

  tag_far : (o : BinaryOp) (a b : Tree) (m : Marks) → Agrees a (first m) → Agrees b (second m) → (path : List Text) → IsCount (steps path (binary o a b) m) (reached n s path (binary o a b) m) (target_at n s path (binary o a b) m)
  tag_far get_tag a b m x y path = with_part _ _ _ _ (further 1 (target_at n s [] a (first m))) y.here (on _ _ (target_at n s [] a (first m)) (x.far []))
  tag_far equal a b m x y path = nothing
  tag_far less a b m x y path = nothing
  tag_far less_or_equal a b m x y path = nothing
  tag_far plus a b m x y path = nothing
  tag_far difference a b m x y path = nothing
  tag_far times a b m x y path = nothing
  tag_far remainder a b m x y path = nothing
  tag_far is_in a b m x y path = nothing
  tag_far contains a b m x y path = nothing
  tag_far contains_all a b m x y path = nothing
  tag_far contains_any a b m x y path = nothing
  tag_far has_tag a b m x y path = nothing

  path_agrees : (e : Tree) (a : Text) (bs : List Text) (m : Marks) → Agrees e (first m) → Agrees (has_path e a bs) m
  path_agrees e a bs m x =
      let path : List Text = fields_before s a bs (top (first m)) in
      record {
        here = path_is n (has_path e a bs) (entity_steps s a bs (top (first m))) _ _ _ _ (target_at n s path e (first m)) small (x.far path).steps (x.far path).found x.here;
        far = λ path. nothing;
      }

  no_field : (fs : TreeFields) (row : MarkRow) → FieldsAgree fs row → IsCount 0 (reached_in_fields n s [] fs row) (target_in_field_row n s [] fs row)
  no_field no_tree_fields row y = y.far []
  no_field (tree_field b e fs) row y = y.far []

  fields_far : (b : Text) (e : Tree) (fs : TreeFields) (row : MarkRow) → Agrees e (head row) → FieldsAgree fs (rest row) → (path : List Text) → IsCount (steps_in_fields path (tree_field b e fs) row) (reached_in_fields n s path (tree_field b e fs) row) (target_in_field_row n s path (tree_field b e fs) row)
  fields_far b e fs row x y [] = with_part _ _ _ _ (target_in_field_row n s [] fs (rest row)) x.here (no_field fs (rest row) y)
  fields_far b e fs row x y (a ∷ path) = where_ (bytes_eq a b) _ _ _ _ (joined (violations_in_field_row n s fs (rest row)) (target_at n s path e (head row))) (joined (violations_at n s e (head row)) (target_in_field_row n s (a ∷ path) fs (rest row)))
      (with_part _ _ _ _ (target_at n s path e (head row)) y.here (x.far path))
      (with_part _ _ _ _ (target_in_field_row n s (a ∷ path) fs (rest row)) x.here (y.far (a ∷ path)))

  mutual
    agrees : (t : Tree) (m : Marks) → Agrees t m
    agrees (lit p) m = record { here = refl; far = λ path. literal_is path m p }
    agrees (var x) m = record { here = refl; far = λ path. nothing }
    agrees (slot x) m = record { here = refl; far = λ path. record { steps = refl; found = refl } }
    agrees (unknown x a) m = record { here = refl; far = λ path. nothing }
    agrees (choice t a b) m = choice_agrees t a b m (agrees t (first m)) (agrees a (second m)) (agrees b (third m))
    agrees (both a b) m = record {
      here = (λ i. (agrees a (first m)).here i ++ taken (may_be_true (top (first m))) ((agrees b (second m)).here i)) ∙ ap (λ vs. violations_at n s a (first m) ++ vs) (and_is (top (first m)) (violations_at n s b (second m)));
      far = λ path. nothing;
    }
    agrees (either a b) m = record {
      here = (λ i. (agrees a (first m)).here i ++ taken (may_be_false (top (first m))) ((agrees b (second m)).here i)) ∙ ap (λ vs. violations_at n s a (first m) ++ vs) (or_is (top (first m)) (violations_at n s b (second m)));
      far = λ path. nothing;
    }
    agrees (unary o a) m = record { here = (agrees a (first m)).here; far = λ path. nothing }
    agrees (binary o a b) m = record {
      here = λ i. step_or (looks_up o) (binary o a b) a (first m) (agrees a (first m)) i ++ (agrees b (second m)).here i;
      far = tag_far o a b m (agrees a (first m)) (agrees b (second m));
    }
    agrees (call f ts) m = record { here = (row_agrees ts (parts m)).here; far = λ path. nothing }
    agrees (get_attr e a) m = record {
      here = step_or (is_entity (top (first m))) (get_attr e a) e (first m) (agrees e (first m));
      far = λ path. where_ (is_entity (top (first m))) _ _ _ _ (further 1 (target_at n s [] e (first m))) (target_at n s (a ∷ path) e (first m)) (on _ _ (target_at n s [] e (first m)) ((agrees e (first m)).far [])) ((agrees e (first m)).far (a ∷ path));
    }
    agrees (has_attr e a) m = record { here = step_or (is_entity (top (first m))) (has_attr e a) e (first m) (agrees e (first m)); far = λ path. nothing }
    agrees (has_path e a bs) m = path_agrees e a bs m (agrees e (first m))
    agrees (like e p) m = record { here = (agrees e (first m)).here; far = λ path. nothing }
    agrees (is_type e k) m = record { here = (agrees e (first m)).here; far = λ path. nothing }
    agrees (set_literal ts) m = record { here = (row_agrees ts (parts m)).here; far = λ path. nothing }
    agrees (record_literal fs) m = record { here = (fields_agree fs (parts m)).here; far = λ path. (fields_agree fs (parts m)).far path }

    row_agrees : (ts : Trees) (row : MarkRow) → RowAgrees ts row
    row_agrees no_trees row = record { here = refl }
    row_agrees (tree e es) row = record { here = λ i. (agrees e (head row)).here i ++ (row_agrees es (rest row)).here i }

    fields_agree : (fs : TreeFields) (row : MarkRow) → FieldsAgree fs row
    fields_agree no_tree_fields row = record { here = refl; far = none }
      where
        none : (path : List Text) → IsCount 0 [] (count 0 [])
        none path = nothing
    fields_agree (tree_field b e fs) row = record {
      here = λ i. (agrees e (head row)).here i ++ (fields_agree fs (rest row)).here i;
      far = fields_far b e fs row (agrees e (head row)) (fields_agree fs (rest row));
    }

pub reported_is : (n : ℕ) (s : Setting) (t : Tree) (m : Marks) → n < 4294967296 → reported n s t m ≡ violations_at n s t m
reported_is n s t m small = (agrees n small s t m).here
