-- The lists of violations and the counts of targets are those of the relations.
use Rattle.std.proofs.Common.{◌≡◌, ◌↔◌, ℕ, Bool, true, false, List, [], ◌∷◌, None, refl, sym, subst, ◌⊎◌}
use Rattle.std.specs.Prelude.{Contains, if◌then◌else◌}
use Rattle.std.specs.Str.{bytes_eq}
use Rattle.cedar_expr_model.specs.Name.{Text}
use Rattle.cedar_expr_model.specs.Uid.{Uid, uid_eq}
use Rattle.cedar_expr_model.specs.Value.{Literal, entity}
use Rattle.cedar_expr_model.specs.Tree.{get_tag, Tree, lit, var, slot, unknown, choice, both, either, unary, binary, call, get_attr, has_attr, has_path, like, is_type, set_literal, record_literal, Trees, no_trees, tree, TreeFields, no_tree_fields, tree_field}
use Rattle.cedar_expr_model.proofs.Equality.{uid_eq-Decides}
use Rattle.cedar_typechecker_model.specs.Facts.{Facts, union}
use Rattle.cedar_typechecker_model.specs.Rules.{Setting}
use Rattle.cedar_typechecker_model.specs.Typing.{Types, judgement}
use Rattle.cedar_store_model.specs.Looks.{looks_up}
use Rattle.cedar_typechecker_model.specs.Levels.{Violation, count, joined, further, stepped, literal_count, entity_steps, fields_before, violations, violations_among, violations_in_fields, target, target_in_fields}
use Rattle.cedar_typechecker_model.specs.Dereferences.{AfterTest, Further, Reaches, ReachesByField, TooFar, LiteralHas, IsViolation, IsAmong, IsInFields, TargetHas, FieldsHave}
use Rattle.cedar_typechecker_model.proofs.Typing.{exact}
use Rattle.cedar_typechecker_model.proofs.Counting.{Lists, Counts, lists_same, lists_none, lists_one, lists_both, lists_where, counts_same, counts_zero, counts_joined, counts_further, counts_where, lists_stepped, lists_and, lists_or, lists_test, counts_test, lists_standing, counts_standing, lists_path}

literal_by : (s : Setting) (u : Uid) (b : Bool) → uid_eq u s.env.action ≡ b → Counts (λ k. k ≡ 0) (LiteralHas s (entity u)) (if b then count 0 [] else count 0 (record { at = lit (entity u); required = None } ∷ []))
literal_by s u true e = counts_same _ _ _ _ _ counts_zero (λ k. (λ h. h, λ h. h)) (λ v. (λ h. h.0 ((uid_eq-Decides u s.env.action).0 e), λ h. absurd h))
literal_by s u false e = record {
  alone = λ k h. h;
  here = refl;
  found = lists_same _ _ _ (lists_one (record { at = lit (entity u); required = None })) (λ v. (λ h. h.1, λ h. ((λ q. (let d = (uid_eq-Decides u s.env.action).1 q in cc)), h)));
}

literal_counts : (s : Setting) (p : Literal) → Counts (λ k. k ≡ 0) (LiteralHas s p) (literal_count s p)
literal_counts s (entity u) = literal_by s u (uid_eq u s.env.action) refl
literal_counts s p = counts_zero

mutual
  pub violations_listed : (n : ℕ) (s : Setting) (known : Facts) (t : Tree) → Lists (IsViolation n s known t) (violations n s known t)
  violations_listed n s known (lit p) = lists_none
  violations_listed n s known (var x) = lists_none
  violations_listed n s known (slot x) = lists_none
  violations_listed n s known (unknown m a) = lists_none
  violations_listed n s known (choice t a b) =
      lists_both (IsViolation n s known t) (λ v. AfterTest (Types s known t) (λ f. IsViolation n s (union known f) a v) (IsViolation n s known b v)) (violations n s known t) _ (violations_listed n s known t)
      (lists_test (Types s known t) (judgement s known t) (exact s known t) (λ f. IsViolation n s (union known f) a) (IsViolation n s known b) (λ f. violations n s (union known f) a) (violations n s known b) (λ f. violations_listed n s (union known f) a) (violations_listed n s known b))
  violations_listed n s known (both a b) =
      lists_both (IsViolation n s known a) _ (violations n s known a) _ (violations_listed n s known a)
      (lists_and (Types s known a) (judgement s known a) (exact s known a) (λ f. IsViolation n s (union known f) b) (λ f. violations n s (union known f) b) (λ f. violations_listed n s (union known f) b))
  violations_listed n s known (either a b) =
      lists_both (IsViolation n s known a) _ (violations n s known a) _ (violations_listed n s known a)
      (lists_or (Types s known a) (judgement s known a) (exact s known a) (IsViolation n s known b) (violations n s known b) (violations_listed n s known b))
  violations_listed n s known (unary o a) = violations_listed n s known a
  violations_listed n s known (binary o a b) =
      lists_both _ (IsViolation n s known b) _ (violations n s known b)
      (lists_where (looks_up o) (λ v. TooFar n (binary o a b) 1 (Reaches s known [] a) v ⊎ TargetHas n s known [] a v) (IsViolation n s known a) (stepped n (binary o a b) (further 1 (target n s known [] a))) (violations n s known a)
      (lists_stepped n (binary o a b) 1 (Reaches s known [] a) (TargetHas n s known [] a) (target n s known [] a) (target_counted n s known [] a)) (violations_listed n s known a))
      (violations_listed n s known b)
  violations_listed n s known (call f ts) = among_listed n s known ts
  violations_listed n s known (get_attr e a) =
      lists_standing (Types s known e) (judgement s known e) (exact s known e) (λ v. TooFar n (get_attr e a) 1 (Reaches s known [] e) v ⊎ TargetHas n s known [] e v) (IsViolation n s known e) (stepped n (get_attr e a) (further 1 (target n s known [] e))) (violations n s known e)
      (lists_stepped n (get_attr e a) 1 (Reaches s known [] e) (TargetHas n s known [] e) (target n s known [] e) (target_counted n s known [] e)) (violations_listed n s known e)
  violations_listed n s known (has_attr e a) =
      lists_standing (Types s known e) (judgement s known e) (exact s known e) (λ v. TooFar n (has_attr e a) 1 (Reaches s known [] e) v ⊎ TargetHas n s known [] e v) (IsViolation n s known e) (stepped n (has_attr e a) (further 1 (target n s known [] e))) (violations n s known e)
      (lists_stepped n (has_attr e a) 1 (Reaches s known [] e) (TargetHas n s known [] e) (target n s known [] e) (target_counted n s known [] e)) (violations_listed n s known e)
  violations_listed n s known (has_path e a bs) =
      lists_path n (has_path e a bs) (Types s known e) (judgement s known e) (exact s known e) (entity_steps s a bs) refl (fields_before s a bs) (λ path. Reaches s known path e) (λ path. TargetHas n s known path e) (λ path. target n s known path e)
      (IsViolation n s known e) (violations n s known e) (λ path. target_counted n s known path e) (violations_listed n s known e)
  violations_listed n s known (like e p) = violations_listed n s known e
  violations_listed n s known (is_type e m) = violations_listed n s known e
  violations_listed n s known (set_literal ts) = among_listed n s known ts
  violations_listed n s known (record_literal fs) = in_fields_listed n s known fs

  among_listed : (n : ℕ) (s : Setting) (known : Facts) (ts : Trees) → Lists (IsAmong n s known ts) (violations_among n s known ts)
  among_listed n s known no_trees = lists_none
  among_listed n s known (tree e es) = lists_both (IsViolation n s known e) (IsAmong n s known es) (violations n s known e) (violations_among n s known es) (violations_listed n s known e) (among_listed n s known es)

  in_fields_listed : (n : ℕ) (s : Setting) (known : Facts) (fs : TreeFields) → Lists (IsInFields n s known fs) (violations_in_fields n s known fs)
  in_fields_listed n s known no_tree_fields = lists_none
  in_fields_listed n s known (tree_field a e fs) = lists_both (IsViolation n s known e) (IsInFields n s known fs) (violations n s known e) (violations_in_fields n s known fs) (violations_listed n s known e) (in_fields_listed n s known fs)

  pub target_counted : (n : ℕ) (s : Setting) (known : Facts) (path : List Text) (t : Tree) → Counts (Reaches s known path t) (TargetHas n s known path t) (target n s known path t)
  target_counted n s known path (lit p) = literal_counts s p
  target_counted n s known path (slot x) = record { alone = λ k h. h; here = refl; found = lists_one _ }
  target_counted n s known path (choice t a b) =
      counts_joined (IsViolation n s known t) _ _ (violations n s known t) _ (violations_listed n s known t)
      (counts_test (Types s known t) (judgement s known t) (exact s known t) (λ f. Reaches s (union known f) path a) (Reaches s known path b) (λ f. TargetHas n s (union known f) path a) (TargetHas n s known path b) (λ f. target n s (union known f) path a) (target n s known path b)
      (λ f. target_counted n s (union known f) path a) (target_counted n s known path b))
  target_counted n s known path (get_attr e a) =
      counts_standing (Types s known e) (judgement s known e) (exact s known e) (Further 1 (Reaches s known [] e)) (Reaches s known (a ∷ path) e) (TargetHas n s known [] e) (TargetHas n s known (a ∷ path) e) (further 1 (target n s known [] e)) (target n s known (a ∷ path) e)
      (counts_further 1 (Reaches s known [] e) (TargetHas n s known [] e) (target n s known [] e) (target_counted n s known [] e)) (target_counted n s known (a ∷ path) e)
  target_counted n s known path (binary get_tag a b) =
      counts_joined (IsViolation n s known b) _ _ (violations n s known b) _ (violations_listed n s known b) (counts_further 1 (Reaches s known [] a) (TargetHas n s known [] a) (target n s known [] a) (target_counted n s known [] a))
  target_counted n s known path (record_literal fs) = fields_counted n s known path fs
  target_counted n s known path e = counts_zero

  fields_counted : (n : ℕ) (s : Setting) (known : Facts) (path : List Text) (fs : TreeFields) → Counts (ReachesByField s known path fs) (FieldsHave n s known path fs) (target_in_fields n s known path fs)
  fields_counted n s known path no_tree_fields = counts_zero
  fields_counted n s known [] (tree_field b e fs) = counts_joined (IsViolation n s known e) _ _ (violations n s known e) _ (violations_listed n s known e) (fields_counted n s known [] fs)
  fields_counted n s known (a ∷ path) (tree_field b e fs) =
      counts_where (bytes_eq a b) (Reaches s known path e) (ReachesByField s known (a ∷ path) fs) (λ v. IsInFields n s known fs v ⊎ TargetHas n s known path e v) (λ v. IsViolation n s known e v ⊎ FieldsHave n s known (a ∷ path) fs v)
      (joined (violations_in_fields n s known fs) (target n s known path e)) (joined (violations n s known e) (target_in_fields n s known (a ∷ path) fs))
      (counts_joined (IsInFields n s known fs) _ _ (violations_in_fields n s known fs) _ (in_fields_listed n s known fs) (target_counted n s known path e))
      (counts_joined (IsViolation n s known e) _ _ (violations n s known e) _ (violations_listed n s known e) (fields_counted n s known (a ∷ path) fs))

pub violations_are_listed : (n : ℕ) (s : Setting) (known : Facts) (t : Tree) (v : Violation) → Contains (violations n s known t) v ↔ IsViolation n s known t v
violations_are_listed n s known t v = ((violations_listed n s known t).only v, (violations_listed n s known t).has v)

pub counts_are_exact : (n : ℕ) (s : Setting) (known : Facts) (path : List Text) (t : Tree) (k : ℕ) → Reaches s known path t k ↔ (k ≡ (target n s known path t).steps)
counts_are_exact n s known path t k = ((target_counted n s known path t).alone k, λ e. subst (Reaches s known path t) (sym e) (target_counted n s known path t).here)

pub targets_are_listed : (n : ℕ) (s : Setting) (known : Facts) (path : List Text) (t : Tree) (v : Violation) → Contains (target n s known path t).found v ↔ TargetHas n s known path t v
targets_are_listed n s known path t v = ((target_counted n s known path t).found.only v, (target_counted n s known path t).found.has v)
