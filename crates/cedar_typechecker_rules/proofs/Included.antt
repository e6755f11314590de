-- `in` by what is decided where the policy is written, and by the types.
use Rattle.std.proofs.Common.{◌≡◌, ◌||◌, Bool, true, false, List, [], ◌∷◌, map, Option, Some, None, option_map, option_and_then, refl, sym, ap, ◌∙◌}
use Rattle.std.specs.Prelude.{if◌then◌else◌}
use Rattle.std.specs.List.{list_any}
use Rattle.std.specs.Option.{option_map_or}
use Rattle.cedar_expr_model.specs.Name.{Name, name_eq}
use Rattle.cedar_expr_model.specs.Uid.{Uid}
use Rattle.cedar_expr_model.specs.Builder.{trees}
use Rattle.cedar_expr_model.specs.Lists.{all_given}
use Rattle.cedar_expr_model.specs.Parts.{listed}
use Rattle.cedar_expr_model.specs.Tree.{Tree, lit, var, slot, unknown, choice, both, either, unary, binary, call, get_attr, has_attr, has_path, like, is_type, set_literal, record_literal, Trees}
use Rattle.cedar_schema_model.specs.Schema.{Schema}
use Rattle.cedar_schema_model.specs.Types.{Ty, bool_type, any_bool, only_false}
use Rattle.cedar_typechecker_model.specs.Rules.{Setting, known_truth, written_action, written_actions, action_literal, may_be_in, within_kinds, entity_kinds, entity_or_set_kinds, in_type}
use Rattle.cedar_typechecker_rules.specs.Decided.{is_within, within_some, decided_in}
use Rattle.cedar_typechecker_rules.specs.Uids.{set_here}

-- nothing is in nothing
pub in_nothing : (s : Schema) (ms : List Name) → may_be_in s (Some ms) (Some []) ≡ false
in_nothing s [] = refl
in_nothing s (m ∷ ms) = in_nothing s ms

-- what an expression writes, by whether it is a set
abbrev by_members : Setting → Tree → Option Trees → Option (List Uid)
by_members s t None = option_map (λ u. u ∷ []) (action_literal s t)
by_members s t (Some ts) = all_given (action_literal s) (listed ts)

written_by : (s : Setting) (t : Tree) → written_actions s t ≡ by_members s t (set_here t)
written_by s (lit p) = refl
written_by s (var x) = refl
written_by s (slot x) = refl
written_by s (unknown n a) = refl
written_by s (choice t a b) = refl
written_by s (both a b) = refl
written_by s (either a b) = refl
written_by s (unary o a) = refl
written_by s (binary o a b) = refl
written_by s (call f ts) = refl
written_by s (get_attr t a) = refl
written_by s (has_attr t a) = refl
written_by s (has_path t a bs) = refl
written_by s (like t p) = refl
written_by s (is_type t n) = refl
written_by s (set_literal ts) = refl
written_by s (record_literal fs) = refl

or_false : (b : Bool) → (b || false) ≡ b
or_false true = refl
or_false false = refl

pub written_in_set : (s : Setting) (u : Uid) (t : Tree) (ts : Trees) → Some ts ≡ set_here t → within_some s u (written_actions s t) ≡ within_some s u (all_given (action_literal s) (listed ts))
written_in_set s u t ts e = ap (within_some s u) (written_by s t ∙ ap (by_members s t) (sym e))

pub written_alone : (s : Setting) (u : Uid) (t : Tree) (o : Option Uid) → None ≡ set_here t → o ≡ action_literal s t → within_some s u (written_actions s t) ≡ option_map (is_within s u) o
written_alone s u t o e h = ap (within_some s u) (written_by s t ∙ ap (by_members s t) (sym e) ∙ ap (option_map (λ u. u ∷ [])) (sym h)) ∙ alone o
  where
    alone : (o : Option Uid) → within_some s u (option_map (λ u. u ∷ []) o) ≡ option_map (is_within s u) o
    alone None = refl
    alone (Some v) = ap Some (or_false (is_within s u v))

-- the type by what is decided, and by the types
abbrev by_decided : Setting → Option Bool → Option (List Name) → Option (List Name) → Ty
by_decided s (Some b) k l = bool_type (known_truth b)
by_decided s None k l = bool_type (if may_be_in s.schema k l then any_bool else only_false)

kinds_decided : (s : Setting) (u : Option Uid) (us : Option (List Uid)) (k l : Option (List Name)) → within_kinds s u us k l ≡ by_decided s (option_and_then (λ v. within_some s v us) u) k l
kinds_decided s None None k l = refl
kinds_decided s None (Some us) k l = refl
kinds_decided s (Some u) None k l = refl
kinds_decided s (Some u) (Some us) k l = refl

pub in_type_is : (s : Setting) (a b : Tree) (t u : Ty) → in_type s a b t u ≡ option_and_then (λ k. option_map (λ l. by_decided s (decided_in s a b) k l) (entity_or_set_kinds u)) (entity_kinds t)
in_type_is s a b t u = (λ i. option_and_then (λ k. option_map (λ l. kinds_decided s (written_action s a) (written_actions s b) k l i) (entity_or_set_kinds u)) (entity_kinds t))

listed_is : (ts : List Tree) → listed (trees ts) ≡ ts
listed_is [] = refl
listed_is (t ∷ ts) = ap (λ us. t ∷ us) (listed_is ts)

-- a walk along members: what was found, and then the rest
module _ (s : Setting) (u : Uid) where
  abbrev pub left_to_find : Bool → List Tree → Option Bool
  left_to_find found ts = option_map (λ vs. found || list_any (is_within s u) vs) (all_given (action_literal s) ts)

  pub found_first : (ts : List Tree) → left_to_find false ts ≡ within_some s u (all_given (action_literal s) (listed (trees ts)))
  found_first ts = ap (λ us. within_some s u (all_given (action_literal s) us)) (sym (listed_is ts))

  together : (x y z : Bool) → ((x || y) || z) ≡ (x || (y || z))
  together true y z = refl
  together false y z = refl

  more : (found : Bool) (v : Uid) (o : Option (List Uid)) → option_map (λ vs. (found || is_within s u v) || list_any (is_within s u) vs) o ≡ option_map (λ vs. found || list_any (is_within s u) vs) (option_map (λ vs. v ∷ vs) o)
  more found v None = refl
  more found v (Some vs) = ap Some (together found (is_within s u v) (list_any (is_within s u) vs))

  pub found_on : (found : Bool) (v : Uid) (t : Tree) (ts : List Tree) → Some v ≡ action_literal s t → left_to_find (found || is_within s u v) ts ≡ left_to_find found (t ∷ ts)
  found_on found v t ts e = more found v (all_given (action_literal s) ts) ∙ ap (λ o. option_map (λ vs. found || list_any (is_within s u) vs) (option_and_then (λ y. option_map (λ ys. y ∷ ys) (all_given (action_literal s) ts)) o)) e

  pub found_none : (found : Bool) (t : Tree) (ts : List Tree) → None ≡ action_literal s t → None ≡ left_to_find found (t ∷ ts)
  found_none found t ts e = ap (λ o. option_map (λ vs. found || list_any (is_within s u) vs) (option_and_then (λ y. option_map (λ ys. y ∷ ys) (all_given (action_literal s) ts)) o)) e

  pub found_end : (found : Bool) → Some found ≡ left_to_find found []
  found_end found = ap Some (sym (or_false found))
