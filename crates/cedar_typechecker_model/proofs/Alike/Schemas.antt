-- What schemas that answer alike say of types and in the scope rules.
use Rattle.std.proofs.Common.{◌≡◌, Bool, true, ◌||◌, not, List, Option, Some, None, is_some, refl, sym}
use Rattle.std.specs.Prelude.{option_and_then}
use Rattle.std.specs.Bool.{one_answer}
use Rattle.std.specs.List.{list_any, list_all}
use Rattle.cedar_expr_model.specs.Name.{Text, Name, name_eq}
use Rattle.cedar_expr_model.specs.Uid.{Uid}
use Rattle.cedar_expr_model.specs.Lists.{all_given}
use Rattle.cedar_store_model.specs.Policy.{Policy}
use Rattle.cedar_schema_model.specs.Types.{Ty, entity_types, record_type, is_open, is_closed}
use Rattle.cedar_schema_model.specs.Schema.{Schema, declares_type, declares_action}
use Rattle.cedar_schema_model.specs.Descent.{action_descends}
use Rattle.cedar_schema_model.specs.Lookup.{declared_by_all, lookup_attribute, may_have_attribute}
use Rattle.cedar_typechecker_model.specs.Rules.{may_be_in, tags_of}
use Rattle.cedar_typechecker_model.specs.ScopeRules.{is_known_type, is_no_unknown_action, policy_kinds, policy_uids, names_known_types, names_known_actions, names_known_members}
use Rattle.cedar_typechecker_model.specs.Alike.{AnswersAlike}

pub alike_back : (s t : Schema) → AnswersAlike s t → AnswersAlike t s
alike_back s t m = record {
  types = λ n. sym (m.types n);
  actions = λ u. sym (m.actions u);
  type_descent = λ k n. sym (m.type_descent k n);
  action_descent = λ u v. sym (m.action_descent u v);
  attributes = λ a n. sym (m.attributes a n);
  tags = λ n. sym (m.tags n);
  action_types = λ n. sym (m.action_types n);
  members = λ u. sym (m.members u);
  environments = λ e. let h = m.environments e in (h.1, h.0);
  above = λ n k. let h = m.above n k in (h.1, h.0);
}

-- tests that hold of each other
pub same_test : (a b : Bool) → (a ≡ true → b ≡ true) → (b ≡ true → a ≡ true) → a ≡ b
same_test a b f g = one_answer a b (λ h. h, λ h. h) (g, f)

module _ (s t : Schema) (m : AnswersAlike s t) where
  pub same_declares_type : (n : Name) → declares_type s n ≡ declares_type t n
  same_declares_type n = m.types n

  pub same_declares_action : (u : Uid) → declares_action s u ≡ declares_action t u
  same_declares_action u = m.actions u

  pub same_action_descends : (u v : Uid) → action_descends s u v ≡ action_descends t u v
  same_action_descends u v = m.action_descent u v

  pub same_may_be_in : (k l : Option (List Name)) → may_be_in s k l ≡ may_be_in t k l
  same_may_be_in (Some ms) (Some ns) = λ i. list_any (λ a. list_any (λ b. name_eq a b || m.type_descent a b i) ns) ms
  same_may_be_in (Some ms) None = refl
  same_may_be_in None l = refl

  -- attributes and tags
  pub same_lookup : (y : Ty) (a : Text) → lookup_attribute s y a ≡ lookup_attribute t y a
  same_lookup (entity_types ns) a = λ i. option_and_then declared_by_all (all_given (λ n. m.attributes a n i) ns)
  same_lookup y a = refl

  pub same_may_have : (y : Ty) (a : Text) → may_have_attribute s y a ≡ may_have_attribute t y a
  same_may_have (entity_types ns) a = λ i. list_any (λ n. is_some (m.attributes a n i)) ns
  same_may_have (record_type as_ is_open) a = refl
  same_may_have (record_type as_ is_closed) a = refl
  same_may_have y a = refl

  pub same_tags : (n : Name) → tags_of s n ≡ tags_of t n
  same_tags n = m.tags n

  -- the scope rules
  same_known_type : (n : Name) → is_known_type s n ≡ is_known_type t n
  same_known_type n = λ i. m.types n i || m.action_types n i

  same_no_unknown_action : (u : Uid) → is_no_unknown_action s u ≡ is_no_unknown_action t u
  same_no_unknown_action u = λ i. not (m.action_types u.kind i) || m.actions u i

  pub same_known_types : (p : Policy) → names_known_types s p ≡ names_known_types t p
  same_known_types p = λ i. list_all (λ n. same_known_type n i) (policy_kinds p)

  pub same_known_actions : (p : Policy) → names_known_actions s p ≡ names_known_actions t p
  same_known_actions p = λ i. list_all (λ u. same_no_unknown_action u i) (policy_uids p)

  pub same_known_members : (p : Policy) → names_known_members s p ≡ names_known_members t p
  same_known_members p = λ i. list_all (λ u. m.members u i) (policy_uids p)
