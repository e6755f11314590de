-- What a policy names keeps a test where each part of its condition does, and what its slots are bound to.
use Rattle.std.proofs.Common.{◌≡◌, Bool, true, false, List, [], ◌∷◌, ◌++◌, ◌&&◌, Option, Some, None, refl, ap, sym, ◌∙◌}
use Rattle.std.specs.Prelude.{map, option_to_list}
use Rattle.std.specs.List.{list_all, filter_map}
use Rattle.std.specs.Option.{option_map_or}
use Rattle.std.proofs.lemmas.List.Folds.{list_all-append, list_all-map}
use Rattle.cedar_expr_model.specs.Name.{Name}
use Rattle.cedar_expr_model.specs.Uid.{Uid}
use Rattle.cedar_expr_model.specs.Value.{Literal, truth, long, text, entity}
use Rattle.cedar_expr_model.specs.Tree.{Tree, lit, is_type, var, slot, unknown, choice, both, either, unary, binary, call, get_attr, has_attr, has_path, like, set_literal, record_literal}
use Rattle.cedar_expr_model.specs.Parts.{subexpressions, uid_here}
use Rattle.cedar_gate_rules.specs.Rules.{keeps_with, keeps_uid, keeps_here, names_known}
use Rattle.cedar_gate_rules.specs.declared.rules.ScopeRule.{ScopeRule}
use Rattle.cedar_gate_rules.specs.declared.rules.ScopeRule.TheVariants.{KnownTypes, KnownActions, KnownMembers}
use Rattle.cedar_schema_model.specs.Schema.{Schema}
use Rattle.cedar_typechecker_model.specs.ScopeRules.{kind_here, policy_uids, policy_kinds, is_known_type, is_no_unknown_action, is_no_unknown_member}
use Rattle.cedar_store_model.specs.Policy.{Policy, condition}

bound_keeps : (f : Uid → Bool) (o : Option Uid) → list_all f (option_to_list o) ≡ option_map_or f o true
bound_keeps f None = refl
bound_keeps f (Some u) = and_true (f u)
  where
    and_true : (b : Bool) → (b && true) ≡ b
    and_true true = refl
    and_true false = refl

middle : (a b c : Bool) → (b && (a && c)) ≡ (a && (b && c))
middle true true c = refl
middle true false c = refl
middle false true c = refl
middle false false c = refl

grouped : (a b c : Bool) → (a && (b && c)) ≡ ((a && b) && c)
grouped true b c = refl
grouped false b c = refl

module _ (f : Uid → Bool) (g : Name → Bool) where
  literal : (p : Literal) (ts : List Tree) → list_all (keeps_with f g) ts ≡ (list_all f (filter_map uid_here ts) && list_all g (filter_map kind_here ts))
      → list_all (keeps_with f g) (lit p ∷ ts) ≡ (list_all f (filter_map uid_here (lit p ∷ ts)) && list_all g (filter_map kind_here (lit p ∷ ts)))
  literal (entity u) ts h = ap (λ b. f u && b) h ∙ grouped (f u) (list_all f (filter_map uid_here ts)) (list_all g (filter_map kind_here ts))
  literal (truth b) ts h = h
  literal (long n) ts h = h
  literal (text s) ts h = h

  -- of each part by itself
  pub parts_keep : (ts : List Tree) → list_all (keeps_with f g) ts ≡ (list_all f (filter_map uid_here ts) && list_all g (filter_map kind_here ts))
  parts_keep [] = refl
  parts_keep (lit p ∷ ts) = literal p ts (parts_keep ts)
  parts_keep (is_type e n ∷ ts) = ap (λ b. g n && b) (parts_keep ts) ∙ middle (list_all f (filter_map uid_here ts)) (g n) (list_all g (filter_map kind_here ts))
  parts_keep (var x ∷ ts) = parts_keep ts
  parts_keep (slot s ∷ ts) = parts_keep ts
  parts_keep (unknown m t ∷ ts) = parts_keep ts
  parts_keep (choice t a b ∷ ts) = parts_keep ts
  parts_keep (both a b ∷ ts) = parts_keep ts
  parts_keep (either a b ∷ ts) = parts_keep ts
  parts_keep (unary o a ∷ ts) = parts_keep ts
  parts_keep (binary o a b ∷ ts) = parts_keep ts
  parts_keep (call m as_ ∷ ts) = parts_keep ts
  parts_keep (get_attr a m ∷ ts) = parts_keep ts
  parts_keep (has_attr a m ∷ ts) = parts_keep ts
  parts_keep (has_path a m ms ∷ ts) = parts_keep ts
  parts_keep (like a p ∷ ts) = parts_keep ts
  parts_keep (set_literal as_ ∷ ts) = parts_keep ts
  parts_keep (record_literal fs ∷ ts) = parts_keep ts

all_pass : {X : Type 0} (xs : List X) → list_all (λ _. true) xs ≡ true
all_pass [] = refl
all_pass (x ∷ xs) = all_pass xs

-- the uids of a policy
pub uids_keep : (f : Uid → Bool) (p : Policy) → list_all f (policy_uids p) ≡ (list_all f (filter_map uid_here (subexpressions (condition p))) && (option_map_or f p.bindings.principal true && option_map_or f p.bindings.resource true))
uids_keep f p =
    let xs = filter_map uid_here (subexpressions (condition p)) in
    let as_ = option_to_list p.bindings.principal in
    let bs = option_to_list p.bindings.resource in
    list_all-append f xs (as_ ++ bs)
    ∙ ap (λ b. list_all f xs && b) (list_all-append f as_ bs ∙ ap (λ b. b && list_all f bs) (bound_keeps f p.bindings.principal) ∙ ap (λ b. option_map_or f p.bindings.principal true && b) (bound_keeps f p.bindings.resource))

abbrev pub bound_keep : (Uid → Bool) → Policy → Bool
bound_keep f p = option_map_or f p.bindings.principal true && option_map_or f p.bindings.resource true

swapped : (a b c : Bool) → ((a && c) && b) ≡ ((a && b) && c)
swapped true true c = and_true c
  where
    and_true : (b : Bool) → (b && true) ≡ b
    and_true true = refl
    and_true false = refl
swapped true false true = refl
swapped true false false = refl
swapped false b c = refl

with_true : (a c : Bool) → (a && c) ≡ ((a && true) && c)
with_true true c = refl
with_true false c = refl

-- where nothing is asked of `is` tests
pub uids_named : (f : Uid → Bool) (p : Policy) → list_all f (policy_uids p) ≡ (list_all (keeps_with f (λ _. true)) (subexpressions (condition p)) && bound_keep f p)
uids_named f p =
    let ts = subexpressions (condition p) in
    uids_keep f p
    ∙ with_true (list_all f (filter_map uid_here ts)) (bound_keep f p)
    ∙ ap (λ b. (list_all f (filter_map uid_here ts) && b) && bound_keep f p) (sym (all_pass (filter_map kind_here ts)))
    ∙ ap (λ b. b && bound_keep f p) (sym (parts_keep f (λ _. true) ts))

-- the entity types of a policy
pub kinds_named : (g : Name → Bool) (p : Policy) → list_all g (policy_kinds p) ≡ (list_all (keeps_with (λ u. g u.kind) g) (subexpressions (condition p)) && bound_keep (λ u. g u.kind) p)
kinds_named g p =
    let ts = subexpressions (condition p) in
    let f : Uid → Bool = λ u. g u.kind in
    let xs = filter_map kind_here ts in
    list_all-append g (map (λ u. u.kind) (policy_uids p)) xs
    ∙ ap (λ b. b && list_all g xs) (list_all-map g (λ (u : Uid). u.kind) (policy_uids p) ∙ uids_keep f p)
    ∙ swapped (list_all f (filter_map uid_here ts)) (list_all g xs) (bound_keep f p)
    ∙ ap (λ b. b && bound_keep f p) (sym (parts_keep f g ts))

-- a policy keeps a rule where each part of its condition does, and what its slots are bound to
pub rule_kept : (r : ScopeRule) (s : Schema) (p : Policy) → names_known r s p ≡ (list_all (keeps_here s r) (subexpressions (condition p)) && (option_map_or (keeps_uid s r) p.bindings.principal true && option_map_or (keeps_uid s r) p.bindings.resource true))
rule_kept KnownTypes s p = kinds_named (is_known_type s) p
rule_kept KnownActions s p = uids_named (is_no_unknown_action s) p
rule_kept KnownMembers s p = uids_named (is_no_unknown_member s) p
