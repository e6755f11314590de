-- Typing by schemas that answer alike.
use Rattle.std.proofs.Common.{◌≡◌, ◌∙◌, true, ◌||◌, ◌&&◌, List, [], ◌∷◌, Option, Some, None, is_some, refl, option_map, if◌then◌else◌}
use Rattle.std.specs.Prelude.{option_and_then, find}
use Rattle.std.specs.List.{list_any}
use Rattle.cedar_expr_model.specs.Name.{Text, Name, name_eq}
use Rattle.cedar_expr_model.specs.Uid.{Uid, uid_eq}
use Rattle.cedar_expr_model.specs.Lists.{all_given}
use Rattle.cedar_expr_model.specs.Parts.{uid_here, listed}
use Rattle.cedar_expr_model.specs.Table.{Table}
use Rattle.cedar_expr_model.specs.Tree.{Var, principal, action, resource, context, SlotId, principal_slot, resource_slot, BinaryOp, equal, is_in, get_tag, has_tag, less, less_or_equal, contains, contains_all, contains_any, Tree, lit, var, slot, unknown, choice, both, either, unary, binary, call, get_attr, has_attr, has_path, like, is_type, set_literal, record_literal, Trees, no_trees, tree, TreeFields, no_tree_fields, tree_field}
use Rattle.cedar_expr_model.specs.Value.{truth, long, text, entity, Literal}
use Rattle.cedar_schema_model.specs.Environment.{Environment}
use Rattle.cedar_schema_model.specs.Join.{reduce_to_join, are_disjoint}
use Rattle.cedar_schema_model.specs.Schema.{Schema}
use Rattle.cedar_schema_model.specs.Types.{any_bool, only_true, only_false, Ty, any_entity, bool_type, long_type, any_set, set_type, extension_type, entity_types, entity_type, record_type, attribute, Mode, permissive}
use Rattle.cedar_typechecker_model.specs.Facts.{Facts, union, attribute_part, tag_part}
use Rattle.cedar_typechecker_model.specs.Rules.{Setting, known_truth, literal_type, var_type, slot_type, written_uid, written_equal, order_type, member_type, sets_type, action_literal, written_action, written_actions, within_kinds, entity_kinds, entity_or_set_kinds, in_type, binary_type, has_type, attribute_type, get_type, tag_type, may_have_tags, is_string_type, has_tag_type, get_tag_type, unary_type, like_type, is_type_type, set_literal_type, record_literal_type, signature_type, call_type}
use Rattle.cedar_typechecker_model.specs.Typing.{Judgement, plain, tested, chosen, step_type, and_judged, or_judged, path_judged, binary_judged, choice_judged, judgement, judgements, field_judgements, type_under}
use Rattle.cedar_typechecker_model.specs.Verdicts.{in_mode}
use Rattle.cedar_typechecker_model.specs.Alike.{AnswersAlike, HasSameSignatures}
use Rattle.cedar_typechecker_model.proofs.Alike.Schemas.{same_declares_type, same_declares_action, same_action_descends, same_may_be_in, same_lookup, same_may_have, same_tags}
use Rattle.cedar_typechecker_model.proofs.Named.{equal_type}

module _ (s t : Schema) (m : AnswersAlike s t) (mode : Mode) (x z : Table) (q : HasSameSignatures x z) (e : Environment) where
  abbrev pub first : Setting
  first = in_mode mode s x e

  abbrev pub second : Setting
  second = in_mode mode t z e

  same_literal : (p : Literal) → literal_type first p ≡ literal_type second p
  same_literal (truth b) = refl
  same_literal (long n) = refl
  same_literal (text c) = refl
  same_literal (entity u) = λ i. if same_declares_type s t m u.kind i || same_declares_action s t m u i then Some (entity_type u.kind) else None

  same_var : (v : Var) → var_type first v ≡ var_type second v
  same_var principal = refl
  same_var action = refl
  same_var resource = refl
  same_var context = refl

  same_slot : (i : SlotId) → slot_type first i ≡ slot_type second i
  same_slot principal_slot = refl
  same_slot resource_slot = refl

  -- operators
  same_written_uid : (a : Tree) → written_uid first a ≡ written_uid second a
  same_written_uid (var action) = refl
  same_written_uid a = refl

  same_written_equal : (o p : Option Uid) (y z : Ty) → written_equal first o p y z ≡ written_equal second o p y z
  same_written_equal (Some u) (Some v) y z = refl
  same_written_equal (Some u) None y z = refl
  same_written_equal None p y z = refl

  same_equal : (a b : Tree) (y z : Ty) → equal_type first a b y z ≡ equal_type second a b y z
  same_equal a b y z =
      (λ i. if are_disjoint y z then Some (bool_type only_false) else written_equal first (same_written_uid a i) (same_written_uid b i) y z)
      ∙ (λ i. if are_disjoint y z then Some (bool_type only_false) else same_written_equal (written_uid second a) (written_uid second b) y z i)

  same_order : (y z : Ty) → order_type first y z ≡ order_type second y z
  same_order long_type long_type = refl
  same_order (extension_type k) (extension_type l) = λ i. if name_eq k l && list_any (name_eq k) (q.ordered i) then Some (bool_type any_bool) else None
  same_order y z = refl

  same_member : (y z : Ty) → member_type first y z ≡ member_type second y z
  same_member any_set z = refl
  same_member (set_type y) z = refl
  same_member y z = refl

  same_sets : (y z : Ty) → sets_type first y z ≡ sets_type second y z
  same_sets y z = refl

  same_action_literal : (a : Tree) → action_literal first a ≡ action_literal second a
  same_action_literal a = λ i. option_and_then (λ u. if same_declares_action s t m u i then Some u else None) (uid_here a)

  same_written_action : (a : Tree) → written_action first a ≡ written_action second a
  same_written_action (var action) = refl
  same_written_action a = same_action_literal a

  same_written_actions : (a : Tree) → written_actions first a ≡ written_actions second a
  same_written_actions (set_literal ts) = λ i. all_given (λ a. same_action_literal a i) (listed ts)
  same_written_actions a = λ i. option_map (λ u. u ∷ []) (same_action_literal a i)

  same_kinds : (u : Option Uid) (us : Option (List Uid)) (k l : Option (List Name)) → within_kinds first u us k l ≡ within_kinds second u us k l
  same_kinds (Some u) (Some us) k l = λ i. bool_type (known_truth (list_any (λ v. uid_eq u v || same_action_descends s t m u v i) us))
  same_kinds (Some u) None k l = λ i. bool_type (if same_may_be_in s t m k l i then any_bool else only_false)
  same_kinds None us k l = λ i. bool_type (if same_may_be_in s t m k l i then any_bool else only_false)

  same_within : (a b : Tree) (k l : Option (List Name)) → within_kinds first (written_action first a) (written_actions first b) k l ≡ within_kinds second (written_action second a) (written_actions second b) k l
  same_within a b k l = (λ i. within_kinds first (same_written_action a i) (same_written_actions b i) k l) ∙ same_kinds (written_action second a) (written_actions second b) k l

  same_in : (a b : Tree) (y z : Ty) → in_type first a b y z ≡ in_type second a b y z
  same_in a b y z = λ i. option_and_then (λ k. option_map (λ l. same_within a b k l i) (entity_or_set_kinds z)) (entity_kinds y)

  same_binary : (o : BinaryOp) (a b : Tree) (y z : Ty) → binary_type first o a b y z ≡ binary_type second o a b y z
  same_binary equal a b y z = same_equal a b y z
  same_binary less a b y z = same_order y z
  same_binary less_or_equal a b y z = same_order y z
  same_binary is_in a b y z = same_in a b y z
  same_binary contains a b y z = same_member y z
  same_binary contains_all a b y z = same_sets y z
  same_binary contains_any a b y z = same_sets y z
  same_binary o a b y z = refl

  -- attributes and tags
  same_has : (y : Ty) (a : Text) → has_type first y a ≡ has_type second y a
  same_has (record_type as_ o) a = refl
  same_has y a = λ i. option_map (λ k. if same_may_have s t m y a i then any_bool else only_false) (entity_kinds y)

  same_get : (known : Facts) (r : Tree) (y : Ty) (a : Text) → get_type first known r y a ≡ get_type second known r y a
  same_get known r y a = λ i. attribute_type (known r (attribute_part a)) (same_lookup s t m y a i)

  same_tag : (y : Ty) → tag_type first y ≡ tag_type second y
  same_tag (entity_types ns) = λ i. option_and_then (reduce_to_join permissive) (all_given (λ n. same_tags s t m n i) ns)
  same_tag y = refl

  same_may_tags : (y : Ty) → may_have_tags first y ≡ may_have_tags second y
  same_may_tags any_entity = refl
  same_may_tags (entity_types ns) = λ i. list_any (λ n. is_some (same_tags s t m n i)) ns
  same_may_tags y = refl

  same_has_tag : (y z : Ty) → has_tag_type first y z ≡ has_tag_type second y z
  same_has_tag y z = λ i. if is_string_type z then option_map (λ k. if same_may_tags y i then any_bool else only_false) (entity_kinds y) else None

  same_get_tag : (known : Facts) (a b : Tree) (y z : Ty) → get_tag_type first known a b y z ≡ get_tag_type second known a b y z
  same_get_tag known a b y z = λ i. if is_string_type z && known a (tag_part b) then same_tag y i else None

  pub same_step : (y : Ty) (a : Text) → step_type first y a ≡ step_type second y a
  same_step y a = λ i. option_map (λ d. d.type) (same_lookup s t m y a i)

  same_path : (a : Text) (bs : List Text) (r : Tree) (y : Ty) → path_judged first a bs r y ≡ path_judged second a bs r y
  same_path a [] r y = λ i. option_map (tested r (attribute_part a)) (same_has y a i)
  same_path a (b ∷ bs) r y =
      λ i. option_and_then (λ j. and_judged (λ f. option_and_then (λ z. same_path b bs (get_attr r a) z i) (same_step y a i)) j.type j.facts) (option_map (tested r (attribute_part a)) (same_has y a i))

  same_binary_judged : (known : Facts) (o : BinaryOp) (a b : Tree) (y z : Ty) → binary_judged first known o a b y z ≡ binary_judged second known o a b y z
  same_binary_judged known get_tag a b y z = λ i. plain (same_get_tag known a b y z i)
  same_binary_judged known has_tag a b y z = λ i. option_map (tested a (tag_part b)) (same_has_tag y z i)
  same_binary_judged known o a b y z = λ i. plain (same_binary o a b y z i)

  same_chosen : (y : Ty) (f : Facts) (z : Ty) (g : Facts) → chosen first y f z g ≡ chosen second y f z g
  same_chosen y f z g = refl

  same_choice : (one : Facts → Option Judgement) (two : Option Judgement) (y : Ty) (f : Facts) → choice_judged first one two y f ≡ choice_judged second one two y f
  same_choice one two (bool_type only_true) f = refl
  same_choice one two (bool_type only_false) f = refl
  same_choice one two (bool_type any_bool) f = refl
  same_choice one two y f = refl

  same_call : (n : Name) (ts : Trees) (us : List Ty) → call_type first n ts us ≡ call_type second n ts us
  same_call n ts us = λ i. option_and_then (signature_type first ts us) (find (λ s. name_eq n s.name) (q.functions i))

  mutual
    pub same_judgement : (known : Facts) (a : Tree) → judgement first known a ≡ judgement second known a
    same_judgement known (lit p) = λ i. plain (same_literal p i)
    same_judgement known (var v) = λ i. plain (Some (same_var v i))
    same_judgement known (slot v) = λ i. plain (Some (same_slot v i))
    same_judgement known (unknown n a) = refl
    same_judgement known (choice c a b) =
        (λ i. option_and_then (λ j. choice_judged first (λ f. same_judgement (union known f) a i) (same_judgement known b i) j.type j.facts) (same_judgement known c i))
        ∙ (λ i. option_and_then (λ j. same_choice (λ f. judgement second (union known f) a) (judgement second known b) j.type j.facts i) (judgement second known c))
    same_judgement known (both a b) = λ i. option_and_then (λ j. and_judged (λ f. same_judgement (union known f) b i) j.type j.facts) (same_judgement known a i)
    same_judgement known (either a b) = λ i. option_and_then (λ j. or_judged (same_judgement known b i) j.type j.facts) (same_judgement known a i)
    same_judgement known (unary o a) = λ i. option_and_then (λ j. plain (unary_type o j.type)) (same_judgement known a i)
    same_judgement known (binary o a b) = λ i. option_and_then (λ j. option_and_then (λ k. same_binary_judged known o a b j.type k.type i) (same_judgement known b i)) (same_judgement known a i)
    same_judgement known (call n ts) = λ i. option_and_then (λ us. plain (same_call n ts us i)) (same_judgements known ts i)
    same_judgement known (get_attr r a) = λ i. option_and_then (λ j. plain (same_get known r j.type a i)) (same_judgement known r i)
    same_judgement known (has_attr r a) = λ i. option_and_then (λ j. option_map (tested r (attribute_part a)) (same_has j.type a i)) (same_judgement known r i)
    same_judgement known (has_path r a bs) = λ i. option_and_then (λ j. same_path a bs r j.type i) (same_judgement known r i)
    same_judgement known (like r p) = λ i. option_and_then (λ j. plain (like_type j.type)) (same_judgement known r i)
    same_judgement known (is_type r n) = λ i. option_and_then (λ j. plain (is_type_type n j.type)) (same_judgement known r i)
    same_judgement known (set_literal ts) = λ i. option_and_then (λ us. plain (set_literal_type mode us)) (same_judgements known ts i)
    same_judgement known (record_literal fs) = λ i. option_and_then (λ as_. plain (record_literal_type as_)) (same_fields known fs i)

    same_judgements : (known : Facts) (ts : Trees) → judgements first known ts ≡ judgements second known ts
    same_judgements known no_trees = refl
    same_judgements known (tree r rs) = λ i. option_and_then (λ j. option_map (λ ys. j.type ∷ ys) (same_judgements known rs i)) (same_judgement known r i)

    same_fields : (known : Facts) (fs : TreeFields) → field_judgements first known fs ≡ field_judgements second known fs
    same_fields known no_tree_fields = refl
    same_fields known (tree_field a r fs) = λ i. option_and_then (λ j. option_map (λ bs. attribute a j.type true bs) (same_fields known fs i)) (same_judgement known r i)

  pub same_type : (known : Facts) (a : Tree) → type_under first known a ≡ type_under second known a
  same_type known a = λ i. option_map (λ j. j.type) (same_judgement known a i)
