-- Declarations with their parents, one after the other.
use Rattle.std.proofs.Common.{◌≡◌, ◌<◌, ◌+◌, ℕ, List, [], ◌∷◌, ◌++◌, map, take, length, get_or, refl, sym, ap, ◌∙◌}
use Rattle.std.proofs.lemmas.List.{map-append}
use Rattle.std.specs.declared.alloc.Global.{Global}
use Rattle.std.specs.declared.vec.Vec.{Vec}
use Rattle.cedar_expr_model.specs.Name.{Name}
use Rattle.cedar_expr_model.specs.Uid.{Uid}
use Rattle.cedar_expr_names.specs.Views.{name_of, uid_of}
use Rattle.cedar_expr_names.specs.declared.entity.EntityType.{EntityType}
use Rattle.cedar_expr_names.specs.declared.entity.EntityUID.{EntityUID}
use Rattle.cedar_expr_names.specs.declared.internal_name.InternalName.{InternalName}
use Rattle.cedar_schema_decl.specs.Definitions.{entity_form}
use Rattle.cedar_schema_decl.specs.declared.definitions.EntityTypeFragment.{EntityTypeFragment}
use Rattle.cedar_schema_fragments.specs.WrittenDeclarations.{parents_written, as_uid}
use Rattle.cedar_schema_fragments.specs.declared.actions.ActionFragment.{ActionFragment}
use Rattle.cedar_schema_resolver.specs.Numbers.{seen_nodes, names_in}
use Rattle.cedar_schema_assembly.specs.Seen.{types_seen, types_above, action_under_uid, actions_seen, actions_above, names_written, uids_written}
use Rattle.cedar_schema_assembly.proofs.Putting.{next_of}

abbrev TypeEntry : Type 0
TypeEntry = InternalName × EntityTypeFragment InternalName

abbrev ActionEntry : Type 0
ActionEntry = EntityUID × ActionFragment InternalName EntityType

-- lines of nodes, and of declarations
module _ {N S : Type 0} (seen : N → S) where
  names_of_lines : (ns : List (N × Vec N Global)) → names_in seen ns ≡ map (λ (t : S × List S). t.0) (seen_nodes seen ns)
  names_of_lines [] = refl
  names_of_lines (n ∷ ns) = ap (λ ms. seen n.0 ∷ ms) (names_of_lines ns)

  one_line : {A : Type 0} (line : A → S × List S) (xs : List A) (i : ℕ) (x : A) (ns ms : List (N × Vec N Global)) (name : N) (parents : Vec N Global) → i < length xs → x ≡ get_or xs i x
      → seen_nodes seen ns ≡ map line (take i xs) → ms ≡ ns ++ (name, parents) ∷ [] → seen name ≡ (line x).0 → map seen parents.items ≡ (line x).1 → seen_nodes seen ms ≡ map line (take (i + 1) xs)
  one_line line xs i x ns ms name parents l is h push n p =
      ap (seen_nodes seen) push
      ∙ map-append (λ (t : N × Vec N Global). (seen t.0, map seen t.1.items)) ns ((name, parents) ∷ [])
      ∙ (λ j. h j ++ (n j, p j) ∷ [])
      ∙ sym (next_of line xs i x l is)

type_line : TypeEntry → Name × List Name
type_line e = (name_of e.0, parents_written (entity_form name_of e.1))

action_line : ActionEntry → Uid × List Uid
action_line a = ((action_under_uid a).0, map as_uid (action_under_uid a).1.parents)

type_lines : (es : List TypeEntry) → types_above (types_seen es) ≡ map type_line es
unfolding type_line
type_lines [] = refl
type_lines (e ∷ es) = ap (λ ls. type_line e ∷ ls) (type_lines es)

action_lines : (as_ : List ActionEntry) → actions_above (actions_seen as_) ≡ map action_line as_
unfolding action_line
action_lines [] = refl
action_lines (a ∷ as_) = ap (λ ls. action_line a ∷ ls) (action_lines as_)

pub one_type_line : (es : List TypeEntry) (i : ℕ) (e : TypeEntry) (ns ms : List (InternalName × Vec InternalName Global)) (name : InternalName) (parents : Vec InternalName Global) → i < length es → e ≡ get_or es i e
    → seen_nodes name_of ns ≡ types_above (types_seen (take i es)) → ms ≡ ns ++ (name, parents) ∷ [] → name_of name ≡ name_of e.0 → map name_of parents.items ≡ parents_written (entity_form name_of e.1)
    → seen_nodes name_of ms ≡ types_above (types_seen (take (i + 1) es))
unfolding type_line
one_type_line es i e ns ms name parents l is h push n p = one_line name_of type_line es i e ns ms name parents l is (h ∙ type_lines (take i es)) push n p ∙ sym (type_lines (take (i + 1) es))

pub one_action_line : (as_ : List ActionEntry) (i : ℕ) (a : ActionEntry) (ns ms : List (EntityUID × Vec EntityUID Global)) (uid : EntityUID) (parents : Vec EntityUID Global) → i < length as_ → a ≡ get_or as_ i a
    → seen_nodes uid_of ns ≡ actions_above (actions_seen (take i as_)) → ms ≡ ns ++ (uid, parents) ∷ [] → uid_of uid ≡ uid_of a.0 → map uid_of parents.items ≡ map as_uid (action_under_uid a).1.parents
    → seen_nodes uid_of ms ≡ actions_above (actions_seen (take (i + 1) as_))
unfolding action_line
one_action_line as_ i a ns ms uid parents l is h push n p = one_line uid_of action_line as_ i a ns ms uid parents l is (h ∙ action_lines (take i as_)) push n p ∙ sym (action_lines (take (i + 1) as_))

-- the names of nodes
names_are : (es : List TypeEntry) → map (λ (t : Name × List Name). t.0) (types_above (types_seen es)) ≡ names_written (types_seen es)
names_are [] = refl
names_are (e ∷ es) = ap (λ ns. name_of e.0 ∷ ns) (names_are es)

uids_are : (as_ : List ActionEntry) → map (λ (t : Uid × List Uid). t.0) (actions_above (actions_seen as_)) ≡ uids_written (actions_seen as_)
uids_are [] = refl
uids_are (a ∷ as_) = ap (λ us. uid_of a.0 ∷ us) (uids_are as_)

pub node_names : (es : List TypeEntry) (ns : List (InternalName × Vec InternalName Global)) → seen_nodes name_of ns ≡ types_above (types_seen es) → names_in name_of ns ≡ names_written (types_seen es)
node_names es ns h = names_of_lines name_of ns ∙ ap (map (λ (t : Name × List Name). t.0)) h ∙ names_are es

pub node_uids : (as_ : List ActionEntry) (ns : List (EntityUID × Vec EntityUID Global)) → seen_nodes uid_of ns ≡ actions_above (actions_seen as_) → names_in uid_of ns ≡ uids_written (actions_seen as_)
node_uids as_ ns h = names_of_lines uid_of ns ∙ ap (map (λ (t : Uid × List Uid). t.0)) h ∙ uids_are as_
