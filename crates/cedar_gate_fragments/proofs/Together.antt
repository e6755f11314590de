-- What namespaces and fragments declare together.
use Rattle.std.proofs.Common.{◌≡◌, ℕ, List, [], ◌∷◌, ◌++◌, map, Bool, true, false, codes, Global, string_bytes, Option, Some, None, option_map, refl, sym, ap, ◌∙◌, append_assoc}
use Rattle.std.proofs.lemmas.List.{map-append}
use Rattle.std.specs.List.{flat_map}
use Rattle.std.specs.Rc.{rc_str_bytes}
use Rattle.std.specs.declared.rc.RcStr.{RcStr}
use Rattle.serde_json.specs.Data.{Data, Members, no_members, member}
use Rattle.serde_json.specs.Find.{get, as_object}
use Rattle.serde_json.specs.View.{view, members_view}
use Rattle.serde_json.proofs.Views.{Entry}
use Rattle.cedar_expr_model.specs.Name.{Text, Name, name_read, is_identifier}
use Rattle.cedar_expr_model.specs.Uid.{Uid}
use Rattle.cedar_expr_model.specs.Lists.{when}
use Rattle.cedar_expr_names.specs.Views.{id_text, name_of}
use Rattle.cedar_expr_names.specs.declared.id.Id.{Id}
use Rattle.cedar_expr_names.specs.declared.internal_name.InternalName.{InternalName}
use Rattle.cedar_expr_leaves.specs.Views.{raw_name_of}
use Rattle.cedar_expr_leaves.specs.declared.raw_name.RawName.{RawName}
use Rattle.cedar_schema_model.specs.Reference.{Namespace}
use Rattle.cedar_schema_model.specs.Declarations.{TypeExpr, record_expr, no_field_exprs, KindExpr, Declarations, bag}
use Rattle.cedar_schema_decl.specs.Definitions.{common_form}
use Rattle.cedar_schema_decl.specs.Laws.{namespace_parts}
use Rattle.cedar_schema_decl.specs.declared.json_schema.ActionEntityUID.{ActionEntityUID}
use Rattle.cedar_schema_decl.specs.declared.json_schema.ActionType.{ActionType}
use Rattle.cedar_schema_decl.specs.declared.json_schema.CommonType.{CommonType}
use Rattle.cedar_schema_decl.specs.declared.json_schema.EntityType.{EntityType}
use Rattle.cedar_schema_decl.specs.declared.json_schema.Fragment.{Fragment}
use Rattle.cedar_schema_decl.specs.declared.json_schema.NamespaceDefinition.{NamespaceDefinition}
use Rattle.cedar_schema_fragments.specs.Actions.{parent_form}
use Rattle.cedar_schema_fragments.specs.Written.{WrittenNamespace, kind_form, action_type_form, written_namespace, written_fragment}
use Rattle.cedar_schema_fragments.specs.WrittenDeclarations.{common_declaration, entity_declaration, as_uid, action_declaration, declared_in as written_in, declarations_of}
use Rattle.cedar_gate_model.specs.Reading.{given, if_there, each, has_only, optional, list_of, members_of, each_member}
use Rattle.cedar_gate_model.specs.ReadingName.{any_name_read, declared_uid_read}
use Rattle.cedar_gate_model.specs.ReadingSchema.{type_read, kind_read, common_read, entity_type_read, action_read, namespace_named, declared_in, namespace_read}
use Rattle.cedar_gate_expressions.specs.Maps.{under_text, under_word}
use Rattle.cedar_gate_expressions.proofs.Keys.{none_when}
use Rattle.cedar_gate_fragments.specs.Types.{type_seen}
use Rattle.cedar_gate_fragments.specs.Written.{kind_seen, ActionBody, action_body_read, parent_seen, action_seen, Definition, definition_read, definition_seen, space_seen, common_at, entity_at, action_at, declared_at, declared_in_fragment, declared_by, joined}

pub joined_assoc : (a b c : Declarations) → joined (joined a b) c ≡ joined a (joined b c)
joined_assoc a b c = λ i. record { commons = append_assoc a.commons b.commons c.commons i; entities = append_assoc a.entities b.entities c.entities i; actions = append_assoc a.actions b.actions c.actions i }

nil_after : {A : Type 0} (xs : List A) → xs ++ [] ≡ xs
nil_after [] = refl
nil_after (x ∷ xs) = ap (λ ys. x ∷ ys) (nil_after xs)

pub nothing_more : (a : Declarations) → joined a (bag []) ≡ a
nothing_more a = λ i. record { commons = nil_after a.commons i; entities = nil_after a.entities i; actions = nil_after a.actions i }

bags_joined : (ds es : List Declarations) → bag (ds ++ es) ≡ joined (bag ds) (bag es)
bags_joined [] es = refl
bags_joined (d ∷ ds) es = ap (joined d) (bags_joined ds es) ∙ sym (joined_assoc d (bag ds) (bag es))

abbrev spaces_of : List (Fragment RawName) → List WrittenNamespace
spaces_of fs = flat_map written_fragment fs

spaces_more : (fs gs : List (Fragment RawName)) → spaces_of (fs ++ gs) ≡ spaces_of fs ++ spaces_of gs
spaces_more [] gs = refl
spaces_more (f ∷ fs) gs = ap (λ ws. written_fragment f ++ ws) (spaces_more fs gs) ∙ sym (append_assoc (written_fragment f) (spaces_of fs) (spaces_of gs))

-- one fragment more
pub one_more : (fs : List (Fragment RawName)) (f : Fragment RawName) → declared_by (fs ++ f ∷ []) ≡ joined (declared_by fs) (declared_in_fragment f)
one_more fs f =
    ap declarations_of (spaces_more fs (f ∷ []) ∙ ap (λ ws. spaces_of fs ++ ws) (nil_after (written_fragment f)))
    ∙ (ap bag (map-append written_in (spaces_of fs) (written_fragment f)) ∙ bags_joined (map written_in (spaces_of fs)) (map written_in (written_fragment f)))

-- what was declared, before what is read of the rest
abbrev pub then_joined : Declarations → Option Declarations → Option Declarations
then_joined a rest = option_map (joined a) rest

pub nothing_before : (rest : Option Declarations) → then_joined (bag []) rest ≡ rest
nothing_before None = refl
nothing_before (Some d) = refl

both_joined : (a b : Declarations) (rest : Option (List Declarations)) → then_joined (joined a b) (option_map bag rest) ≡ then_joined a (option_map bag (option_map (λ more. b ∷ more) rest))
both_joined a b None = refl
both_joined a b (Some ds) = ap Some (joined_assoc a b (bag ds))

pub next_namespace : (fs : List (Fragment RawName)) (f : Fragment RawName) (e : Entry) (left rest : List Entry) → rest ≡ e ∷ left → namespace_read (string_bytes e.0) (view e.1) ≡ Some (declared_in_fragment f)
    → then_joined (declared_by (fs ++ f ∷ [])) (option_map bag (each_member namespace_read (members_view left))) ≡ then_joined (declared_by fs) (option_map bag (each_member namespace_read (members_view rest)))
next_namespace fs f e left rest is h = rw (one_more fs f, is, h) (both_joined (declared_by fs) (declared_in_fragment f) (each_member namespace_read (members_view left)))

pub next_fragment : (old new : Declarations) (o : Option Declarations) (rest : Option (List Declarations)) → option_map (joined old) o ≡ Some new
    → then_joined new (option_map bag rest) ≡ then_joined old (option_map bag (given o (λ a. option_map (λ more. a ∷ more) rest)))
next_fragment old new None rest h = cc
next_fragment old new (Some d) rest h = let e : new ≡ joined old d = cc in rw e (both_joined old d rest)

-- the name of a namespace, where the text isn't empty
pub space_named : (key : List ℕ) → (key ≡ codes "" → ⊥) → namespace_named key ≡ option_map (λ n. n.path ++ n.base ∷ []) (name_read key)
space_named [] h = absurd (h refl)
space_named (b ∷ bs) h = refl

-- ---- what is declared in a namespace

-- what a member reads as, told apart from where it stands
module _ {A B : Type 0} (place : A → B) where
  in_word : {X : Type 0} (b : Bool) (o : Option X) (f : X → B) (g : X → A) → ((x : X) → f x ≡ place (g x)) → when b (option_map f o) ≡ option_map place (when b (option_map g o))
  in_word true None f g h = refl
  in_word true (Some x) f g h = ap Some (h x)
  in_word false o f g h = refl

  one_placed : (o : Option A) (rest : Option (List A))
      → given (option_map place o) (λ b. option_map (λ more. b ∷ more) (option_map (map place) rest)) ≡ option_map (map place) (given o (λ a. option_map (λ more. a ∷ more) rest))
  one_placed None rest = refl
  one_placed (Some a) None = refl
  one_placed (Some a) (Some xs) = refl

  each_placed : (whole : Text → Data → Option B) (part : Text → Data → Option A) → ((k : Text) (d : Data) → whole k d ≡ option_map place (part k d))
      → (ms : Members) → each_member whole ms ≡ option_map (map place) (each_member part ms)
  each_placed whole part h no_members = refl
  each_placed whole part h (member k d ms) = rw (h k d, each_placed whole part h ms) (one_placed (part k d) (each_member part ms))

  there_placed : (whole : Text → Data → Option B) (part : Text → Data → Option A) → ((k : Text) (d : Data) → whole k d ≡ option_map place (part k d))
      → (o : Option Data) → if_there (members_of whole) [] o ≡ option_map (map place) (if_there (members_of part) [] o)
  there_placed whole part h None = refl
  there_placed whole part h (Some d) = of_object (as_object d)
    where
      of_object : (o : Option Members) → given o (each_member whole) ≡ option_map (map place) (given o (each_member part))
      of_object None = refl
      of_object (Some ms) = each_placed whole part h ms

commons_placed : (ns : Namespace) (k : Text) (d : Data) → common_read ns k d ≡ option_map (common_at ns) (under_word type_read k d)
commons_placed ns k d = in_word (common_at ns) (is_identifier k) (type_read d) (λ t. record { namespace = ns; word = k; definition = t }) (λ t. (k, t)) (λ t. refl)

entities_placed : (ns : Namespace) (k : Text) (d : Data) → entity_type_read ns k d ≡ option_map (entity_at ns) (under_word kind_read k d)
entities_placed ns k d = in_word (entity_at ns) (is_identifier k) (kind_read d) (λ t. record { namespace = ns; word = k; parents = t.0; kind = t.1 }) (λ t. (k, t)) (λ t. refl)

action_made : (ns : Namespace) (k : Text) (b : Bool) (ps : Option (List Uid)) (qs rs : Option (List Name)) (c : Option TypeExpr)
    → when b (given ps (λ parents. given qs (λ principals. given rs (λ resources. option_map (λ context. record { namespace = ns; id = k; parents = parents; principals = principals; resources = resources; context = context; is_external = false }) c))))
    ≡ option_map (action_at ns) (option_map (λ a. (k, a)) (when b (given ps (λ parents. given qs (λ principals. given rs (λ resources. option_map (λ context. record { parents = parents; principals = principals; resources = resources; context = context; is_external = false }) c))))))
action_made ns k false ps qs rs c = refl
action_made ns k true None qs rs c = refl
action_made ns k true (Some ps) None rs c = refl
action_made ns k true (Some ps) (Some qs) None c = refl
action_made ns k true (Some ps) (Some qs) (Some rs) None = refl
action_made ns k true (Some ps) (Some qs) (Some rs) (Some c) = refl

actions_placed : (ns : Namespace) (k : Text) (d : Data) → action_read ns k d ≡ option_map (action_at ns) (under_text action_body_read k d)
actions_placed ns k d =
    action_made ns k (has_only (codes "in" ∷ codes "principals" ∷ codes "resources" ∷ codes "context" ∷ []) d) (optional (codes "in") (list_of declared_uid_read) [] d) (optional (codes "principals") (list_of any_name_read) [] d)
    (optional (codes "resources") (list_of any_name_read) [] d) (optional (codes "context") type_read (record_expr no_field_exprs) d)

three_placed : (ns : Namespace) (cs : Option (List (Text × TypeExpr))) (es : Option (List (Text × (List Name × KindExpr)))) (xs : Option (List (Text × ActionBody)))
    → given (option_map (map (common_at ns)) cs) (λ commons. given (option_map (map (entity_at ns)) es) (λ entities. option_map (λ actions. record { commons = commons; entities = entities; actions = actions }) (option_map (map (action_at ns)) xs)))
    ≡ option_map (declared_at ns) (given cs (λ commons. given es (λ entities. option_map (λ actions. record { commons = commons; entities = entities; actions = actions }) xs)))
three_placed ns None es xs = refl
three_placed ns (Some cs) None xs = refl
three_placed ns (Some cs) (Some es) None = refl
three_placed ns (Some cs) (Some es) (Some xs) = refl

definition_placed : (ns : Namespace) (d : Data) → declared_in d ns ≡ option_map (declared_at ns) (definition_read d)
definition_placed ns d =
    rw (
      there_placed (common_at ns) (common_read ns) (under_word type_read) (commons_placed ns) (get (codes "commonTypes") d),
      there_placed (entity_at ns) (entity_type_read ns) (under_word kind_read) (entities_placed ns) (get (codes "entityTypes") d),
      there_placed (action_at ns) (action_read ns) (under_text action_body_read) (actions_placed ns) (get (codes "actions") d),
    )
    (three_placed ns (optional (codes "commonTypes") (members_of (under_word type_read)) [] d) (optional (codes "entityTypes") (members_of (under_word kind_read)) [] d) (optional (codes "actions") (members_of (under_text action_body_read)) [] d))

-- a namespace is what its name and what is declared in it make
pub namespace_made : (key : Text) (d : Data) (ns : Namespace) (n : Definition) → has_only (codes "commonTypes" ∷ codes "entityTypes" ∷ codes "actions" ∷ []) d ≡ true → namespace_named key ≡ Some ns → definition_read d ≡ Some n
    → namespace_read key d ≡ Some (declared_at ns n)
namespace_made key d ns n h s r = rw (h, s) (definition_placed ns d ∙ ap (option_map (declared_at ns)) r)

pub no_name : (key : Text) (d : Data) → namespace_named key ≡ None → namespace_read key d ≡ None
no_name key d h = ap (λ o. when (has_only (codes "commonTypes" ∷ codes "entityTypes" ∷ codes "actions" ∷ []) d) (given o (declared_in d))) h ∙ none_when _

pub no_definition : (key : Text) (d : Data) → definition_read d ≡ None → namespace_read key d ≡ None
no_definition key d h = ap (when (has_only (codes "commonTypes" ∷ codes "entityTypes" ∷ codes "actions" ∷ []) d)) (nowhere (namespace_named key)) ∙ none_when _
  where
    nowhere : (o : Option Namespace) → given o (declared_in d) ≡ None
    nowhere None = refl
    nowhere (Some ns) = definition_placed ns d ∙ ap (option_map (declared_at ns)) h

-- ---- the code's

both_mapped : {E X Y C : Type 0} (f : X → C) (g : E → X) (h : Y → C) (k : E → Y) → ((e : E) → f (g e) ≡ h (k e)) → (es : List E) → map f (map g es) ≡ map h (map k es)
both_mapped f g h k same [] = refl
both_mapped f g h k same (e ∷ es) = λ i. same e i ∷ both_mapped f g h k same es i

parents_fused : (ps : List (ActionEntityUID RawName)) → map as_uid (map (parent_form raw_name_of) ps) ≡ map parent_seen ps
parents_fused [] = refl
parents_fused (p ∷ ps) = ap (λ us. parent_seen p ∷ us) (parents_fused ps)

an_action : (sp : Option Name) (e : RcStr Global × ActionType RawName)
    → action_declaration sp (rc_str_bytes e.0, action_type_form raw_name_of e.1) ≡ action_at (namespace_parts sp) (rc_str_bytes e.0, action_seen e.1)
an_action sp e = λ i. record {
  namespace = namespace_parts sp;
  id = rc_str_bytes e.0;
  parents = parents_fused e.1.member_of.items i;
  principals = (action_seen e.1).principals;
  resources = (action_seen e.1).resources;
  context = (action_seen e.1).context;
  is_external = (action_seen e.1).is_external;
}

space_declares : (sp : Option InternalName) (n : NamespaceDefinition RawName) → written_in (written_namespace sp n) ≡ declared_at (space_seen sp) (definition_seen n)
space_declares sp n = λ i. record {
  commons = both_mapped (common_declaration (option_map name_of sp)) (λ (e : Id × CommonType RawName). (id_text e.0, common_form raw_name_of e.1)) (common_at (space_seen sp)) (λ (e : Id × CommonType RawName). (id_text e.0, type_seen e.1.ty)) (λ e. refl) n.common_types.entries i;
  entities = both_mapped (entity_declaration (option_map name_of sp)) (λ (e : Id × EntityType RawName). (id_text e.0, kind_form raw_name_of e.1.kind)) (entity_at (space_seen sp)) (λ (e : Id × EntityType RawName). (id_text e.0, kind_seen e.1.kind)) (λ e. refl) n.entity_types.entries i;
  actions = both_mapped (action_declaration (option_map name_of sp)) (λ (e : RcStr Global × ActionType RawName). (rc_str_bytes e.0, action_type_form raw_name_of e.1)) (action_at (space_seen sp)) (λ (e : RcStr Global × ActionType RawName). (rc_str_bytes e.0, action_seen e.1)) (an_action (option_map name_of sp)) n.actions.entries i;
}

-- a fragment of one namespace
pub fragment_made : (f : Fragment RawName) (sp : Option InternalName) (n : NamespaceDefinition RawName) → f.0.entries ≡ (sp, n) ∷ [] → declared_in_fragment f ≡ declared_at (space_seen sp) (definition_seen n)
fragment_made f sp n h =
    ap (λ (es : List (Option InternalName × NamespaceDefinition RawName)). declarations_of (map (λ e. written_namespace e.0 e.1) es)) h
    ∙ (nothing_more (written_in (written_namespace sp n)) ∙ space_declares sp n)
