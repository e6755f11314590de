-- Expressions of other kinds than targets have types that lead to no entity.
use Rattle.std.proofs.Common.{◌≡◌, ◌&&◌, Bool, true, false, List, [], ◌∷◌, length, Option, Some, None, refl, sym, ap, ◌∙◌, subst}
use Rattle.std.specs.Prelude.{option_map, option_and_then, if◌then◌else◌}
use Rattle.cedar_expr_model.specs.Name.{Name, Text, name_eq}
use Rattle.cedar_expr_model.specs.Uid.{Uid}
use Rattle.cedar_expr_model.specs.Table.{Signature, is_ordered, takes_count}
use Rattle.cedar_expr_model.specs.Tree.{CoreType, bool_core, long_core, string_core, extension_core, UnaryOp, negation, minus, is_empty, BinaryOp, equal, less, less_or_equal, plus, difference, times, remainder, is_in, contains, contains_all, contains_any, get_tag, has_tag, Tree, Trees}
use Rattle.cedar_schema_model.specs.Types.{BoolType, any_bool, only_true, only_false, Ty, bool_type, long_type, string_type, any_entity, entity_types, any_set, set_type, extension_type, strict}
use Rattle.cedar_schema_model.specs.Join.{join, are_disjoint, reduce_to_join}
use Rattle.cedar_typechecker_model.specs.Facts.{Facts, Part, attribute_part, tag_part}
use Rattle.cedar_typechecker_model.specs.Levels.{is_entity}
use Rattle.cedar_typechecker_model.specs.Rules.{Setting, if_there, unary_type, written_uid, comparable, written_equal, order_type, number_type, member_type, is_set_type, entity_kinds, entity_or_set_kinds, written_action, written_actions, within_kinds, in_type, binary_type, like_type, is_type_type, has_type, tag_type, may_have_tags, is_string_type, has_tag_type, get_tag_type, set_literal_type, core_as_type, arguments_fit, takes_literal, signature_type}
use Rattle.cedar_typechecker_model.specs.Typing.{plain, tested, conjoined, disjoined, path_judged, binary_judged, Gives, AndTyped, OrTyped}
use Rattle.cedar_typechecker_model.proofs.Sound.Leading.{leads, entity_leads, nowhere_bool, nowhere_long, nowhere_text, nowhere_set, nowhere_extension}
use Rattle.cedar_typechecker_model.proofs.Sound.Steps.{path_typed}
use Rattle.cedar_typechecker_model.proofs.Named.{Kinds, result_type}
use Rattle.cedar_expr_model.specs.Lists.{all_given}

-- no type that the rule gives leads anywhere
abbrev pub Strays : Option Ty → Type 0
Strays o = (path : List Text) (t : Ty) → o ≡ Some t → leads t path ≡ false

strays_none : Strays None
strays_none path t e = cc

strays_some : (t : Ty) → ((path : List Text) → leads t path ≡ false) → Strays (Some t)
strays_some t f path u e = (let q : t ≡ u = cc in subst (λ z. leads z path ≡ false) q (f path))

strays_bool : (b : BoolType) → Strays (Some (bool_type b))
strays_bool b = strays_some (bool_type b) (nowhere_bool b)

strays_if : (c : Bool) (o p : Option Ty) → Strays o → Strays p → Strays (if c then o else p)
strays_if true o p f g = f
strays_if false o p f g = g

strays_there : {A : Type 0} (o : Option A) → Strays (if_there o)
strays_there None = strays_none
strays_there (Some a) = strays_bool any_bool

clash : {P : Type 0} (t : Ty) (path : List Text) → leads t path ≡ false → leads t path ≡ true → P
clash {P} t path f h = absurd (lies (sym f ∙ h))
  where
    lies : false ≡ true → ⊥
    lies q = cc

pub plain_strays : {P : Type 0} (o : Option Ty) (path : List Text) (ty : Ty) (out : Facts) → Strays o → Gives (plain o) ty out → leads ty path ≡ true → P
plain_strays {P} None path ty out f d h = absurd d
plain_strays {P} (Some t) path ty out f d h = clash t path (f path t refl) (subst (λ z. leads z path ≡ true) d.0 h)

-- truth values
abbrev pub IsBool : Ty → Type 0
IsBool t = (b : BoolType) × (t ≡ bool_type b)

pub bool_strays : {P : Type 0} (path : List Text) (t : Ty) → IsBool t → leads t path ≡ true → P
bool_strays {P} path t k h = clash (bool_type k.0) path (nowhere_bool k.0 path) (subst (λ z. leads z path ≡ true) k.1 h)

conjoined_bool : (b : BoolType) (f : Facts) (u : Ty) (g : Facts) (ty : Ty) (out : Facts) → Gives (conjoined b f u g) ty out → IsBool ty
conjoined_bool b f (bool_type only_false) g ty out d = (only_false, d.0)
conjoined_bool only_true f (bool_type only_true) g ty out d = (only_true, d.0)
conjoined_bool any_bool f (bool_type only_true) g ty out d = (any_bool, d.0)
conjoined_bool only_false f (bool_type only_true) g ty out d = (any_bool, d.0)
conjoined_bool only_true f (bool_type any_bool) g ty out d = (any_bool, d.0)
conjoined_bool any_bool f (bool_type any_bool) g ty out d = (any_bool, d.0)
conjoined_bool only_false f (bool_type any_bool) g ty out d = (any_bool, d.0)
conjoined_bool b f u g ty out d = absurd d

disjoined_bool : (b : BoolType) (f : Facts) (u : Ty) (g : Facts) (ty : Ty) (out : Facts) → Gives (disjoined b f u g) ty out → IsBool ty
disjoined_bool b f (bool_type only_true) g ty out d = (only_true, d.0)
disjoined_bool only_false f (bool_type only_false) g ty out d = (only_false, d.0)
disjoined_bool only_false f (bool_type any_bool) g ty out d = (any_bool, d.0)
disjoined_bool any_bool f (bool_type only_false) g ty out d = (any_bool, d.0)
disjoined_bool only_true f (bool_type only_false) g ty out d = (only_true, d.0)
disjoined_bool any_bool f (bool_type any_bool) g ty out d = (any_bool, d.0)
disjoined_bool only_true f (bool_type any_bool) g ty out d = (any_bool, d.0)
disjoined_bool b f u g ty out d = absurd d

pub and_bool : (right : Facts → Ty → Facts → Type 0) (t : Ty) (f : Facts) (ty : Ty) (out : Facts) → AndTyped right t f ty out → IsBool ty
and_bool right (bool_type only_false) f ty out d = (only_false, d.0)
and_bool right (bool_type only_true) f ty out d = conjoined_bool only_true f d.0 d.1 ty out d.3
and_bool right (bool_type any_bool) f ty out d = conjoined_bool any_bool f d.0 d.1 ty out d.3
and_bool right t f ty out d = absurd d

pub or_bool : (right : Ty → Facts → Type 0) (t : Ty) (f : Facts) (ty : Ty) (out : Facts) → OrTyped right t f ty out → IsBool ty
or_bool right (bool_type only_true) f ty out d = (only_true, d.0)
or_bool right (bool_type only_false) f ty out d = disjoined_bool only_false f d.0 d.1 ty out d.3
or_bool right (bool_type any_bool) f ty out d = disjoined_bool any_bool f d.0 d.1 ty out d.3
or_bool right t f ty out d = absurd d

pub tested_bool : (e : Tree) (p : Part) (o : Option BoolType) (ty : Ty) (out : Facts) → Gives (option_map (tested e p) o) ty out → IsBool ty
tested_bool e p None ty out d = absurd d
tested_bool e p (Some any_bool) ty out d = (any_bool, d.0)
tested_bool e p (Some only_true) ty out d = (only_true, d.0)
tested_bool e p (Some only_false) ty out d = (only_false, d.0)

pub path_bool : (s : Setting) (a : Text) (bs : List Text) (e : Tree) (t : Ty) (ty : Ty) (out : Facts) → Gives (path_judged s a bs e t) ty out → IsBool ty
path_bool s a [] e t ty out d = tested_bool e (attribute_part a) (has_type s t a) ty out d
path_bool s a (b ∷ bs) e t ty out d = let k = path_typed s a b bs e t ty out d in and_bool _ k.0 k.1 ty out k.3

-- operators
pub unary_strays : (o : UnaryOp) (t : Ty) → Strays (unary_type o t)
unary_strays negation (bool_type b) = strays_bool _
unary_strays minus long_type = strays_some long_type nowhere_long
unary_strays is_empty any_set = strays_bool any_bool
unary_strays is_empty (set_type t) = strays_bool any_bool
unary_strays o t = strays_none

written_strays : (s : Setting) (u v : Option Uid) (t t' : Ty) → s.mode ≡ strict → Strays (written_equal s u v t t')
written_strays s (Some u) (Some v) t t' e = strays_bool _
written_strays s None v t t' e = subst (λ m. Strays (comparable m t t')) (sym e) (strays_there (join strict t t'))
written_strays s (Some u) None t t' e = subst (λ m. Strays (comparable m t t')) (sym e) (strays_there (join strict t t'))

order_strays : (s : Setting) (t u : Ty) → Strays (order_type s t u)
order_strays s long_type long_type = strays_bool any_bool
order_strays s (extension_type m) (extension_type n) = strays_if (name_eq m n && is_ordered s.table m) _ None (strays_bool any_bool) strays_none
order_strays s t u = strays_none

number_strays : (t u : Ty) → Strays (number_type t u)
number_strays long_type long_type = strays_some long_type nowhere_long
number_strays t u = strays_none

member_strays : (s : Setting) (t u : Ty) → Strays (member_type s t u)
member_strays s any_set u = strays_bool any_bool
member_strays s (set_type t) u = strays_there (join s.mode t u)
member_strays s t u = strays_none

within_strays : (s : Setting) (u : Option Uid) (us : Option (List Uid)) (k l : Kinds) → Strays (Some (within_kinds s u us k l))
within_strays s (Some u) (Some us) k l = strays_bool _
within_strays s None us k l = strays_bool _
within_strays s (Some u) None k l = strays_bool _

in_strays : (s : Setting) (a b : Tree) (k l : Option Kinds) → Strays (option_and_then (λ y. option_map (within_kinds s (written_action s a) (written_actions s b) y) l) k)
in_strays s a b None l = strays_none
in_strays s a b (Some k) None = strays_none
in_strays s a b (Some k) (Some l) = within_strays s (written_action s a) (written_actions s b) k l

pub binary_strays : (s : Setting) (o : BinaryOp) (a b : Tree) (t u : Ty) → s.mode ≡ strict → Strays (binary_type s o a b t u)
binary_strays s equal a b t u e = strays_if (are_disjoint t u) _ (written_equal s (written_uid s a) (written_uid s b) t u) (strays_bool only_false) (written_strays s (written_uid s a) (written_uid s b) t u e)
binary_strays s less a b t u e = order_strays s t u
binary_strays s less_or_equal a b t u e = order_strays s t u
binary_strays s plus a b t u e = number_strays t u
binary_strays s difference a b t u e = number_strays t u
binary_strays s times a b t u e = number_strays t u
binary_strays s remainder a b t u e = number_strays t u
binary_strays s is_in a b t u e = in_strays s a b (entity_kinds t) (entity_or_set_kinds u)
binary_strays s contains a b t u e = member_strays s t u
binary_strays s contains_all a b t u e = strays_if (is_set_type t && is_set_type u) _ None (strays_there (join s.mode t u)) strays_none
binary_strays s contains_any a b t u e = strays_if (is_set_type t && is_set_type u) _ None (strays_there (join s.mode t u)) strays_none
binary_strays s get_tag a b t u e = strays_none
binary_strays s has_tag a b t u e = strays_none

pub like_strays : (t : Ty) → Strays (like_type t)
like_strays string_type = strays_bool any_bool
like_strays t = strays_none

pub is_strays : (n : Name) (t : Ty) → Strays (is_type_type n t)
is_strays n any_entity = strays_bool any_bool
is_strays n (entity_types ns) = strays_bool _
is_strays n t = strays_none

set_strays_of : (o : Option Ty) → Strays (option_map set_type o)
set_strays_of None = strays_none
set_strays_of (Some t) = strays_some (set_type t) (nowhere_set t)

pub set_strays : (ts : List Ty) → Strays (set_literal_type strict ts)
set_strays [] = strays_none
set_strays (t ∷ ts) = set_strays_of (reduce_to_join strict (t ∷ ts))

core_strays : (c : CoreType) → Strays (core_as_type c)
core_strays bool_core = strays_bool any_bool
core_strays long_core = strays_some long_type nowhere_long
core_strays string_core = strays_some string_type nowhere_text
core_strays (extension_core n) = strays_some (extension_type n) (nowhere_extension n)
core_strays c = strays_none

result_strays : (o : Option CoreType) → Strays (option_and_then core_as_type o)
result_strays None = strays_none
result_strays (Some c) = core_strays c

signature_strays : (s : Setting) (es : Trees) (ts : List Ty) (f : Signature) (ps : Option (List Ty)) → Strays (option_and_then (λ ps. if takes_count f (length ts) && (arguments_fit ps ts && takes_literal s.mode f es) then result_type f else None) ps)
signature_strays s es ts f None = strays_none
signature_strays s es ts f (Some ps) = strays_if (takes_count f (length ts) && (arguments_fit ps ts && takes_literal s.mode f es)) (result_type f) None (result_strays f.result) strays_none

pub call_strays : (s : Setting) (es : Trees) (ts : List Ty) (o : Option Signature) → Strays (option_and_then (signature_type s es ts) o)
call_strays s es ts None = strays_none
call_strays s es ts (Some f) = signature_strays s es ts f (all_given core_as_type f.parameters)

-- what is reached from is an entity
kinds_lead : (t : Ty) (k : Kinds) → entity_kinds t ≡ Some k → leads t [] ≡ true
kinds_lead any_entity k e = refl
kinds_lead (entity_types ns) k e = refl
kinds_lead t k e = cc

some_kinds_lead : {A : Type 0} (t : Ty) (f : Kinds → Option A) (a : A) → option_and_then f (entity_kinds t) ≡ Some a → leads t [] ≡ true
some_kinds_lead {A} t f a e = by (entity_kinds t) (kinds_lead t) e
  where
    by : (o : Option Kinds) → ((k : Kinds) → o ≡ Some k → leads t [] ≡ true) → option_and_then f o ≡ Some a → leads t [] ≡ true
    by None g q = cc
    by (Some k) g q = g k refl

plain_gives : (o : Option Ty) (ty : Ty) (out : Facts) → Gives (plain o) ty out → o ≡ Some ty
plain_gives None ty out d = absurd d
plain_gives (Some t) ty out d = ap Some (sym d.0)

pub in_leads : (s : Setting) (known : Facts) (a b : Tree) (t u ty : Ty) (out : Facts) → Gives (binary_judged s known is_in a b t u) ty out → leads t [] ≡ true
in_leads s known a b t u ty out d = some_kinds_lead t _ ty (plain_gives (in_type s a b t u) ty out d)

tag_entity : (s : Setting) (t ty : Ty) → tag_type s t ≡ Some ty → is_entity (Some t) ≡ true
tag_entity s (entity_types ns) ty e = refl
tag_entity s t ty e = cc

pub get_tag_entity : (s : Setting) (known : Facts) (a b : Tree) (t u ty : Ty) (out : Facts) → Gives (binary_judged s known get_tag a b t u) ty out → is_entity (Some t) ≡ true
get_tag_entity s known a b t u ty out d = by (is_string_type u && known a (tag_part b)) (plain_gives (get_tag_type s known a b t u) ty out d)
  where
    by : (c : Bool) → (if c then tag_type s t else None) ≡ Some ty → is_entity (Some t) ≡ true
    by true e = tag_entity s t ty e
    by false e = cc

pub get_tag_leads : (s : Setting) (known : Facts) (a b : Tree) (t u ty : Ty) (out : Facts) → Gives (binary_judged s known get_tag a b t u) ty out → leads t [] ≡ true
get_tag_leads s known a b t u ty out d = entity_leads t (get_tag_entity s known a b t u ty out d)

pub has_tag_leads : (s : Setting) (known : Facts) (a b : Tree) (t u ty : Ty) (out : Facts) → Gives (binary_judged s known has_tag a b t u) ty out → leads t [] ≡ true
has_tag_leads s known a b t u ty out d = by (has_tag_type s t u) (λ r e. some r e) d
  where
    some : (r : BoolType) → has_tag_type s t u ≡ Some r → leads t [] ≡ true
    some r e = kinds (is_string_type u) e
      where
        kinds : (c : Bool) → (if c then option_map (λ k. if may_have_tags s t then any_bool else only_false) (entity_kinds t) else None) ≡ Some r → leads t [] ≡ true
        kinds true q = mapped (entity_kinds t) (kinds_lead t) q
          where
            mapped : (o : Option Kinds) → ((k : Kinds) → o ≡ Some k → leads t [] ≡ true) → option_map (λ k. if may_have_tags s t then any_bool else only_false) o ≡ Some r → leads t [] ≡ true
            mapped None g i = cc
            mapped (Some k) g i = g k refl
        kinds false q = cc

    by : (o : Option BoolType) → ((r : BoolType) → o ≡ Some r → leads t [] ≡ true) → Gives (option_map (tested a (tag_part b)) o) ty out → leads t [] ≡ true
    by None f g = absurd g
    by (Some r) f g = f r refl
