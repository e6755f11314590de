-- What is left of restricted expressions, where no unknown has a value; and with values in the place of unknowns.
use Rattle.std.proofs.Common.{◌≡◌, ℕ, zero, suc, Bool, true, false, List, [], ◌∷◌, map, length, Option, Some, None, refl, sym, ap, ◌∙◌, option_map, if◌then◌else◌, ◌++◌}
use Rattle.std.specs.List.{list_any}
use Rattle.std.specs.Option.{option_or, option_map_or}
use Rattle.std.specs.Prelude.{is_some, is_none, zip}
use Rattle.std.proofs.lemmas.Bool.{or_left, or_right}
use Rattle.std.proofs.lemmas.List.Folds.{list_any-append}
use Rattle.cedar_expr_model.specs.Name.{Text, Name}
use Rattle.cedar_expr_model.specs.Tree.{CoreType, Tree, lit, unknown, call, set_literal, record_literal, Trees, no_trees, tree, TreeFields, no_tree_fields, tree_field}
use Rattle.cedar_expr_model.specs.Builder.{trees, tree_fields, built, built_list, built_fields, tree_builder}
use Rattle.cedar_expr_model.specs.Lists.{first_found}
use Rattle.cedar_expr_model.specs.Made.{Made, bare, written}
use Rattle.cedar_expr_model.specs.Parts.{subexpressions, subexpressions_among, subexpressions_in_fields, unknown_here, listed}
use Rattle.cedar_expr_model.specs.Restricted.{is_restricted, offence, feature_here, Feature}
use Rattle.cedar_expr_model.specs.Substitution.{Bindings, substituted}
use Rattle.cedar_expr_model.specs.Table.{Signature, signature_of, takes_count, are_of_types}
use Rattle.cedar_expr_model.specs.Unknowns.{has_unknown}
use Rattle.cedar_expr_model.specs.ValueParts.{Part, known, left, part_tree, all_known}
use Rattle.cedar_expr_model.proofs.Building.{builder_with, built_stays, written_built}
use Rattle.cedar_expr_model.proofs.Gathering.{found_none_join, none_join}
use Rattle.cedar_expr_model.proofs.Restricting.{written_restricted}
use Rattle.cedar_expr_model.proofs.Substituting.{bound_or, placed}
use Rattle.cedar_evaluator_model.specs.Evaluation.{pieces_of, node, evaluated}
use Rattle.cedar_evaluator_model.specs.Functions.{Functions, with_functions, left_of_restricted}
use Rattle.cedar_evaluator_model.specs.Scope.{MadeCalled, makes, faults, leaves_unknown, Scope, Left, value_left, residual, stopped}
use Rattle.cedar_evaluator_model.specs.Steps.{answer_left, called_left, Pieces, pieces, halted, with_piece, from_pieces}
use Rattle.cedar_evaluator_model.proofs.Named.{call_of, field_names, field_trees}

-- A value is left of what has no unknown; an expression that is left is restricted and has one.
map_some : {A B : Type 0} (f : A → B) (o : Option A) (b : B) → option_map f o ≡ Some b → (a : A) × (o ≡ Some a)
map_some f None b e = cc
map_some f (Some a) b e = (a, refl)

abbrev pub IsOpen : Tree → Type 0
IsOpen r = (has_unknown r ≡ true) × (offence r ≡ None)

abbrev pub Clean : Tree → Left → Type 0
Clean t (value_left m) = has_unknown t ≡ false
Clean t (residual r) = IsOpen r
Clean t (stopped s) = Unit {0}

abbrev CleanPiece : Tree → Part Made → Type 0
CleanPiece t (known m) = has_unknown t ≡ false
CleanPiece t (left r) = IsOpen r

abbrev CleanList : List Tree → List (Part Made) → Type 0
CleanList [] [] = Unit {0}
CleanList (t ∷ ts) (q ∷ qs) = CleanPiece t q × CleanList ts qs
CleanList ts qs = ⊥

abbrev CleanPieces : List Tree → Pieces → Type 0
CleanPieces ts (pieces qs) = CleanList ts qs
CleanPieces ts (halted s) = Unit {0}

-- the subexpressions of several, whether one is an unknown, and the first feature in them
abbrev pub parts_of : List Tree → List Tree
parts_of ts = subexpressions_among (trees ts)

abbrev pub some_unknown : List Tree → Bool
some_unknown ts = list_any (λ e. is_some (unknown_here e)) ts

abbrev pub feature_of : List Tree → Option Feature
feature_of ts = first_found feature_here ts

or_none : {A : Type 0} (o r : Option A) → option_or o r ≡ None → (o ≡ None) × (r ≡ None)
or_none None r e = (refl, e)
or_none (Some a) r e = cc

pub no_feature_split : (xs ys : List Tree) → feature_of (xs ++ ys) ≡ None → (feature_of xs ≡ None) × (feature_of ys ≡ None)
no_feature_split [] ys e = (refl, e)
no_feature_split (x ∷ xs) ys e =
    let p = or_none (feature_here x) (feature_of (xs ++ ys)) e in
    let q = no_feature_split xs ys p.1 in
    (ap (λ o. option_or o (feature_of xs)) p.0 ∙ q.0, q.1)

some_left : (xs ys : List Tree) → some_unknown xs ≡ true → some_unknown (xs ++ ys) ≡ true
some_left xs ys h = list_any-append (λ e. is_some (unknown_here e)) xs ys ∙ or_left (some_unknown xs) (some_unknown ys) h

some_right : (xs ys : List Tree) → some_unknown ys ≡ true → some_unknown (xs ++ ys) ≡ true
some_right xs ys h = list_any-append (λ e. is_some (unknown_here e)) xs ys ∙ or_right (some_unknown xs) (some_unknown ys) h

with_clean : (t : Tree) (ts : List Tree) (l : Left) (ps : Pieces) → Clean t l → CleanPieces ts ps → CleanPieces (t ∷ ts) (with_piece l ps)
with_clean t ts (stopped s) ps h k = tt
with_clean t ts (value_left m) (halted s) h k = tt
with_clean t ts (residual r) (halted s) h k = tt
with_clean t ts (value_left m) (pieces qs) h k = (h, k)
with_clean t ts (residual r) (pieces qs) h k = (h, k)

pieces_clean : (go : Tree → Left) → ((t : Tree) → offence t ≡ None → Clean t (go t)) → (ts : List Tree) → feature_of (parts_of ts) ≡ None → CleanPieces ts (pieces_of go ts)
pieces_clean go h [] e = tt
pieces_clean go h (t ∷ ts) e =
    let p = no_feature_split (subexpressions t) (parts_of ts) e in
    with_clean t ts (go t) (pieces_of go ts) (h t p.0) (pieces_clean go h ts p.1)

piece_restricted : (t : Tree) (q : Part Made) → CleanPiece t q → offence (part_tree q) ≡ None
piece_restricted t (known m) h = written_restricted m
piece_restricted t (left r) h = h.1

rest_restricted : (ts : List Tree) (qs : List (Part Made)) → CleanList ts qs → feature_of (parts_of (map part_tree qs)) ≡ None
rest_restricted [] [] h = refl
rest_restricted [] (q ∷ qs) h = absurd h
rest_restricted (t ∷ ts) [] h = absurd h
rest_restricted (t ∷ ts) (q ∷ qs) h = found_none_join feature_here (subexpressions (part_tree q)) (parts_of (map part_tree qs)) (piece_restricted t q h.0) (rest_restricted ts qs h.1)

-- where each piece is a value
values_clean : (ts : List Tree) (qs : List (Part Made)) → CleanList ts qs → (ms : List Made) → all_known qs ≡ Some ms → some_unknown (parts_of ts) ≡ false
values_clean [] [] h ms e = refl
values_clean [] (q ∷ qs) h ms e = absurd h
values_clean (t ∷ ts) [] h ms e = absurd h
values_clean (t ∷ ts) (known m ∷ qs) h ms e =
    let p = map_some (λ ns. m ∷ ns) (all_known qs) ms e in
    none_join (λ e. is_some (unknown_here e)) (subexpressions t) (parts_of ts) h.0 (values_clean ts qs h.1 p.0 p.1)
values_clean (t ∷ ts) (left r ∷ qs) h ms e = cc

-- where some piece is an expression
none_map : {A B : Type 0} (f : A → B) (o : Option A) → option_map f o ≡ None → o ≡ None
none_map f None e = refl
none_map f (Some a) e = cc

some_open : (ts : List Tree) (qs : List (Part Made)) → CleanList ts qs → all_known qs ≡ None → some_unknown (parts_of (map part_tree qs)) ≡ true
some_open [] [] h e = cc
some_open [] (q ∷ qs) h e = absurd h
some_open (t ∷ ts) [] h e = absurd h
some_open (t ∷ ts) (known m ∷ qs) h e = some_right (subexpressions (written m)) (parts_of (map part_tree qs)) (some_open ts qs h.1 (none_map (λ ns. m ∷ ns) (all_known qs) e))
some_open (t ∷ ts) (left r ∷ qs) h e = some_left (subexpressions r) (parts_of (map part_tree qs)) h.0.0

-- the subexpressions of fields that have these names and these expressions
abbrev parts_of_fields : List Text → List Tree → List Tree
parts_of_fields names ts = subexpressions_in_fields (tree_fields (zip names ts))

some_field_open : (fs : TreeFields) (qs : List (Part Made)) → CleanList (field_trees fs) qs → all_known qs ≡ None → some_unknown (parts_of_fields (field_names fs) (map part_tree qs)) ≡ true
some_field_open no_tree_fields [] h e = cc
some_field_open no_tree_fields (q ∷ qs) h e = absurd h
some_field_open (tree_field a t fs) [] h e = absurd h
some_field_open (tree_field a t fs) (known m ∷ qs) h e =
    some_right (subexpressions (written m)) (parts_of_fields (field_names fs) (map part_tree qs)) (some_field_open fs qs h.1 (none_map (λ ns. m ∷ ns) (all_known qs) e))
some_field_open (tree_field a t fs) (left r ∷ qs) h e = some_left (subexpressions r) (parts_of_fields (field_names fs) (map part_tree qs)) h.0.0

fields_restricted : (names : List Text) (ts : List Tree) → feature_of (parts_of ts) ≡ None → feature_of (parts_of_fields names ts) ≡ None
fields_restricted [] ts h = refl
fields_restricted (a ∷ names) [] h = refl
fields_restricted (a ∷ names) (t ∷ ts) h =
    let p = no_feature_split (subexpressions t) (parts_of ts) h in
    found_none_join feature_here (subexpressions t) (parts_of_fields names ts) p.0 (fields_restricted names ts p.1)

pub listed_same : (ts : Trees) → subexpressions_among ts ≡ parts_of (listed ts)
listed_same no_trees = refl
listed_same (tree t ts) = ap (λ l. subexpressions t ++ l) (listed_same ts)

pub fields_same : (fs : TreeFields) → subexpressions_in_fields fs ≡ parts_of (field_trees fs)
fields_same no_tree_fields = refl
fields_same (tree_field a t fs) = ap (λ l. subexpressions t ++ l) (fields_same fs)

-- what is made of pieces
made_clean : (t : Tree) (next : List Made → Left) (r : Tree) (o : Option (List Made)) → ((ms : List Made) → o ≡ Some ms → Clean t (next ms)) → (o ≡ None → IsOpen r) → Clean t (option_map_or next o (residual r))
made_clean t next r None h k = k refl
made_clean t next r (Some ms) h k = h ms refl

from_clean : (t : Tree) (ts : List Tree) (next : List Made → Left) (rebuilt : List Tree → Tree) (ps : Pieces) → CleanPieces ts ps
    → ((ms : List Made) → some_unknown (parts_of ts) ≡ false → Clean t (next ms))
    → ((qs : List (Part Made)) → CleanList ts qs → all_known qs ≡ None → IsOpen (rebuilt (map part_tree qs)))
    → Clean t (from_pieces next rebuilt ps)
from_clean t ts next rebuilt (halted s) h j k = tt
from_clean t ts next rebuilt (pieces qs) h j k =
    made_clean t next (rebuilt (map part_tree qs)) (all_known qs) (λ ms e. j ms (values_clean ts qs h ms e)) (k qs h)

-- what a call answers
answer_clean : (t : Tree) (c : MadeCalled) → has_unknown t ≡ false → Clean t (answer_left c)
answer_clean t (makes m) h = h
answer_clean t (faults n) h = tt
answer_clean t (leaves_unknown n) h = (refl, refl)

if_clean : (t : Tree) (b : Bool) (l k : Left) → Clean t l → Clean t k → Clean t (if b then l else k)
if_clean t true l k h j = h
if_clean t false l k h j = j

call_clean : (s : Scope) (f : Name) (ms : List Made) (t : Tree) (o : Option Signature) → has_unknown t ≡ false → Clean t (call_of s f ms o)
call_clean s f ms t None h = tt
call_clean s f ms t (Some g) h =
    if_clean t (takes_count g (length ms)) _ _ (if_clean t (are_of_types g.parameters (map bare ms)) _ _ (answer_clean t (s.calls f ms) h) tt) tt

-- something is nothing: an expression of another form isn't restricted
never : {A : Type 0} {P : Type 0} {a : A} → Some a ≡ None → P
never h = cc

node_clean : (x : Functions) (go : Tree → Left) → ((t : Tree) → offence t ≡ None → Clean t (go t)) → (t : Tree) → offence t ≡ None → Clean t (node (with_functions x) go t)
node_clean x go h (lit p) e = refl
node_clean x go h (unknown n a) e = (refl, refl)
node_clean x go h (call f ts) e =
    from_clean (call f ts) (listed ts) (called_left (with_functions x) f) (λ us. call f (trees us)) (pieces_of go (listed ts)) (pieces_clean go h (listed ts) (ap feature_of (sym (listed_same ts)) ∙ e))
    (λ ms u. call_clean (with_functions x) f ms (call f ts) (signature_of x.table f) (ap some_unknown (listed_same ts) ∙ u))
    (λ qs c n. (some_open (listed ts) qs c n, rest_restricted (listed ts) qs c))
node_clean x go h (set_literal ts) e =
    from_clean (set_literal ts) (listed ts) _ (λ us. set_literal (trees us)) (pieces_of go (listed ts)) (pieces_clean go h (listed ts) (ap feature_of (sym (listed_same ts)) ∙ e))
    (λ ms u. ap some_unknown (listed_same ts) ∙ u)
    (λ qs c n. (some_open (listed ts) qs c n, rest_restricted (listed ts) qs c))
node_clean x go h (record_literal fs) e =
    from_clean (record_literal fs) (field_trees fs) _ (λ us. record_literal (tree_fields (zip (field_names fs) us))) (pieces_of go (field_trees fs)) (pieces_clean go h (field_trees fs) (ap feature_of (sym (fields_same fs)) ∙ e))
    (λ ms u. ap some_unknown (fields_same fs) ∙ u)
    (λ qs c n. (some_field_open fs qs c n, fields_restricted (field_names fs) (map part_tree qs) (rest_restricted (field_trees fs) qs c)))
node_clean x go h t e = never e

pub evaluated_clean : (x : Functions) (n : ℕ) (t : Tree) → offence t ≡ None → Clean t (evaluated (with_functions x) n t)
evaluated_clean x zero t e = tt
evaluated_clean x (suc n) t e = node_clean x (evaluated (with_functions x) n) (evaluated_clean x n) t e

-- what passes the test of restricted expressions has no feature that they lack
pub none_is : {A : Type 0} (o : Option A) → is_none o ≡ true → o ≡ None
none_is None e = refl
none_is (Some a) e = cc

pub left_clean : (x : Functions) (t : Tree) → is_restricted t ≡ true → Clean t (left_of_restricted x t)
left_clean x t e = evaluated_clean x 512 t (none_is (offence t) e)

-- with values in the place of unknowns
module _ (env : Bindings) where
  -- what is put in the place of unknowns has no feature that restricted expressions lack
  placed_restricted : (n : Text) (a : Option CoreType) (o : Option Made) → offence (bound_or tree_builder n a o) ≡ None
  placed_restricted n a None = refl
  placed_restricted n a (Some m) = ap offence (built_stays (written m) (written_built m)) ∙ written_restricted m

  mutual
    pub substituted_restricted : (t : Tree) → offence t ≡ None → offence (substituted env t) ≡ None
    substituted_restricted (lit p) r = refl
    substituted_restricted (unknown n a) r = placed_restricted n a (env n)
    substituted_restricted (call f ts) r = restricted_among ts r
    substituted_restricted (set_literal ts) r = restricted_among ts r
    substituted_restricted (record_literal fs) r = restricted_fields fs r
    substituted_restricted t r = cc

    restricted_among : (ts : Trees) → feature_of (subexpressions_among ts) ≡ None → feature_of (subexpressions_among (trees (built_list (builder_with (placed env)) ts))) ≡ None
    restricted_among no_trees r = refl
    restricted_among (tree t ts) r =
        let p = no_feature_split (subexpressions t) (subexpressions_among ts) r in
        found_none_join feature_here (subexpressions (built (builder_with (placed env)) t)) (subexpressions_among (trees (built_list (builder_with (placed env)) ts))) (substituted_restricted t p.0) (restricted_among ts p.1)

    restricted_fields : (fs : TreeFields) → feature_of (subexpressions_in_fields fs) ≡ None → feature_of (subexpressions_in_fields (tree_fields (built_fields (builder_with (placed env)) fs))) ≡ None
    restricted_fields no_tree_fields r = refl
    restricted_fields (tree_field a t fs) r =
        let p = no_feature_split (subexpressions t) (subexpressions_in_fields fs) r in
        found_none_join feature_here (subexpressions (built (builder_with (placed env)) t)) (subexpressions_in_fields (tree_fields (built_fields (builder_with (placed env)) fs))) (substituted_restricted t p.0) (restricted_fields fs p.1)
