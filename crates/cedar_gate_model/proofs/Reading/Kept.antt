-- What each step of the builder keeps holds of what is read, where it holds of the slots that are written.
use Rattle.std.proofs.Common.{◌≡◌, true, List, [], ◌∷◌, Option, Some, None, sym, subst, codes, option_map, bytes_eq}
use Rattle.serde_json.specs.Data.{Data, null, boolean, number, string, array, object, Items, no_items, item, Members, no_members, member}
use Rattle.serde_json.specs.Find.{as_str, as_i64}
use Rattle.cedar_expr_model.specs.Name.{Text, Name}
use Rattle.cedar_expr_model.specs.Value.{Literal, truth, long, text, entity}
use Rattle.cedar_expr_model.specs.Pattern.{Pattern}
use Rattle.cedar_expr_model.specs.Tree.{Var, CoreType, UnaryOp, negation, minus, is_empty, BinaryOp, equal, less, less_or_equal, plus, difference, times, remainder, is_in, contains, contains_all, contains_any, get_tag, has_tag, Tree, lit, var, slot, unknown, choice, unary, binary, call, get_attr, like, is_type, set_literal, record_literal, Trees, no_trees, tree, TreeFields, no_tree_fields, tree_field}
use Rattle.cedar_expr_model.specs.Builder.{conjunction, disjunction, path_test, trees}
use Rattle.cedar_gate_model.specs.Reading.{given}
use Rattle.cedar_gate_model.specs.ReadingForms.{word_of}
use Rattle.cedar_gate_model.specs.ReadingName.{plain_name_read, uid_from, annotation_read}
use Rattle.cedar_gate_model.specs.ReadingExpression.{Version, first, second, Part, var_words, slot_words, pattern_read, trees_in, of_one, of_two, of_three, of_tree_and, of_word, uid_form, unknown_form, call_form, has_form, common_forms, forms, form_read, expression_read, parts_in, fields_read, fields_in}
use Rattle.cedar_gate_model.proofs.Reading.Steps.{given_some, map_some, AllBeside, beside_all, and_then_some}
use Rattle.cedar_expr_model.specs.Lists.{all_given}
use Rattle.std.specs.Map.{lookup}
use Rattle.cedar_gate_model.proofs.Named.{record_form}

abbrev pub EachTree : (Tree → Type 0) → Trees → Type 0
EachTree P no_trees = Unit {0}
EachTree P (tree t ts) = P t × EachTree P ts

abbrev pub EachField : (Tree → Type 0) → TreeFields → Type 0
EachField P no_tree_fields = Unit {0}
EachField P (tree_field a t fs) = P t × EachField P fs

-- each step of the builder keeps it
pub record Kept (P : Tree → Type 0) : Type 0 where
  pub of_lit : (p : Literal) → P (lit p)
  pub of_var : (x : Var) → P (var x)
  pub of_unknown : (n : Text) (a : Option CoreType) → P (unknown n a)
  pub of_choice : (t a b : Tree) → P t → P a → P b → P (choice t a b)
  pub of_both : (a b : Tree) → P a → P b → P (conjunction a b)
  pub of_either : (a b : Tree) → P a → P b → P (disjunction a b)
  pub of_unary : (o : UnaryOp) (a : Tree) → P a → P (unary o a)
  pub of_binary : (o : BinaryOp) (a b : Tree) → P a → P b → P (binary o a b)
  pub of_call : (f : Name) (ts : Trees) → EachTree P ts → P (call f ts)
  pub of_get : (t : Tree) (a : Text) → P t → P (get_attr t a)
  pub of_path : (t : Tree) (a : Text) (bs : List Text) → P t → P (path_test t a bs)
  pub of_like : (t : Tree) (p : Pattern) → P t → P (like t p)
  pub of_is : (t : Tree) (n : Name) → P t → P (is_type t n)
  pub of_set : (ts : Trees) → EachTree P ts → P (set_literal ts)
  pub of_record : (fs : TreeFields) → EachField P fs → P (record_literal fs)

-- what is read has it
abbrev pub Reads : (Tree → Type 0) → Option Tree → Type 0
Reads P o = (t : Tree) → o ≡ Some t → P t

abbrev pub FieldsRead : (Tree → Type 0) → Option TreeFields → Type 0
FieldsRead P o = (fs : TreeFields) → o ≡ Some fs → EachField P fs

abbrev pub AreGood : (Tree → Type 0) → List Part → Type 0
AreGood P [] = Unit {0}
AreGood P (x ∷ xs) = (Reads P x.tree × FieldsRead P x.fields) × AreGood P xs

-- The slots that are written in the JSON have it.
abbrev pub SlotHas : Version → (Tree → Type 0) → Items → Type 0
SlotHas v P (item (string w) ds) = bytes_eq w (codes "slot") ≡ true → Reads P (of_word slot slot_words (parts_in v ds))
SlotHas v P ds = Unit {0}

abbrev mutual
  pub SlotsHave : Version → (Tree → Type 0) → Data → Type 0
  SlotsHave v P (array ds) = SlotHas v P ds × SlotsOfItems v P ds
  SlotsHave v P (object ms) = SlotsOfMembers v P ms
  SlotsHave v P d = Unit {0}

  pub SlotsOfItems : Version → (Tree → Type 0) → Items → Type 0
  SlotsOfItems v P no_items = Unit {0}
  SlotsOfItems v P (item d ds) = SlotsHave v P d × SlotsOfItems v P ds

  pub SlotsOfMembers : Version → (Tree → Type 0) → Members → Type 0
  SlotsOfMembers v P no_members = Unit {0}
  SlotsOfMembers v P (member k d ms) = SlotsHave v P d × SlotsOfMembers v P ms

module _ (P : Tree → Type 0) (kept : Kept P) where
  map_reads : {A : Type 0} (make : A → Tree) (o : Option A) → ((a : A) → o ≡ Some a → P (make a)) → Reads P (option_map make o)
  map_reads make o h t e = let p = map_some make o t e in subst P (sym p.2) (h p.0 p.1)

  given_reads : {A : Type 0} (o : Option A) (next : A → Option Tree) → ((a : A) → o ≡ Some a → Reads P (next a)) → Reads P (given o next)
  given_reads o next h t e = let p = given_some o next t e in h p.0 p.1 t p.2

  each_good : (xs : List Part) → AreGood P xs → (us : List Tree) → all_given (λ (x : Part). x.tree) xs ≡ Some us → EachTree P (trees us)
  each_good [] g us e = let q : [] ≡ us = cc in subst (λ vs. EachTree P (trees vs)) q tt
  each_good (x ∷ xs) g us e =
      let p = and_then_some (λ t. option_map (λ vs. t ∷ vs) (all_given (λ (x : Part). x.tree) xs)) x.tree us e in
      let q = map_some (λ vs. p.0 ∷ vs) (all_given (λ (x : Part). x.tree) xs) us p.2 in
      subst (λ vs. EachTree P (trees vs)) (sym q.2) (g.0.0 p.0 p.1, each_good xs g.1 q.0 q.1)

  trees_good : (xs : List Part) → AreGood P xs → (ts : Trees) → trees_in xs ≡ Some ts → EachTree P ts
  trees_good xs g ts e = let q = map_some trees (all_given (λ (x : Part). x.tree) xs) ts e in subst (EachTree P) (sym q.2) (each_good xs g q.0 q.1)

  one_reads : (make : Tree → Tree) → ((a : Tree) → P a → P (make a)) → (xs : List Part) → AreGood P xs → Reads P (of_one make xs)
  one_reads make h [] g = λ t e. cc
  one_reads make h (x ∷ []) g = map_reads make x.tree (λ a e. h a (g.0.0 a e))
  one_reads make h (x ∷ y ∷ xs) g = λ t e. cc

  two_reads : (make : Tree → Tree → Tree) → ((a b : Tree) → P a → P b → P (make a b)) → (xs : List Part) → AreGood P xs → Reads P (of_two make xs)
  two_reads make h [] g = λ t e. cc
  two_reads make h (x ∷ []) g = λ t e. cc
  two_reads make h (x ∷ y ∷ []) g = given_reads x.tree _ (λ a e. map_reads (make a) y.tree (λ b f. h a b (g.0.0 a e) (g.1.0.0 b f)))
  two_reads make h (x ∷ y ∷ z ∷ xs) g = λ t e. cc

  three_reads : (make : Tree → Tree → Tree → Tree) → ((a b c : Tree) → P a → P b → P c → P (make a b c)) → (xs : List Part) → AreGood P xs → Reads P (of_three make xs)
  three_reads make h [] g = λ t e. cc
  three_reads make h (x ∷ []) g = λ t e. cc
  three_reads make h (x ∷ y ∷ []) g = λ t e. cc
  three_reads make h (x ∷ y ∷ z ∷ []) g =
      given_reads x.tree _ (λ a e. given_reads y.tree _ (λ b f. map_reads (make a b) z.tree (λ c k. h a b c (g.0.0 a e) (g.1.0.0 b f) (g.1.1.0.0 c k))))
  three_reads make h (x ∷ y ∷ z ∷ w ∷ xs) g = λ t e. cc

  tree_and_reads : {A : Type 0} (make : Tree → A → Tree) (read : Data → Option A) → ((t : Tree) (a : A) → P t → P (make t a)) → (xs : List Part) → AreGood P xs → Reads P (of_tree_and make read xs)
  tree_and_reads make read h [] g = λ t e. cc
  tree_and_reads make read h (x ∷ []) g = λ t e. cc
  tree_and_reads make read h (x ∷ y ∷ []) g = given_reads x.tree _ (λ t e. map_reads (make t) (read y.json) (λ a f. h t a (g.0.0 t e)))
  tree_and_reads make read h (x ∷ y ∷ z ∷ xs) g = λ t e. cc

  var_reads : (xs : List Part) → Reads P (of_word var var_words xs)
  var_reads [] = λ t e. cc
  var_reads (x ∷ []) = map_reads var (word_of var_words x.json) (λ v e. kept.of_var v)
  var_reads (x ∷ y ∷ xs) = λ t e. cc

  uid_reads : (xs : List Part) → Reads P (uid_form xs)
  uid_reads [] = λ t e. cc
  uid_reads (x ∷ []) = λ t e. cc
  uid_reads (x ∷ y ∷ []) = map_reads (λ u. lit (entity u)) (uid_from (plain_name_read x.json) (as_str y.json)) (λ u e. kept.of_lit (entity u))
  uid_reads (x ∷ y ∷ z ∷ xs) = λ t e. cc

  unknown_reads : (xs : List Part) → Reads P (unknown_form xs)
  unknown_reads [] = λ t e. cc
  unknown_reads (x ∷ []) = map_reads (λ n. unknown n None) (as_str x.json) (λ n e. kept.of_unknown n None)
  unknown_reads (x ∷ y ∷ []) = given_reads (as_str x.json) _ (λ n e. map_reads (λ a. unknown n (Some a)) (annotation_read y.json) (λ a f. kept.of_unknown n (Some a)))
  unknown_reads (x ∷ y ∷ z ∷ xs) = λ t e. cc

  call_reads : (xs : List Part) → AreGood P xs → Reads P (call_form xs)
  call_reads [] g = λ t e. cc
  call_reads (x ∷ xs) g = given_reads (plain_name_read x.json) _ (λ f e. map_reads (call f) (trees_in xs) (λ ts q. kept.of_call f ts (trees_good xs g.1 ts q)))

  has_reads : (xs : List Part) → AreGood P xs → Reads P (has_form xs)
  has_reads [] g = λ t e. cc
  has_reads (x ∷ []) g = λ t e. cc
  has_reads (x ∷ y ∷ more) g = given_reads x.tree _ (λ t e. given_reads (as_str y.json) _ (λ a f. map_reads (path_test t a) (all_given (λ z. as_str z.json) more) (λ bs q. kept.of_path t a bs (g.0.0 t e))))

  set_reads : (xs : List Part) → AreGood P xs → Reads P (option_map set_literal (trees_in xs))
  set_reads xs g = map_reads set_literal (trees_in xs) (λ ts q. kept.of_set ts (trees_good xs g ts q))

  record_reads : (xs : List Part) → AreGood P xs → Reads P (record_form xs)
  record_reads [] g = λ t e. cc
  record_reads (x ∷ []) g = map_reads record_literal x.fields (λ fs q. kept.of_record fs (g.0.1 fs q))
  record_reads (x ∷ y ∷ xs) g = λ t e. cc

  joins : (o : BinaryOp) (xs : List Part) → AreGood P xs → Reads P (of_two (binary o) xs)
  joins o xs g = two_reads (binary o) (kept.of_binary o) xs g

  -- each form of the table of both versions
  common_read : (word : Text) (xs : List Part) → AreGood P xs → (bytes_eq word (codes "slot") ≡ true → Reads P (of_word slot slot_words xs)) → AllBeside (λ form. Reads P (form xs)) word common_forms
  common_read word xs g s = (
    λ _. uid_reads xs,
    (
      λ _. var_reads xs,
      (
        s,
        (
          λ _. unknown_reads xs,
          (
            λ _. three_reads choice kept.of_choice xs g,
            (
              λ _. two_reads conjunction kept.of_both xs g,
              (
                λ _. two_reads disjunction kept.of_either xs g,
                (
                  λ _. one_reads (unary negation) (kept.of_unary negation) xs g,
                  (
                    λ _. one_reads (unary minus) (kept.of_unary minus) xs g,
                    (
                      λ _. one_reads (unary is_empty) (kept.of_unary is_empty) xs g,
                      (
                        λ _. joins equal xs g,
                        (
                          λ _. joins less xs g,
                          (
                            λ _. joins less_or_equal xs g,
                            (
                              λ _. joins plus xs g,
                              (
                                λ _. joins difference xs g,
                                (
                                  λ _. joins times xs g,
                                  (
                                    λ _. joins is_in xs g,
                                    (
                                      λ _. joins contains xs g,
                                      (
                                        λ _. joins contains_all xs g,
                                        (
                                          λ _. joins contains_any xs g,
                                          (
                                            λ _. joins get_tag xs g,
                                            (
                                              λ _. joins has_tag xs g,
                                              (
                                                λ _. call_reads xs g,
                                                (
                                                  λ _. tree_and_reads get_attr as_str kept.of_get xs g,
                                                  (
                                                    λ _. has_reads xs g,
                                                    (
                                                      λ _. tree_and_reads like pattern_read kept.of_like xs g,
                                                      (
                                                        λ _. tree_and_reads is_type plain_name_read kept.of_is xs g,
                                                        (
                                                          λ _. set_reads xs g,
                                                          (
                                                            λ _. record_reads xs g,
                                                            tt,
                                                          ),
                                                        ),
                                                      ),
                                                    ),
                                                  ),
                                                ),
                                              ),
                                            ),
                                          ),
                                        ),
                                      ),
                                    ),
                                  ),
                                ),
                              ),
                            ),
                          ),
                        ),
                      ),
                    ),
                  ),
                ),
              ),
            ),
          ),
        ),
      ),
    ),
  )

  forms_read : (v : Version) (word : Text) (xs : List Part) → AreGood P xs → (bytes_eq word (codes "slot") ≡ true → Reads P (of_word slot slot_words xs)) → AllBeside (λ form. Reads P (form xs)) word (forms v)
  forms_read first word xs g s = common_read word xs g s
  forms_read second word xs g s = (λ _. joins remainder xs g, common_read word xs g s)

  word_reads : (v : Version) (word : Text) (xs : List Part) → AreGood P xs → (bytes_eq word (codes "slot") ≡ true → Reads P (of_word slot slot_words xs)) → Reads P (given (lookup (bytes_eq word) (forms v)) (λ form. form xs))
  word_reads v word xs g s = given_reads (lookup (bytes_eq word) (forms v)) _ (λ form e. beside_all (λ f. Reads P (f xs)) word (forms v) (forms_read v word xs g s) form e)

  list_reads : (v : Version) (ds : Items) → SlotHas v P ds → AreGood P (parts_in v ds) → Reads P (form_read v (parts_in v ds))
  list_reads v no_items s g = λ t e. cc
  list_reads v (item (string w) ds) s g = word_reads v w (parts_in v ds) g.1 s
  list_reads v (item null ds) s g = λ t e. cc
  list_reads v (item (boolean b) ds) s g = λ t e. cc
  list_reads v (item (number n) ds) s g = λ t e. cc
  list_reads v (item (array es) ds) s g = λ t e. cc
  list_reads v (item (object ms) ds) s g = λ t e. cc

  mutual
    pub expression_has : (v : Version) (d : Data) → SlotsHave v P d → Reads P (expression_read v d)
    expression_has v null s = λ t e. cc
    expression_has v (boolean b) s = λ t e. let q : lit (truth b) ≡ t = cc in subst P q (kept.of_lit (truth b))
    expression_has v (number n) s = map_reads (λ z. lit (long z)) (as_i64 n) (λ z e. kept.of_lit (long z))
    expression_has v (string w) s = λ t e. let q : lit (text w) ≡ t = cc in subst P q (kept.of_lit (text w))
    expression_has v (array ds) s = list_reads v ds s.0 (parts_have v ds s.1)
    expression_has v (object ms) s = λ t e. cc

    parts_have : (v : Version) (ds : Items) → SlotsOfItems v P ds → AreGood P (parts_in v ds)
    parts_have v no_items s = tt
    parts_have v (item d ds) s = ((expression_has v d s.0, fields_have v d s.0), parts_have v ds s.1)

    pub fields_have : (v : Version) (d : Data) → SlotsHave v P d → FieldsRead P (fields_read v d)
    fields_have v (object ms) s = members_have v ms s
    fields_have v null s = λ fs e. cc
    fields_have v (boolean b) s = λ fs e. cc
    fields_have v (number n) s = λ fs e. cc
    fields_have v (string w) s = λ fs e. cc
    fields_have v (array ds) s = λ fs e. cc

    members_have : (v : Version) (ms : Members) → SlotsOfMembers v P ms → FieldsRead P (fields_in v ms)
    members_have v no_members s = λ fs e. let q : no_tree_fields ≡ fs = cc in subst (EachField P) q tt
    members_have v (member k d ms) s = λ fs e.
        let p = given_some (expression_read v d) _ fs e in
        let q = map_some (tree_field k p.0) (fields_in v ms) fs p.2 in
        subst (EachField P) (sym q.2) (expression_has v d s.0 p.0 p.1, members_have v ms s.1 q.0 q.1)
