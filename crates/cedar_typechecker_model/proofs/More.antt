-- Where more is known, what has a type keeps it.
use Rattle.std.proofs.Common.{◌≡◌, ◌&&◌, ◌||◌, Bool, true, false, ◌∷◌, Option, Some, None, refl, ap, ◌∙◌}
use Rattle.std.specs.Prelude.{option_map, option_and_then, if◌then◌else◌}
use Rattle.cedar_expr_model.specs.Tree.{BinaryOp, get_tag, Tree, lit, var, slot, unknown, choice, both, either, unary, binary, call, get_attr, has_attr, has_path, like, is_type, set_literal, record_literal, Trees, no_trees, tree, TreeFields, no_tree_fields, tree_field}
use Rattle.cedar_schema_model.specs.Types.{any_bool, only_true, only_false, Ty, bool_type, attribute, Declared}
use Rattle.cedar_schema_model.specs.Lookup.{lookup_attribute}
use Rattle.cedar_typechecker_model.specs.Facts.{Facts, union, attribute_part, tag_part}
use Rattle.cedar_typechecker_model.specs.Rules.{Setting, unary_type, like_type, is_type_type, has_type, get_type, attribute_type, tag_type, is_string_type, set_literal_type, record_literal_type, call_type}
use Rattle.cedar_typechecker_model.specs.Typing.{Judgement, judged, plain, tested, conjoined, disjoined, chosen, path_judged, binary_judged, Types, and_judged, or_judged, choice_judged, judgement, judgements, field_judgements}
use Rattle.cedar_typechecker_model.specs.Laws.{FactsAmong}
use Rattle.cedar_typechecker_model.proofs.Typing.{exact}

-- what the first gives the second gives
pub record Stays {A : Type 0} (o p : Option A) : Type 0 where
  pub stays : (a : A) → o ≡ Some a → p ≡ Some a

stays_itself : {A : Type 0} (o : Option A) → Stays o o
stays_itself o = record { stays = λ a e. e }

stays_then : {A B : Type 0} (o p : Option A) (f g : A → Option B) → Stays o p → ((a : A) → Stays (f a) (g a)) → Stays (option_and_then f o) (option_and_then g p)
stays_then None p f g h k = record { stays = λ b e. cc }
stays_then (Some a) p f g h k = record { stays = λ b e. ap (option_and_then g) (h.stays a refl) ∙ (k a).stays b e }

stays_map : {A B : Type 0} (o p : Option A) (f : A → B) → Stays o p → Stays (option_map f o) (option_map f p)
stays_map None p f h = record { stays = λ b e. cc }
stays_map (Some a) p f h = record { stays = λ b e. ap (option_map f) (h.stays a refl) ∙ e }

-- a rule on one part
stays_one : {A B : Type 0} (o p : Option A) (f : A → Option B) → Stays o p → Stays (option_and_then f o) (option_and_then f p)
stays_one o p f h = stays_then o p f f h (λ a. stays_itself (f a))

union_among : (f g h : Facts) → FactsAmong f g → FactsAmong (union f h) (union g h)
union_among f g h n e p k = wider (f e p) (g e p) (h e p) (n e p) k
  where
    wider : (a b c : Bool) → (a ≡ true → b ≡ true) → (a || c) ≡ true → (b || c) ≡ true
    wider a true c i k = refl
    wider false false c i k = k
    wider true false c i k = (let q = i refl in cc)

more_attribute : (x y : Bool) (d : Option Declared) → (x ≡ true → y ≡ true) → Stays (plain (attribute_type x d)) (plain (attribute_type y d))
more_attribute x y None h = stays_itself None
more_attribute true y (Some d) h = let q = h refl in rw q (stays_itself _)
more_attribute false true (Some d) h = first d.is_required d
  where
    first : (r : Bool) (d : Declared) → Stays (plain (if r || false then Some d.type else None)) (plain (if r || true then Some d.type else None))
    first true d = stays_itself _
    first false d = record { stays = λ a e. cc }
more_attribute false false (Some d) h = stays_itself _

more_tag : (x y z : Bool) (t : Option Ty) → (y ≡ true → z ≡ true) → Stays (plain (if x && y then t else None)) (plain (if x && z then t else None))
more_tag false y z t h = stays_itself _
more_tag true false z t h = record { stays = λ a e. cc }
more_tag true true z t h = let q = h refl in rw q (stays_itself _)

more_binary : (s : Setting) (known more : Facts) (o : BinaryOp) (a b : Tree) (t u : Ty) → FactsAmong known more → Stays (binary_judged s known o a b t u) (binary_judged s more o a b t u)
more_binary s known more get_tag a b t u h = more_tag (is_string_type u) (known a (tag_part b)) (more a (tag_part b)) (tag_type s t) (h a (tag_part b))
more_binary s known more o a b t u h = stays_itself _

more_and : (f g : Facts → Option Judgement) → ((h : Facts) → Stays (f h) (g h)) → (t : Ty) (h : Facts) → Stays (and_judged f t h) (and_judged g t h)
more_and f g n (bool_type only_false) h = stays_itself _
more_and f g n (bool_type b) h = stays_one (f h) (g h) (λ r. conjoined b h r.type r.facts) (n h)
more_and f g n t h = stays_itself None

more_or : (f g : Option Judgement) → Stays f g → (t : Ty) (h : Facts) → Stays (or_judged f t h) (or_judged g t h)
more_or f g n (bool_type only_true) h = stays_itself _
more_or f g n (bool_type b) h = stays_one f g (λ r. disjoined b h r.type r.facts) n
more_or f g n t h = stays_itself None

more_choice : (s : Setting) (f g : Facts → Option Judgement) (p q : Option Judgement) → ((h : Facts) → Stays (f h) (g h)) → Stays p q → (t : Ty) (h : Facts) → Stays (choice_judged s f p t h) (choice_judged s g q t h)
more_choice s f g p q n m (bool_type only_true) h = stays_one (f h) (g h) (λ r. judged r.type (union h r.facts)) (n h)
more_choice s f g p q n m (bool_type only_false) h = m
more_choice s f g p q n m (bool_type any_bool) h =
    stays_then (f h) (g h) (λ r. option_and_then (λ v. chosen s r.type (union h r.facts) v.type v.facts) p) (λ r. option_and_then (λ v. chosen s r.type (union h r.facts) v.type v.facts) q) (n h)
    (λ r. stays_one p q (λ v. chosen s r.type (union h r.facts) v.type v.facts) m)
more_choice s f g p q n m t h = stays_itself None

mutual
  pub more : (s : Setting) (f g : Facts) → FactsAmong f g → (t : Tree) → Stays (judgement s f t) (judgement s g t)
  more s f g h (lit p) = stays_itself _
  more s f g h (var x) = stays_itself _
  more s f g h (slot x) = stays_itself _
  more s f g h (unknown n a) = stays_itself _
  more s f g h (choice t a b) =
      stays_then (judgement s f t) (judgement s g t) (λ j. choice_judged s (λ k. judgement s (union f k) a) (judgement s f b) j.type j.facts) (λ j. choice_judged s (λ k. judgement s (union g k) a) (judgement s g b) j.type j.facts) (more s f g h t)
      (λ j. more_choice s (λ k. judgement s (union f k) a) (λ k. judgement s (union g k) a) (judgement s f b) (judgement s g b) (λ k. more s (union f k) (union g k) (union_among f g k h) a) (more s f g h b) j.type j.facts)
  more s f g h (both a b) =
      stays_then (judgement s f a) (judgement s g a) (λ j. and_judged (λ k. judgement s (union f k) b) j.type j.facts) (λ j. and_judged (λ k. judgement s (union g k) b) j.type j.facts) (more s f g h a)
      (λ j. more_and (λ k. judgement s (union f k) b) (λ k. judgement s (union g k) b) (λ k. more s (union f k) (union g k) (union_among f g k h) b) j.type j.facts)
  more s f g h (either a b) =
      stays_then (judgement s f a) (judgement s g a) (λ j. or_judged (judgement s f b) j.type j.facts) (λ j. or_judged (judgement s g b) j.type j.facts) (more s f g h a)
      (λ j. more_or (judgement s f b) (judgement s g b) (more s f g h b) j.type j.facts)
  more s f g h (unary o a) = stays_one (judgement s f a) (judgement s g a) (λ j. plain (unary_type o j.type)) (more s f g h a)
  more s f g h (binary o a b) =
      stays_then (judgement s f a) (judgement s g a) (λ j. option_and_then (λ k. binary_judged s f o a b j.type k.type) (judgement s f b)) (λ j. option_and_then (λ k. binary_judged s g o a b j.type k.type) (judgement s g b)) (more s f g h a)
      (λ j. stays_then (judgement s f b) (judgement s g b) (λ k. binary_judged s f o a b j.type k.type) (λ k. binary_judged s g o a b j.type k.type) (more s f g h b) (λ k. more_binary s f g o a b j.type k.type h))
  more s f g h (call n ts) = stays_one (judgements s f ts) (judgements s g ts) (λ us. plain (call_type s n ts us)) (more_each s f g h ts)
  more s f g h (get_attr e a) =
      stays_then (judgement s f e) (judgement s g e) (λ j. plain (get_type s f e j.type a)) (λ j. plain (get_type s g e j.type a)) (more s f g h e)
      (λ j. more_attribute (f e (attribute_part a)) (g e (attribute_part a)) (lookup_attribute s.schema j.type a) (h e (attribute_part a)))
  more s f g h (has_attr e a) = stays_one (judgement s f e) (judgement s g e) (λ j. option_map (tested e (attribute_part a)) (has_type s j.type a)) (more s f g h e)
  more s f g h (has_path e a bs) = stays_one (judgement s f e) (judgement s g e) (λ j. path_judged s a bs e j.type) (more s f g h e)
  more s f g h (like e p) = stays_one (judgement s f e) (judgement s g e) (λ j. plain (like_type j.type)) (more s f g h e)
  more s f g h (is_type e n) = stays_one (judgement s f e) (judgement s g e) (λ j. plain (is_type_type n j.type)) (more s f g h e)
  more s f g h (set_literal ts) = stays_one (judgements s f ts) (judgements s g ts) (λ us. plain (set_literal_type s.mode us)) (more_each s f g h ts)
  more s f g h (record_literal fs) = stays_one (field_judgements s f fs) (field_judgements s g fs) (λ as_. plain (record_literal_type as_)) (more_fields s f g h fs)

  more_each : (s : Setting) (f g : Facts) → FactsAmong f g → (ts : Trees) → Stays (judgements s f ts) (judgements s g ts)
  more_each s f g h no_trees = stays_itself _
  more_each s f g h (tree e es) =
      stays_then (judgement s f e) (judgement s g e) (λ j. option_map (λ ts. j.type ∷ ts) (judgements s f es)) (λ j. option_map (λ ts. j.type ∷ ts) (judgements s g es)) (more s f g h e)
      (λ j. stays_map (judgements s f es) (judgements s g es) (λ ts. j.type ∷ ts) (more_each s f g h es))

  more_fields : (s : Setting) (f g : Facts) → FactsAmong f g → (fs : TreeFields) → Stays (field_judgements s f fs) (field_judgements s g fs)
  more_fields s f g h no_tree_fields = stays_itself _
  more_fields s f g h (tree_field a e fs) =
      stays_then (judgement s f e) (judgement s g e) (λ j. option_map (λ bs. attribute a j.type true bs) (field_judgements s f fs)) (λ j. option_map (λ bs. attribute a j.type true bs) (field_judgements s g fs)) (more s f g h e)
      (λ j. stays_map (field_judgements s f fs) (field_judgements s g fs) (λ bs. attribute a j.type true bs) (more_fields s f g h fs))

pub more_facts_keep_types : (s : Setting) (known wider : Facts) (t : Tree) (ty : Ty) (out : Facts) → FactsAmong known wider → Types s known t ty out → Types s wider t ty out
more_facts_keep_types s known wider t ty out h d = (exact s wider t).gives ty out ((more s known wider h t).stays (record { type = ty; facts = out }) ((exact s known t).only ty out d))
