-- What is read is in the builder's form, and has the slots alone that are written.
use Rattle.std.proofs.Common.{◌≡◌, Bool, true, false, ◌&&◌, ◌||◌, List, [], ◌∷◌, ◌++◌, Option, Some, None, refl, sym, subst, codes, bytes_eq}
use Rattle.std.proofs.lemmas.Bool.{or_parts, or_from}
use Rattle.serde_json.specs.Data.{Data, null, boolean, number, string, array, object, Items, no_items, item, Members, no_members, member}
use Rattle.cedar_expr_model.specs.Name.{Text}
use Rattle.cedar_expr_model.specs.Tree.{SlotId, principal_slot, resource_slot, Tree, slot, both, either, Trees, no_trees, tree, TreeFields, no_tree_fields, tree_field}
use Rattle.cedar_expr_model.specs.Builder.{written_truth, folded, path_test}
use Rattle.cedar_expr_model.specs.OfLaws.Built.{is_built, is_kept}
use Rattle.cedar_expr_model.proofs.Building.{conjunction_built, disjunction_built}
use Rattle.std.specs.List.{list_any, filter_map, list_all}
use Rattle.std.proofs.lemmas.List.Elements.{filter_map-append}
use Rattle.std.proofs.lemmas.List.Folds.{list_any-append}
use Rattle.cedar_expr_model.specs.Parts.{subexpressions, subexpressions_among, subexpressions_in_fields, slot_here}
use Rattle.cedar_store_model.proofs.Named.{slot_eq}
use Rattle.cedar_store_model.specs.Policy.{tree_uses}
use Rattle.cedar_gate_model.specs.ReadingForms.{word_of}
use Rattle.cedar_gate_model.specs.ReadingExpression.{Version, Part, slot_words, of_word, expression_read, parts_in}
use Rattle.cedar_gate_model.specs.ReadingLaws.{slot_text, is_slot_form, writes_slot, some_writes_slot, member_writes_slot}
use Rattle.cedar_gate_model.proofs.Reading.Steps.{map_some, AllBeside, beside_all}
use Rattle.cedar_gate_model.proofs.Reading.Kept.{EachTree, EachField, Kept, Reads, SlotHas, SlotsHave, SlotsOfItems, SlotsOfMembers, expression_has}
use Rattle.cedar_expr_model.proofs.Gathering.{all_join}
use Rattle.std.specs.Map.{lookup}

-- a property of every slot is one of those that are written
module _ (v : Version) (P : Tree → Type 0) where
  slot_read : (xs : List Part) → ((s : SlotId) → P (slot s)) → Reads P (of_word slot slot_words xs)
  slot_read [] h = λ t e. cc
  slot_read (x ∷ []) h = λ t e. let p = map_some slot (word_of slot_words x.json) t e in subst P (sym p.2) (h p.0)
  slot_read (x ∷ y ∷ xs) h = λ t e. cc

  slot_has : ((s : SlotId) → P (slot s)) → (ds : Items) → SlotHas v P ds
  slot_has h no_items = tt
  slot_has h (item (string w) ds) = λ _. slot_read (parts_in v ds) h
  slot_has h (item null ds) = tt
  slot_has h (item (boolean b) ds) = tt
  slot_has h (item (number n) ds) = tt
  slot_has h (item (array es) ds) = tt
  slot_has h (item (object ms) ds) = tt

  mutual
    pub all_slots_have : ((s : SlotId) → P (slot s)) → (d : Data) → SlotsHave v P d
    all_slots_have h null = tt
    all_slots_have h (boolean b) = tt
    all_slots_have h (number n) = tt
    all_slots_have h (string w) = tt
    all_slots_have h (array ds) = (slot_has h ds, items_have h ds)
    all_slots_have h (object ms) = members_have h ms

    items_have : ((s : SlotId) → P (slot s)) → (ds : Items) → SlotsOfItems v P ds
    items_have h no_items = tt
    items_have h (item d ds) = (all_slots_have h d, items_have h ds)

    members_have : ((s : SlotId) → P (slot s)) → (ms : Members) → SlotsOfMembers v P ms
    members_have h no_members = tt
    members_have h (member k d ms) = (all_slots_have h d, members_have h ms)

-- the builder's form
abbrev pub HasForm : Tree → Type 0
HasForm t = is_built t ≡ true

each_built : (ts : Trees) → EachTree HasForm ts → list_all is_kept (subexpressions_among ts) ≡ true
each_built no_trees h = refl
each_built (tree t ts) h = all_join is_kept (subexpressions t) (subexpressions_among ts) h.0 (each_built ts h.1)

each_field_built : (fs : TreeFields) → EachField HasForm fs → list_all is_kept (subexpressions_in_fields fs) ≡ true
each_field_built no_tree_fields h = refl
each_field_built (tree_field a t fs) h = all_join is_kept (subexpressions t) (subexpressions_in_fields fs) h.0 (each_field_built fs h.1)

path_form : (t : Tree) (a : Text) (bs : List Text) → is_built t ≡ true → is_built (path_test t a bs) ≡ true
path_form t a [] h = h
path_form t a (b ∷ bs) h = h

form_kept : Kept HasForm
form_kept = record {
  of_lit = λ p. refl;
  of_var = λ x. refl;
  of_unknown = λ n a. refl;
  of_choice = λ t a b h k l. all_join is_kept (subexpressions t) (subexpressions a ++ subexpressions b) h (all_join is_kept (subexpressions a) (subexpressions b) k l);
  of_both = conjunction_built;
  of_either = disjunction_built;
  of_unary = λ o a h. h;
  of_binary = λ o a b h k. all_join is_kept (subexpressions a) (subexpressions b) h k;
  of_call = λ f ts h. each_built ts h;
  of_get = λ t a h. h;
  of_path = path_form;
  of_like = λ t p h. h;
  of_is = λ t n h. h;
  of_set = each_built;
  of_record = each_field_built;
}

pub read_is_built : (v : Version) (d : Data) (t : Tree) → expression_read v d ≡ Some t → is_built t ≡ true
read_is_built v d = expression_has HasForm form_kept v d (all_slots_have v HasForm (λ s. refl) d)

-- the slots that aren't written
module _ (s : SlotId) where
  abbrev Lacks : Tree → Type 0
  Lacks t = tree_uses t s ≡ false

  -- the slot stands among these expressions
  abbrev uses_among : List Tree → Bool
  uses_among ts = list_any (slot_eq s) (filter_map slot_here ts)

  used_in_both : (xs ys : List Tree) → uses_among xs ≡ false → uses_among ys ≡ false → uses_among (xs ++ ys) ≡ false
  used_in_both xs ys h k =
      subst (λ l. list_any (slot_eq s) l ≡ false) (sym (filter_map-append slot_here xs ys))
      (subst (λ b. b ≡ false) (sym (list_any-append (slot_eq s) (filter_map slot_here xs) (filter_map slot_here ys))) (or_from (uses_among xs) (uses_among ys) h k))

  each_lacks : (ts : Trees) → EachTree Lacks ts → uses_among (subexpressions_among ts) ≡ false
  each_lacks no_trees h = refl
  each_lacks (tree t ts) h = used_in_both (subexpressions t) (subexpressions_among ts) h.0 (each_lacks ts h.1)

  each_field_lacks : (fs : TreeFields) → EachField Lacks fs → uses_among (subexpressions_in_fields fs) ≡ false
  each_field_lacks no_tree_fields h = refl
  each_field_lacks (tree_field a t fs) h = used_in_both (subexpressions t) (subexpressions_in_fields fs) h.0 (each_field_lacks fs h.1)

  folded_lacks : (f : Bool → Bool → Bool) (a b : Option Bool) (t : Tree) → tree_uses t s ≡ false → tree_uses (folded f a b t) s ≡ false
  folded_lacks f (Some x) (Some y) t h = refl
  folded_lacks f (Some x) None t h = h
  folded_lacks f None b t h = h

  path_lacks : (t : Tree) (a : Text) (bs : List Text) → Lacks t → Lacks (path_test t a bs)
  path_lacks t a [] h = h
  path_lacks t a (b ∷ bs) h = h

  lacks_kept : Kept Lacks
  lacks_kept = record {
    of_lit = λ p. refl;
    of_var = λ x. refl;
    of_unknown = λ n a. refl;
    of_choice = λ t a b h k l. used_in_both (subexpressions t) (subexpressions a ++ subexpressions b) h (used_in_both (subexpressions a) (subexpressions b) k l);
    of_both = λ a b h k. folded_lacks _ (written_truth a) (written_truth b) (both a b) (used_in_both (subexpressions a) (subexpressions b) h k);
    of_either = λ a b h k. folded_lacks _ (written_truth a) (written_truth b) (either a b) (used_in_both (subexpressions a) (subexpressions b) h k);
    of_unary = λ o a h. h;
    of_binary = λ o a b h k. used_in_both (subexpressions a) (subexpressions b) h k;
    of_call = λ f ts h. each_lacks ts h;
    of_get = λ t a h. h;
    of_path = path_lacks;
    of_like = λ t p h. h;
    of_is = λ t n h. h;
    of_set = each_lacks;
    of_record = each_field_lacks;
  }

other_slot : (s : SlotId) (v : Text) → bytes_eq v (slot_text s) ≡ false → AllBeside (λ r. (slot_eq s r || false) ≡ false) v slot_words
other_slot principal_slot v h = ((λ k. cc), ((λ k. refl), tt))
other_slot resource_slot v h = ((λ k. refl), ((λ k. cc), tt))

-- the one part after the word
after_word : (v : Version) (s : SlotId) (r : Text) → bytes_eq r (slot_text s) ≡ false → Reads (Lacks s) (of_word slot slot_words (parts_in v (item (string r) no_items)))
after_word v s r h t e =
    let p = map_some slot (lookup (bytes_eq r) slot_words) t e in
    subst (Lacks s) (sym p.2) (beside_all (λ i. (slot_eq s i || false) ≡ false) r slot_words (other_slot s r h) p.0 p.1)

second_false : (a b : Bool) → (a && b) ≡ false → a ≡ true → b ≡ false
second_false true b e h = e
second_false false b e h = cc

unwritten : (v : Version) (s : SlotId) (w : Text) (ds : Items) → is_slot_form s (item (string w) ds) ≡ false → bytes_eq w (codes "slot") ≡ true → Reads (Lacks s) (of_word slot slot_words (parts_in v ds))
unwritten v s w no_items h k = λ t e. cc
unwritten v s w (item (string r) no_items) h k = after_word v s r (second_false (bytes_eq w (codes "slot")) (bytes_eq r (slot_text s)) h k)
unwritten v s w (item null no_items) h k = λ t e. cc
unwritten v s w (item (boolean b) no_items) h k = λ t e. cc
unwritten v s w (item (number n) no_items) h k = λ t e. cc
unwritten v s w (item (array es) no_items) h k = λ t e. cc
unwritten v s w (item (object ms) no_items) h k = λ t e. cc
unwritten v s w (item d (item c ds)) h k = λ t e. cc

slot_lacks : (v : Version) (s : SlotId) (ds : Items) → is_slot_form s ds ≡ false → SlotHas v (Lacks s) ds
slot_lacks v s no_items h = tt
slot_lacks v s (item (string w) ds) h = unwritten v s w ds h
slot_lacks v s (item null ds) h = tt
slot_lacks v s (item (boolean b) ds) h = tt
slot_lacks v s (item (number n) ds) h = tt
slot_lacks v s (item (array es) ds) h = tt
slot_lacks v s (item (object ms) ds) h = tt

mutual
  slots_lack : (v : Version) (s : SlotId) (d : Data) → writes_slot s d ≡ false → SlotsHave v (Lacks s) d
  slots_lack v s null h = tt
  slots_lack v s (boolean b) h = tt
  slots_lack v s (number n) h = tt
  slots_lack v s (string w) h = tt
  slots_lack v s (array ds) h = let p = or_parts (is_slot_form s ds) (some_writes_slot s ds) h in (slot_lacks v s ds p.0, items_lack v s ds p.1)
  slots_lack v s (object ms) h = members_lack v s ms h

  items_lack : (v : Version) (s : SlotId) (ds : Items) → some_writes_slot s ds ≡ false → SlotsOfItems v (Lacks s) ds
  items_lack v s no_items h = tt
  items_lack v s (item d ds) h = let p = or_parts (writes_slot s d) (some_writes_slot s ds) h in (slots_lack v s d p.0, items_lack v s ds p.1)

  members_lack : (v : Version) (s : SlotId) (ms : Members) → member_writes_slot s ms ≡ false → SlotsOfMembers v (Lacks s) ms
  members_lack v s no_members h = tt
  members_lack v s (member k d ms) h = let p = or_parts (writes_slot s d) (member_writes_slot s ms) h in (slots_lack v s d p.0, members_lack v s ms p.1)

pub read_slots_are_written : (v : Version) (s : SlotId) (d : Data) (t : Tree) → writes_slot s d ≡ false → expression_read v d ≡ Some t → tree_uses t s ≡ false
read_slots_are_written v s d t h = expression_has (Lacks s) (lacks_kept s) v d (slots_lack v s d h) t
