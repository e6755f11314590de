-- The type that an expression shows stands on the functions of the table alone.
use Rattle.std.proofs.Common.{◌≡◌, List, Option, Some, None, Result, Ok, Err, IfOk, refl, sym, ap, ◌∙◌}
use Rattle.std.specs.Prelude.{find, option_and_then}
use Rattle.cedar_expr_model.specs.Name.{Name, name_eq}
use Rattle.cedar_expr_model.specs.Evident.{evident_type, agreed}
use Rattle.cedar_expr_model.specs.Table.{Table, Signature}
use Rattle.cedar_expr_model.specs.Tree.{CoreType, Tree, lit, var, slot, unknown, choice, both, either, unary, binary, call, get_attr, has_attr, has_path, like, is_type, set_literal, record_literal}
use Rattle.cedar_expr_functions.specs.Calls.{type_shown, result_of}

pub same_shown : (x : Table) (t : Tree) → type_shown x.functions t ≡ evident_type x t
same_shown x (lit p) = refl
same_shown x (var v) = refl
same_shown x (slot s) = refl
same_shown x (unknown n a) = refl
same_shown x (choice t a b) = λ i. agreed (same_shown x a i) (same_shown x b i)
same_shown x (both a b) = refl
same_shown x (either a b) = refl
same_shown x (unary o a) = refl
same_shown x (binary o a b) = refl
same_shown x (call f ts) = refl
same_shown x (get_attr t a) = refl
same_shown x (has_attr t a) = refl
same_shown x (has_path t a bs) = refl
same_shown x (like t p) = refl
same_shown x (is_type t n) = refl
same_shown x (set_literal ts) = refl
same_shown x (record_literal fs) = refl

-- the result type of a function, by what the look-up finds
pub result_is : (ss : List Signature) (f : Name) (s : Signature) (r : Option CoreType) → find (λ s. name_eq f s.name) ss ≡ Some s → r ≡ s.result → r ≡ result_of ss f
result_is ss f s r h e = e ∙ sym (ap (option_and_then (λ (s : Signature). s.result)) h)

pub no_result : (ss : List Signature) (f : Name) → find (λ s. name_eq f s.name) ss ≡ None → None ≡ result_of ss f
no_result ss f h = sym (ap (option_and_then (λ (s : Signature). s.result)) h)

-- what is shown is what the table's functions show
pub shown_then : {E A : Type 0} (r : Result A E) (v : A → Option CoreType) (x : Table) (t : Tree) → IfOk r (λ a. v a ≡ type_shown x.functions t) → IfOk r (λ a. v a ≡ evident_type x t)
shown_then (Ok a) v x t h = h ∙ same_shown x t
shown_then (Err e) v x t h = tt
