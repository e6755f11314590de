-- Wrong calls: of a name and a count, of an expression by itself, and the first of those in an expression.
use Rattle.std.proofs.Common.{◌≡◌, ℕ, suc, Bool, true, false, cond, ◌&&◌, List, [], ◌∷◌, map, length, Option, Some, None, Result, Ok, Err, IfErr, OnOk, refl, sym, subst, ap, ◌∙◌}
use Rattle.std.specs.Prelude.{find, is_none}
use Rattle.std.specs.Option.{option_or, option_map_or}
use Rattle.std.specs.List.{list_all}
use Rattle.std.specs.Result.{IsErrAnd}
use Rattle.cedar_expr_model.specs.Name.{Name, name_eq}
use Rattle.cedar_expr_model.specs.Builder.{trees}
use Rattle.cedar_expr_model.specs.Evident.{is_valid_call, has_valid_calls}
use Rattle.cedar_expr_model.specs.Lists.{first_found}
use Rattle.cedar_expr_model.specs.Parts.{subexpressions, listed}
use Rattle.cedar_expr_model.specs.Table.{Signature, Called, gives, Table, takes_count, signature_of}
use Rattle.cedar_expr_model.specs.Value.{V, truth_value}
use Rattle.cedar_expr_model.specs.Tree.{Tree, call}
use Rattle.cedar_expr_functions.specs.Calls.{WrongCall, no_function, wrong_count, wrong_by_count, wrong_by_name, wrong_call, first_wrong_call, IsWrongCall}
use Rattle.cedar_expr_functions.specs.declared.check_err.ExprValidationError.{ExprValidationError}
use Rattle.cedar_expr_functions.specs.declared.check_err.ExprValidationError.TheVariants.{OutOfMemory, FuncDoesNotExist, WrongNumArguments}

-- answers of a table of which signatures alone count
abbrev pub any_answers : Name → List V → Called
any_answers f vs = gives (truth_value true)

-- what is wrong of a name and a count, by what the look-up finds
pub not_wrong : (ss : List Signature) (f : Name) (n : ℕ) (s : Signature) (b : Bool) → find (λ s. name_eq f s.name) ss ≡ Some s → b ≡ takes_count s n → b ≡ true → wrong_by_name ss f n ≡ None
not_wrong ss f n s b h e k = ap (λ o. option_map_or (wrong_by_count f n) o (Some (no_function f))) h ∙ ap (λ t. cond t None (Some (wrong_count f (length s.parameters) n))) (sym e ∙ k)

pub wrong_name : (ss : List Signature) (f g : Name) (n : ℕ) → find (λ s. name_eq f s.name) ss ≡ None → g ≡ f → wrong_by_name ss f n ≡ Some (no_function g)
wrong_name ss f g n h e = ap (λ o. option_map_or (wrong_by_count f n) o (Some (no_function f))) h ∙ ap (λ m. Some (no_function m)) (sym e)

pub wrong_number : (ss : List Signature) (f g : Name) (n m : ℕ) (s : Signature) (b : Bool) → find (λ s. name_eq f s.name) ss ≡ Some s → b ≡ takes_count s n → b ≡ false → g ≡ f → m ≡ length s.parameters → wrong_by_name ss f n ≡ Some (wrong_count g m n)
wrong_number ss f g n m s b h e k i j =
    ap (λ o. option_map_or (wrong_by_count f n) o (Some (no_function f))) h
    ∙ ap (λ t. cond t None (Some (wrong_count f (length s.parameters) n))) (sym e ∙ k)
    ∙ ap (λ x. Some (wrong_count x (length s.parameters) n)) (sym i)
    ∙ ap (λ l. Some (wrong_count g l n)) (sym j)

-- as many arguments in the tree as in the list
pub same_count : (ts : List Tree) → length (listed (trees ts)) ≡ length ts
same_count [] = refl
same_count (t ∷ ts) = ap suc (same_count ts)

pub same_length : {A B : Type 0} (f : A → B) (xs : List A) → length (map f xs) ≡ length xs
same_length f [] = refl
same_length f (x ∷ xs) = ap suc (same_length f xs)

-- one more that isn't wrong, and one that is
module _ {B : Type 0} (f : Tree → Option B) (t : Tree) (ts us : List Tree) (o : Option B) (here : us ≡ t ∷ ts) (was : first_found f us ≡ o) where
  pub goes_on : f t ≡ None → first_found f ts ≡ o
  goes_on e = ap (λ p. option_or p (first_found f ts)) (sym e) ∙ ap (first_found f) (sym here) ∙ was

  pub found_here : (b : B) → f t ≡ Some b → o ≡ Some b
  found_here b e = sym was ∙ ap (first_found f) here ∙ ap (λ p. option_or p (first_found f ts)) e

-- a refusal of a part is one of the whole
pub still_wrong : {C : Type 0} (o p : Option WrongCall) (r : Result C ExprValidationError) (e : ExprValidationError) → IsErrAnd r (λ y. y ≡ e) → IsWrongCall o e → ((w : WrongCall) → o ≡ Some w → p ≡ Some w) → IfErr r (IsWrongCall p)
still_wrong o p (Ok c) e h k l = tt
still_wrong o p (Err y) e h k l = subst (IsWrongCall p) (sym h) (go e k)
  where
    go : (e : ExprValidationError) → IsWrongCall o e → IsWrongCall p e
    go OutOfMemory k = tt
    go (FuncDoesNotExist f) k = l _ k
    go (WrongNumArguments f m n) k = l _ k

-- there is none exactly where all calls are right
by_count : (f : Name) (n : ℕ) (o : Option Signature) → is_none (option_map_or (wrong_by_count f n) o (Some (no_function f))) ≡ option_map_or (λ s. takes_count s n) o false
by_count f n None = refl
by_count f n (Some s) = go (takes_count s n)
  where
    go : (b : Bool) → is_none (cond b None (Some (wrong_count f (length s.parameters) n))) ≡ b
    go true = refl
    go false = refl

here_right : (x : Table) (t : Tree) → is_none (wrong_call x.functions t) ≡ is_valid_call x t
here_right x (call f ts) = by_count f (length (listed ts)) (signature_of x f)
here_right x t = refl

none_of : {B : Type 0} (o p : Option B) → is_none (option_or o p) ≡ (is_none o && is_none p)
none_of None p = refl
none_of (Some b) p = refl

all_right : (x : Table) (ts : List Tree) → is_none (first_found (wrong_call x.functions) ts) ≡ list_all (is_valid_call x) ts
all_right x [] = refl
all_right x (t ∷ ts) =
    none_of (wrong_call x.functions t) (first_found (wrong_call x.functions) ts)
    ∙ ap (λ b. b && is_none (first_found (wrong_call x.functions) ts)) (here_right x t)
    ∙ ap (λ b. is_valid_call x t && b) (all_right x ts)

pub no_fault_decides : (x : Table) (t : Tree) → is_none (first_wrong_call x.functions t) ≡ has_valid_calls x t
no_fault_decides x t = all_right x (subexpressions t)

pub are_valid : (x : Table) (t : Tree) → first_wrong_call x.functions t ≡ None → has_valid_calls x t ≡ true
are_valid x t h = sym (no_fault_decides x t) ∙ ap is_none h

-- Where a result is a value, all calls of the expression are valid, if none of them is wrong there.
pub valid_then : {E A : Type 0} (r : Result A E) (x : Table) (t : Tree) → OnOk r (first_wrong_call x.functions t ≡ None) → OnOk r (has_valid_calls x t ≡ true)
valid_then (Ok a) x t h = are_valid x t h
valid_then (Err e) x t h = tt

pub none_other : {E A : Type 0} (r : Result A E) (o p : Option WrongCall) → o ≡ p → OnOk r (o ≡ None) → OnOk r (p ≡ None)
none_other (Ok a) o p e h = sym e ∙ h
none_other (Err x) o p e h = tt

pub refused_other : {A : Type 0} (r : Result A ExprValidationError) (o p : Option WrongCall) → o ≡ p → IfErr r (IsWrongCall o) → IfErr r (IsWrongCall p)
refused_other (Ok a) o p e h = tt
refused_other (Err x) o p e h = subst (λ q. IsWrongCall q x) e h
