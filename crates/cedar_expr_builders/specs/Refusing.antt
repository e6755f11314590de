-- What a builder that refuses some calls makes of an expression: what its steps make, or the refusal that is met first.
-- Rule: expressions (docs/RULES.md).
use Rattle.std.specs.Prelude.{◌≡◌, List, [], ◌∷◌, Option, Some, None}
use Rattle.std.specs.declared.result.Result.{Result}
use Rattle.std.specs.declared.result.Result.TheVariants.{Ok, Err}
use Rattle.cedar_expr_model.specs.Name.{Text, Name}
use Rattle.cedar_expr_model.specs.Tree.{Tree}
use Rattle.cedar_expr_model.specs.Builder.{Builder, built}
use Rattle.cedar_expr_builders.specs.declared.err.BuildFault.{BuildFault}
use Rattle.cedar_expr_builders.specs.declared.err.BuildFault.TheVariants.{OutOfMemory, Refused}

-- what comes after, where the first was made
abbrev pub and_then : {A B R : Type 0} → (A → Result B R) → Result A R → Result B R
and_then f (Ok x) = f x
and_then f (Err r) = Err r

-- each of a list in turn, and each of the fields of a record
abbrev pub all_made : {M R : Type 0} → List (Result M R) → Result (List M) R
all_made [] = Ok []
all_made (o ∷ os) = and_then (λ x. and_then (λ xs. Ok (x ∷ xs)) (all_made os)) o

abbrev pub fields_made : {M R : Type 0} → List (Text × Result M R) → Result (List (Text × M)) R
fields_made [] = Ok []
fields_made (p ∷ ps) = and_then (λ x. and_then (λ xs. Ok ((p.0, x) ∷ xs)) (fields_made ps)) p.1

-- what is made, unless it is refused
abbrev pub unless : {M R : Type 0} → Option R → M → Result M R
unless None m = Ok m
unless (Some r) m = Err r

-- The builder of these steps that refuses calls. What it refuses anywhere it refuses of the whole; of several the first, children
-- in order.
abbrev pub refusing : {M R : Type 0} → Builder M → (Name → List M → Option R) → Builder (Result M R)
refusing b refuses = record {
  of_lit = λ p. Ok (b.of_lit p);
  of_var = λ x. Ok (b.of_var x);
  of_slot = λ s. Ok (b.of_slot s);
  of_unknown = λ n a. Ok (b.of_unknown n a);
  of_choice = λ t u v. and_then (λ x. and_then (λ y. and_then (λ z. Ok (b.of_choice x y z)) v) u) t;
  of_both = λ t u. and_then (λ x. and_then (λ y. Ok (b.of_both x y)) u) t;
  of_either = λ t u. and_then (λ x. and_then (λ y. Ok (b.of_either x y)) u) t;
  of_unary = λ o t. and_then (λ x. Ok (b.of_unary o x)) t;
  of_binary = λ o t u. and_then (λ x. and_then (λ y. Ok (b.of_binary o x y)) u) t;
  of_call = λ f ts. and_then (λ xs. unless (refuses f xs) (b.of_call f xs)) (all_made ts);
  of_get = λ t a. and_then (λ x. Ok (b.of_get x a)) t;
  of_has = λ t a. and_then (λ x. Ok (b.of_has x a)) t;
  of_path = λ t a bs. and_then (λ x. Ok (b.of_path x a bs)) t;
  of_like = λ t p. and_then (λ x. Ok (b.of_like x p)) t;
  of_is = λ t n. and_then (λ x. Ok (b.of_is x n)) t;
  of_set = λ ts. and_then (λ xs. Ok (b.of_set xs)) (all_made ts);
  of_record = λ fs. and_then (λ xs. Ok (b.of_record xs)) (fields_made fs);
}

-- what it makes of an expression
abbrev pub built_or_refused : {M R : Type 0} → Builder M → (Name → List M → Option R) → Tree → Result M R
built_or_refused b refuses t = built (refusing b refuses) t

-- the refusal, where there is one
abbrev pub refusal : {M R : Type 0} → Result M R → Option R
refusal (Ok m) = None
refusal (Err r) = Some r

-- The fault is that refusal. Out of memory says nothing.
abbrev pub IsRefusal : {E R : Type 0} → (E → R) → Option R → BuildFault E → Type 0
IsRefusal says r OutOfMemory = Unit {0}
IsRefusal says r (Refused e) = r ≡ Some (says e)
