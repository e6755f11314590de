-- Functions that give an extension type, and functions that lack.
use Rattle.std.proofs.Common.{◌≡◌, Bool, List, Option, Some, None, sym, ap, ◌∙◌}
use Rattle.std.specs.Option.{option_map_or}
use Rattle.cedar_expr_model.specs.Name.{Name}
use Rattle.cedar_expr_model.specs.Table.{Signature, Table, signature_of, Called, fails}
use Rattle.cedar_expr_model.specs.Tree.{CoreType}
use Rattle.cedar_expr_model.specs.Value.{V}
use Rattle.cedar_expr_names.specs.declared.loc.Loc.{Loc}
use Rattle.cedar_expr_functions.specs.Refusals.{RefusesLookup}
use Rattle.cedar_expr_functions.specs.declared.err.ExtensionFunctionLookupError.{ExtensionFunctionLookupError}
use Rattle.cedar_expr_functions.specs.declared.err.ExtensionFunctionLookupError.TheVariants.{OutOfMemory, FuncDoesNotExist}
use Rattle.cedar_schema_model.specs.Restricted.{Asked, not_of_type, no_function, asked_truth, is_result, call_asked}
use Rattle.cedar_schema_joins.specs.Answers.{RefusesAsked}

-- What the functions answer doesn't matter here.
abbrev pub any_answers : Name → List V → Called
any_answers f vs = fails f

-- the answer by what the table has under the name
abbrev by_found : Name → Name → Option Signature → Asked
by_found f n s = option_map_or (λ s. asked_truth (is_result n s.result)) s (no_function f)

pub refused : (x : Table) (f n : Name) (l : Option Loc) (e : ExtensionFunctionLookupError) → RefusesLookup x f l e → RefusesAsked (call_asked x.functions f n) e
refused x f n l OutOfMemory h = tt
refused x f n l (FuncDoesNotExist e) h = ap (by_found f n) h.0 ∙ ap no_function (sym h.1)

pub given : (x : Table) (f n : Name) (s : Signature) (t : CoreType) (b : Bool) → signature_of x f ≡ Some s → Some t ≡ s.result → b ≡ is_result n (Some t) → call_asked x.functions f n ≡ asked_truth b
given x f n s t b found has is = ap (by_found f n) found ∙ ap (λ r. asked_truth (is_result n r)) (sym has) ∙ ap asked_truth (sym is)

pub not_given : (x : Table) (f n : Name) (s : Signature) → signature_of x f ≡ Some s → None ≡ s.result → call_asked x.functions f n ≡ not_of_type
not_given x f n s found has = ap (by_found f n) found ∙ ap (λ r. asked_truth (is_result n r)) (sym has)
