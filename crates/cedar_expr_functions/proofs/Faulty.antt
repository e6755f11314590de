-- The fault of a list of functions, by its two parts.
use Rattle.std.proofs.Common.{◌≡◌, List, [], ◌∷◌, map, Option, Some, None, option_map, Result, Ok, Err, IfErr, OnOk, refl, sym, ap, ◌∙◌, subst}
use Rattle.std.specs.Borrow.{Bor}
use Rattle.std.specs.List.{filter_map}
use Rattle.std.specs.Option.{option_or}
use Rattle.std.specs.Result.{IsErrAnd}
use Rattle.cedar_expr_model.specs.Name.{name_eq}
use Rattle.cedar_expr_model.specs.Order.{core_eq}
use Rattle.cedar_expr_model.specs.Repeats.{repeated, repeated_function, repeated_constructor, table_fault}
use Rattle.cedar_expr_model.specs.Table.{Signature, constructed}
use Rattle.cedar_expr_functions.specs.Functions.{function_name, function_signature}
use Rattle.cedar_expr_functions.specs.Named.{all_functions, all_signatures}
use Rattle.cedar_expr_functions.specs.Refusals.{RefusesNames, RefusesConstructors, RefusesTable}
use Rattle.cedar_expr_functions.specs.declared.err.ExtensionInitializationError.{ExtensionInitializationError}
use Rattle.cedar_expr_functions.specs.declared.err.ExtensionInitializationError.TheVariants.{OutOfMemory, FuncMultiplyDefined, MultipleConstructorsSameSignature}
use Rattle.cedar_expr_functions.specs.declared.extension.Extension.{Extension}
use Rattle.cedar_expr_functions.specs.declared.extension.ExtensionFunction.{ExtensionFunction}

module _ {B : _} {F : _} {g : _} (es : List (Extension B F g)) (fs : List (Bor (ExtensionFunction B F g))) (all : map (λ f. f.now) fs ≡ all_functions es) where
  along : (ws : List (Bor (ExtensionFunction B F g))) → map (λ f. function_signature f.now) ws ≡ map function_signature (map (λ f. f.now) ws)
  along [] = refl
  along (w ∷ ws) = ap (λ ss. function_signature w.now ∷ ss) (along ws)

  named : (ws : List (Bor (ExtensionFunction B F g))) → map (λ f. function_name f.now) ws ≡ map (λ s. s.name) (map (λ f. function_signature f.now) ws)
  named [] = refl
  named (w ∷ ws) = ap (λ ns. function_name w.now ∷ ns) (named ws)

  signatures : map (λ f. function_signature f.now) fs ≡ all_signatures es
  signatures = along fs ∙ ap (map function_signature) all

  names_met : (r : _) → repeated name_eq (map (λ f. function_name f.now) fs) ≡ r → repeated name_eq (map (λ (s : Signature). s.name) (all_signatures es)) ≡ r
  names_met r h = sym (ap (repeated name_eq) (named fs ∙ ap (map (λ (s : Signature). s.name)) signatures)) ∙ h

  constructors_met : (r : _) → repeated core_eq (filter_map constructed (map (λ f. function_signature f.now) fs)) ≡ r → repeated core_eq (filter_map constructed (all_signatures es)) ≡ r
  constructors_met r h = sym (ap (λ ss. repeated core_eq (filter_map constructed ss)) signatures) ∙ h

  of_both : (n : _) (c : _) → repeated name_eq (map (λ (s : Signature). s.name) (all_signatures es)) ≡ n → repeated core_eq (filter_map constructed (all_signatures es)) ≡ c → table_fault (all_signatures es) ≡ option_or (option_map repeated_function n) (option_map repeated_constructor c)
  of_both n c h k = ap (λ o. option_or (option_map repeated_function o) (option_map repeated_constructor (repeated core_eq (filter_map constructed (all_signatures es))))) h ∙ ap (λ o. option_or (option_map repeated_function n) (option_map repeated_constructor o)) k

  -- no fault where nothing is met again
  pub none_there : repeated name_eq (map (λ f. function_name f.now) fs) ≡ None → repeated core_eq (filter_map constructed (map (λ f. function_signature f.now) fs)) ≡ None → table_fault (all_signatures es) ≡ None
  none_there h k = of_both None None (names_met None h) (constructors_met None k)

  name_there : (e : ExtensionInitializationError) → RefusesNames (map (λ f. function_name f.now) fs) e → RefusesTable (all_signatures es) e
  name_there OutOfMemory h = tt
  name_there (FuncMultiplyDefined x) h = of_both _ _ (names_met _ h) refl
  name_there (MultipleConstructorsSameSignature x) h = absurd h

  constructor_there : repeated name_eq (map (λ f. function_name f.now) fs) ≡ None → (e : ExtensionInitializationError) → RefusesConstructors (filter_map constructed (map (λ f. function_signature f.now) fs)) e → RefusesTable (all_signatures es) e
  constructor_there d OutOfMemory h = tt
  constructor_there d (FuncMultiplyDefined x) h = absurd h
  constructor_there d (MultipleConstructorsSameSignature x) h = of_both None _ (names_met None d) (constructors_met _ h)

  -- the refusals
  pub names_refused : {R : Type 0} (e : ExtensionInitializationError) → RefusesNames (map (λ f. function_name f.now) fs) e → (r : Result R ExtensionInitializationError) → IsErrAnd r (λ y. y ≡ e) → IfErr r (RefusesTable (all_signatures es))
  names_refused e h (Ok x) same = tt
  names_refused e h (Err y) same = subst (RefusesTable (all_signatures es)) (sym same) (name_there e h)

  pub constructors_refused : {R : Type 0} → repeated name_eq (map (λ f. function_name f.now) fs) ≡ None → (e : ExtensionInitializationError) → RefusesConstructors (filter_map constructed (map (λ f. function_signature f.now) fs)) e → (r : Result R ExtensionInitializationError) → IsErrAnd r (λ y. y ≡ e) → IfErr r (RefusesTable (all_signatures es))
  constructors_refused d e h (Ok x) same = tt
  constructors_refused d e h (Err y) same = subst (RefusesTable (all_signatures es)) (sym same) (constructor_there d e h)
