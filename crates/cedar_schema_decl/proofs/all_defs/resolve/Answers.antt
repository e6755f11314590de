use Rattle.std.proofs.Common.{◌≡◌, Ok, Err, find, map, sym, ap, ◌∙◌}
use Rattle.std.specs.Option.{option_map_or, option_copied}
use Rattle.cedar_expr_names.specs.Views.{name_of}
use Rattle.cedar_schema_decl.specs.Conditional.{Conditional, kind_of, conditional_of}
use Rattle.cedar_schema_decl.specs.Defined.{defined_of, tells}
use Rattle.cedar_schema_decl.proofs.Meant.{resolved_is, same_inside}
use Rattle.cedar_schema_decl.proofs.all_defs.resolve.Goals as goal

pub returns-in_ok-clone-in-Some-clause-resolved : goal.returns-in_ok-clone-in-Some-clause-resolved
returns-in_ok-clone-in-Some-clause-resolved c =
    let d = defined_of c.args.all_defs.now in
    let k = conditional_of c.args.name.now in
    let ns = c.as_slice.result.now in
    resolved_is d k ns (option_copied c.first_defined.result)
    (ap (map name_of) c.as_slice.ensures.value ∙ c.possibilities.ensures.names)
    (ap (λ r. find (λ n. tells d (kind_of r) (name_of n)) ns) (sym c.reference_type.ensures) ∙ sym c.first_defined.ensures)
    ∙ ap (λ o. option_map_or (λ n. Ok (name_of n)) (option_copied o) (Err k)) c.in-Some.is
    ∙ ap Ok (sym c.in_ok-clone-in-Some.ensures.cases.0)

pub returns-in_ok-clone-in-None-clause-refused : goal.returns-in_ok-clone-in-None-clause-refused
returns-in_ok-clone-in-None-clause-refused c =
    let d = defined_of c.args.all_defs.now in
    let k = conditional_of c.args.name.now in
    let ns = c.as_slice.result.now in
    let copy = c.in_ok-clone-in-None.field-0 in
    let cases = c.in_ok-clone-in-None.ensures.cases in
    let same : conditional_of copy ≡ k = (λ i. record { written = cases.2 i; names = cases.0 i; kind = kind_of (cases.4 i) }) in
    λ q u.
    resolved_is d k ns (option_copied c.first_defined.result)
    (ap (map name_of) c.as_slice.ensures.value ∙ c.possibilities.ensures.names)
    (ap (λ r. find (λ n. tells d (kind_of r) (name_of n)) ns) (sym c.reference_type.ensures) ∙ sym c.first_defined.ensures)
    ∙ ap (λ o. option_map_or (λ n. Ok (name_of n)) (option_copied o) (Err k)) c.in-None.is
    ∙ ap Err (sym same ∙ same_inside (conditional_of copy) q u)
