use Rattle.std.proofs.Common.{[], ◌∷◌, ◌++◌, arith, sym, ap, ◌∙◌}
use Rattle.std.specs.Prelude.{flat_map}
use Rattle.std.proofs.lemmas.List.{append-nil}
use Rattle.std.proofs.lemmas.Grind.{flat_map-append}
use Rattle.cedar_schema_decl.specs.Conditional.{conditional_of}
use Rattle.cedar_schema_decl.specs.Requalified.{each}
use Rattle.cedar_schema_decl.proofs.Gathered.{handed, after}
use Rattle.cedar_schema_fragments.specs.Namespaces.{fragment_form}
use Rattle.cedar_schema_fragments.specs.Qualified.{namespace_qualified}
use Rattle.cedar_schema_fragments.specs.Refusals.{Refuses}
use Rattle.cedar_schema_fragments.specs.Written.{written_fragment}
use Rattle.cedar_schema_fragments.specs.WrittenDeclarations.{all_forms}
use Rattle.cedar_gate_fragments.proofs.Several.{nothing_more, walk_goes, walk_wrong, walk_ends}
use Rattle.cedar_gate_fragments.proofs.lent_fragments.fragments_of.Goals as goal

pub loop-fragment-init : goal.loop-fragment-init
loop-fragment-init c =
    nothing_more (each namespace_qualified (flat_map written_fragment c.args.fragments.now))
    ∙ ap (λ fs. after (all_forms fs) (each namespace_qualified (flat_map written_fragment c.args.fragments.now))) (sym c.in_ok-made.ensures.items)

pub loop-fragment-preserved : goal.loop-fragment-preserved
loop-fragment-preserved c =
    walk_goes namespace_qualified written_fragment c.args.fragments.now c.loop-fragment.fragment-index c.fragment-item.result
    (all_forms c.loop-fragment.made.items) (all_forms c.push.new.self.items) (fragment_form conditional_of conditional_of c.in_ok-qualified.qualified)
    c.loop-fragment-test.true
    c.loop-fragment.invariant
    (ap (λ f. each namespace_qualified (written_fragment f)) (sym c.fragment-item.is) ∙ c.in_ok-qualified.ensures.made)
    (ap all_forms c.in_ok-push.ensures.items ∙ flat_map-append (fragment_form conditional_of conditional_of) c.loop-fragment.made.items (c.in_ok-qualified.qualified ∷ []) ∙ ap (λ ys. all_forms c.loop-fragment.made.items ++ ys) (append-nil (fragment_form conditional_of conditional_of c.in_ok-qualified.qualified)))

pub returns-clause-made : goal.returns-clause-made
returns-clause-made c =
    walk_ends namespace_qualified written_fragment c.args.fragments.now c.loop-fragment.fragment-index (all_forms c.loop-fragment.made.items) (omega arith) c.loop-fragment.invariant

pub returns-in_err-qualified-clause-refused : goal.returns-in_err-qualified-clause-refused
returns-in_err-qualified-clause-refused c =
    handed (Refuses (each namespace_qualified (flat_map written_fragment c.args.fragments.now))) c.in_err-qualified.field-0.0 c.from_residual-in_err-qualified.result c.from_residual-in_err-qualified.ensures.1
    (λ q u. walk_wrong namespace_qualified written_fragment c.args.fragments.now c.loop-fragment.fragment-index c.fragment-item.result (all_forms c.loop-fragment.made.items) q
    c.loop-fragment-test.true
    c.loop-fragment.invariant
    (ap (λ f. each namespace_qualified (written_fragment f)) (sym c.fragment-item.is) ∙ c.in_err-qualified.ensures.refused q u))
