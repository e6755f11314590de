use Rattle.std.proofs.Common.{◌++◌, [], ◌∷◌, map, refl, ap, sym, ◌∙◌, subst, Ok}
use Rattle.std.specs.Rc.{rc_str_bytes}
use Rattle.std.proofs.lemmas.List.{map-append}
use Rattle.std.specs.List.Sorted.{IsStrictlySortedBy}
use Rattle.std.specs.Map.{keys_of}
use Rattle.cedar_expr_model.specs.Order.{text_cmp}
use Rattle.cedar_expr_values.specs.Fields.{by_text}
use Rattle.cedar_schema_types.specs.Types.{attributes_of, entries_of}
use Rattle.cedar_schema_types.specs.CoreTypes.{core_attributes_read}
use Rattle.cedar_schema_types.specs.Views.{core_pair, core_pairs, core_declared_of}
use Rattle.cedar_schema_types.specs.Refusals.{Refuses}
use Rattle.cedar_schema_types.proofs.CoreEntries.{made_of_pairs}
use Rattle.cedar_schema_types.proofs.OneByOne.{IsReading, handed, reading_goes_on, reading_refused, reading_ends, reading_rises}
use Rattle.cedar_schema_types.proofs.reading.+reading.Goals as goal

pub core_attributes-returns-clause-read : goal.core_attributes-returns-clause-read
core_attributes-returns-clause-read t c =
    c.in_ok-pairs.ensures.read
    ∙ ap Ok (sym (made_of_pairs c.in_ok-attrs-2.attrs c.in_ok-pairs.pairs.items (ap (λ m. map by_text m.entries) c.in_ok-attrs-2.ensures.ok ∙ c.in_ok-attrs.ensures) c.in_ok-pairs.ensures.rising))

pub core_pairs-loop-name-preserved : goal.core_pairs-loop-name-preserved
core_pairs-loop-name-preserved t c =
    let all = entries_of c.args.attrs.now in
    let made = c.loop-name.pairs.items in
    let read = core_declared_of c.in_ok-read.read in (
      tt,
      tt,
      subst (λ ps. IsReading all ps c.next.new.self)
          (sym (ap core_pairs c.in_ok-push.ensures.items ∙ map-append core_pair made ((c.in_ok-clone.field-0, c.in_ok-read.read) ∷ []) ∙ ap (λ n. core_pairs made ++ (n, read) ∷ []) c.in_ok-clone.ensures.cases))
          (reading_goes_on all (core_pairs made) c.loop-name.name-iterator c.next.new.self c.in-Some.name.now c.in-Some.declared.now read c.loop-name.invariant.2 c.in-Some.ensures.steps c.in_ok-read.ensures.read),
    )

pub core_pairs-returns-clause-read : goal.core_pairs-returns-clause-read
core_pairs-returns-clause-read t c = reading_ends c.args.attrs.now _ refl (core_pairs c.loop-name.pairs.items) c.loop-name.name-iterator c.loop-name.invariant.2 c.in-None.ensures.steps.0

pub core_pairs-returns-clause-rising : goal.core_pairs-returns-clause-rising
core_pairs-returns-clause-rising t c =
    reading_rises (entries_of c.args.attrs.now) (subst (λ m. IsStrictlySortedBy (λ a b. text_cmp (rc_str_bytes a) (rc_str_bytes b)) (keys_of m.entries)) c.deref-2.ensures c.iter-name-items.ensures.ordered)
    (core_pairs c.loop-name.pairs.items) c.loop-name.name-iterator c.loop-name.invariant.2 c.in-None.ensures.steps.0

pub core_pairs-returns-in_err-read-clause-refused : goal.core_pairs-returns-in_err-read-clause-refused
core_pairs-returns-in_err-read-clause-refused t c =
    let e = c.in_err-read.field-0.0 in
    handed (Refuses (core_attributes_read (attributes_of c.args.attrs.now))) e c.from_residual-in_err-read.result c.from_residual-in_err-read.ensures.1
    (reading_refused c.args.attrs.now _ refl (core_pairs c.loop-name.pairs.items) c.loop-name.name-iterator c.next.new.self c.in-Some.name.now c.in-Some.declared.now e c.loop-name.invariant.2 c.in-Some.ensures.steps c.in_err-read.ensures.refused)
