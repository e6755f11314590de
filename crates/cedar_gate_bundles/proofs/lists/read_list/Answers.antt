use Rattle.std.proofs.Common.{map, sym, ap, ◌∙◌}
use Rattle.serde_json.proofs.Views.{view-Array}
use Rattle.serde_json.specs.View.{view, items_view}
use Rattle.cedar_evaluator_restricted_exprs.specs.Answers.{AgreesWith}
use Rattle.cedar_gate_model.specs.Reading.{each, list_of}
use Rattle.cedar_gate_bundles.proofs.ByTable.{read_alike, unread_alike}
use Rattle.cedar_gate_bundles.proofs.lists.read_list.Goals as goal

pub returns-in-Array-clause-ok : goal.returns-in-Array-clause-ok
returns-in-Array-clause-ok g c =
    read_alike (λ x. AgreesWith c.args.table.now x) (λ x. each (g.R.ReaderByTable.reading x) (items_view c.as_slice.result.now)) (λ x. list_of (g.R.ReaderByTable.reading x) (view c.args.value.now)) (λ v. map g.R.ReaderByTable.seen v.items) c.read_each.result
    (λ x. ap (λ w. list_of (g.R.ReaderByTable.reading x) (view w)) c.in-Array.is ∙ ap (list_of (g.R.ReaderByTable.reading x)) (view-Array c.in-Array.items) ∙ ap (λ vs. each (g.R.ReaderByTable.reading x) (items_view vs)) (sym c.as_slice.ensures.value)) c.read_each.ensures.ok

pub returns-in-Array-clause-unreadable : goal.returns-in-Array-clause-unreadable
returns-in-Array-clause-unreadable g c =
    unread_alike (λ x. AgreesWith c.args.table.now x) (λ x. each (g.R.ReaderByTable.reading x) (items_view c.as_slice.result.now)) (λ x. list_of (g.R.ReaderByTable.reading x) (view c.args.value.now)) c.read_each.result
    (λ x. ap (λ w. list_of (g.R.ReaderByTable.reading x) (view w)) c.in-Array.is ∙ ap (list_of (g.R.ReaderByTable.reading x)) (view-Array c.in-Array.items) ∙ ap (λ vs. each (g.R.ReaderByTable.reading x) (items_view vs)) (sym c.as_slice.ensures.value)) c.read_each.ensures.unreadable
