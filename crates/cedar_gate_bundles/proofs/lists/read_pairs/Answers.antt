use Rattle.std.proofs.Common.{ap, ◌∙◌}
use Rattle.serde_json.proofs.Views.{view-Object}
use Rattle.serde_json.specs.View.{view, members_view}
use Rattle.cedar_evaluator_restricted_exprs.specs.Answers.{AgreesWith}
use Rattle.cedar_gate_model.specs.Reading.{each_member, members_of}
use Rattle.cedar_gate_expressions.specs.Maps.{under_text, texts_seen}
use Rattle.cedar_gate_bundles.proofs.ByTable.{read_alike, unread_alike}
use Rattle.cedar_gate_bundles.proofs.lists.read_pairs.Goals as goal

pub returns-in-Object-clause-ok : goal.returns-in-Object-clause-ok
returns-in-Object-clause-ok g c =
    read_alike (λ x. AgreesWith c.args.table.now x) (λ x. each_member (under_text (g.R.ReaderByTable.reading x)) (members_view c.in-Object.members.entries)) (λ x. members_of (under_text (g.R.ReaderByTable.reading x)) (view c.args.value.now)) (λ v. texts_seen g.R.ReaderByTable.seen v.items) c.read_each_pair.result
    (λ x. ap (λ w. members_of (under_text (g.R.ReaderByTable.reading x)) (view w)) c.in-Object.is ∙ ap (members_of (under_text (g.R.ReaderByTable.reading x))) (view-Object c.in-Object.members)) c.read_each_pair.ensures.ok

pub returns-in-Object-clause-unreadable : goal.returns-in-Object-clause-unreadable
returns-in-Object-clause-unreadable g c =
    unread_alike (λ x. AgreesWith c.args.table.now x) (λ x. each_member (under_text (g.R.ReaderByTable.reading x)) (members_view c.in-Object.members.entries)) (λ x. members_of (under_text (g.R.ReaderByTable.reading x)) (view c.args.value.now)) c.read_each_pair.result
    (λ x. ap (λ w. members_of (under_text (g.R.ReaderByTable.reading x)) (view w)) c.in-Object.is ∙ ap (members_of (under_text (g.R.ReaderByTable.reading x))) (view-Object c.in-Object.members)) c.read_each_pair.ensures.unreadable
