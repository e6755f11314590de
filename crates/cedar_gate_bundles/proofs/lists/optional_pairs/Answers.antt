use Rattle.std.proofs.Common.{[], sym, ap}
use Rattle.serde_json.specs.View.{view}
use Rattle.cedar_evaluator_restricted_exprs.specs.Answers.{AgreesWith}
use Rattle.cedar_gate_model.specs.Reading.{if_there, optional, members_of}
use Rattle.cedar_gate_expressions.specs.Maps.{under_text, texts_seen}
use Rattle.cedar_gate_bundles.proofs.ByTable.{read_alike, unread_alike}
use Rattle.cedar_gate_bundles.proofs.lists.optional_pairs.Goals as goal

pub returns-in-Some-clause-ok : goal.returns-in-Some-clause-ok
returns-in-Some-clause-ok g c =
    read_alike (λ x. AgreesWith c.args.table.now x) (λ x. members_of (under_text (g.R.ReaderByTable.reading x)) (view c.in-Some.member.now)) (λ x. optional c.args.key.now (members_of (under_text (g.R.ReaderByTable.reading x))) [] (view c.args.value.now)) (λ v. texts_seen g.R.ReaderByTable.seen v.items) c.read_pairs.result
    (λ x. ap (if_there (members_of (under_text (g.R.ReaderByTable.reading x))) []) (sym c.in-Some.ensures)) c.read_pairs.ensures.ok

pub returns-in-Some-clause-unreadable : goal.returns-in-Some-clause-unreadable
returns-in-Some-clause-unreadable g c =
    unread_alike (λ x. AgreesWith c.args.table.now x) (λ x. members_of (under_text (g.R.ReaderByTable.reading x)) (view c.in-Some.member.now)) (λ x. optional c.args.key.now (members_of (under_text (g.R.ReaderByTable.reading x))) [] (view c.args.value.now)) c.read_pairs.result
    (λ x. ap (if_there (members_of (under_text (g.R.ReaderByTable.reading x))) []) (sym c.in-Some.ensures)) c.read_pairs.ensures.unreadable
