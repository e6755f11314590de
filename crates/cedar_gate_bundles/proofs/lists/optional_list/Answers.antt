use Rattle.std.proofs.Common.{[], map, sym, ap}
use Rattle.serde_json.specs.View.{view}
use Rattle.cedar_evaluator_restricted_exprs.specs.Answers.{AgreesWith}
use Rattle.cedar_gate_model.specs.Reading.{if_there, optional, list_of}
use Rattle.cedar_gate_bundles.proofs.ByTable.{read_alike, unread_alike}
use Rattle.cedar_gate_bundles.proofs.lists.optional_list.Goals as goal

pub returns-in-Some-clause-ok : goal.returns-in-Some-clause-ok
returns-in-Some-clause-ok g c =
    read_alike (λ x. AgreesWith c.args.table.now x) (λ x. list_of (g.R.ReaderByTable.reading x) (view c.in-Some.member.now)) (λ x. optional c.args.key.now (list_of (g.R.ReaderByTable.reading x)) [] (view c.args.value.now)) (λ v. map g.R.ReaderByTable.seen v.items) c.read_list.result
    (λ x. ap (if_there (list_of (g.R.ReaderByTable.reading x)) []) (sym c.in-Some.ensures)) c.read_list.ensures.ok

pub returns-in-Some-clause-unreadable : goal.returns-in-Some-clause-unreadable
returns-in-Some-clause-unreadable g c =
    unread_alike (λ x. AgreesWith c.args.table.now x) (λ x. list_of (g.R.ReaderByTable.reading x) (view c.in-Some.member.now)) (λ x. optional c.args.key.now (list_of (g.R.ReaderByTable.reading x)) [] (view c.args.value.now)) c.read_list.result
    (λ x. ap (if_there (list_of (g.R.ReaderByTable.reading x)) []) (sym c.in-Some.ensures)) c.read_list.ensures.unreadable
