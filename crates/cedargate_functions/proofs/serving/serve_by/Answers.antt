use Rattle.cedar_expr_functions.specs.Tables.{table_of}
use Rattle.cedar_gate.proofs.Promised.{gives_more}
use Rattle.cedar_gate_model.specs.Headline.{Promises}
use Rattle.cedar_gate_model.specs.Lines.{Prints}
use Rattle.cedar_gate_model.specs.ReadingBundle.{input_read}
use Rattle.cedargate_functions.specs.Ranks.{rank_answers}
use Rattle.cedargate_functions.specs.Served.{PrintsByRanks, PromisesByRanks}
use Rattle.cedargate_functions.specs.Tables.{rank_functions}
use Rattle.cedargate_functions.proofs.Fair.{table_is_fair}
use Rattle.cedargate_functions.proofs.serving.serve_by.Goals as goal

pub returns-clause-printed : goal.returns-clause-printed
returns-clause-printed g c = λ bytes is.
    let x = table_of c.args.table.now rank_answers in
    let f = rank_functions x in
    gives_more (Prints f (input_read f bytes)) (PrintsByRanks bytes) (λ s t p. (x, c.requires.ranks, p)) _ _ _ (c.serve.ensures.printed bytes f is (table_is_fair c.args.table.now c.requires.made c.requires.ranks))

pub returns-clause-headline : goal.returns-clause-headline
returns-clause-headline g c = λ bytes is.
    let x = table_of c.args.table.now rank_answers in
    let f = rank_functions x in
    gives_more (Promises f (input_read f bytes)) (PromisesByRanks bytes) (λ s t p. (x, c.requires.ranks, p)) _ _ _ (c.serve.ensures.headline bytes f is (table_is_fair c.args.table.now c.requires.made c.requires.ranks))
