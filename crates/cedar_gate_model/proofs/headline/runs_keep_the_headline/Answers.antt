use Rattle.cedar_gate_model.proofs.Promised.{runs_keep}
use Rattle.cedar_gate_model.proofs.headline.runs_keep_the_headline.Goals as goal

pub returns : goal.returns
returns c =
    runs_keep c.runs_may_be.ensures c.runs_ask_the_slice.ensures.once c.runs_ask_the_slice.ensures.within c.runs_ask_the_slice.ensures.exact c.runs_ask_the_slice.ensures.few
    c.decisions_are_the_answers.ensures.given c.decisions_are_the_answers.ensures.owed c.answers_need_the_slice_alone.ensures.whole c.answers_need_the_slice_alone.ensures.errors
    c.runs_are_legal.ensures.legal c.answered_runs_are_legal.ensures
