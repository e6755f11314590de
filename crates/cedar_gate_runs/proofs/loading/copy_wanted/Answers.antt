use Rattle.std.proofs.Common.{◌∙◌, sym, subst}
use Rattle.cedar_gate_model.specs.RunsAnswer.{session_of}
use Rattle.cedar_gate_model.specs.Session.{IsWantedList}
use Rattle.cedar_gate_runs.proofs.Pushed.{carried}
use Rattle.cedar_gate_runs.proofs.loading.copy_wanted.Goals as goal

pub returns-clause-wanted : goal.returns-clause-wanted
returns-clause-wanted g c = carried _ _ c.copied.result (λ a p. p ∙ c.wanted.ensures.wanted) c.copied.ensures

pub returns-clause-exact : goal.returns-clause-exact
returns-clause-exact g c = carried _ _ c.copied.result (λ a p d s h. subst (IsWantedList (session_of d) s) (sym (p ∙ c.wanted.ensures.wanted)) (c.wanted.ensures.exact d s h)) c.copied.ensures
