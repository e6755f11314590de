use Rattle.std.proofs.Common.{option_map}
use Rattle.cedar_typechecker_environments.specs.Settings.{setting_of}
use Rattle.cedar_typechecker_answers.specs.Answers.{judgement_seen}
use Rattle.cedar_typechecker_operators.proofs.Choices.{chosen_goes}
use Rattle.cedar_typechecker_operators.proofs.choice.chosen_answer.Goals as goal

pub returns : goal.returns
returns g c =
    let s = setting_of g.S.DeclaredAttributes.schema g.S.TypingSchema.table c.args.world.now in
    chosen_goes c.judged_answer.result s c.args.test c.args.first c.args.second (option_map judgement_seen c.in_ok-judged.judged) c.in_ok-judged.ensures c.judged_answer.ensures
