use Rattle.std.proofs.Common.{ap, ◌∙◌, arith}
use Rattle.std.specs.Char.{is_ascii_digit}
use Rattle.std.specs.List.{list_all}
use Rattle.std.proofs.lemmas.Bool.Decides.{nat_tests}
use Rattle.cedargate_functions.proofs.Digits.{right_length}
use Rattle.cedargate_functions.proofs.numbers.writes_rank.Goals as goal

pub returns : goal.returns
returns c = c.are_digits.ensures ∙ (ap (list_all is_ascii_digit) c.as_bytes.ensures.value ∙ right_length c.args.text.now (grind (arith, nat_tests)) (grind (arith, nat_tests)))
