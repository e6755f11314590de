use Rattle.std.proofs.Common.{sym, ◌∙◌}
use Rattle.std.proofs.lemmas.Map.Text.{is_eq-slice_cmp}
use Rattle.std.specs.Rc.{rc_str_bytes}
use Rattle.std.specs.Str.{bytes_eq}
use Rattle.cedar_evaluator_core.proofs.lending.same_text.Goals as goal

pub returns : goal.returns
returns c = c.eq.ensures ∙ (λ i. bytes_eq (c.as_str.ensures.value i) (c.as_str-2.ensures.value i)) ∙ sym (is_eq-slice_cmp (rc_str_bytes c.args.s.now) (rc_str_bytes c.args.t.now))
