use Rattle.cedar_schema_builder.proofs.laws.refused_steps_name_faults.Goals as goal

pub returns : goal.returns
returns c = record {
  at_first = λ x fs e h. record { each = h.each x };
  at_last = λ x fs s cs es as_ e g h. record { each = λ d w. h.each d (g.writes d w) };
}
