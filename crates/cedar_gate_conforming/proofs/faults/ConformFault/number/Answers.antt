use Rattle.std.proofs.Common.{sym, ap}
use Rattle.cedar_gate_conforming.specs.Faults.{fault_number}
use Rattle.cedar_gate_conforming.proofs.Numbered.{numbered}
use Rattle.cedar_gate_conforming.proofs.faults.ConformFault.number.Goals as goal

pub returns-in-NoMember-clause-numbered : goal.returns-in-NoMember-clause-numbered
returns-in-NoMember-clause-numbered c = numbered c.args.self 3 (sym (ap fault_number c.in-NoMember.is))

pub returns-in-LacksAttribute-clause-numbered : goal.returns-in-LacksAttribute-clause-numbered
returns-in-LacksAttribute-clause-numbered c = numbered c.args.self 4 (sym (ap fault_number c.in-LacksAttribute.is))

pub returns-in-UndeclaredAttribute-clause-numbered : goal.returns-in-UndeclaredAttribute-clause-numbered
returns-in-UndeclaredAttribute-clause-numbered c = numbered c.args.self 5 (sym (ap fault_number c.in-UndeclaredAttribute.is))

pub returns-in-AttributeValue-clause-numbered : goal.returns-in-AttributeValue-clause-numbered
returns-in-AttributeValue-clause-numbered c = numbered c.args.self 6 (sym (ap fault_number c.in-AttributeValue.is))

pub returns-in-Tag-clause-numbered : goal.returns-in-Tag-clause-numbered
returns-in-Tag-clause-numbered c = numbered c.args.self 7 (sym (ap fault_number c.in-Tag.is))

pub returns-in-Ancestor-clause-numbered : goal.returns-in-Ancestor-clause-numbered
returns-in-Ancestor-clause-numbered c = numbered c.args.self 8 (sym (ap fault_number c.in-Ancestor.is))

pub returns-in-Context-clause-numbered : goal.returns-in-Context-clause-numbered
returns-in-Context-clause-numbered c = numbered c.args.self 9 (sym (ap fault_number c.in-Context.is))
