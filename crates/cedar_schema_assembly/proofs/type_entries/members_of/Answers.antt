use Rattle.std.proofs.Common.{map, subst}
use Rattle.std.specs.Rc.{rc_str_bytes}
use Rattle.cedar_schema_assembly.proofs.Putting.{set_first}
use Rattle.cedar_schema_assembly.specs.Lists.{IsSetOf}
use Rattle.cedar_schema_assembly.specs.Nodes.{texts_cmp, texts_told}
use Rattle.cedar_schema_assembly.proofs.type_entries.members_of.Goals as goal

pub returns : goal.returns
returns c =
    let told = subst (λ xs. IsSetOf (map rc_str_bytes xs) (map rc_str_bytes c.in_ok-members.members.keys)) c.deref.ensures.value c.in_ok-members.ensures in
    set_first rc_str_bytes texts_cmp texts_told (map rc_str_bytes c.args.ids.now.tail.items) c.in_ok-members.members.keys c.insert.new.self.keys c.in_ok-clone.field-0 (rc_str_bytes c.args.ids.now.head)
    c.in_ok-clone.ensures.cases c.in_ok-insert.ensures.keys told
