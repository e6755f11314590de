use Rattle.cedar_expr_values.proofs.Calls.{same_call}
use Rattle.cedar_expr_values.proofs.extension.RepresentableExtensionValueClone.clone.Goals as goal

pub returns : goal.returns
returns g c =
    record {
      cases = λ seen. same_call seen c.args.self.now (record { value = c.in_ok-clone.field-0; called = c.in_ok-clone-2.field-0; args = c.in_ok-clone-3.field-0 }) c.in_ok-clone.ensures.cases
          c.in_ok-clone-2.ensures.cases.0 c.in_ok-clone-3.ensures.cases.0;
    }
