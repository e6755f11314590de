use Rattle.std.proofs.Common.{sym, ap, ◌∙◌, subst}
use Rattle.cedar_expr_model.specs.Made.{bares as model_bares}
use Rattle.cedar_expr_model.specs.Value.{prim}
use Rattle.cedar_expr_model.specs.Canonical.{is_member}
use Rattle.cedar_expr_leaves.specs.Literals.{literal_of}
use Rattle.cedar_expr_values.specs.Kept.{KeptSet}
use Rattle.cedar_expr_values.specs.Falls.{set_is}
use Rattle.cedar_expr_values.specs.Hashed.{all_literals, HashedRight}
use Rattle.cedar_expr_values.proofs.Hashing.{hashed_is}
use Rattle.cedar_expr_values.proofs.value.Set.fast.Goals as goal

pub returns-in-Some-clause-literals : goal.returns-in-Some-clause-literals
returns-in-Some-clause-literals g c =
    let seen = g.X.ExtensionValue.seen in
    let e = sym (ap (λ (k : KeptSet). k.0) c.self.view_is) ∙ set_is seen c.self.inside c.self.invariant.0 in
    let h = subst (HashedRight seen c.self.inside.members.value.values.items) (ap (λ m. m.literals) (sym c.deref.ensures) ∙ c.in-Some.is) c.self.invariant.1 in
    sym (ap (λ ms. all_literals (model_bares ms)) e ∙ h.0)

pub returns-in-Some-clause-members : goal.returns-in-Some-clause-members
returns-in-Some-clause-members g c = λ p.
    let seen = g.X.ExtensionValue.seen in
    let vs = c.self.inside.members.value.values.items in
    let e = sym (ap (λ (k : KeptSet). k.0) c.self.view_is) ∙ set_is seen c.self.inside c.self.invariant.0 in
    let h = subst (HashedRight seen vs) (ap (λ m. m.literals) (sym c.deref.ensures) ∙ c.in-Some.is) c.self.invariant.1 in
    hashed_is seen c.in-Some.literals vs h.1 c.self.invariant.0 p ∙ ap (λ ms. is_member (prim (literal_of p)) (model_bares ms)) (sym e)

pub returns-in-None-clause-literals : goal.returns-in-None-clause-literals
returns-in-None-clause-literals g c =
    let seen = g.X.ExtensionValue.seen in
    let e = sym (ap (λ (k : KeptSet). k.0) c.self.view_is) ∙ set_is seen c.self.inside c.self.invariant.0 in
    let h = subst (HashedRight seen c.self.inside.members.value.values.items) (ap (λ m. m.literals) (sym c.deref.ensures) ∙ c.in-None.is) c.self.invariant.1 in
    sym (ap (λ ms. all_literals (model_bares ms)) e ∙ h)
