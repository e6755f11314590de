use Rattle.std.proofs.Common.{◌≡◌, Result, Ok, Err, IfOk, map, refl, ◌∙◌}
use Rattle.cedar_expr_names.specs.Views.{plain_name_of}
use Rattle.cedar_expr_functions.proofs.Found.{types_given}
use Rattle.cedar_expr_functions.proofs.extensions.Extensions.ext_type_list.Goals as goal

seen_as : {A B E : Type 0} (r : Result A E) (seen : A → B) (b c : B) → b ≡ c → IfOk r (λ x. seen x ≡ b) → IfOk r (λ x. seen x ≡ c)
seen_as (Ok x) seen b c e h = h ∙ e
seen_as (Err y) seen b c e h = tt

pub returns : goal.returns
returns g c = seen_as c.given_types.result (λ ns. map plain_name_of ns.items) _ _ (types_given c.args.self.now.functions.items c.args.self.now.functions.items refl) (rw c.as_slice.ensures.value at c.given_types.ensures)
