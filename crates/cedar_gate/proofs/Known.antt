-- What a gate answers to its sessions, for each setup, state and store.
use Rattle.std.proofs.Common.{Result, Ok, Err, IfOk}
use Rattle.cedar_expr_model.specs.Made.{Made}
use Rattle.cedar_expr_model.specs.Uid.{Uid}
use Rattle.cedar_store_model.specs.World.{Found}
use Rattle.cedar_gate_model.specs.Session.{Setup, State}

-- what is said of a result for each of them is said so of what came of it
module _ {A E : Type 0} (Suits : Setup → Type 0) (Knows : Setup → State → (Uid → Found Made) → Type 0) (P : Setup → State → (Uid → Found Made) → A → Type 0) where
  pub each_known : (r : Result A E) → ((x : Setup) (s : State) (f : Uid → Found Made) → Suits x → Knows x s f → IfOk r (P x s f))
      → IfOk r (λ a. (x : Setup) (s : State) (f : Uid → Found Made) → Suits x → Knows x s f → P x s f a)
  each_known (Ok a) h = h
  each_known (Err e) h = tt

  pub each_known_where : (Q : Type 0) (r : Result A E) → ((x : Setup) (s : State) (f : Uid → Found Made) → Suits x → Knows x s f → Q → IfOk r (P x s f))
      → IfOk r (λ a. (x : Setup) (s : State) (f : Uid → Found Made) → Suits x → Knows x s f → Q → P x s f a)
  each_known_where Q (Ok a) h = h
  each_known_where Q (Err e) h = tt
