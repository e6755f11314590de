-- Runs: steps, the entries of a transcript, and which transcripts are legal.
-- Rule: legal transcript (docs/RULES.md).
use Rattle.std.specs.Prelude.{◌≡◌, ◌≢◌, ◌↔◌, ℕ, true, List, [], ◌∷◌, ◌++◌, Option, Some, Contains, IfSome}
use Rattle.cedar_expr_model.specs.Name.{Text}
use Rattle.cedar_expr_model.specs.Uid.{Uid}
use Rattle.cedar_expr_model.specs.UidOrder.{are_rising}
use Rattle.cedar_expr_model.specs.Made.{Made}
use Rattle.cedar_store_model.specs.World.{World}
use Rattle.cedar_store_model.specs.Policy.{Policy}
use Rattle.cedar_store_model.specs.Answer.{Decision, Answer, decision_of, answer_of}
use Rattle.cedar_schema_model.specs.Schema.{Schema}
use Rattle.cedar_typechecker_model.specs.Slice.{InSlice}
use Rattle.cedar_gate_model.specs.Moment.{Moment, at_first, known_at}
use Rattle.cedar_evaluator_model.specs.Response.{PartialRequest}

-- what a caller asks of a run: to load, to bind a name, to decide
pub data Step : Type 0 where
  load decide : Step
  bind_name : Text → Made → Step

-- What was done: a round of loading, a binding, or a decision that was given or not.
pub data Entry : Type 0 where
  round : List Uid → Entry
  bound : Text → Entry
  decided : Option Decision → Entry

pub record Transcript : Type 0 where
  pub entries : List Entry
  pub answer : Option Answer

-- what a run is of: schema, level, policies and the request that it starts with
pub record Case : Type 0 where
  pub schema : Schema
  pub level : ℕ
  pub policies : List Policy
  pub start : PartialRequest

-- the moment after an entry
abbrev pub after : Moment → Entry → Moment
after m (round uids) = record m { asked = m.asked ++ uids }
after m (bound n) = record m { bound = n ∷ m.bound }
after m (decided d) = m

-- what may be asked at a moment: the slice of what is known, less what was asked
abbrev pub IsWanted : Case → World → Moment → Uid → Type 0
IsWanted c w m u = InSlice c.schema c.level (known_at c.schema c.start w m) u × (Contains m.asked u → ⊥)

-- A round lists what may be asked, in the order of uids, and isn't empty.
pub record IsRound (c : Case) (w : World) (m : Moment) (wanted : List Uid) : Type 0 where
  pub some_wanted : wanted ≢ []
  pub in_order : are_rising wanted ≡ true
  pub exact : (u : Uid) → Contains wanted u ↔ IsWanted c w m u

-- A legal entry: a round is one, and a decision that is given is that of the answer.
abbrev pub IsLegalEntry : Case → World → Moment → Entry → Type 0
IsLegalEntry c w m (round uids) = IsRound c w m uids
IsLegalEntry c w m (decided (Some d)) = d ≡ decision_of w c.policies
IsLegalEntry c w m e = Unit {0}

-- Legal entries, one after the other.
abbrev pub AreLegal : Case → World → Moment → List Entry → Type 0
AreLegal c w m [] = Unit {0}
AreLegal c w m (e ∷ es) = IsLegalEntry c w m e × AreLegal c w (after m e) es

-- A transcript is legal against a world that completes its request: its entries are, and its answer, where there is one, is the answer.
pub record IsLegal (c : Case) (w : World) (t : Transcript) : Type 0 where
  pub entries : AreLegal c w at_first t.entries
  pub answer : IfSome t.answer (λ a. a ≡ answer_of w c.policies)
