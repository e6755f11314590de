-- What SQL is asked to put into the table of entities, and which entities are in it.
use Rattle.std.specs.Prelude.{◌≡◌, ℕ, List, [], ◌∷◌, codes, Some, Ok, option_and_then}
use Rattle.sqlite.specs.declared.types.Value.TheVariants.{Text}
use Rattle.sqlite.specs.Effect.{Database}
use Rattle.sqlite.specs.State.{State, HasCleanDisk, Executes}
use Rattle.cedar_expr_model.specs.Made.{Made}
use Rattle.cedar_expr_model.specs.Uid.{Uid, uid_text}
use Rattle.cedar_store_model.specs.World as world
use Rattle.cedar_evaluator_model.specs.Functions.{Functions}
use Rattle.cedar_gate_runs.specs.Hosts.{Answers}
use Rattle.cedar_database_host.specs.Lookup.{body_at}
use Rattle.cedar_database_host.specs.Reading.{text_read, entity_in}

abbrev pub put_text : List ℕ
put_text = codes "INSERT OR REPLACE INTO entity (uid, body) VALUES (?1, ?2)"

-- The text of the uid and this text were put in, by what SQL means.
abbrev pub Puts : List ℕ → List ℕ → State → State → Type 0
Puts uid text old new = (count : ℕ) × Executes put_text (Text uid ∷ Text text ∷ []) old new (Ok count)

-- the text is that of an entity, under whose uid it was put in
abbrev pub PutsEntity : Type 0 → Functions → List ℕ → State → State → Type 0
PutsEntity Agrees x text old new =
    (e : Uid × world.Entity Made) × (Agrees → text_read x text ≡ Some e) × (HasCleanDisk new → Puts (uid_text e.0) text old new)

-- the entities of a database: the body under the text of a uid, read by these functions, where it is an entity with that uid
abbrev pub entities_of : Functions → Database → Answers
entities_of x d u = option_and_then (entity_in x u) (body_at d (uid_text u))
