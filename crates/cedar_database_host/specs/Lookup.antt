-- What the table of entities has under a key, by what SQL means, and what a look-up leaves of a database.
use Rattle.std.specs.Prelude.{IsTrue, ◌≡◌, ◌≤◌, ℕ, pos, negsuc, false, List, [], ◌∷◌, map, codes, Option, Some, None, Result, Ok, Err}
use Rattle.sqlite.specs.Order.{Row, column}
use Rattle.sqlite.specs.declared.types.Value.{Value}
use Rattle.sqlite.specs.declared.types.Value.TheVariants.{Null, Int, Real, Text, Blob}
use Rattle.sqlite.specs.Term.{lit}
use Rattle.sqlite.specs.Query.{matches, output}
use Rattle.sqlite.specs.Program.{overlay}
use Rattle.sqlite.specs.Command.{Command}
use Rattle.sqlite.specs.Command.TheVariants.{Select}
use Rattle.sqlite.specs.Listing.{understood, reads_listing}
use Rattle.sqlite.specs.Effect.{Database}
use Rattle.sqlite.specs.State.{State, HasCleanDisk}
use Rattle.sqlite.specs.View.{doubt}
use Rattle.sqlite_resolve.specs.declared.compiled.Compiled.{Compiled}
use Rattle.sqlite_resolve.specs.declared.error.CompileError.{CompileError}
use Rattle.sqlite_schema.specs.declared.program.Program.{Program}

abbrev pub find_text : List ℕ
find_text = codes "SELECT body FROM entity WHERE uid = ?1"

-- The query reads tables alone: it groups, orders and cuts nothing.
pub record IsLookupOf (p : Program) : Type 0 where
  pub no_table : p.lets ≡ []
  pub ungrouped : p.body.group ≡ None
  pub all : p.body.distinct ≡ false
  pub unlimited : p.body.limit ≡ lit (Int (negsuc 0))
  pub from_first : p.body.offset ≡ lit (Int (pos 0))

abbrev pub IsLookupBy : Command → Type 0
IsLookupBy (Select p names) = IsLookupOf p
IsLookupBy _ = ⊥

abbrev pub IsLookupAs : Result Compiled CompileError → Type 0
IsLookupAs (Ok c) = IsLookupBy c.command
IsLookupAs (Err e) = ⊥

-- under the schema the text by which the host looks is a query of a table
pub record IsLookup (d : Database) : Type 0 where
  pub query : IsLookupAs (understood d.schema find_text)
  pub table : reads_listing d.schema find_text ≡ false

-- the rows that a query finds, in some order
abbrev pub found_by : Command → Database → Row → List Row
found_by (Select p names) d params = map (λ o. o.1) (map (output p.body) (matches (overlay d.trees []) p.body.filter p.body.from (params ∷ [])))
found_by _ d params = []

abbrev pub found_as : Result Compiled CompileError → Database → Row → List Row
found_as (Ok c) d params = found_by c.command d params
found_as (Err e) d params = []

abbrev pub text_in : Value → Option (List ℕ)
text_in Null = None
text_in (Int n) = None
text_in (Real x) = None
text_in (Text t) = Some t
text_in (Blob b) = None

-- the text of the only row
abbrev pub body_in : List Row → Option (List ℕ)
body_in [] = None
body_in (r ∷ []) = text_in (column r 0)
body_in (r ∷ s ∷ rs) = None

-- the body that stands under a key
abbrev pub body_at : Database → List ℕ → Option (List ℕ)
body_at d key = body_in (found_as (understood d.schema find_text) d (Text key ∷ []))

-- the database was open, and shows and keeps what it did
pub record Stays (old new : State) : Type 0 where
  pub was_open : IsTrue old.is_open
  pub now : new.now ≡ old.now
  pub committed : new.committed ≡ old.committed

-- nothing is written that is not committed
abbrev pub IsSettled : State → Type 0
IsSettled s = IsTrue s.is_open → s.now ≡ s.committed

-- A look-up on a clean disk, outside a transaction, leaves an open database as it was.
pub record LooksOnly (old new : State) : Type 0 where
  pub clean : doubt old.is_clean ≤ doubt new.is_clean
  pub stays : HasCleanDisk new → IsTrue new.is_open → IsSettled old → Stays old new

-- The body in the rows that are shown: there is one row, which is a text, or there is none.
abbrev pub IsBody : List Row → Option (List ℕ) → Type 0
IsBody rows None = rows ≡ []
IsBody rows (Some body) = (row : Row) × (rows ≡ row ∷ []) × (column row 0 ≡ Text body)
