-- What the look-up by a key finds, and that it leaves what the database shows.
use Rattle.std.specs.Prelude.{◌+◌, ◌≤◌, if◌then◌else◌, length, slice_get, IfOk, IfErr}
use Rattle.std.proofs.Common.{arith, ◌≡◌, inl, inr, ℕ, pos, negsuc, List, [], ◌∷◌, map, Bool, true, false, Some, None, Ok, Err, Result, Option, refl, sym, ap, subst, ◌∙◌, IsTrue}
use Rattle.std.specs.List.Sorted.{IsPermutation}
use Rattle.std.proofs.lemmas.List.Sorted.{IsPermutation-map, IsPermutation-sym, length_permutation}
use Rattle.sqlite.specs.Clock as times
use Rattle.sqlite.specs.Order.{Row, column}
use Rattle.sqlite.specs.Query.{Query, Output, output, matches, page, IsAnswer, IsKept}
use Rattle.sqlite_sql.specs.Group.{IsGrouped}
use Rattle.sqlite.specs.Program.{overlay, IsProgramAnswer}
use Rattle.sqlite_schema.specs.Program.{let_in}
use Rattle.sqlite.specs.Term.{lit}
use Rattle.sqlite.specs.declared.types.Value.TheVariants.{Null, Int, Text}
use Rattle.sqlite_tied.specs.Compute.{everything}
use Rattle.sqlite_ast.specs.declared.Statement.{Statement}
use Rattle.sqlite_ast.specs.declared.Statement.TheVariants as written
use Rattle.sqlite_ast.specs.declared.Select.{Select as WrittenSelect}
use Rattle.sqlite_syntax.specs.declared.statement.Parsed.{Parsed}
use Rattle.sqlite_schema.specs.declared.schema.Schema.{Schema}
use Rattle.sqlite_schema.specs.declared.program.Program.{Program}
use Rattle.sqlite_resolve.specs.Lowering.{Checked, and_then}
use Rattle.sqlite_resolve.specs.Compile.{first, small, planned, meaning, returning, timed, with_command, compiled, command}
use Rattle.sqlite_resolve.specs.declared.compiled.Compiled.{Compiled}
use Rattle.sqlite_resolve.specs.declared.error.CompileError.{CompileError}
use Rattle.sqlite_resolve.specs.declared.error.CompileError.TheVariants.{NoSuchTable}
use Rattle.sqlite.specs.declared.error.Error.{Error}
use Rattle.sqlite.specs.Command.{Command}
use Rattle.sqlite.specs.Command.TheVariants.{Select}
use Rattle.sqlite.specs.Listing.{understood, reads_listing, listing_schema, if_select, is_select}
use Rattle.sqlite.specs.Effect.{Database, Reads}
use Rattle.sqlite.specs.State.{State, IsUnchanged, IsNotRun, FailsToShow, FailsToQuery, ShowsRows, Shown}
use Rattle.sqlite.proofs.Callers.{IsPlain, command_of, reads_as, one_permutation}
use Rattle.cedar_database_host.specs.Lookup.{find_text, IsBody, IsSettled, Stays, IsLookup, IsLookupOf, IsLookupBy, IsLookupAs, found_by, found_as, text_in, body_in, body_at}

-- the text is a SELECT, and reads no time
abbrev IsPlainSelect : Checked Parsed → Type 0
IsPlainSelect (Ok p) = (s : WrittenSelect) × (p.statement ≡ written.Select s) × (p.formats ≡ [])
IsPlainSelect (Err e) = ⊥

find_is_select : IsPlainSelect (first find_text)
unfolding understood everything
find_is_select = (_, refl, refl)

-- what a text that was read compiles to
abbrev plan : Schema → Parsed → Statement → Checked Compiled
plan schema p st =
    let formats = timed schema p.formats st in
    let base = small p.names + small formats in
    and_then (and_then (and_then (returning schema base st) (λ shown. and_then (command schema p.formats base st) (λ k. Ok (k, shown)))) (λ found. Ok (formats, found)))
    (λ planned. Ok (with_command p planned))

done : (p : Parsed) (k : Checked Command) (c : Compiled) → p.formats ≡ [] → and_then (and_then (and_then k (λ k. Ok (k, None))) (λ found. Ok (p.formats, found))) (λ planned. Ok (with_command p planned)) ≡ Ok c → IsPlain (Ok c)
done p (Ok k) c none e = let same : with_command p (p.formats, (k, None)) ≡ c = cc in (ap (λ (x : Compiled). x.returning) (sym same), ap (λ (x : Compiled). x.formats) (sym same) ∙ none)
done p (Err f) c none e = absurd (let no : ⊥ = cc in no)

plan_is_plain : (schema : Schema) (p : Parsed) (s : WrittenSelect) (c : Compiled) → p.formats ≡ [] → plan schema p (written.Select s) ≡ Ok c → IsPlain (Ok c)
unfolding returning timed
plan_is_plain schema p s c none e = done p (command schema p.formats (small p.names + small p.formats) (written.Select s)) c none e

compiled_plain : (schema : Schema) (c : Compiled) → compiled schema find_text ≡ Ok c → IsPlain (Ok c)
unfolding compiled planned meaning
compiled_plain schema c e = by_first (first find_text) find_is_select e
  where
    by_first : (r : Checked Parsed) → IsPlainSelect r → and_then r (λ p. plan schema p p.statement) ≡ Ok c → IsPlain (Ok c)
    by_first (Ok p) (s, is, none) h = plan_is_plain schema p s c none (subst (λ st. plan schema p st ≡ Ok c) is h)
    by_first (Err f) none h = absurd none

selected : (r : Checked Compiled) (c : Compiled) → if_select r ≡ Ok c → r ≡ Ok c
selected (Ok k) c e = by_kind (is_select k.command) e
  where
    by_kind : (b : Bool) → ◌≡◌ {A = Checked Compiled} (if b then Ok k else Err NoSuchTable) (Ok c) → ◌≡◌ {A = Checked Compiled} (Ok k) (Ok c)
    by_kind true h = h
    by_kind false h = absurd (let no : ⊥ = cc in no)
selected (Err f) c e = absurd (let no : ⊥ = cc in no)

-- The text is a plain query, whatever the schema is.
pub find_plain : (schema : Schema) (c : Compiled) → understood schema find_text ≡ Ok c → IsPlain (Ok c)
unfolding understood
find_plain schema c e = by_listing (reads_listing schema find_text) e
  where
    by_listing : (b : Bool) → ◌≡◌ {A = Checked Compiled} (if b then if_select (compiled listing_schema find_text) else compiled schema find_text) (Ok c) → IsPlain (Ok c)
    by_listing true h = compiled_plain listing_schema c (selected (compiled listing_schema find_text) c h)
    by_listing false h = compiled_plain schema c h

unchanged_stays : (old new : State) → IsUnchanged old new → Stays old new
unchanged_stays old new h = record { was_open = h.0.was_open; now = h.0.now_is; committed = h.0.committed_is }

-- A look-up leaves what the database shows, if it answers.
pub shown_stays : (old new : State) (params : Row) (rows : List Row) → Shown find_text params old new rows → Stays old new
unfolding Shown
shown_stays old new params rows h =
    let it = subst (ShowsRows old new find_text h.0 (times.timed params h.0.formats h.1.now) rows) (find_plain old.now.schema h.0 h.1.is).0 h.2 in
    unchanged_stays old new it.3

-- And if it fails, outside a transaction.
pub fails_stays : (old new : State) (params : Row) (e : Error) → (IsTrue old.is_open → old.now ≡ old.committed) → FailsToQuery find_text params old new e → IsTrue new.is_open → Stays old new
unfolding FailsToQuery IsNotRun
fails_stays old new params e settled (inl (inl h)) is_open = unchanged_stays old new h.1
fails_stays old new params e settled (inl (inr h)) is_open =
    let undone = h.3.undone is_open in
    let was = h.3.was_open is_open in
    record { was_open = was; now = undone.0 ∙ sym (settled was); committed = undone.1 }
fails_stays old new params e settled (inr h) is_open =
    let it = subst (FailsToShow old new find_text h.0 (times.timed params h.0.formats h.1.now) e) (find_plain old.now.schema h.0 h.1.is).0 h.2 in
    unchanged_stays old new it.3

plain_of : (schema : Schema) (r : Result Compiled CompileError) → understood schema find_text ≡ r → IsLookupAs r → IsPlain r
plain_of schema (Ok c) is h = find_plain schema c is
plain_of schema (Err e) is h = h

paged : (q : Query) (params : Row) (xs : List Row) → q.limit ≡ lit (Int (negsuc 0)) → q.offset ≡ lit (Int (pos 0)) → page q params xs ≡ xs
paged q params xs limit offset = rw (limit, offset)

found_in : (p : Program) (names : List (List ℕ)) (d : Database) (params : Row) (rows : List Row) → IsLookupOf p → Reads (Select p names) d params rows → IsPermutation (found_by (Select p names) d params) rows
found_in p names d params rows l h =
    let sure = subst (λ lets. IsProgramAnswer (map let_in lets) p.body d.trees params rows) l.no_table h.answer in
    let a : IsAnswer p.body (overlay d.trees []) params rows = sure Null in
    let staged = subst (λ g. IsGrouped g params (matches (overlay d.trees []) p.body.filter p.body.from (params ∷ [])) a.staged) l.ungrouped a.grouped in
    let kept = subst (λ b. IsKept b p.body.collations (map (output p.body) a.staged) a.kept) l.all a.distinct in
    let all : a.kept ≡ map (output p.body) (matches (overlay d.trees []) p.body.filter p.body.from (params ∷ [])) = kept ∙ ap (map (output p.body)) staged in
    let rows_are : rows ≡ map (λ (o : Output). o.1) a.ordered = a.shown ∙ paged p.body params _ l.unlimited l.from_first in
    subst (IsPermutation (found_by (Select p names) d params)) (sym rows_are)
    (IsPermutation-map (λ (o : Output). o.1) _ a.ordered (subst (λ k. IsPermutation k a.ordered) all a.same))

found_as_read : (r : Result Compiled CompileError) (d : Database) (params : Row) (rows : List Row) → IsLookupAs r → Reads (command_of r) d params rows → IsPermutation (found_as r d params) rows
found_as_read (Ok c) d params rows l h = by_command c.command l h
  where
    by_command : (k : Command) → IsLookupBy k → Reads k d params rows → IsPermutation (found_by k d params) rows
    by_command (Select p names) l h = found_in p names d params rows l h
    by_command _ l h = absurd l
found_as_read (Err e) d params rows l h = absurd l

-- The rows that it shows are those that it finds.
pub shown_found : (old new : State) (params : Row) (rows : List Row) → IsLookup old.now → Shown find_text params old new rows → IsPermutation (found_as (understood old.now.schema find_text) old.now params) rows
shown_found old new params rows l h =
    let r = understood old.now.schema find_text in
    found_as_read r old.now params rows l.query (reads_as find_text params old new old.now.schema refl (command_of r) refl (plain_of old.now.schema r refl l.query) l.table rows h)

none_left : {X : Type 0} (xs : List X) → IsPermutation xs [] → xs ≡ []
none_left [] h = refl
none_left (x ∷ xs) h = absurd (let e = length_permutation (x ∷ xs) [] h in omega (arith, e))

-- None was shown, or one.
pub body_of_none : (old new : State) (key : List ℕ) → IsLookup old.now → Shown find_text (Text key ∷ []) old new [] → body_at old.now key ≡ None
body_of_none old new key l h = ap body_in (none_left _ (shown_found old new (Text key ∷ []) [] l h))

pub body_of_one : (old new : State) (key : List ℕ) (row : Row) (text : List ℕ) → IsLookup old.now → Shown find_text (Text key ∷ []) old new (row ∷ []) → column row 0 ≡ Text text → body_at old.now key ≡ Some text
body_of_one old new key row text l h is =
    let one = one_permutation row _ (IsPermutation-sym _ _ (shown_found old new (Text key ∷ []) (row ∷ []) l h)) in
    ap body_in one ∙ ap text_in is

-- Whatever came of it, an open database stays, outside a transaction.
pub outcome_stays : {X : Type 0} (items : X → List Row) (old new : State) (params : Row) (r : Result X Error) → IfOk r (λ x. Shown find_text params old new (items x)) → IfErr r (FailsToQuery find_text params old new)
    → IsSettled old → IsTrue new.is_open → Stays old new
outcome_stays items old new params (Ok x) shown failed settled is_open = shown_stays old new params (items x) shown
outcome_stays items old new params (Err e) shown failed settled is_open = fails_stays old new params e settled failed is_open

-- The body in what is shown stands under the key.
pub body_found : (old new : State) (key : List ℕ) (rows : List Row) (o : Option (List ℕ)) → IsLookup old.now → Shown find_text (Text key ∷ []) old new rows → IsBody rows o → body_at old.now key ≡ o
body_found old new key rows None l h is = body_of_none old new key l (subst (Shown find_text (Text key ∷ []) old new) is h)
body_found old new key rows (Some text) l h (row, is, column) = body_of_one old new key row text l (subst (Shown find_text (Text key ∷ []) old new) is h) column

-- the only row
pub one_row : (rows : List Row) (row : Row) → slice_get rows 0 ≡ Some row → length rows ≤ 1 → rows ≡ row ∷ []
one_row [] row first few = absurd (let no : ⊥ = cc in no)
one_row (r ∷ []) row first few = let same : r ≡ row = cc in ap (λ z. z ∷ []) same
one_row (r ∷ s ∷ rows) row first few = absurd (omega (arith, few))
