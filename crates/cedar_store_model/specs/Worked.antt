-- The values of the worked examples.
-- Rule: the meaning; conditions; the answer; the store (docs/RULES.md).
use Rattle.std.specs.Prelude.{ℕ, pos, neg_ℤ, List, [], ◌∷◌, codes, Bool, true, false, Option, Some, None, if◌then◌else◌}
use Rattle.std.specs.Str.{bytes_eq}
use Rattle.cedar_expr_model.specs.Name.{Text, Name, name_eq}
use Rattle.cedar_expr_model.specs.Uid.{Uid}
use Rattle.cedar_expr_model.specs.Value.{truth, long, text, entity, V, prim, extension, no_fields, field}
use Rattle.cedar_expr_model.specs.Tree.{context, string_core, extension_core, Tree, lit, var, unknown, call, get_attr, Trees, no_trees, tree}
use Rattle.cedar_expr_model.specs.Table.{Table, Signature, Called, gives, fails, leaves, function_style, method_style}
use Rattle.cedar_expr_model.specs.ValueParts.{known, left}
use Rattle.cedar_store_model.specs.World.{World, Entity, Request}
use Rattle.cedar_store_model.specs.Store.{Entities, all_of, some_of, as_open, world_of}

-- names and uids
abbrev pub plain : Text → Name
plain base = record { path = []; base = base }

abbrev pub user : Name
user = plain (codes "User")

abbrev pub doc : Name
doc = plain (codes "Doc")

abbrev pub user_a : Uid
user_a = record { kind = user; id = codes "a" }

abbrev pub user_b : Uid
user_b = record { kind = user; id = codes "b" }

abbrev pub user_z : Uid
user_z = record { kind = user; id = codes "z" }

-- an entity that no store of these examples holds
abbrev pub ghost_g : Uid
ghost_g = record { kind = plain (codes "Ghost"); id = codes "g" }

abbrev pub team : Uid
team = record { kind = plain (codes "Team"); id = codes "t" }

-- the type has two colons in its one part, so it is no name
abbrev pub no_uid : Uid
no_uid = record { kind = plain (codes "a::b"); id = [] }

abbrev pub doc_d : Uid
doc_d = record { kind = doc; id = codes "d" }

abbrev pub view : Uid
view = record { kind = plain (codes "Action"); id = codes "view" }

abbrev pub edit : Uid
edit = record { kind = plain (codes "Action"); id = codes "edit" }

-- expressions in short
abbrev pub number : ℕ → Tree
number n = lit (long (pos n))

abbrev pub below_zero : ℕ → Tree
below_zero n = lit (long (neg_ℤ (pos n)))

abbrev pub word : Text → Tree
word s = lit (text s)

abbrev pub uid : Uid → Tree
uid u = lit (entity u)

abbrev pub says_true : Tree
says_true = lit (truth true)

abbrev pub says_false : Tree
says_false = lit (truth false)

abbrev pub one_tree : Tree → Trees
one_tree t = tree t no_trees

abbrev pub two_trees : Tree → Tree → Trees
two_trees t u = tree t (tree u no_trees)

abbrev pub uid_value : Uid → V
uid_value u = prim (entity u)

abbrev pub number_value : ℕ → V
number_value n = prim (long (pos n))

-- an attribute of an expression
abbrev pub ok_of : Tree → Tree
ok_of t = get_attr t (codes "ok")

abbrev pub boss_of : Tree → Tree
boss_of t = get_attr t (codes "boss")

-- the expression that errs with a missing field, and that which errs with a missing entity
abbrev pub no_field : Tree
no_field = get_attr (var context) (codes "none")

abbrev pub no_entity : Tree
no_entity = ok_of (uid ghost_g)

-- The functions of the table: `rank` of a text, whose values are ordered, and `blob` of a text, whose values aren't; both fail
-- at the text `x`. `later` of nothing leaves the unknown `u`. `pair` of two texts or more always fails.
abbrev pub rank : Name
rank = plain (codes "rank")

abbrev pub blob : Name
blob = plain (codes "blob")

abbrev pub later : Name
later = plain (codes "later")

abbrev pub pair : Name
pair = plain (codes "pair")

abbrev pub made_of : Name → List V → Called
made_of n (prim (text k) ∷ []) = if bytes_eq k (codes "x") then fails n else gives (extension n k)
made_of n vs = fails n

abbrev pub answers : Name → List V → Called
answers f vs = if name_eq f later then leaves (codes "u") else made_of f vs

abbrev pub constructor : Name → Signature
constructor n = record { name = n; style = function_style; parameters = string_core ∷ []; is_variadic = false; result = Some (extension_core n) }

abbrev pub table : Table
table = record {
  functions = constructor rank ∷ constructor blob ∷ record { name = later; style = method_style; parameters = []; is_variadic = false; result = None } ∷ record { name = pair; style = function_style; parameters = string_core ∷ string_core ∷ []; is_variadic = true; result = None } ∷ [];
  ordered = rank ∷ [];
  answers = answers;
}

abbrev pub rank_of : Text → Tree
rank_of s = call rank (one_tree (word s))

abbrev pub blob_of : Text → Tree
blob_of s = call blob (one_tree (word s))

-- a user with boss and ok
abbrev pub person : Uid → Bool → Entity V
person boss ok = record { attributes = (codes "boss", known (uid_value boss)) ∷ (codes "ok", known (prim (truth ok))) ∷ []; tags = (codes "size", known (number_value 3)) ∷ []; ancestors = team ∷ [] }

abbrev pub document : Uid → Entity V
document owner = record { attributes = (codes "owner", known (uid_value owner)) ∷ []; tags = []; ancestors = [] }

abbrev pub entities : Entities
entities = (user_a, person user_a true) ∷ (user_b, person user_a true) ∷ (user_z, person user_z true) ∷ (doc_d, document user_b) ∷ []

abbrev pub without_b : Entities
without_b = (user_a, person user_a true) ∷ (user_z, person user_z true) ∷ (doc_d, document user_b) ∷ []

-- `User::"a"` views `Doc::"d"`, with the context `{n: 1}`
abbrev pub request : Request
request = record { principal = user_a; action = view; resource = doc_d; context = field (codes "n") (number_value 1) no_fields }

abbrev pub no_unknowns : Text → Option V
no_unknowns n = None

-- the unknown `u` alone is bound, to 5
abbrev pub u_bound : Text → Option V
u_bound n = if bytes_eq n (codes "u") then Some (number_value 5) else None

abbrev pub world : World
world = world_of table no_unknowns (as_open request) (all_of entities)

abbrev pub bound_world : World
bound_world = world_of table u_bound (as_open request) (all_of entities)

abbrev pub world_without_b : World
world_without_b = world_of table no_unknowns (as_open request) (all_of without_b)

-- the worlds of the request: where nothing is loaded, where `User::"a"` is, and where the principal is open
abbrev pub nothing_loaded : World
nothing_loaded = world_of table no_unknowns (as_open request) (some_of [] [])

abbrev pub a_loaded : World
a_loaded = world_of table no_unknowns (as_open request) (some_of ((user_a, person user_a true) ∷ []) [])

abbrev pub principal_open : World
principal_open = world_of table no_unknowns (record { principal = None; action = Some view; resource = Some doc_d; context = None }) (some_of [] [])

-- `User::"a"` with an attribute `ok` that isn't a value yet
abbrev pub unfinished : Entity V
unfinished = record { attributes = (codes "ok", left (unknown (codes "u") None)) ∷ []; tags = (codes "size", left (unknown (codes "u") None)) ∷ []; ancestors = [] }

abbrev pub a_unfinished : World
a_unfinished = world_of table no_unknowns (as_open request) (some_of ((user_a, unfinished) ∷ []) [])
