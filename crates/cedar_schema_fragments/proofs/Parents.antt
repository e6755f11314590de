-- What a parent of an action means, by the names that its type may stand for.
use Rattle.std.proofs.Common.{◌≡◌, Bool, true, false, cond, ◌||◌, List, [], ◌∷◌, map, Option, Some, None, option_map, Result, Ok, Err, find, refl, sym, ap, ◌∙◌}
use Rattle.std.proofs.lemmas.Bool.{true≢false}
use Rattle.std.specs.List.{list_any}
use Rattle.std.specs.Option.{option_map_or}
use Rattle.cedar_expr_model.specs.Name.{Text, Name, is_reserved}
use Rattle.cedar_expr_model.specs.Uid.{Uid, uid_eq}
use Rattle.cedar_expr_model.proofs.Equality.{uid_eq-Decides}
use Rattle.cedar_expr_names.specs.Views.{name_of, uid_of}
use Rattle.cedar_expr_names.specs.declared.internal_name.InternalName.{InternalName}
use Rattle.cedar_expr_names.specs.declared.entity.EntityUID.{EntityUID}
use Rattle.cedar_schema_decl.specs.Conditional.{Conditional}
use Rattle.cedar_schema_decl.specs.Defined.{Defined, defined_of, is_defined_action}
use Rattle.cedar_schema_decl.specs.declared.all_defs.AllDefs.{AllDefs}
use Rattle.cedar_schema_fragments.specs.Refusals.{Refusal, no_action}
use Rattle.cedar_schema_fragments.specs.Resolved.{parent_resolved}

-- no action that is declared is of a reserved type
module _ (u : Uid) (h : is_reserved u.kind ≡ true) where
  differs : (k : EntityUID) (b : Bool) → uid_eq u (uid_of k) ≡ b → uid_eq u (uid_of k) ≡ false
  differs k true e = let same : u ≡ uid_of k = (uid_eq-Decides u (uid_of k)).0 e in absurd (true≢false (sym h ∙ ap (λ w. is_reserved w.kind) same ∙ k.entity_type.0.unreserved))
  differs k false e = e

  none_is : (ks : List EntityUID) → list_any (uid_eq u) (map uid_of ks) ≡ false
  none_is [] = refl
  none_is (k ∷ ks) = λ i. differs k (uid_eq u (uid_of k)) refl i || none_is ks i

  pub no_reserved_action : (d : AllDefs) → false ≡ is_defined_action (defined_of d) u
  no_reserved_action d = sym (none_is d.action_defs.keys)

-- a uid by its parts
pub by_parts : (u : Uid) (k : Name) (i : Text) → u.kind ≡ k → u.id ≡ i → u ≡ record { kind = k; id = i }
by_parts u k i h e = λ j. record { kind = h j; id = e j }

found_under : (t : Name → Bool) (ns : List InternalName) → option_map name_of (find (λ n. t (name_of n)) ns) ≡ find t (map name_of ns)
found_under t [] = refl
found_under t (n ∷ ns) = go (t (name_of n)) (found_under t ns)
  where
    go : (b : Bool) → option_map name_of (find (λ n. t (name_of n)) ns) ≡ find t (map name_of ns) → option_map name_of (cond b (Some n) (find (λ n. t (name_of n)) ns)) ≡ cond b (Some (name_of n)) (find t (map name_of ns))
    go true h = refl
    go false h = h

-- the parent of a name that was found, and the refusal where none was
abbrev pub of_parent : Text → Name → Result (Name × Text) Refusal
of_parent id n = Ok (n, id)

abbrev by_name : Conditional × Text → Option Name → Result (Name × Text) Refusal
by_name p o = option_map_or {U = Result (Name × Text) Refusal} (of_parent p.1) o (Err (no_action p))

abbrev pub parent_or : Conditional × Text → Option InternalName → Result (Name × Text) Refusal
parent_or p o = option_map_or {U = Result (Name × Text) Refusal} (λ n. of_parent p.1 (name_of n)) o (Err (no_action p))

named : (p : Conditional × Text) (q : Option InternalName) → by_name p (option_map name_of q) ≡ parent_or p q
named p None = refl
named p (Some n) = refl

-- what a parent is resolved to, where these are the names that its type may stand for
pub parent_is : (d : Defined) (p : Conditional × Text) (ns : List InternalName) (r : Option InternalName) → map name_of ns ≡ (p.0).names → find (λ n. is_defined_action d (record { kind = name_of n; id = p.1 })) ns ≡ r → parent_resolved d p ≡ parent_or p r
parent_is d p ns r e h =
    ap (by_name p) (ap (find (λ n. is_defined_action d (record { kind = n; id = p.1 }))) (sym e) ∙ sym (found_under (λ n. is_defined_action d (record { kind = n; id = p.1 })) ns) ∙ ap (option_map name_of) h)
    ∙ named p r
