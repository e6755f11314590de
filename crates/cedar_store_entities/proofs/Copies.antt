-- A copy of an entity has what the entity has.
use Rattle.std.proofs.Common.{◌≡◌, List, [], ◌∷◌, map, refl, ap, ◌∙◌}
use Rattle.std.specs.List.{AllZip}
use Rattle.std.specs.Rc.{rc_str_bytes}
use Rattle.std.specs.declared.alloc.Global.{Global}
use Rattle.std.specs.declared.rc.RcStr.{RcStr}
use Rattle.cedar_expr_names.specs.Views.{uid_of}
use Rattle.cedar_expr_model.specs.Name.{Text}
use Rattle.cedar_expr_model.specs.Made.{Made}
use Rattle.cedar_expr_model.specs.ValueParts.{Part}
use Rattle.cedar_expr_partial.specs.Parts.{part_of, part_place}
use Rattle.cedar_expr_partial.specs.declared.partial_value.PartialValue.{PartialValue}
use Rattle.cedar_expr_values.specs.Extension.{Extension}
use Rattle.cedar_expr_values.specs.Extensions.{extension_of}
use Rattle.cedar_expr_values.specs.declared.extension.ExtValue.{ExtValue}
use Rattle.cedar_store_entities.specs.Recorded.{Kin, uids_of_kin}
use Rattle.cedar_store_entities.specs.Views.{part_seen, part_pair, placed_part, kin_in, entity_uid, entity_pair, entity_kept, kept_pair, bare_entity, Kept, Places}
use Rattle.cedar_store_entities.specs.declared.entity.Entity.{Entity}

-- lists whose items are seen alike, place by place
alike : {X A : Type 0} (R : X → X → Type 0) (see : X → A) → ((x y : X) → R x y → see y ≡ see x) → (xs ys : List X) → AllZip R xs ys → map see ys ≡ map see xs
alike R see same [] [] h = refl
alike R see same [] (y ∷ ys) h = absurd h
alike R see same (x ∷ xs) [] h = absurd h
alike R see same (x ∷ xs) (y ∷ ys) h = ap (λ a. a ∷ map see ys) (same x y h.0) ∙ ap (λ more. see x ∷ more) (alike R see same xs ys h.1)

abbrev Named : Type 0
Named = RcStr Global × PartialValue ExtValue

-- a copy of an attribute or a tag with its name
abbrev pub IsPartCopied : Named → Named → Type 0
IsPartCopied p q = (rc_str_bytes q.0 ≡ rc_str_bytes p.0) × (((seen : ExtValue → Extension) → part_of seen q.1 ≡ part_of seen p.1) × (part_place q.1 ≡ part_place p.1))

same_part : (p q : Named) → IsPartCopied p q → part_pair q ≡ part_pair p
same_part p q h = ap (λ (n : Text). (n, part_seen q.1)) h.0 ∙ ap (λ (v : Part Made). (rc_str_bytes p.0, v)) (h.1.0 extension_of)

same_place : (p q : Named) → IsPartCopied p q → placed_part q ≡ placed_part p
same_place p q h = ap (λ (n : Text). (n, part_place q.1)) h.0 ∙ ap (λ l. (rc_str_bytes p.0, l)) h.1.1

-- all that is kept of an entity, by its parts
abbrev kept_of : List (Text × Part Made) → List (Text × Part Made) → Kin → Places → Places → Kept
kept_of as_ ts k ps qs = (record { attributes = as_; tags = ts; ancestors = uids_of_kin k }, k, ps, qs)

pub copied : (e d : Entity) → uid_of d.uid ≡ uid_of e.uid → AllZip IsPartCopied e.attrs.entries d.attrs.entries → AllZip IsPartCopied e.tags.entries d.tags.entries → kin_in d.ancestors ≡ kin_in e.ancestors
    → (entity_uid d ≡ entity_uid e) × (entity_kept d ≡ entity_kept e)
copied e d u a t ks =
    let as_ = alike IsPartCopied part_pair same_part e.attrs.entries d.attrs.entries a in
    let ts = alike IsPartCopied part_pair same_part e.tags.entries d.tags.entries t in
    let ps = alike IsPartCopied placed_part same_place e.attrs.entries d.attrs.entries a in
    let qs = alike IsPartCopied placed_part same_place e.tags.entries d.tags.entries t in (
      u,
      ap (λ x. kept_of x (map part_pair d.tags.entries) (kin_in d.ancestors) (map placed_part d.attrs.entries) (map placed_part d.tags.entries)) as_
          ∙ (ap (λ x. kept_of (map part_pair e.attrs.entries) x (kin_in d.ancestors) (map placed_part d.attrs.entries) (map placed_part d.tags.entries)) ts
          ∙ (ap (λ x. kept_of (map part_pair e.attrs.entries) (map part_pair e.tags.entries) x (map placed_part d.attrs.entries) (map placed_part d.tags.entries)) ks
          ∙ (ap (λ x. kept_of (map part_pair e.attrs.entries) (map part_pair e.tags.entries) (kin_in e.ancestors) x (map placed_part d.tags.entries)) ps
          ∙ ap (λ x. kept_of (map part_pair e.attrs.entries) (map part_pair e.tags.entries) (kin_in e.ancestors) (map placed_part e.attrs.entries) x) qs))),
    )

-- a copy of an entity, and what copies of several have
abbrev pub IsEntityCopied : Entity → Entity → Type 0
IsEntityCopied e d = (entity_uid d ≡ entity_uid e) × (entity_kept d ≡ entity_kept e)

pub uids_same : (es ds : List Entity) → AllZip IsEntityCopied es ds → map entity_uid ds ≡ map entity_uid es
uids_same es ds h = alike IsEntityCopied entity_uid (λ e d k. k.0) es ds h

pub pairs_same : (es ds : List Entity) → AllZip IsEntityCopied es ds → map entity_pair ds ≡ map entity_pair es
pairs_same es ds h = alike IsEntityCopied entity_pair (λ e d k i. (k.0 i, bare_entity (k.1 i).0)) es ds h

pub kept_same : (es ds : List Entity) → AllZip IsEntityCopied es ds → map kept_pair ds ≡ map kept_pair es
kept_same es ds h = alike IsEntityCopied kept_pair (λ e d k i. (k.0 i, k.1 i)) es ds h
