-- What is as it has to be isn't refused, in whichever order the extension types stand.
use Rattle.std.proofs.Common.{◌≡◌, ◌&&◌, List, Bool, true, false, Option, Some, None, refl}
use Rattle.std.specs.Prelude.{is_none}
use Rattle.cedar_expr_model.specs.Name.{Name}
use Rattle.cedar_schema_model.specs.Kept.{Kept}
use Rattle.cedar_schema_model.specs.SoundLaws.{SoundDecides}
use Rattle.cedar_schema_model.specs.Sound.{IsSound}
use Rattle.cedar_schema_model.specs.Unsound.{Unsound, first_fault, names_are_free}
use Rattle.cedar_schema_sound.specs.Refusals.{refusal, RefusesBy}
use Rattle.cedar_schema_sound.specs.declared.err.UnsoundSchemaError.{UnsoundSchemaError}
use Rattle.cedar_schema_sound.proofs.MoreKnown.{sound_known}

-- where both tests hold, nothing is found
no_fault : (a : Bool) (o : Option Unsound) (f : Unsound) → (a && is_none o) ≡ true → o ≡ Some f → ⊥
no_fault true None f h e = cc
no_fault true (Some g) f h e = cc
no_fault false o f h e = cc

-- what is nothing in particular is nothing
untold : (o : Option Unsound) → ((f : Unsound) → o ≡ Some f → ⊥) → o ≡ None
untold None h = refl
untold (Some f) h = absurd (h f refl)

pub not_refused : SoundDecides → (x : List Name) (k : Kept) → IsSound x k → (e : UnsoundSchemaError) → RefusesBy x k e → refusal e ≡ None
not_refused decides x k s e r = untold (refusal e) (λ f h. let t = r f h in no_fault (names_are_free k) (first_fault t.0 k) f ((decides t.0 k).1 (sound_known x t.0 t.1.all k s)) t.2)
