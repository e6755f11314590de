-- Inputs that are UTF-8 or not.
use Rattle.std.proofs.Common.{◌≡◌, ℕ, List, true, false, Some, None, refl}
use Rattle.std.specs.Str.{IsUtf8, is_utf8}
use Rattle.std.proofs.lemmas.Str.{IsUtf8-from_is_utf8, is_utf8-from_IsUtf8}
use Rattle.serde_json.specs.Data.{Data}
use Rattle.serde_json.specs.Read.{read}
use Rattle.cedar_gate_expressions.specs.Json.{json_read}

pub of_json : (bytes : List ℕ) (d : Data) → IsUtf8 bytes → read bytes ≡ Some d → json_read bytes ≡ Some d
unfolding json_read
of_json bytes d u e = rw (is_utf8-from_IsUtf8 bytes u, e) refl

pub of_no_json : (bytes : List ℕ) → (IsUtf8 bytes → read bytes ≡ None) → json_read bytes ≡ None
unfolding json_read
of_no_json bytes h =
    elim (is_utf8 bytes) as (λ b. is_utf8 bytes ≡ b → json_read bytes ≡ None)
    [ true ↦ λ e. rw (e, h (IsUtf8-from_is_utf8 bytes e)) refl | false ↦ λ e. rw e refl ] refl
