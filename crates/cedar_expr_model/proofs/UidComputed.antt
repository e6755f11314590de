-- The text of a uid, and what is a uid, computed.
use Rattle.std.proofs.Common.{◌≡◌, true, false, [], ◌∷◌, refl}
use Rattle.std.specs.Str.{chars, is_utf8}
use lib.Utf8.{encode}
use Rattle.std.specs.Fmt.{digits}
use Rattle.cedar_expr_model.specs.Uid.{uid_text}
use Rattle.cedar_expr_model.specs.Uids.{is_uid}
use Rattle.cedar_expr_model.specs.NameWorked.{user, awkward_uid, awkward_text}

pub awkward_is : uid_text awkward_uid ≡ awkward_text
unfolding chars digits
awkward_is = refl

pub awkward_is_text : is_uid awkward_uid ≡ true
unfolding chars is_utf8 encode
awkward_is_text = refl

pub no_text : is_uid (record { kind = user; id = 255 ∷ [] }) ≡ false
unfolding chars is_utf8 encode
no_text = refl
