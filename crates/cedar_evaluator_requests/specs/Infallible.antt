-- What is never refused.
use Rattle.std.specs.Prelude.{◌≡◌, Result, Ok, Err}

-- The result is this value, and no error.
abbrev pub IsValueOf : {A E : Type 0} → Result A E → A → Type 0
IsValueOf r a = r ≡ Ok a
