-- What an error says of where a sequence was cut (RFC 8742, section 2).
use Rattle.std.specs.{Prelude.◌≡◌, declared.io.Error.Error as IoError, declared.io.ErrorKind.TheVariants.UnexpectedEof}
use Rattle.std.specs.IoError.{error_kind}
use Rattle.ciborium.specs.{declared.de.error.Error.Error, declared.de.error.Error.TheVariants.{Io, Syntax, Semantic}}
use Rattle.ciborium.specs.declared.de.error.Error.TheVariants.{RecursionLimitExceeded, Memory, TooLong}

-- the error of a reader that has no more bytes, or of one that says so
abbrev pub IsEndError : Error IoError → Type 0
IsEndError (Io e) = error_kind e ≡ UnexpectedEof
IsEndError (Syntax p) = ⊥
IsEndError (Semantic p k) = ⊥
IsEndError RecursionLimitExceeded = ⊥
IsEndError Memory = ⊥
IsEndError TooLong = ⊥
