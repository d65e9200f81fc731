-- What the calls on a decoder answer, of any reader, and what they leave: each in one record, for a
-- call and for its twin that keeps the reader's error.
use Rattle.std.specs.Prelude.{◌≡◌, ℕ, ◌+◌, ◌<◌, ◌≤◌, Bool, List, [], length, Option, Some, None, IfErr, IfNone, IfSome}
use Rattle.std.specs.Prelude.{Result, Ok, Err}
use Rattle.ciborium_ll.specs.{Bytes.greatest_offset, Decoding.{HasEndedFor, HasSameReader, IsAhead, ReadsNothing}}
use Rattle.ciborium_ll.specs.Decoding.{MeasuresHead, Pulls, Takes, count_of, head_len_of, last_of, left_of, pushed_of}
use Rattle.ciborium_ll.specs.{ReaderSteps.{IsFillTaken, IsHeadTaken, IsRefusalOf}, Strings.{ContentRefuses, Grows}}
use Rattle.ciborium_ll.specs.{Strings.IsStringTaken, declared.{decoder.Decoder.Decoder, header.Error.Error}}
use Rattle.ciborium_ll.specs.declared.header.{Error.TheVariants.{Io, Syntax, TooLong, Memory}, Header.Header}
use Rattle.ciborium_ll.specs.declared.strings.StringType.{StringType}

-- a head was pulled, or refused
pub record HasPulled {S W E : Type 0} (can_fail : Bool) (remaining : S → Option (List ℕ))
    (old new : Decoder S W)
    (result : Result Header (Error E)) : Type 0 where
  pub same_reader : HasSameReader old new
  pub none_pushed : pushed_of new ≡ None
  -- a head that was pushed back is answered, and nothing is taken
  pub pushed : IfSome (pushed_of old) (λ head. (result ≡ Ok head.0) × (last_of new ≡ head.1) × ReadsNothing old new)
  -- otherwise just the bytes that determine the answer are taken
  pub taken : IfNone (pushed_of old) (Takes remaining old new (λ b. IsHeadTaken b (count_of old) result))
  pub last : IfNone (pushed_of old) (last_of new ≡ count_of old)
  pub head_len : MeasuresHead old new result
  -- the same, said of all that is unread
  pub ahead : (b : List ℕ) (p : ℕ) → IsAhead remaining old b p → Pulls remaining new b p result
  -- a reader that cannot fail before its end has nothing left at `Io`
  pub ended : IfErr result (λ e. HasEndedFor can_fail remaining new e)

-- a buffer was filled, or the reader failed or ended before
pub record HasFilled {S W E : Type 0} (can_fail : Bool) (remaining : S → Option (List ℕ))
    (old new : Decoder S W)
    (buffer : List ℕ) (result : Result (Unit {0}) (Error E)) : Type 0 where
  pub same_reader : HasSameReader old new
  pub none_pushed : pushed_of new ≡ None
  pub last : last_of new ≡ last_of old
  pub head_len : head_len_of new ≡ head_len_of old
  pub taken : Takes remaining old new (λ b. IsFillTaken b (count_of old) buffer result)
  -- a reader that cannot fail before its end has nothing left at `Io`
  pub ended : IfErr result (λ e. HasEndedFor can_fail remaining new e)

-- b is taken at offset p where n bytes are visited: these, of which the value is made, or none
abbrev pub IsVisited : {V E : Type 0} → ℕ → (List ℕ → V → Type 0) → List ℕ → ℕ → Option (Result V (Error E)) → Type 0
IsVisited n Makes b p None = b ≡ []
IsVisited n Makes b p (Some (Ok v)) = (length b ≡ n) × (p + n ≤ greatest_offset) × Makes b v
IsVisited n Makes b p (Some (Err (Io e))) = (b ≡ []) × (0 < n) × (p + n ≤ greatest_offset)
IsVisited n Makes b p (Some (Err (Syntax at))) = ⊥
IsVisited n Makes b p (Some (Err TooLong)) = ⊥
IsVisited n Makes b p (Some (Err Memory)) = ⊥

-- the next n bytes were visited, or none
pub record HasVisited {S W V E : Type 0} (can_fail : Bool) (remaining : S → Option (List ℕ))
    (old new : Decoder S W) (n : ℕ) (Makes : List ℕ → V → Type 0)
    (result : Option (Result V (Error E))) : Type 0 where
  pub same_reader : HasSameReader old new
  pub none_pushed : pushed_of new ≡ None
  pub last : last_of new ≡ last_of old
  pub head_len : head_len_of new ≡ head_len_of old
  pub taken : Takes remaining old new (λ b. IsVisited n Makes b (count_of old) result)
  -- a reader that cannot fail before its end has nothing left at `Io`
  pub ended : IfSome result (λ r. IfErr r (λ e. HasEndedFor can_fail remaining new e))

-- what the last head, that of a string, announces was put behind `before`, whole or up to what is
-- refused
pub record HasAppended {S W E : Type 0} (type : StringType) (len : Option ℕ) (can_fail : Bool)
    (remaining : S → Option (List ℕ)) (old new : Decoder S W) (before after : List ℕ)
    (result : Result (Unit {0}) (Error E)) : Type 0 where
  pub same_reader : HasSameReader old new
  pub none_pushed : pushed_of new ≡ None
  pub last : last_of new ≡ last_of old
  pub head_len : head_len_of new ≡ head_len_of old
  pub taken : Takes remaining old new (λ b. Grows before after
      (IsStringTaken type len (last_of old) b (count_of old) result))
  -- the same, said of all that is unread
  pub refused : (b : List ℕ) → left_of remaining old ≡ Some b →
      IfErr result (λ e. IsRefusalOf (left_of remaining new) e (ContentRefuses type len (last_of old) b (count_of old)))
  -- a reader that cannot fail before its end has nothing left at `Io`
  pub ended : IfErr result (λ e. HasEndedFor can_fail remaining new e)
