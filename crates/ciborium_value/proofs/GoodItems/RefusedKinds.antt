-- The kinds that refusals name.
use Rattle.std.proofs.Common.{ℕ, ◌+◌, ◌/◌, ◌%◌, ◌==◌, ◌&&◌, cond, Bool, true, false, List, [], ◌∷◌, length, Option}
use Rattle.std.proofs.Common.{Some, None, subst, nat_le, nat_lt}
use Rattle.ciborium_ll.specs.{Bytes.greatest_offset, Refusal.{HeadRefuses, Refusal, argument_length, head_refusal}}
use Rattle.ciborium_ll.specs.Refusal.{initial_refusal, io, is_low_simple, is_reserved, payload_length, syntax, too_long}
use Rattle.ciborium_ll.specs.StringRefusal.{ChunkRefuses, PayloadRefuses}
use Rattle.ciborium_ll.specs.declared.{kind.Kind.{Kind, TheVariants.{NotShortest, Open}}, strings.StringType.StringType}
use Rattle.ciborium_value.specs.{Refuses.Refuses, laws.RefusalLaws.{RefusalKinds, NamesRefusalKind}}
use Rattle.ciborium_value.specs.{laws.RefusalLaws.IsRefusalKind, Spelling.{Spelling, any, deterministic}}
use Rattle.ciborium_value.specs.Spelling.{deterministic_fault, is_long, spelling_fault}

abbrev May : Option Refusal → Type 0
May None = Unit {0}
May (Some e) = NamesRefusalKind e

either : (c : Bool) (x y : Option Refusal) → May x → May y → May (cond c x y)
either true x y h k = h
either false x y h k = k

in-initial : (major info : ℕ) (b : List ℕ) (p : ℕ) → May (initial_refusal major info b p)
in-initial major info b p =
    let size = p + 1 + argument_length info in
    either (is_reserved major info) (Some (syntax p)) _ tt (either (nat_lt greatest_offset size) (Some too_long) _ tt
    (either (nat_lt (length b) (argument_length info)) (Some io) _ tt
    (either (nat_lt greatest_offset (size + payload_length major info b)) (Some too_long) None tt tt)))

in-head : (b : List ℕ) (p : ℕ) → May (head_refusal b p)
in-head [] p = either (nat_lt p greatest_offset) (Some io) (Some too_long) tt tt
in-head (x ∷ b) p = either (nat_lt p greatest_offset) _ (Some too_long)
    (either (nat_lt (p + 1) greatest_offset && is_low_simple x b) (Some (syntax p)) _ tt
    (in-initial (x / 32) (x % 32) b p)) tt

of-head : (b : List ℕ) (p : ℕ) (e : Refusal) → HeadRefuses b p e → NamesRefusalKind e
of-head b p e h = subst May h (in-head b p)

of-payload : (c : StringType) {n p : ℕ} {r : List ℕ} {e : Refusal} → PayloadRefuses c n p r e → NamesRefusalKind e
of-payload c (PayloadRefuses.ends_early less) = tt
of-payload c (PayloadRefuses.not_allowed payload r size bad) = tt

of-chunk : (c : StringType) {b : List ℕ} {p : ℕ} {e : Refusal} → ChunkRefuses c b p e → NamesRefusalKind e
of-chunk c {b} {p} {e} (ChunkRefuses.no_head h) = of-head b p e h
of-chunk c (ChunkRefuses.chunk h (n, k, r, st, f)) = of-payload c f
of-chunk c (ChunkRefuses.other h x y) = tt

abbrev MayBe : Option Kind → Type 0
MayBe None = Unit {0}
MayBe (Some k) = IsRefusalKind k

either-kind : (c : Bool) (x y : Option Kind) → MayBe x → MayBe y → MayBe (cond c x y)
either-kind true x y h k = h
either-kind false x y h k = k

in-byte : (major info : ℕ) (b : List ℕ) → MayBe (deterministic_fault major info b)
in-byte major info b = either-kind (nat_le 2 major && nat_le major 5 && (info == 31)) (Some Open) _ tt
    (either-kind (nat_lt major 7 && is_long major info b) (Some NotShortest) _ tt
    (either-kind ((major == 7) && (info == 23)) (Some NotShortest) None tt tt))

in-fault : (spelling : Spelling) (b : List ℕ) → MayBe (spelling_fault spelling b)
in-fault any b = tt
in-fault (deterministic order) [] = tt
in-fault (deterministic order) (x ∷ b) = in-byte (x / 32) (x % 32) b

pub refusal_kinds : RefusalKinds
refusal_kinds spelling b p l e (Refuses.no_head h) = of-head b p e h
refusal_kinds spelling b p l e (Refuses.bad_head kind h f) = subst MayBe f (in-fault spelling b)
refusal_kinds spelling b p l e (Refuses.string type h (n, k, r, st, f)) = of-payload type f
refusal_kinds spelling b p l e (Refuses.open_string type h (r, is, (good, ps, rest, are, m, eq, f))) = of-chunk type f
refusal_kinds spelling b p l e (Refuses.part vs r q w below i due f) = refusal_kinds spelling r q below e f
refusal_kinds spelling b p l e (Refuses.tag_no_head t k r h st f) = of-head r (p + k) e f
refusal_kinds spelling b p l e (Refuses.folding t r q a g f) = refusal_kinds spelling r q l e f
refusal_kinds spelling b p l e (Refuses.tagged t r q below a never level f) = refusal_kinds spelling r q below e f
refusal_kinds spelling b p l e u = tt
