use Rattle.std.proofs.Common.{[], List, ℕ, IfOk}
use Rattle.cbor.specs.{Done.IsDone, EncodedLines.AreEncoded, ExactStreams.IsShownExactly, Lines.AreAnswered}
use Rattle.cbor.specs.{SortedLines.AreSortedOrRefused, Streams.{IsDumpedBehind, IsStreamShown}}
use Rattle.cbor.proofs.{DoneCommands.{done-flushed, of-known}, EncodedLines.encoded-told}
use Rattle.cbor.proofs.run.perform.Goals as goal
use Rattle.cbor.proofs.run.perform.Goals.{in-Answer, in-Sort, in-Show, in-ShowExactly, in-Dump, in-Encode, in-Tell}

pub returns : goal.returns
returns g c w f =
    let done = c.match-command.performed in
    let performed : IfOk done
    (λ all. IsDone c.args.command _ w all (g.W.Write.contents c.match-command.output)) =
    elim c.match-command.branch [
      | in-Answer a ↦ rw (a.in-Answer.is, a.performed-is, a.output-is) (of-known _ _
          (λ b all. AreAnswered a.in-Answer.reading b w all _) (λ b e. a.answer_lines-performed.ensures b w e f))
      | in-Sort a ↦ rw (a.in-Sort.is, a.performed-is, a.output-is) (of-known _ _
          (λ b all. AreSortedOrRefused a.in-Sort.order b 256 w all _) (λ b e. a.sort_lines-performed.ensures b w e f))
      | in-Show a ↦ rw (a.in-Show.is, a.performed-is, a.output-is) (of-known _ _
          (λ b all. IsStreamShown [] a.in-Show.showing b a.in-Show.limit w all _)
          (λ b e. a.show_items-performed.ensures b w e f))
      | in-ShowExactly a ↦ rw (a.in-ShowExactly.is, a.performed-is, a.output-is) (of-known _ _
          (λ b all. IsShownExactly [] b w all _) (λ b e. a.show_exactly-performed.ensures b w e f))
      | in-Dump a ↦ rw (a.in-Dump.is, a.performed-is, a.output-is) (of-known _ _
          (λ b all. IsDumpedBehind b w all _) (λ b e. a.dump_input-performed.ensures b w e f))
      | in-Encode a ↦ rw (a.in-Encode.is, a.performed-is, a.output-is) (of-known _ _
          (λ b all. (told : List ℕ) × AreEncoded a.in-Encode.limit b w all _ told)
          (λ b e. encoded-told a.in-Encode.limit b w a.encode_lines-performed.result _ _
          (a.encode_lines-performed.ensures b w e f)))
      | in-Tell a ↦ rw (a.in-Tell.is, a.performed-is, a.output-is) (a.tell-performed.ensures w f)
    ] in
    done-flushed c.args.command _ w _ _ done _ c.finish-done.ensures.same c.finish-done.ensures.kept performed
