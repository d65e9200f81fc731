use Rattle.cbor.{proofs.AnsweredLines.{flushed-each, still}, specs.Files.AreFilesShown}
use Rattle.cbor.proofs.run.perform_on_files.Goals as goal

pub returns : goal.returns
returns g c inputs w e h f = flushed-each (λ all. AreFilesShown c.args.command inputs w all _)
    (λ all. AreFilesShown c.args.command inputs w all _) c.show_files-shown.result c.finish.result
    c.finish.ensures.same (λ all shown. (shown.0, shown.1, still _ _ shown.0 c.finish.ensures.kept shown.2))
    (c.show_files-shown.ensures inputs w e h f)
