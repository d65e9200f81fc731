use Rattle.std.proofs.Common.{◌≡◌, map, string_bytes}
use Rattle.cbor.{proofs.AskedWords.asks-for-one, specs.Files.Input}
use Rattle.cbor.proofs.run.run_on_files.Goals as goal

pub returns-clause-wrong : goal.returns-clause-wrong
returns-clause-wrong g c wrong =
    let asked = c.in-Some.ensures in absurd (wrong.1 _ _ (wrong.0, asked.0, asked.1, asked.2))

pub returns-clause-files : goal.returns-clause-files
returns-clause-files g c command inputs w (nothing, asked, takes, names) h f zero =
    let same : c.in-Some.command ≡ command = cc (asks-for-one _ _ command c.in-Some.ensures.0 asked) in
    let named : map string_bytes c.in-Some.names.now ≡ map (λ (i : Input). i.0) inputs =
    cc (c.in-Some.ensures.2, names) in
    rw (c.conclude.ensures.all.0 zero, same) at (c.perform_on_files-done.ensures inputs w named h f)
