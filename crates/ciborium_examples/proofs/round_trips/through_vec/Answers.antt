use Rattle.std.proofs.Common.{subst, sym, Result, Ok, Err, IfOk}
use Rattle.ciborium.specs.{ReadsBack.by_bytes, View.result_map, Writes.IsWrittenAs}
use Rattle.ciborium_examples.proofs.MemoryAlone.{content, for_memory, of_written}
use Rattle.ciborium_examples.proofs.round_trips.through_vec.Goals as goal

always : {A E P : Type 0} (r : Result A E) → P → IfOk r (λ _. P)
always (Ok v) p = p
always (Err e) p = tt

pub returns-in-Ok : goal.returns-in-Ok
returns-in-Ok g c =
    let reading = g.T.Deserialize.reading in
    let value = c.args.value.now in
    let answer = of_written (g.T.Serialize.written value) reading.taken (reading.content value)
    (g.T.ReadsBack.levels value) c.deref.result.now (result_map reading.content c.from_slice.result)
    c.written_reads_back.ensures.spells (g.met.T.ReadsBack.reads_back by_bytes tt value c.requires.valid)
    c.requires.levels
    (subst (λ b. IsWrittenAs b (g.T.Serialize.written value)) (sym c.deref.ensures.value) c.in-Ok.ensures.bytes)
    c.from_slice.ensures.exact in
    record {
      ok = content reading.content (reading.content value) c.from_slice.result answer;
      refused = always (g.T.Serialize.written value)
          (for_memory reading.content (reading.content value) c.from_slice.result answer);
    }
