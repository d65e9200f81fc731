use Rattle.std.proofs.{Common.{refl, rules}, lemmas.Result.err_from_is_err_and}
use Rattle.ciborium_ll.proofs.OpenStrings.{parts-none, parts-more, parts-end, parts-refused, part-head-refused}
use Rattle.ciborium_ll.proofs.OpenStrings.{other-refused, payload-fits, payload-refused}
use Rattle.ciborium_ll.proofs.cursor.Cursor.append_chunks.Goals as goal

pub chunks-init : goal.chunks-init
chunks-init g c = record {
  same = record { reader = refl; counter = refl; keep = refl };
  head = refl;
  good = parts-none _ _ _ _ c.args.self.now.counter.now.fits;
}

pub returns-in_err-header-clause-bytes : goal.returns-in_err-header-clause-bytes
returns-in_err-header-clause-bytes g c =
    let exit = err_from_is_err_and c.from_residual.result c.from_residual.ensures.1 in
    rw (exit.1, exit.2) (parts-refused _ _ _ _ _ _ _ _ _ _ _ c.chunks.invariant.good refl
    (part-head-refused _ _ _ _ _ _ c.in_err-header.ensures.head))

pub returns-in-End-clause-bytes : goal.returns-in-End-clause-bytes
returns-in-End-clause-bytes g c = parts-end _ _ _ _ _ _ _ _ _ _ c.in-End.ensures c.chunks.invariant.good
    c.in_ok-header.ensures.head

pub append_payload-requires : goal.append_payload-requires
append_payload-requires g c = payload-fits _ _ _ _ _ _ _ c.in-Definite.ensures c.in_ok-header.ensures.head

pub chunks-preserved : goal.chunks-preserved
chunks-preserved g c = record {
  same = search rules;
  head = refl;
  good = parts-more _ _ _ _ _ _ _ _ _ _ _ _ _ _ c.in-Definite.ensures c.chunks.invariant.good
      c.in_ok-header.ensures.head c.in_ok-append_payload-in-Definite.ensures.bytes
      c.append_payload.new.self.counter.now.fits;
}

pub returns-in_err-append_payload-in-Definite-clause-bytes : goal.returns-in_err-append_payload-in-Definite-clause-bytes
returns-in_err-append_payload-in-Definite-clause-bytes g c =
    let exit = err_from_is_err_and c.from_residual-in_err-append_payload-in-Definite.result
    c.from_residual-in_err-append_payload-in-Definite.ensures.1 in
    let part = payload-refused _ _ _ _ _ _ _ _ _ _ _ _ _ c.chunks.invariant.head c.in-Definite.ensures
    c.in_ok-header.ensures.head c.in_err-append_payload-in-Definite.ensures.bytes in
    rw (exit.1, exit.2) (parts-refused _ _ _ _ _ _ _ _ _ _ _ c.chunks.invariant.good part.0 part.1)

pub returns-in-Other-clause-bytes : goal.returns-in-Other-clause-bytes
returns-in-Other-clause-bytes g c = parts-refused _ _ _ _ _ _ _ _ _ _ _ c.chunks.invariant.good refl
    (other-refused _ _ _ _ _ _ _ c.chunks.invariant.head c.in-Other.ensures c.in_ok-header.ensures.head)
