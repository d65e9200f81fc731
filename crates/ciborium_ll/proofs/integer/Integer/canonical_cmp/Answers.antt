use Rattle.std.proofs.Common.{◌<◌, ◌^◌, sym, arith}
use Rattle.ciborium_ll.proofs.HeadOrder.{integers_in_order}
use Rattle.ciborium_ll.proofs.integer.Integer.canonical_cmp.Goals as goal

pub returns : goal.returns
returns c =
    let this = c.head-negative.result in
    let that = c.head-other_negative.result in
    let fits : this.1 < 2 ^ 64 = omega arith in
    let that_fits : that.1 < 2 ^ 64 = omega arith in
    rw (
      c.then-2.ensures,
      c.then.ensures,
      c.cmp.ensures,
      c.cmp-2.ensures,
      c.cmp-3.ensures,
      c.head_size.ensures 0,
      c.head_size-2.ensures 0,
      ← c.head-negative.ensures,
      ← c.head-other_negative.ensures,
    )
    (sym (integers_in_order this.0 that.0 this.1 that.1 fits that_fits))
